-- `loader::fresh_on` meets its contract. Assumes nothing.
use Rattle.rules.specs.Store.{version1}
use Rattle.loader.proofs.Additions as additions
use mathlib.Core.Path.{sym, ◌∙◌}
use native.Mathlib.Omega.{arith}
use Rattle.loader.proofs.fresh_on.Goals as goal

pub returns-then-not-size_ok : goal.returns-then-not-size_ok
returns-then-not-size_ok c = let all = additions.fresh_refused c.args.store.now version1 (sym c.size_ok.ensures ∙ c.if-not-size_ok.true) in record { value = all.0; store_after = all.1 }

pub write_fresh-requires : goal.write_fresh-requires
write_fresh-requires c =
    let room = additions.fresh_room c.args.store.now (sym c.size_ok.ensures ∙ c.if-not-size_ok.false) in
    omega (arith, room)

pub returns : goal.returns
returns c = let all = additions.fresh_done c.args.store.now _ (sym c.size_ok.ensures ∙ c.if-not-size_ok.false) c.write_fresh.ensures in record { value = all.0; store_after = all.1 }
