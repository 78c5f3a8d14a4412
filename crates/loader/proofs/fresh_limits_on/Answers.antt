-- `loader::fresh_limits_on` meets its contract. Assumes nothing.
use mathlib.Core.Path.{◌≡◌, sym, ◌∙◌}
use mathlib.Core.Bool.{true}
use Rattle.rules.specs.Store.{version2}
use Rattle.rules.specs.Questions.{q1_size}
use Rattle.writing.specs.Changes.{limits_given}
use Rattle.loader.proofs.Additions as additions
use Rattle.loader.proofs.fresh_limits_on.Goals as goal
use Rattle.loader.proofs.fresh_limits_on.Goals.{Else-not-size_ok}

-- 1 is answered yes
size : (k : Else-not-size_ok) → q1_size k.args.store.now ≡ true
size k = sym k.size_ok.ensures ∙ k.if-not-size_ok.false

pub returns-then-not-size_ok : goal.returns-then-not-size_ok
returns-then-not-size_ok c =
    let a = c.args in
    let all = additions.fresh_refused a.store.now (version2 (limits_given a.depth a.parents a.code)) (sym c.size_ok.ensures ∙ c.if-not-size_ok.true) in
    record { value = all.0; store_after = all.1 }

pub write_fresh_limits-requires : goal.write_fresh_limits-requires
write_fresh_limits-requires c = additions.fresh_room c.args.store.now (size (goal.at.write_fresh_limits-requires c).Else-not-size_ok)

pub returns-then-not-write_fresh_limits : goal.returns-then-not-write_fresh_limits
returns-then-not-write_fresh_limits c =
    let a = c.args in
    let l = limits_given a.depth a.parents a.code in
    let x = additions.fresh_limits_lem a.store.now _ l c.write_fresh_limits.result (size (goal.at.returns-then-not-write_fresh_limits c).Else-not-size_ok)
    c.write_fresh_limits.ensures.value c.write_fresh_limits.ensures.store_after in
    let y = rw c.if-not-write_fresh_limits.true at x in
    record { value = y.0; store_after = y.1 }

pub returns : goal.returns
returns c =
    let a = c.args in
    let l = limits_given a.depth a.parents a.code in
    let x = additions.fresh_limits_lem a.store.now _ l c.write_fresh_limits.result (size (goal.at.returns c).Else-not-size_ok)
    c.write_fresh_limits.ensures.value c.write_fresh_limits.ensures.store_after in
    let y = rw c.if-not-write_fresh_limits.false at x in
    record { value = y.0; store_after = y.1 }
