-- `writing::append_domain` leaves the layout of the entries with a domain's entry behind them. Assumes nothing.
use Rattle.writing.specs.Changes.{kind_said}
use Rattle.writing.proofs.Append as append
use mathlib.Core.Path.{◌≡◌, sym, ◌∙◌}
use native.Mathlib.Omega.{arith}
use lib.ListN.{length}
use Rattle.writing.proofs.append_domain.Goals as goal
use Rattle.writing.proofs.append_domain.Goals.{After-copy_in, After-put_head, After-put_u2, Start}

-- there is room for the entry
room : (b : Start) → append.RoomBy b.args.store.now b.args.end (length b.args.aid.now)
room b = append.domain_room b.requires

-- the store is as long as at the start, once the AID is written
long : (k : After-copy_in) → length k.copy_in.new.store ≡ length k.args.store.now
long k = k.copy_in.auto.store ∙ k.put_head.auto.store

pub put_head-requires : goal.put_head-requires
put_head-requires c = let r = room (goal.at.put_head-requires c).Start in (omega arith, omega arith)

pub overflow_add-end : goal.overflow_add-end
overflow_add-end c = omega (arith, room (goal.at.overflow_add-end c).Start)

pub copy_in-requires : goal.copy_in-requires
copy_in-requires c =
    omega (arith, room (goal.at.copy_in-requires c).Start, c.put_head.auto.store)

pub overflow_add-end-2 : goal.overflow_add-end-2
overflow_add-end-2 c = omega (arith, room (goal.at.overflow_add-end-2 c).Start)

pub overflow_add-end-3 : goal.overflow_add-end-3
overflow_add-end-3 c = omega (arith, room (goal.at.overflow_add-end-3 c).Start)

pub put_u2-requires : goal.put_u2-requires
put_u2-requires c =
    let r = room (goal.at.put_u2-requires c).Start in
    (omega (arith, long (goal.at.put_u2-requires c).After-copy_in), omega arith)

pub shape_of-store : goal.shape_of-store
shape_of-store c = c.put_u2.auto.store ∙ long (goal.at.shape_of-store c).After-copy_in

pub returns : goal.returns
returns c =
    append.domain_appended c.args.store.now c.put_head.new.store c.copy_in.new.store _ c.args.end c.byte.result (kind_said c.args.kind)
    c.args.aid.now c.requires (sym c.byte.ensures) c.put_head.ensures c.copy_in.ensures c.put_u2.ensures
