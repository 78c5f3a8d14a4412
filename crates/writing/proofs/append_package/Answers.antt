-- `writing::append_package` leaves the layout of the entries with a package's entry behind them. Assumes nothing.
use lib.ListN.{length, length-set}
use Rattle.writing.proofs.Append as append
use Prim.Native.Nat.{◌+◌}
use mathlib.Core.Path.{◌≡◌, ◌∙◌}
use native.Mathlib.Omega.{arith}
use Rattle.writing.proofs.append_package.Goals as goal
use Rattle.writing.proofs.append_package.Goals.{After-copy_in, After-copy_in-2, After-put_head, After-put_u2, Start}

-- there is room for the entry
room : (b : Start) → append.RoomBy b.args.store.now b.args.end (1 + length b.args.domain.now + length b.args.file.now)
room b = append.package_room b.requires.0

-- the store is as long as at the start, once the domain is written, and once the file is
domain_long : (k : After-copy_in) → length k.copy_in.new.store ≡ length k.args.store.now
domain_long k = k.copy_in.auto.store ∙ length-set k.put_head.new.store _ _ ∙ k.put_head.auto.store

file-long : (k : After-copy_in-2) → length k.copy_in-2.new.store ≡ length k.args.store.now
file-long k = k.copy_in-2.auto.store ∙ domain_long (goal.at.After-copy_in-2 k).After-copy_in

pub overflow_add-n : goal.overflow_add-n
overflow_add-n c = omega (arith, room (goal.at.overflow_add-n c).Start)

pub overflow_add-n-2 : goal.overflow_add-n-2
overflow_add-n-2 c = omega (arith, room (goal.at.overflow_add-n-2 c).Start)

pub put_head-requires : goal.put_head-requires
put_head-requires c = let r = room (goal.at.put_head-requires c).Start in (omega arith, omega arith)

pub overflow_cast-store : goal.overflow_cast-store
overflow_cast-store c = omega (arith, c.requires.1)

pub overflow_add-store : goal.overflow_add-store
overflow_add-store c = omega (arith, room (goal.at.overflow_add-store c).Start)

pub bounds-store-end : goal.bounds-store-end
bounds-store-end c = omega (arith, room (goal.at.bounds-store-end c).Start, c.put_head.auto.store)

pub overflow_add-end : goal.overflow_add-end
overflow_add-end c = omega (arith, room (goal.at.overflow_add-end c).Start)

pub copy_in-requires : goal.copy_in-requires
copy_in-requires c =
    simp length-set (omega (arith, room (goal.at.copy_in-requires c).Start, c.put_head.auto.store))

pub overflow_add-end-2 : goal.overflow_add-end-2
overflow_add-end-2 c = omega (arith, room (goal.at.overflow_add-end-2 c).Start)

pub overflow_add-end-3 : goal.overflow_add-end-3
overflow_add-end-3 c = omega (arith, room (goal.at.overflow_add-end-3 c).Start)

pub copy_in-requires-2 : goal.copy_in-requires-2
copy_in-requires-2 c = omega (arith, room (goal.at.copy_in-requires-2 c).Start, domain_long (goal.at.copy_in-requires-2 c).After-copy_in)

pub overflow_add-end-4 : goal.overflow_add-end-4
overflow_add-end-4 c = omega (arith, room (goal.at.overflow_add-end-4 c).Start)

pub overflow_add-end-5 : goal.overflow_add-end-5
overflow_add-end-5 c = omega (arith, room (goal.at.overflow_add-end-5 c).Start)

pub put_u2-requires : goal.put_u2-requires
put_u2-requires c =
    let r = room (goal.at.put_u2-requires c).Start in
    (omega (arith, file-long (goal.at.put_u2-requires c).After-copy_in-2), omega arith)

pub shape_of-store : goal.shape_of-store
shape_of-store c = c.put_u2.auto.store ∙ file-long (goal.at.shape_of-store c).After-copy_in-2

pub returns : goal.returns
returns c =
    append.package_appended c.args.store.now c.put_head.new.store c.copy_in.new.store c.copy_in-2.new.store _ c.args.end
    c.args.domain.now c.args.file.now c.requires.0 c.put_head.ensures c.copy_in.ensures c.copy_in-2.ensures c.put_u2.ensures
