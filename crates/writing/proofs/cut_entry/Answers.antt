-- `writing::cut_entry` leaves the layout of the entries without the one cut out. Assumes nothing.
use lib.Seq.{paste}
use lib.ListN.{length, replicate}
use Rattle.writing.proofs.Layouts.{two}
use Rattle.writing.proofs.Cut as cut
use Rattle.rules.specs.Bytes.{Bytes}
use Prim.Native.Nat.{◌-◌}
use mathlib.Core.Path.{◌≡◌, refl, ap, ◌∙◌}
use native.Mathlib.Omega.{arith}
use Rattle.writing.proofs.cut_entry.Goals as goal
use Rattle.writing.proofs.cut_entry.Goals.{After-copy_within, After-put_u2, After-zero_out, Start}

-- the places of the entry that is cut out
places : (b : Start) → cut.CutBy b.args.end b.args.at b.args.next (length b.args.store.now)
places b = cut.cut_by b.requires

-- the store is as long as at the start, once the end is zeroed
long : (k : After-zero_out) → length k.zero_out.new.store ≡ length k.args.store.now
long k = k.zero_out.auto.store ∙ k.copy_within.ensures.len

pub overflow_sub-k : goal.overflow_sub-k
overflow_sub-k c = omega (arith, places (goal.at.overflow_sub-k c).Start)

pub overflow_sub-end : goal.overflow_sub-end
overflow_sub-end c = omega (arith, places (goal.at.overflow_sub-end c).Start)

pub copy_within-requires-clause-start_le_end : goal.copy_within-requires-clause-start_le_end
copy_within-requires-clause-start_le_end c = omega (arith, places (goal.at.copy_within-requires-clause-start_le_end c).Start)

pub copy_within-requires-clause-in_bounds : goal.copy_within-requires-clause-in_bounds
copy_within-requires-clause-in_bounds c = omega (arith, places (goal.at.copy_within-requires-clause-in_bounds c).Start)

pub copy_within-requires-clause-dest_in_bounds : goal.copy_within-requires-clause-dest_in_bounds
copy_within-requires-clause-dest_in_bounds c = omega (arith, places (goal.at.copy_within-requires-clause-dest_in_bounds c).Start)

pub overflow_sub-end-2 : goal.overflow_sub-end-2
overflow_sub-end-2 c = omega (arith, places (goal.at.overflow_sub-end-2 c).Start)

pub zero_out-requires : goal.zero_out-requires
zero_out-requires c = omega (arith, places (goal.at.zero_out-requires c).Start, c.copy_within.ensures.len)

pub put_u2-requires : goal.put_u2-requires
put_u2-requires c =
    let x = places (goal.at.put_u2-requires c).Start in
    (omega (arith, long (goal.at.put_u2-requires c).After-zero_out), omega arith)

pub shape_of-store : goal.shape_of-store
shape_of-store c = c.put_u2.auto.store ∙ long (goal.at.shape_of-store c).After-zero_out

pub returns : goal.returns
returns c =
    let end = c.args.end in
    let n = c.args.next - c.args.at in
    let e : c.zero_out.new.store ≡ paste c.copy_within.new.self (end - n) (replicate n 0) n = c.zero_out.ensures in
    cut.cut_is c.args.store.now _ end c.args.at c.args.next n c.requires refl
    (c.put_u2.ensures ∙ ap (λ (t : Bytes). paste t 5 (two (end - n)) 2)
    (e ∙ ap (λ (t : Bytes). paste t (end - n) (replicate n 0) n) c.copy_within.ensures.after))
