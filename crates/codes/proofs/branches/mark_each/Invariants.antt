-- `codes::branches::mark_each` meets its contract. The invariant: adding the fields that are left comes to what adding all of them does. Assumes nothing.
use Prim.Native.Nat.{◌+◌, ◌-◌, ◌*◌, ◌≤◌}
use mathlib.Core.Path.{◌≡◌}
use mathlib.Core.Bool.{Bool}
use lib.ListN.{length}
use Rattle.rules.specs.Bytes.{Bytes}
use Rattle.rules.specs.Code.{targets_each}
use Rattle.bits.specs.Bits.{bit_at}
use Rattle.codes.specs.Marks.{Adds}
use Rattle.codes.proofs.branches.mark_each.Given as goal

abbrev pub invariant-loop : goal.invariant-loop
invariant-loop l =
    (length l.targets ≡ length l.initial.targets) × (l.field + l.step * (l.n - l.counter) ≤ length l.code + (l.step - 2))
    × ((new : Bytes) (r : Bool) → Adds (length l.code) (bit_at l.targets) new r (targets_each (l.n - l.counter) l.code l.at l.field l.step) → Adds (length l.code)
    (bit_at l.initial.targets) new r (targets_each l.n l.code l.at l.first l.step))
