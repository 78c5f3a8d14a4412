-- `slots::take_slot` meets its contract: the slot stands for the package already, or is emptied. Assumes nothing.
use Prim.Native.Nat.{ℕ}
use native.Mathlib.Omega.{arith}
use Rattle.std.proofs.Common.{rules}
use mathlib.Core.Path.{◌≡◌, sym, ◌∙◌, subst}
use mathlib.Core.List.{List}
use Rattle.slots.specs.Slots.{SlotFor}
use Rattle.slots.proofs.Slots as laws
use Rattle.slots.proofs.take_slot.Goals as goal

pub overflow_mul-k : goal.overflow_mul-k
overflow_mul-k c = omega (arith, c.requires.k_lt_slot_count.0)

pub overflow_add-k : goal.overflow_add-k
overflow_add-k c = omega (arith, c.requires.k_lt_slot_count.0)

pub home_in-g-requires : goal.home_in-g-requires
home_in-g-requires c = omega (arith, c.requires.k_lt_slot_count.0, c.requires.k_lt_slot_count.1)

pub returns-then-eq : goal.returns-then-eq
returns-then-eq c =
    let same : c.home_in-g.result ≡ c.args.h = search rules in
    laws.slot_kept _ _ _ (sym c.home_in-g.ensures ∙ same)

pub empty_slot-requires : goal.empty_slot-requires
empty_slot-requires c = c.requires.k_lt_slot_count

pub overflow_mul-k-2 : goal.overflow_mul-k-2
overflow_mul-k-2 c = omega (arith, c.requires.k_lt_slot_count.0)

pub overflow_add-k-2 : goal.overflow_add-k-2
overflow_add-k-2 c = omega (arith, c.requires.k_lt_slot_count.0)

pub put_home-requires : goal.put_home-requires
put_home-requires c =
    record { at_in_bounds = omega (arith, c.requires.k_lt_slot_count.0, c.requires.k_lt_slot_count.1); small_home = c.requires.small_home }

pub returns : goal.returns
returns c =
    let a = c.args in
    subst (λ (u : List ℕ). SlotFor a.slots.now u a.h a.k) (sym c.put_home.ensures)
    (laws.slot_taken _ _ a.k c.requires.k_lt_slot_count.0 c.requires.k_lt_slot_count.1 (omega arith) c.empty_slot.ensures a.h)
