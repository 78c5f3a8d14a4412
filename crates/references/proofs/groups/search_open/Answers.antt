-- `references::groups::search_open` meets its contract: the loop keeps a true table, in which none of the places passed is open if all are searched.
-- Assumes nothing.
use native.Mathlib.Omega.{arith}
use Prim.Native.Nat.{ℕ}
use mathlib.Core.Path.{◌≡◌, refl, sym, ◌∙◌}
use mathlib.Core.Bool.{true, false}
use Rattle.references.proofs.Telling as telling
use Rattle.references.proofs.Filled as filled
use Rattle.references.proofs.groups.search_open.Goals as goal
use Rattle.references.proofs.groups.search_open.Goals.{then-x, else-x+else-is_wanted}

pub loop-k-init : goal.loop-k-init
loop-k-init c = record {
  slots = refl;
  seen = refl;
  table = refl;
  slots_true = c.requires.slots_true;
  kept = c.requires.judged.2;
  told = λ e j l. absurd (omega arith);
}

pub search_place-requires : goal.search_place-requires
search_place-requires c =
    record { judged = (c.requires.judged.0, c.requires.judged.1, c.loop-k.invariant.kept); k_lt_kept_count = (omega arith, omega arith, telling.lent_on _ c.requires.lent c.loop-k.invariant.seen); slots_true = c.loop-k.invariant.slots_true }

pub loop-k-preserved : goal.loop-k-preserved
loop-k-preserved c =
    elim c.if-x.branch [
      | then-x w ↦ record {
        slots = omega arith;
        seen = omega arith;
        table = omega arith;
        slots_true = rw w.slots-is w.search_place.ensures.slots_true_2;
        kept = rw w.table-is w.search_place.ensures.searched_in.kept;
        told = λ e. rw w.table-is (filled.told_on w.search_place.ensures.searched_in (c.loop-k.invariant.told e));
      }
      | else-x+else-is_wanted w ↦ record {
        slots = omega arith;
        seen = omega arith;
        table = omega arith;
        slots_true = rw w.slots-is c.loop-k.invariant.slots_true;
        kept = rw w.table-is c.loop-k.invariant.kept;
        told = λ e. absurd (true_false (sym e ∙ w.if-x.false));
      }
    ]
  where
    true_false : true ≡ false → ⊥
    true_false e = let y : ◌≡◌ {A = ℕ} 0 1 = cc in omega arith

pub returns : goal.returns
returns c = record { kept_true = (c.loop-k.invariant.kept, λ e. filled.told_full c.args.x.group c.loop-k.table c.loop-k.k (omega arith) (c.loop-k.invariant.told e)); slots_true_2 = c.loop-k.invariant.slots_true }
