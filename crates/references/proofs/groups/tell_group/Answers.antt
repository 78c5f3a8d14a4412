-- `references::groups::tell_group` meets its contract: the loop keeps what is told of the references passed. Assumes nothing.
use native.Mathlib.Omega.{arith}
use Prim.Native.Nat.{◌+◌}
use mathlib.Core.Path.{refl}
use Rattle.references.proofs.Telling as telling
use Rattle.references.proofs.Filled as filled
use Rattle.references.proofs.groups.tell_group.Goals as goal

pub loop-k-init : goal.loop-k-init
loop-k-init c = record {
  slots = refl;
  table = refl;
  slots_true = c.requires.slots_true;
  kept = filled.kept_start _ _ _ c.requires.judged.2;
}

pub overflow_add-g : goal.overflow_add-g
overflow_add-g c = omega arith

pub tell_reference-x-requires : goal.tell_reference-x-requires
tell_reference-x-requires c =
    record { judged = (c.requires.judged.0, c.requires.judged.1); import_places = c.requires.import_places; slots_true = c.loop-k.invariant.slots_true }

pub keep_told-requires : goal.keep_told-requires
keep_told-requires c =
    let small = telling.told_small c.requires.judged.0 c.requires.import_places.1 (omega (arith, c.type_inv.f 5)) (omega (arith, c.type_inv.f 6)) in (
      omega arith,
      omega arith,
      small (c.args.g.first + c.loop-k.k) c.tell_reference-x.result c.tell_reference-x.ensures.told_is,
    )

pub loop-k-preserved : goal.loop-k-preserved
loop-k-preserved c = record {
  slots = omega arith;
  table = omega arith;
  slots_true = c.tell_reference-x.ensures.slots_true_2;
  kept = filled.kept_on _ _ c.args.g c.tell_reference-x.result c.tell_reference-x.ensures.told_is c.keep_told.ensures (omega (arith, c.keep_told.auto)) c.loop-k.invariant.kept;
}

pub returns : goal.returns
returns c = record { kept_true = filled.kept_full _ _ _ (omega arith) c.loop-k.invariant.kept; slots_true_2 = c.loop-k.invariant.slots_true }
