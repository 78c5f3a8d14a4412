-- `writing::copy_in` copies bytes: those up to the index are pasted. Assumes nothing.
use Rattle.writing.proofs.Paste.{paste_more}
use Rattle.rules.specs.Bytes.{Bytes}
use lib.Seq.{paste-zero}
use lib.ListN.{length-set, length, get_or, set}
use Prim.Native.Nat.{ℕ, ◌+◌, ◌<◌}
use mathlib.Core.Path.{refl, ap, ◌∙◌}
use mathlib.Core.List.{List}
use native.Mathlib.Omega.{arith}
use Rattle.writing.proofs.copy_in.Goals as goal

pub loop-i-init : goal.loop-i-init
loop-i-init c = (paste-zero c.args.store.now c.args.at c.args.from.now, refl)

pub loop-i-preserved : goal.loop-i-preserved
loop-i-preserved c =
    let d = c.args.store.now in
    let at = c.args.at in
    let w : List ℕ = c.args.from.now in
    let b : c.loop-i.i < length w = c.loop-i-test.true in (
      ap (λ (x : Bytes). set x (at + c.loop-i.i) (get_or w c.loop-i.i 0)) c.loop-i.invariant.0 ∙ paste_more d at w c.loop-i.i _ (omega arith) b refl,
      simp length-set c.loop-i.invariant.1,
    )
