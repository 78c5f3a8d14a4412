-- `cursor::with_zeros` meets its contract: the bytes stand before what is left of the zeros. Assumes nothing.
use mathlib.Core.Path.{ap, ◌∙◌}
use mathlib.Core.List.{◌++◌, List}
use Prim.Native.Nat.{ℕ}
use lib.ListN.{replicate, length, drop}
use Rattle.cursor.proofs.Copies.{drop_replicate}
use Rattle.cursor.specs.Aids.{padded}
use Rattle.cursor.proofs.with_zeros.Goals as goal

pub returns : goal.returns
unfolding padded
returns c =
    ap (λ (l : List ℕ). l ++ drop (length c.args.s.now) (replicate 16 0)) c.copy_from_slice.ensures.after
    ∙ ap (λ (l : List ℕ). c.args.s.now ++ l) (drop_replicate (length c.args.s.now) 16 0)
