-- `writing::put_head` stores kind and body length. Assumes nothing.
use Rattle.writing.proofs.Paste.{set_one, paste_join}
use lib.Seq.{paste}
use lib.ListN.{length-set}
use Rattle.rules.specs.Bytes.{Bytes, high, low}
use Prim.Native.Nat.{◌+◌}
use mathlib.Core.Path.{refl, ap, ◌∙◌}
use mathlib.Core.List.{[], ◌∷◌}
use native.Mathlib.Omega.{arith}
use Rattle.writing.proofs.put_head.Goals as goal
use Rattle.writing.proofs.put_head.Goals.{After-put_u2, Start}

pub bounds-store-at : goal.bounds-store-at
bounds-store-at c = omega arith

pub overflow_add-at : goal.overflow_add-at
overflow_add-at c = omega (arith, c.requires.0)

pub put_u2-requires : goal.put_u2-requires
put_u2-requires c =
    (simp length-set (omega (arith, c.requires.0)), c.requires.1)

pub shape_of-store : goal.shape_of-store
shape_of-store c = c.put_u2.auto.store ∙ simp length-set

pub returns : goal.returns
returns c =
    let store = c.args.store.now in
    let at = c.args.at in
    let n = c.args.n in
    c.put_u2.ensures
    ∙ ap (λ (t : Bytes). paste t (at + 1) (high n ∷ low n ∷ []) 2) (set_one store at c.args.kind (omega arith))
    ∙ paste_join store at (c.args.kind ∷ []) (high n ∷ low n ∷ []) 1 2 (omega arith) refl refl
