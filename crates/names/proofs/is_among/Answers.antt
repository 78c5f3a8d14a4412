-- `names::is_among` meets its contract: what is found is what is among the names passed. Assumes nothing.
use Prim.Native.Nat.{ℕ}
use native.Mathlib.Omega.{arith}
use mathlib.Core.Path.{◌≡◌, refl, ◌∙◌, ap}
use Rattle.names.specs.Say.{among}
use Rattle.names.proofs.Table.{among_more}
use Rattle.names.proofs.is_among.Goals as goal

pub loop-i-init : goal.loop-i-init
loop-i-init c = refl

pub loop-i-preserved : goal.loop-i-preserved
loop-i-preserved c = among_more c.args.names.now c.loop-i.i c.args.name c.loop-i.found c.loop-i.invariant

pub returns : goal.returns
returns c =
    let e : c.loop-i.i ≡ c.args.n = omega arith in
    c.loop-i.invariant ∙ ap (λ (n : ℕ). among c.args.names.now n c.args.name) e
