-- `bits::clear` meets its contract: zeros have no bit. Assumes nothing.
use Prim.Native.Nat.{ℕ, ◌/◌}
use mathlib.Core.Path.{◌≡◌}
use mathlib.Core.List.{List}
use lib.ListN.{length, replicate}
use Rattle.bits.proofs.Bits.{zero_bit, zeros_all}
use Rattle.bits.proofs.clear.Goals as goal

pub returns : goal.returns
returns c =
    let n = length c.args.s.now in
    let zeros : ◌≡◌ {A = List ℕ} c.fill.new.self (replicate n 0) = c.fill.ensures.after (λ y e. e) in
    λ j. zero_bit c.fill.new.self j (rw zeros (zeros_all n (j / 8)))
