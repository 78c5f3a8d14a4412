-- `bits::clear_to` meets its contract: the bytes of the part are zeros. Assumes nothing.
use Prim.Native.Nat.{ℕ, ◌/◌}
use mathlib.Core.Path.{◌≡◌, ap, ◌∙◌}
use mathlib.Core.List.{List}
use lib.ListN.{length, take, drop, replicate}
use lib.Seq.{length-take-le}
use Rattle.bits.proofs.Bits.{zero_bit, zeros_front}
use Rattle.bits.proofs.clear_to.Goals as goal

pub returns : goal.returns
returns c =
    let n : length (take c.args.n c.args.s.now) ≡ c.args.n = length-take-le c.args.n c.args.s.now c.requires in
    let zeros : ◌≡◌ {A = List ℕ} c.fill.new.self (replicate c.args.n 0) = c.fill.ensures.after (λ y e. e) ∙ ap (λ (k : ℕ). replicate k 0) n in
    λ j h. zero_bit _ j (rw zeros (zeros_front c.args.n (drop c.args.n c.args.s.now) (j / 8) h))
