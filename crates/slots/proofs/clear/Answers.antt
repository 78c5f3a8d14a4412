-- `slots::clear` meets its contract: each number of the slots is a 0. Assumes nothing.
use native.Mathlib.Omega.{arith}
use Prim.Native.Nat.{ℕ, ◌<◌}
use mathlib.Core.Path.{◌≡◌, refl, ◌∙◌}
use mathlib.Core.List.{◌++◌}
use lib.ListN.{get_or, drop, length, get_or-append, length-append}
use Rattle.std.proofs.Common.{length-take-le}
use Rattle.slots.proofs.Asked as asked
use Rattle.slots.proofs.clear.Goals as goal

pub returns : goal.returns
returns c f s = asked.slots_none f s _ (omega (arith, long, c.requires, length-append c.fill.new.self (drop 640 c.args.slots.now))) zeros
  where
    long : length c.fill.new.self ≡ 640
    long = c.fill.ensures.len ∙ length-take-le 640 c.args.slots.now c.requires

    zeros : (j : ℕ) → j < 640 → get_or (c.fill.new.self ++ drop 640 c.args.slots.now) j 0 ≡ 0
    zeros j l =
        get_or-append c.fill.new.self (drop 640 c.args.slots.now) 0 j (omega (arith, long)) ∙ c.fill.ensures.clones j 0 (omega (arith, long, c.fill.ensures.len)) refl
