-- `halving::partition_point` keeps its invariant where the test holds: the number right before the new bound is the one tried. Assumes nothing.
use native.Mathlib.Numerals.{unary_clauses}
use native.Mathlib.Omega.{arith}
use Rattle.halving.proofs.partition_point.Goals as goal

pub loop-lo-preserved-then-holds : goal.loop-lo-preserved-then-holds
loop-lo-preserved-then-holds g c =
    let kept = c.loop-lo.invariant in
    record {
      start = omega (arith, kept.start, c.loop-lo-test.true);
      low = omega (arith, c.loop-lo-test.true);
      high = kept.high;
      before = λ _. simp unary_clauses c.if-holds.ensures;
      there = kept.there;
    }
