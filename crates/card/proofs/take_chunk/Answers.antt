-- `card::take_chunk` ends: behind a newline the place goes on. Assumes nothing.
use Rattle.std.proofs.Common.{arith}
use Rattle.card.proofs.take_chunk.Goals as goal

pub loop-from-smaller-then-at-chunk : goal.loop-from-smaller-then-at-chunk
loop-from-smaller-then-at-chunk c = omega arith
