-- `card::take_chunk`: each turn goes on in the chunk, and the buffers keep their lengths.
use Rattle.std.proofs.Common.{length, ◌-◌, ◌<◌, ◌≤◌, ◌≡◌}
use Rattle.lines.specs.Line.{most_kept}
use Rattle.card.proofs.take_chunk.Given as goal

abbrev pub invariant-loop-from : goal.invariant-loop-from
invariant-loop-from l =
    (6 < length l.store) × (length l.store ≡ length l.initial.store) × (most_kept ≤ length l.line)
    × (length l.line ≡ length l.initial.line) × (l.held ≤ most_kept) × (l.from ≤ length l.chunk)

abbrev pub decreases-loop-from : goal.decreases-loop-from
decreases-loop-from l = length l.chunk - l.from
