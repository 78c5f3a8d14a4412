-- `card::take_input`: the buffers keep their lengths.
use Rattle.std.proofs.Common.{length, ◌<◌, ◌≤◌, ◌≡◌}
use Rattle.lines.specs.Line.{most_kept}
use Rattle.card.proofs.take_input.Given as goal

abbrev pub invariant-loop : goal.invariant-loop
invariant-loop l =
    (6 < length l.store) × (length l.store ≡ length l.initial.store) × (most_kept ≤ length l.line)
    × (length l.line ≡ length l.initial.line) × (length l.chunk ≡ length l.initial.chunk) × (l.place.held ≤ most_kept)
