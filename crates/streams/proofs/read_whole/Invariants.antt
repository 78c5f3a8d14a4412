-- `streams::read_whole`: what is held stands in the buffer.
use Rattle.std.proofs.Common.{length, ◌≤◌, ◌≡◌}
use Rattle.streams.proofs.read_whole.Given as goal

abbrev pub invariant-loop : goal.invariant-loop
invariant-loop l = (l.held ≤ length l.buffer) × (length l.buffer ≡ length l.initial.buffer)
