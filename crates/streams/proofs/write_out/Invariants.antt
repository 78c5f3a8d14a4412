-- `streams::write_out`: what is written stands in the bytes.
use Rattle.std.proofs.Common.{length, ◌≤◌}
use Rattle.streams.proofs.write_out.Given as goal

abbrev pub invariant-loop : goal.invariant-loop
invariant-loop l = l.from ≤ length l.bytes
