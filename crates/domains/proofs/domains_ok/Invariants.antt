-- `domains::domains_ok` takes one entry a turn: those passed have accepted domains, and the table has theirs. Assumes nothing.
use Prim.Native.Nat.{◌-◌}
use mathlib.Core.Path.{◌≡◌}
use lib.ListN.{length}
use Rattle.domains.specs.Domains.{DomainsIs}
use Rattle.domains.proofs.Phase as phase
use Rattle.domains.proofs.domains_ok.Given as goal

abbrev pub invariant-loop-part : goal.invariant-loop-part
invariant-loop-part l = phase.Passing l.s l.end l.at × DomainsIs l.s l.at l.table × (length l.table ≡ length l.initial.table)

abbrev pub decreases-loop-part : goal.decreases-loop-part
decreases-loop-part l = l.end - l.at
