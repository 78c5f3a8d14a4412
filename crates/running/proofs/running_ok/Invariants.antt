-- `running::running_ok` meets its contract: the loop goes on while every own class passed; for an interface nothing runs. Assumes nothing.
use mathlib.Core.Path.{◌≡◌}
use lib.ListN.{length}
use Rattle.chains.specs.Names.{Kept}
use Rattle.slots.specs.Slots.{SlotsTrue}
use Rattle.running.proofs.Whole as whole
use Rattle.running.proofs.Seen.{SeenKept}
use Rattle.running.proofs.running_ok.Given as goal

abbrev pub invariant-loop-b : goal.invariant-loop-b
invariant-loop-b l =
    whole.OwnLeft l.f l.s l.end l.domain l.count l.b × SlotsTrue l.f l.s l.slots × (length l.seen ≡ length l.initial.seen) × (l.kept.end ≡ l.end) × Kept l.f l.s l.names l.kept ×
    (length l.names ≡ length l.initial.names) × SeenKept l.f l.s l.end l.domain l.kept l.seen
