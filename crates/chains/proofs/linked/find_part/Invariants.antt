-- `chains::linked::find_part` meets its contract: the classes so far are written, and the next one is known to have room. Assumes nothing.
use mathlib.Core.Path.{◌≡◌}
use lib.ListN.{length}
use Rattle.slots.specs.Slots.{SlotsTrue}
use Rattle.chains.specs.Names.{first_link}
use Rattle.chains.proofs.Parts as parts
use Rattle.chains.proofs.linked.find_part.Given as goal

abbrev pub invariant-loop-i : goal.invariant-loop-i
invariant-loop-i l =
    parts.Finding l.f l.s l.end l.initial.names l.names l.initial.x (first_link l.initial.x.home) l.i l.x.home l.x.number × SlotsTrue l.f l.s l.slots ×
    (length l.slots ≡ length l.initial.slots)
