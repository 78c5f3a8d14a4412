-- `reader::members::skip_indexes` meets its contract: what is left of the list at the cursor decides of the whole. Assumes nothing.
use Prim.Native.Nat.{◌≤◌, ◌-◌}
use mathlib.Core.Path.{◌≡◌}
use mathlib.Core.List.{List}
use lib.ListN.{length}
use Rattle.rules.specs.Bytes.{Aid, many}
use Rattle.rules.specs.Package.{item}
use Rattle.cursor.proofs.Steps.{Leads}
use Rattle.reader.proofs.members.skip_indexes.Given as goal

abbrev pub invariant-loop : goal.invariant-loop
invariant-loop l = (l.c.at.0 ≤ length l.f) × ((ds : List Aid) → length ds ≡ l.domains → Leads (many l.count (item ds))
    (many (l.count - l.counter) (item ds)) l.f l.initial.c.at.0 l.c.at.0)
