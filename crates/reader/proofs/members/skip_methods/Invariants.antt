-- `reader::members::skip_methods` meets its contract: what is left of the list at the cursor decides of the whole. Assumes nothing.
use Prim.Native.Nat.{◌≤◌, ◌-◌}
use mathlib.Core.Path.{◌≡◌}
use mathlib.Core.List.{List}
use lib.ListN.{length}
use Rattle.rules.specs.Bytes.{Aid, many}
use Rattle.rules.specs.Package.{format_of, method}
use Rattle.cursor.specs.Limits.{limits_of}
use Rattle.cursor.proofs.Steps.{Leads}
use Rattle.reader.proofs.members.skip_methods.Given as goal

abbrev pub invariant-loop : goal.invariant-loop
invariant-loop l = (l.c.at.0 ≤ length l.f) × ((ds : List Aid) → length ds ≡ l.domains →
    let t = format_of (limits_of l.limits) l.f in
    Leads (many l.count (method t ds)) (many (l.count - l.counter) (method t ds)) l.f l.initial.c.at.0 l.c.at.0)
