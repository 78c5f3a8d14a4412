-- `files::first_method` meets its contract: the loop goes on while no method passed passes the test. Assumes nothing.
use Rattle.std.specs.Prelude.{◌-◌, Bool}
use Rattle.rules.specs.Bytes.{find}
use Rattle.rules.specs.Package.{Method}
use Rattle.places.specs.Reads.{nil}
use Rattle.files.specs.Say.{TestIs}
use Rattle.files.proofs.Loops as loops
use Rattle.files.proofs.first_method.Given as goal

abbrev pub invariant-loop : goal.invariant-loop
invariant-loop g l = loops.MethodLoop nil nil l.s l.start (l.end - l.counter) l.c × ((p : Method → Bool) → TestIs (goal.F-post g l.passes) l.s p →
    loops.MethodLoop (find p) (find p) l.s l.start (l.end - l.counter) l.c)
