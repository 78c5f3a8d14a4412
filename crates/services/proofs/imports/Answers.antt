-- `services::imports` meets its contract: none of the imports passed is the AID. Assumes nothing.
use Prim.Native.Nat.{◌+◌, ◌-◌}
use native.Mathlib.Omega.{arith}
use mathlib.Core.Path.{◌≡◌, subst}
use mathlib.Core.Bool.{Bool, true, false}
use Rattle.rules.specs.Bytes.{aid}
use Rattle.places.specs.Reads.{Ends}
use Rattle.files.specs.Say.{Aids, AidIs}
use Rattle.files.proofs.Walks as walks
use Rattle.files.proofs.Loops as loops
use Rattle.files.proofs.Steps as steps
use Rattle.services.proofs.Importers as importers
use Rattle.services.proofs.imports.Goals as goal
use Rattle.services.proofs.imports.Goals.{After-aid_is, After-imports_at-start, In-loop}

-- the imports stand there
there : (k : After-imports_at-start) → Aids k.args.g.now k.imports_at-start.result
there k = walks.imports_there k.imports_at-start.ensures k.requires

-- an AID stands at the turn's place
here : (k : In-loop) → Ends aid k.args.g.now k.loop.c
here k = loops.aids_here k.loop.invariant (omega arith) (there (goal.at.In-loop k).After-imports_at-start)

-- whether it is the one looked for
same-aid : (k : After-aid_is) (b : Bool) → k.aid_is.result ≡ b → AidIs k.args.g.now k.loop.c k.args.aid.now b
same-aid k b e = subst (AidIs k.args.g.now k.loop.c k.args.aid.now) e k.aid_is.ensures

pub imports_at-start-requires : goal.imports_at-start-requires
imports_at-start-requires c = c.requires

pub bounds-g-start : goal.bounds-g-start
bounds-g-start c = steps.aids_in (there (goal.at.bounds-g-start c).After-imports_at-start)

pub overflow_add-c : goal.overflow_add-c
overflow_add-c c = omega (arith, steps.aids_in (there (goal.at.overflow_add-c c).After-imports_at-start))

pub loop-init : goal.loop-init
loop-init c = loops.aids_start (omega (arith, c.wide-end.ensures.0))

pub aid_is-requires : goal.aid_is-requires
aid_is-requires c = here (goal.at.aid_is-requires c).In-loop

pub returns-then-aid_is : goal.returns-then-aid_is
returns-then-aid_is c =
    let this = same-aid (goal.at.returns-then-aid_is c).After-aid_is true c.if-aid_is.true in
    importers.imports_hit c.args.aid.now _ _ _ c.loop.c c.loop.invariant (omega arith) this c.imports_at-start.ensures

pub after_aid-c-requires : goal.after_aid-c-requires
after_aid-c-requires c = here (goal.at.after_aid-c-requires c).In-loop

pub loop-preserved : goal.loop-preserved
loop-preserved c =
    let other = same-aid (goal.at.loop-preserved c).After-aid_is false c.if-aid_is.false in
    importers.imports_miss c.args.aid.now _ _ _ c.loop.c c.loop.invariant _ (c.wide-end.result - (c.loop.counter + 1)) (omega arith) other
    c.after_aid-c.ensures

pub returns : goal.returns
returns c =
    importers.imports_none c.args.aid.now _ _ _ c.loop.c c.loop.invariant (omega arith) c.imports_at-start.ensures
