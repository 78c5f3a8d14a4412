-- `store::filled` tells whether entries stand back to back up to a place: those passed stand before the place reached. Assumes nothing.
use Rattle.store.specs.Answers.{NextSays}
use Rattle.store.proofs.Checks as checks
use mathlib.Core.Path.{subst}
use native.Mathlib.Omega.{arith}
use Rattle.store.proofs.filled.Goals as goal
use Rattle.store.proofs.filled.Goals.{After-next_place, At-loop-at, In-loop-at, Start}

pub loop-at-init : goal.loop-at-init
loop-at-init c =
    (checks.fill_start c.args.s.now c.args.from (omega arith), c.requires.0)

pub next_place-requires : goal.next_place-requires
next_place-requires c =
    (c.loop-at.invariant.1, c.requires.1)

pub loop-at-smaller : goal.loop-at-smaller
loop-at-smaller c =
    let s = c.args.s.now in
    let end = c.args.end in
    omega (
      arith,
      (checks.fill_more s c.args.from c.loop-at.at c.in-Some.next end c.loop-at.invariant.0
          (subst (λ x. NextSays s c.loop-at.at end x) c.in-Some.is c.next_place.ensures)).1,
      (checks.fill_more s c.args.from c.loop-at.at c.in-Some.next end c.loop-at.invariant.0
          (subst (λ x. NextSays s c.loop-at.at end x) c.in-Some.is c.next_place.ensures)).2,
    )

pub loop-at-preserved : goal.loop-at-preserved
loop-at-preserved c =
    let s = c.args.s.now in
    let end = c.args.end in (
      (checks.fill_more s c.args.from c.loop-at.at c.in-Some.next end c.loop-at.invariant.0
          (subst (λ x. NextSays s c.loop-at.at end x) c.in-Some.is c.next_place.ensures)).0,
      (checks.fill_more s c.args.from c.loop-at.at c.in-Some.next end c.loop-at.invariant.0
          (subst (λ x. NextSays s c.loop-at.at end x) c.in-Some.is c.next_place.ensures)).2,
    )

pub returns-in_default : goal.returns-in_default
returns-in_default c =
    let s = c.args.s.now in
    let end = c.args.end in
    checks.fill_never s c.args.from c.loop-at.at end c.loop-at-test.true c.loop-at.invariant.0
    (subst (λ x. NextSays s c.loop-at.at end x) c.in_default.is c.next_place.ensures)

pub returns : goal.returns
returns c =
    checks.fill_done c.args.s.now c.args.from c.loop-at.at c.args.end (omega arith) c.loop-at.invariant.0
