-- `policies::listed_domain` meets its contract: the loop passes one domain a turn, and none passed is x and listed. Assumes nothing.
use Prim.Native.Nat.{◌+◌, ◌-◌}
use native.Mathlib.Omega.{arith}
use mathlib.Core.Path.{◌≡◌, sym, ◌∙◌}
use Rattle.rules.specs.Bytes.{aid}
use Rattle.places.specs.Reads.{Ends}
use Rattle.files.proofs.Steps as steps
use Rattle.files.proofs.Loops as loops
use Rattle.policies.proofs.Rules as rules
use Rattle.policies.proofs.Listed as listed
use Rattle.policies.proofs.listed_domain.Goals as goal
use Rattle.policies.proofs.listed_domain.Goals.{In-loop-k}

-- the domain at hand
here : (k : In-loop-k) → Ends aid k.args.s.now k.loop-k.c
here k = loops.aids_here k.loop-k.invariant.walk (omega (arith, k.loop-k-test.true)) (rules.over_aids k.requires.0)

pub bounds-s-domains : goal.bounds-s-domains
bounds-s-domains c = steps.aids_in (rules.over_aids c.requires.0)

pub overflow_add-c : goal.overflow_add-c
overflow_add-c c = omega (arith, steps.aids_in (rules.over_aids c.requires.0))

pub loop-k-init : goal.loop-k-init
loop-k-init c = listed.listed_start c.args.at c.args.x.now (c.requires.0.0, c.requires.0.1, c.requires.0.2) (omega (arith, c.wide-k-end.ensures.0))

pub listed_as-requires : goal.listed_as-requires
listed_as-requires c = record { ends = here c; indexes_there = rules.over_indexes c.requires.0 c.requires.1 }

pub returns-then-listed_as : goal.returns-then-listed_as
returns-then-listed_as c =
    listed.listed_hit c.args.at c.args.x.now c.loop-k.invariant (omega (arith, c.loop-k-test.true))
    (λ a j p. sym c.if-listed_as.true ∙ c.listed_as.ensures a j p)

pub after_aid-c-requires : goal.after_aid-c-requires
after_aid-c-requires c = here (goal.at.after_aid-c-requires c).In-loop-k

pub loop-k-preserved : goal.loop-k-preserved
loop-k-preserved c =
    let rest : c.wide-k-end.result - c.loop-k.k - 1 ≡ c.wide-k-end.result - (c.loop-k.k + 1) = omega arith in
    rw (← rest) (listed.listed_miss c.args.at c.args.x.now c.loop-k.invariant (omega (arith, c.loop-k-test.true))
    (λ a j p. sym c.if-listed_as.false ∙ c.listed_as.ensures a j p) c.after_aid-c.ensures)

pub returns : goal.returns
returns c = listed.listed_none c.args.at c.args.x.now c.loop-k.invariant (omega (arith, c.loop-k-test.false))
