-- `policies::number_of` meets its contract: the loop passes one domain a turn, and none passed is x; the loading domain is compared last. Assumes nothing.
use Prim.Native.Nat.{◌+◌, ◌-◌}
use native.Mathlib.Omega.{arith}
use mathlib.Core.Path.{◌≡◌, sym, ◌∙◌}
use mathlib.Core.Bool.{true, false}
use Rattle.rules.specs.Bytes.{aid}
use Rattle.places.specs.Reads.{Ends}
use Rattle.files.proofs.Loops as loops
use Rattle.files.proofs.Steps as steps
use Rattle.policies.proofs.Numbers as numbers
use Rattle.policies.proofs.number_of.Goals as goal
use Rattle.policies.proofs.number_of.Goals.{In-loop-k}

-- the domain at hand
here : (k : In-loop-k) → Ends aid k.args.f.now k.loop-k.c
here k = loops.aids_here k.loop-k.invariant (omega (arith, k.loop-k-test.true)) (numbers.domains_aids k.requires)

pub bounds-f-u : goal.bounds-f-u
bounds-f-u c = steps.aids_in (numbers.domains_aids c.requires)

pub overflow_add-c : goal.overflow_add-c
overflow_add-c c = omega (arith, steps.aids_in (numbers.domains_aids c.requires))

pub loop-k-init : goal.loop-k-init
loop-k-init c = numbers.number_start c.args.domain.now c.args.x.now (omega (arith, c.wide-count.ensures.0))

pub aid_is-requires : goal.aid_is-requires
aid_is-requires c = here c

pub returns-then-aid_is : goal.returns-then-aid_is
returns-then-aid_is c =
    let o = c.args in
    record {
      number_is = numbers.number_hit o.domain.now o.x.now c.loop-k.k c.loop-k.invariant (omega (arith, c.loop-k-test.true))
          (λ a j p. sym c.if-aid_is.true ∙ c.aid_is.ensures a j p);
      upper_bound = omega (arith, numbers.domains_few c.requires, c.wide-count.ensures.0, c.loop-k-test.true);
    }

pub after_aid-c-requires : goal.after_aid-c-requires
after_aid-c-requires c = here (goal.at.after_aid-c-requires c).In-loop-k

pub loop-k-preserved : goal.loop-k-preserved
loop-k-preserved c =
    let rest : c.wide-count.result - c.loop-k.k - 1 ≡ c.wide-count.result - (c.loop-k.k + 1) = omega arith in
    rw (← rest) (numbers.number_miss c.args.domain.now c.args.x.now c.loop-k.k c.loop-k.invariant (omega (arith, c.loop-k-test.true))
    (λ a j p. sym c.if-aid_is.false ∙ c.aid_is.ensures a j p) c.after_aid-c.ensures)

pub returns-then-same_bytes : goal.returns-then-same_bytes
returns-then-same_bytes c =
    let all : c.loop-k.k ≡ c.wide-count.result = omega arith in
    record {
      number_is = rw all at (numbers.number_behind c.args.domain.now c.args.x.now c.loop-k.k c.loop-k.invariant (omega (arith, c.loop-k-test.false)) true
          (sym c.same_bytes.ensures ∙ c.if-same_bytes.true));
      upper_bound = omega (arith, numbers.domains_few c.requires, c.wide-count.ensures.0);
    }

pub returns : goal.returns
returns c =
    let all : c.loop-k.k ≡ c.wide-count.result = omega arith in
    record {
      number_is = rw all at (numbers.number_behind c.args.domain.now c.args.x.now c.loop-k.k c.loop-k.invariant (omega (arith, c.loop-k-test.false)) false
          (sym c.same_bytes.ensures ∙ c.if-same_bytes.false));
      upper_bound = omega (arith, numbers.domains_few c.requires, c.wide-count.ensures.0);
    }
