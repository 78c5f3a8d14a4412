-- `inclusion::order::begins_with` meets its contract: the loop passes one domain of both lists a turn, and all passed are the same. Assumes nothing.
use Prim.Native.Nat.{◌+◌, ◌-◌, ◌<◌}
use native.Mathlib.Omega.{arith}
use mathlib.Core.Path.{◌≡◌, sym, ◌∙◌}
use lib.ListN.{get_or}
use Rattle.rules.specs.Bytes.{aid}
use Rattle.places.specs.Reads.{Ends}
use Rattle.files.proofs.Steps.{aids_in}
use Rattle.policies.proofs.Numbers.{domains_aids}
use Rattle.inclusion.proofs.Begins as begins
use Rattle.inclusion.proofs.order.begins_with.Goals as goal
use Rattle.inclusion.proofs.order.begins_with.Goals.{In-loop}

-- both lists have a domain left
left : (k : In-loop) → (0 < get_or k.args.a.now k.args.u 0 - k.loop.counter) × (0 < k.wide-count.result - k.loop.counter)
left k = (omega (arith, k.loop-test.true, k.if-wide-count.false, k.wide.ensures.0), omega (arith, k.loop-test.true))

-- the AIDs at hand
here : (k : In-loop) → Ends aid k.args.a.now k.loop.c × Ends aid k.args.b.now k.loop.d
here k = begins.order_here k.loop.invariant (left k).1 (left k).0 k.requires.domains_there k.requires.domains_there_2

pub bounds-a-u : goal.bounds-a-u
bounds-a-u c = aids_in (domains_aids c.requires.domains_there)

pub bounds-b-v : goal.bounds-b-v
bounds-b-v c = aids_in (domains_aids c.requires.domains_there_2)

pub overflow_add-c : goal.overflow_add-c
overflow_add-c c = omega (arith, aids_in (domains_aids c.requires.domains_there))

pub overflow_add-d : goal.overflow_add-d
overflow_add-d c = omega (arith, aids_in (domains_aids c.requires.domains_there_2))

pub returns-then-wide-count : goal.returns-then-wide-count
returns-then-wide-count c = begins.order_longer (omega (arith, c.if-wide-count.true, c.wide.ensures.0, c.wide-count.ensures.0))

pub loop-init : goal.loop-init
loop-init c = begins.order_start (omega arith) (omega (arith, c.wide-count.ensures.0))

pub aid_bytes-requires : goal.aid_bytes-requires
aid_bytes-requires c = (here c).1

pub aid_is-requires : goal.aid_is-requires
aid_is-requires c = (here (goal.at.aid_is-requires c).In-loop).0

pub returns-then-not-aid_is : goal.returns-then-not-aid_is
returns-then-not-aid_is c =
    let some = left (goal.at.returns-then-not-aid_is c).In-loop in
    begins.order_differ c.loop.invariant some.1 some.0 c.aid_bytes.ensures (λ a j p. sym (c.if-not-aid_is.true) ∙ c.aid_is.ensures a j p)

pub after_aid-c-requires : goal.after_aid-c-requires
after_aid-c-requires c = (here (goal.at.after_aid-c-requires c).In-loop).0

pub after_aid-d-requires : goal.after_aid-d-requires
after_aid-d-requires c = (here (goal.at.after_aid-d-requires c).In-loop).1

pub loop-preserved : goal.loop-preserved
loop-preserved c =
    let some = left (goal.at.loop-preserved c).In-loop in
    let more : get_or c.args.a.now c.args.u 0 - c.loop.counter - 1 ≡ get_or c.args.a.now c.args.u 0 - (c.loop.counter + 1) = omega arith in
    let rest : c.wide-count.result - c.loop.counter - 1 ≡ c.wide-count.result - (c.loop.counter + 1) = omega arith in
    rw (← more, ← rest) (begins.order_more c.loop.invariant some.1 some.0 c.aid_bytes.ensures (λ a j p. sym (c.if-not-aid_is.false) ∙ c.aid_is.ensures a j p)
    c.after_aid-c.ensures c.after_aid-d.ensures)

pub returns : goal.returns
returns c = begins.order_done c.loop.invariant (omega (arith, c.loop-test.false))
