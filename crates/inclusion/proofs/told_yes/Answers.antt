-- `inclusion::told_yes` meets its contract: lists that begin alike by indexes, others by numbers. Assumes nothing.
use native.Mathlib.Omega.{arith}
use mathlib.Core.Path.{◌≡◌, sym, ◌∙◌, subst}
use mathlib.Core.Bool.{true, false}
use lib.Dec.{T}
use lib.ListN.{get_or}
use Rattle.files.proofs.Steps.{aids_in}
use Rattle.policies.proofs.Rules.{over_in, over_aids, over_indexes, all_every}
use Rattle.inclusion.specs.Order.{IndexBits, OwnBit}
use Rattle.inclusion.proofs.Pairs.{row_within}
use Rattle.inclusion.proofs.Alike.{order_yes, numbers_yes}
use Rattle.inclusion.proofs.told_yes.Goals as goal
use Rattle.inclusion.proofs.told_yes.Goals.{After-index_bits, After-own_bit, Else-wide-eq255}

-- neither policy is FF
first-lists : (k : Else-wide-eq255) → let a = k.args in get_or a.a.now a.p.policy 0 ≡ 255 → ⊥
first-lists k e = k.if-wide-eq255.false (k.wide.ensures.0 ∙ e)

second-lists : (k : Else-wide-eq255) → let a = k.args in get_or a.b.now a.q.policy 0 ≡ 255 → ⊥
second-lists k e =
    k.if-count-eq255.false (k.wide-count.ensures.0 ∙ e)

-- the mask, and the bit for FE
mask : (k : After-index_bits) →
    let a = k.args in
    IndexBits a.a.now a.p.policy (get_or a.a.now a.p.domains 0) k.index_bits.result
mask k = rw k.wide-most.ensures.0 at k.index_bits.ensures

behind : (k : After-own_bit) →
    let a = k.args in
    OwnBit a.own.now a.other.now (get_or a.a.now a.p.domains 0) k.own_bit.result
behind k = rw k.wide-most.ensures.0 at k.own_bit.ensures

-- a no tells nothing
no-yes : {A : Type 0} → false ≡ true → A
no-yes e = absurd (subst T (sym e) tt)

pub bounds-b-at : goal.bounds-b-at
bounds-b-at c = over_in c.requires.policy_over_2

pub returns-then-count-lt4 : goal.returns-then-count-lt4
returns-then-count-lt4 c = record { admits_all_of = no-yes; row_true_2 = c.requires.row_true }

pub returns-then-count-eq255 : goal.returns-then-count-eq255
returns-then-count-eq255 c = record { admits_all_of = no-yes; row_true_2 = c.requires.row_true }

pub bounds-a-first : goal.bounds-a-first
bounds-a-first c = over_in c.requires.policy_over

pub returns-then-wide-eq255 : goal.returns-then-wide-eq255
returns-then-wide-eq255 c =
    let a = c.args in
    record { admits_all_of = λ _. all_every a.own.now a.other.now (sym c.wide.ensures.0 ∙ c.if-wide-eq255.true); row_true_2 = c.requires.row_true }

pub bounds-a-domains : goal.bounds-a-domains
bounds-a-domains c = aids_in (over_aids c.requires.policy_over)

pub index_bits-requires : goal.index_bits-requires
index_bits-requires c = over_indexes c.requires.policy_over (first-lists (goal.at.index_bits-requires c).Else-wide-eq255)

pub in_order-requires : goal.in_order-requires
in_order-requires c =
    ((c.requires.policy_over.0, c.requires.policy_over.1, c.requires.policy_over.2), (c.requires.policy_over_2.0, c.requires.policy_over_2.1, c.requires.policy_over_2.2), over_indexes c.requires.policy_over_2 (second-lists (goal.at.in_order-requires c).Else-wide-eq255))

pub returns-then-in_order : goal.returns-then-in_order
returns-then-in_order c =
    let a = c.args in
    let yes =
    order_yes a.own.now a.other.now a.p.policy _ a.q (first-lists (goal.at.returns-then-in_order c).Else-wide-eq255) (second-lists (goal.at.returns-then-in_order c).Else-wide-eq255) (mask (goal.at.returns-then-in_order c).After-index_bits) c.own_bit.result (behind (goal.at.returns-then-in_order c).After-own_bit)
    (c.in_order.ensures.bits c.if-in_order.true) (c.in_order.ensures.alike c.if-in_order.true)
    in
    record { admits_all_of = λ _. yes; row_true_2 = c.requires.row_true }

pub within-requires : goal.within-requires
within-requires c =
    record { domains_there = (c.requires.policy_over.0, c.requires.policy_over.1, c.requires.policy_over.2); list_over = (c.requires.policy_over_2, second-lists (goal.at.within-requires c).Else-wide-eq255); row_len = c.requires.row_true.size }

pub returns : goal.returns
returns c =
    let a = c.args in
    record { admits_all_of = numbers_yes a.own.now a.other.now a.p.policy _ a.q (first-lists (goal.at.returns c).Else-wide-eq255) (second-lists (goal.at.returns c).Else-wide-eq255) (mask (goal.at.returns c).After-index_bits) c.requires.row_true c.within.ensures; row_true_2 = row_within _ a.q c.within.result c.requires.row_true (omega (arith, c.within.auto)) c.within.ensures }
