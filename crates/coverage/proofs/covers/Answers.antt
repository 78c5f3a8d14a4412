-- `coverage::covers` meets its contract: FF is answered first, then the loading domain, then what the caller lists. Assumes nothing.
use native.Mathlib.Omega.{arith}
use mathlib.Core.Path.{◌≡◌, sym, ◌∙◌}
use lib.ListN.{get_or}
use Rattle.policies.specs.Numbers.{DomainsThere}
use Rattle.policies.specs.Rows.{ListOver}
use Rattle.policies.proofs.Rules as rules
use Rattle.coverage.proofs.Covered as covered
use Rattle.coverage.proofs.covers.Goals as goal
use Rattle.coverage.proofs.covers.Goals.{Else-wide-eq255, Else-wide-eq255-2}

-- the policy called is not FF; it and the caller's are lists
other : (k : Else-wide-eq255) → let a = k.args in get_or a.g.now a.p.called 0 ≡ 255 → ⊥
other k e = k.if-wide-eq255.false (k.wide.ensures.0 ∙ e)

called : (k : Else-wide-eq255-2) → ListOver k.args.g.now k.args.l.other k.args.p.called
called k = (k.requires.policy_over_2, other (goal.at.Else-wide-eq255-2 k).Else-wide-eq255)

caller : (k : Else-wide-eq255-2) → ListOver k.args.f.now k.args.l.own k.args.p.caller
caller k = (k.requires.policy_over, λ e. k.if-wide-eq255-2.false (k.wide-2.ensures.0 ∙ e))

-- the own list
own : (k : Else-wide-eq255-2) → DomainsThere k.args.f.now k.args.l.own
own k = (k.requires.policy_over.0, k.requires.policy_over.1, k.requires.policy_over.2)

pub bounds-g-p : goal.bounds-g-p
bounds-g-p c = rules.over_in c.requires.policy_over_2

pub returns-then-wide-eq255 : goal.returns-then-wide-eq255
returns-then-wide-eq255 c =
    let a = c.args in
    covered.covers_every a.other.now a.p a.map.now (sym c.wide.ensures.0 ∙ c.if-wide-eq255.true)

pub bounds-f-p : goal.bounds-f-p
bounds-f-p c = rules.over_in c.requires.policy_over

pub returns-then-wide-eq255-2 : goal.returns-then-wide-eq255-2
returns-then-wide-eq255-2 c =
    let a = c.args in
    covered.covers_within a.other.now a.p a.map.now (other (goal.at.returns-then-wide-eq255-2 c).Else-wide-eq255) (sym c.wide-2.ensures.0 ∙ c.if-wide-eq255-2.true)

pub known_mask-m-requires : goal.known_mask-m-requires
known_mask-m-requires c = record { list_over = called c; has_places = c.requires.has_places.0 }

pub lists_loading-requires : goal.lists_loading-requires
lists_loading-requires c =
    record { list_over = called (goal.at.lists_loading-requires c).Else-wide-eq255-2; has_places = (c.requires.has_places.0, covered.loading_small c.args.domain.now c.args.p.loading (own (goal.at.lists_loading-requires c).Else-wide-eq255-2) c.requires.number_is) }

pub returns-then-not-lists_loading : goal.returns-then-not-lists_loading
returns-then-not-lists_loading c =
    covered.covers_not c.args.other.now c.args.p c.known_mask-m.result (own (goal.at.returns-then-not-lists_loading c).Else-wide-eq255-2) c.requires.number_is c.requires.has_places.0 (called (goal.at.returns-then-not-lists_loading c).Else-wide-eq255-2).1 c.known_mask-m.ensures c.lists_loading.ensures
    (c.if-not-lists_loading.true)

pub lists_all-requires : goal.lists_all-requires
lists_all-requires c =
    record { list_over = (caller (goal.at.lists_all-requires c).Else-wide-eq255-2, called (goal.at.lists_all-requires c).Else-wide-eq255-2); has_places = (omega (arith, c.lists_loading.auto, c.requires.has_places.0), omega (arith, c.lists_loading.auto, c.requires.has_places.1)) }

pub returns : goal.returns
returns c =
    let all = rw c.with_bit.ensures at c.lists_all.ensures in
    covered.covers_lists c.args.other.now c.args.p c.known_mask-m.result (own (goal.at.returns c).Else-wide-eq255-2) c.requires.number_is c.requires.has_places.0 (called (goal.at.returns c).Else-wide-eq255-2).1 c.known_mask-m.ensures
    c.lists_loading.ensures (c.if-not-lists_loading.false) all
