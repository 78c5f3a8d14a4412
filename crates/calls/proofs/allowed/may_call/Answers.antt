-- `calls::allowed::may_call` meets its contract: the policies of caller and called, each in its package's domain, are compared by numbers. Assumes nothing.
use native.Mathlib.Omega.{arith}
use mathlib.Core.Path.{◌≡◌, sym, ap, subst}
use Rattle.rules.specs.Bytes.{Aid}
use Rattle.policies.specs.Numbers.{NumberIs}
use Rattle.homes.specs.Homes.{file_of, own_home, aid_at}
use Rattle.homes.specs.declared.Home.{Home}
use Rattle.homes.proofs.Lookups.{there_bounds}
use Rattle.references.specs.Setting.{Judged}
use Rattle.calls.specs.Rights.{StandsThere, RightsAt}
use Rattle.calls.proofs.Rights as rights
use Rattle.calls.proofs.Covers as covers
use Rattle.calls.proofs.allowed.may_call.Goals as goal
use Rattle.calls.proofs.allowed.may_call.Goals.{After-aid_bytes-domain, After-own_home-own, After-rights_of-q, Start}

-- the file is being judged
judged : (b : Start) → Judged b.args.f.now b.args.s.now b.args.a.group.end
judged b = rights.caller_judged b.requires.own_method.0

-- the caller stands in the file being judged
caller : (k : After-own_home-own) → let a = k.args in StandsThere a.f.now a.s.now k.own_home-own.result a.a.at
caller k =
    let a = k.args in
    subst (λ (h : Home). StandsThere a.f.now a.s.now h a.a.at) (sym k.own_home-own.ensures) (rights.caller_stands k.requires.own_method.0)

-- its policy
caller-rights : (k : After-rights_of-q) →
    let a = k.args in
    RightsAt a.f.now a.s.now (own_home a.a.group.end) a.a.at k.rights_of-q.result
caller-rights k =
    let a = k.args in
    subst (λ (h : Home). RightsAt a.f.now a.s.now h a.a.at k.rights_of-q.result) k.own_home-own.ensures k.rights_of-q.ensures

-- the loading domain
loading : (k : After-aid_bytes-domain) → let a = k.args in k.aid_bytes-domain.result.now ≡ aid_at a.s.now a.a.domain
loading k = rights.aid_is k.requires.asker_true.domain k.aid_bytes-domain.ensures

pub own_home-own-requires : goal.own_home-own-requires
own_home-own-requires c = tt

pub rights_of-q-requires : goal.rights_of-q-requires
rights_of-q-requires c = caller c

pub rights_of-r-requires : goal.rights_of-r-requires
rights_of-r-requires c = c.requires.own_method.1

pub overflow_mul-l : goal.overflow_mul-l
overflow_mul-l c = omega (arith, c.requires.p_in_bounds)

pub file_of-g-requires : goal.file_of-g-requires
file_of-g-requires c = there_bounds _ _ _ (rights.stands_home c.requires.own_method.1)

pub aid_bytes-domain-requires : goal.aid_bytes-domain-requires
aid_bytes-domain-requires c = c.requires.asker_true.domain

pub domain_of-other-requires : goal.domain_of-other-requires
domain_of-other-requires c = rights.stands_domain _ c.requires.own_method.1 c.requires.asker_true.domain

pub covers-requires : goal.covers-requires
covers-requires c =
    let a = c.args in
    let here = ap (file_of a.f.now a.s.now) (sym c.own_home-own.ensures) in
    let n = covers.loading_number _ _ _ (judged (goal.at.covers-requires c).Start) _ (caller-rights (goal.at.covers-requires c).After-rights_of-q).0 a.a c.requires.asker_true.loading in record { policy_over = rights.rights_over _ here _ c.rights_of-q.ensures (caller (goal.at.covers-requires c).After-own_home-own); policy_over_2 = rights.rights_over _ c.file_of-g.ensures _ c.rights_of-r.ensures c.requires.own_method.1; has_places = (omega (arith, c.requires.p_in_bounds), omega (arith, c.requires.p_in_bounds)); number_is = subst (λ (x : Aid). NumberIs a.f.now c.rights_of-q.result.domains x x a.a.loading) (sym (loading (goal.at.covers-requires c).After-aid_bytes-domain)) n }

pub shape_of-map : goal.shape_of-map
shape_of-map c = omega (arith, c.covers.auto)

pub returns : goal.returns
returns c =
    let a = c.args in
    covers.may_call_lem _ c.requires.asker_true.domain a.a _ a.p _ _ _ (caller-rights (goal.at.returns c).After-rights_of-q) c.rights_of-r.ensures _ _ _
    c.file_of-g.ensures (loading (goal.at.returns c).After-aid_bytes-domain) c.domain_of-other.ensures _ c.covers.ensures
