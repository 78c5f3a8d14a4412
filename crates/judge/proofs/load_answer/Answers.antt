-- `judge::load_answer` meets its contract: 3, 5, then the file's answer in the domain that was found. Assumes nothing.
use Prim.Native.Nat.{ℕ, ◌+◌}
use native.Mathlib.Omega.{arith}
use mathlib.Core.Path.{◌≡◌, sym, ◌∙◌, ap, subst}
use mathlib.Core.Bool.{true}
use lib.ListN.{length}
use Rattle.rules.specs.Bytes.{Aid, is_some, aid_length, aid}
use Rattle.rules.specs.Store.{first_entry}
use Rattle.rules.specs.Operations.{is_domain}
use Rattle.store.specs.Entries.{StandFrom}
use Rattle.store.specs.Answers.{spot, SpotAt, SubsetSays}
use Rattle.std.specs.Prelude.{Option as Optional}
use Rattle.store.specs.declared.EntryPlace.{EntryPlace}
use Rattle.store.proofs.Sound.{over_stand, created_is}
use Rattle.places.specs.Reads.{Ends}
use Rattle.homes.specs.Homes.{aid_at}
use Rattle.homes.proofs.Domains.{aid_inside}
use Rattle.judge.specs.Says.{used_at, FileSays}
use Rattle.judge.proofs.Loading as loading
use Rattle.judge.proofs.Settings as settings
use Rattle.judge.proofs.load_answer.Goals as goal
use Rattle.judge.proofs.load_answer.Goals.{After-find_domain, After-keeps_subset, Else-not-length_ok, In-Some}

-- the domain's AID has 5 to 16 bytes
three : (k : Else-not-length_ok) → aid_length (length k.args.domain.now) ≡ true
three k = sym k.length_ok.ensures ∙ k.if-not-length_ok.false

-- it was looked for among all entries of the store
found : (x : After-find_domain) → let a = x.args in SpotAt (is_domain a.domain.now) a.s.now (used_at a.s.now) x.find_domain.result
found x =
    let a = x.args in
    subst (λ (i : ℕ). SpotAt (is_domain a.domain.now) a.s.now i x.find_domain.result) x.u2_at-end.ensures.0 x.find_domain.ensures

-- it stands two bytes behind its entry's start
stands : (k : In-Some) →
    let a = k.args in
    Ends aid a.s.now (k.in-Some.p.at + 2) × (a.domain.now ≡ aid_at a.s.now (k.in-Some.p.at + 2))
stands k =
    loading.domain_place_lem k.args.s.now (used_at k.args.s.now) k.args.domain.now k.find_domain.result k.in-Some.p (found (goal.at.In-Some k).After-find_domain)
    k.in-Some.is k.requires.over_some (three (goal.at.In-Some k).Else-not-length_ok)

-- whether it is of kind 3
told : (c : After-keeps_subset) →
    let a = c.args in
    SubsetSays a.s.now (used_at a.s.now) (aid_at a.s.now (c.in-Some.p.at + 2)) c.keeps_subset.result
told c =
    let s = c.args.s.now in
    let read = subst (λ (i : ℕ). SubsetSays s i c.args.domain.now c.keeps_subset.result) c.u2_at-end.ensures.0 c.keeps_subset.ensures in
    subst (λ (d : Aid). SubsetSays s (used_at s) d c.keeps_subset.result) (stands (goal.at.After-keeps_subset c).In-Some).1 read

pub returns-then-not-length_ok : goal.returns-then-not-length_ok
returns-then-not-length_ok c =
    let a = c.args in
    let no = sym c.length_ok.ensures ∙ c.if-not-length_ok.true in
    loading.load_3 a.s.now (used_at a.s.now) a.domain.now a.file.now no

pub u2_at-end-requires : goal.u2_at-end-requires
u2_at-end-requires c = settings.used_inside c.args.s.now c.requires.over_some

pub find_domain-requires : goal.find_domain-requires
find_domain-requires c =
    let s = c.args.s.now in
    subst (StandFrom s (first_entry s)) (sym c.u2_at-end.ensures.0) (over_stand s (used_at s) c.requires.over_some)

pub overflow_add-loading : goal.overflow_add-loading
overflow_add-loading c = omega (arith, aid_inside (stands (goal.at.overflow_add-loading c).In-Some).0)

pub keeps_subset-requires : goal.keeps_subset-requires
keeps_subset-requires c =
    let s = c.args.s.now in
    subst (StandFrom s (first_entry s)) (sym c.u2_at-end.ensures.0) (over_stand s (used_at s) c.requires.over_some)

pub file_answer-requires : goal.file_answer-requires
file_answer-requires c =
    let s = c.args.s.now in
    let asked = loading.kind_asked s (used_at s) (aid_at s (c.in-Some.p.at + 2)) c.args.file.now c.keeps_subset.result (told (goal.at.file_answer-requires c).After-keeps_subset) in
    record { over_some = (c.requires.over_some, record { there = (stands (goal.at.file_answer-requires c).In-Some).0; asked = asked }); indexed = c.requires.indexed; s_len_bound = c.requires.s_len_bound }

pub returns-in-Some : goal.returns-in-Some
returns-in-Some c =
    let a = c.args in
    let says = subst (λ (d : Aid). FileSays a.s.now (used_at a.s.now) d a.file.now c.file_answer.result) (sym (stands (goal.at.returns-in-Some c).In-Some).1) c.file_answer.ensures in
    loading.load_file a.s.now (used_at a.s.now) a.domain.now a.file.now (three (goal.at.returns-in-Some c).Else-not-length_ok)
    (λ es o. ap (λ (y : Optional EntryPlace). is_some (spot y)) (sym c.in-Some.is) ∙ created_is a.s.now (used_at a.s.now) a.domain.now
    c.find_domain.result (found (goal.at.returns-in-Some c).After-find_domain) es o)
    c.file_answer.result says

pub returns-in-None : goal.returns-in-None
returns-in-None c =
    let a = c.args in
    loading.load_5 a.s.now (used_at a.s.now) a.domain.now a.file.now (three (goal.at.returns-in-None c).Else-not-length_ok)
    (λ es o. ap (λ (y : Optional EntryPlace). is_some (spot y)) (sym c.in-None.is) ∙ created_is a.s.now (used_at a.s.now) a.domain.now
    c.find_domain.result (found (goal.at.returns-in-None c).After-find_domain) es o)
