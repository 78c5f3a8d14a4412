-- A turn at the entry of a domain and at that of a package: what is known there, and what its end says. Assumes nothing.
use Prim.Native.Nat.{ℕ, ◌+◌, ◌-◌, ◌≤◌, ◌<◌}
use native.Mathlib.Omega.{arith}
use mathlib.Core.Path.{◌≡◌, sym, ◌∙◌, ap, subst}
use mathlib.Core.Bool.{Bool, true, false}
use mathlib.Core.List.{List, [], ◌∷◌, ◌++◌}
use mathlib.Core.Option.{some}
use lib.Dec.{T, leb}
use lib.ListN.{length, length-append}
use borrow.Author.Tests.{le-leb}
use Rattle.rules.specs.Bytes.{Bytes, Aid}
use Rattle.rules.specs.Package.{Package, read_file}
use Rattle.rules.specs.Store.{DomainKind, Entry, domain, loaded, entry_bytes, used, first_entry, store_limits, store_opening}
use Rattle.rules.specs.Questions.{q3_lengths, q4_new, q5_created, q26_subset, q21_fits}
use Rattle.rules.specs.Operations.{create_questions, accepted}
use Rattle.rules.proofs.Tests.{is_true, of_true}
use Rattle.store.specs.Entries.{part, kind_at, EntryAt, StandFrom, FirstIs}
use Rattle.store.specs.Answers.{PartAt}
use Rattle.store.specs.Sound.{Over, OverSome}
use Rattle.std.specs.Prelude.{Some, None}
use Rattle.store.specs.declared.EntryPart.TheVariants as parts
use Rattle.store.proofs.Parts.{part_length}
use Rattle.store.proofs.Stand.{entry_later, entry_next, entries_to, entries_one}
use Rattle.store.proofs.Sound.{over_used}
use Rattle.homes.specs.Homes.{aid_at}
use Rattle.homes.proofs.Domains.{entry_domain, entry_there}
use Rattle.judge.specs.Says.{DomainYes, DomainsYes, entry_of, PackageThere, EntrySays, PackagesSay}
use Rattle.judge.specs.declared.PackageEntry.{PackageEntry}
use Rattle.judge.proofs.Going.{Going, going_on, going_bad, going_done}

-- a domain that questions 3 and 4 pass is accepted: it stands there, so it fits
domain_accepted_lem : (s : Bytes) (at j : ℕ) (k : DomainKind) (a : Aid) (pre : List Entry) → Over s at pre → EntryAt s at (domain k a) j →
    DomainYes (store_limits s) pre (domain k a) → accepted (store_opening s) (length s) pre (domain k a) ≡ true
unfolding create_questions q21_fits
domain_accepted_lem s at j k a pre o t y =
    let n = entry_next s at (domain k a) j t in
    let u : used (store_opening s) pre ≡ at = over_used s at pre o in
    let m : ℕ = used (store_opening s) pre + length (entry_bytes (domain k a)) in
    let fits : leb m (length s) ≡ true = le-leb m (length s) (omega (arith, u, n, t.to)) in
    rw (is_true (q3_lengths (a ∷ [])) y.0, is_true (q4_new pre a) y.1, fits)

-- a turn at a domain and at a package
module _ (s : Bytes) (end at : ℕ) (g : Going s end at) where
  pub going_over : StandFrom s (first_entry s) end → OverSome s at
  going_over t = let r = g t.0 t.1 in (r.pre, r.over)

  pub going_from : StandFrom s (first_entry s) end → StandFrom s at end
  going_from t = let r = g t.0 t.1 in (r.rest, r.behind)

  pub first_in : (e : Entry) (j : ℕ) (rest : List Entry) → FirstIs s at e j end rest → (j ≤ length s) × (at < j) × (j ≤ end)
  first_in e j rest f =
      let a = entry_later s at e j f.stands in
      let b = entries_to s j f.rest end f.after in
      (f.stands.to, omega arith, b.0)

  module _ (a j : ℕ) (p : PartAt s at end (Some (parts.Domain a j))) where
    pub domain_in : StandFrom s (first_entry s) end → (at < j) × (j ≤ end)
    domain_in t =
        let r = g t.0 t.1 in
        let b = first_in (domain (kind_at s at) (part s a j)) j r.rest (p r.rest r.behind).1 in
        (b.1, b.2)

    pub domain_entry : StandFrom s (first_entry s) end → EntryAt s at (domain (kind_at s at) (part s a j)) j
    domain_entry t = let r = g t.0 t.1 in (p r.rest r.behind).1.stands

    pub domain_on : DomainsYes s end → Going s end j
    domain_on y es t =
        let r = g es t in
        let q = (p r.rest r.behind).1 in
        let are = r.are ∙ ap (λ (zs : List Entry). r.pre ++ zs) q.are in
        let yes = y es r.pre q.rest (domain (kind_at s at) (part s a j)) t are in
        going_on s end at es r (domain (kind_at s at) (part s a j)) j q (domain_accepted_lem s at j (kind_at s at) (part s a j) r.pre r.over q.stands yes)

  module _ (a m j : ℕ) (p : PartAt s at end (Some (parts.Package a m j))) where
    pub package_in : StandFrom s (first_entry s) end → (at < j) × (j ≤ end)
    package_in t =
        let r = g t.0 t.1 in
        let b = first_in (loaded (part s a m) (part s m j)) j r.rest (p r.rest r.behind).2 in
        (b.1, b.2)

    -- questions 3, 5 and 26 were answered yes, of a package of the domain z
    abbrev Known : Aid → List Entry → Type 0
    Known z pre = (q3_lengths (z ∷ []) ≡ true) × (q5_created pre z ≡ true)
        × ((x : Package) → read_file (store_limits s) (part s m j) ≡ some x → q26_subset pre z x ≡ true)

    package_domain_lem : DomainsYes s end → StandFrom s (first_entry s) end → (pre : List Entry) → Over s at pre → Known (part s a m) pre
    package_domain_lem y t pre o =
        let r = g t.0 t.1 in
        let q = (p r.rest r.behind).2 in
        let are = r.are ∙ ap (λ (zs : List Entry). r.pre ++ zs) q.are in
        let yes = y t.0 r.pre q.rest (loaded (part s a m) (part s m j)) t.1 are in
        let same : r.pre ≡ pre = entries_one s (first_entry s) r.pre pre at r.over.stand o.stand in (
          is_true _ yes.0,
          is_true _ (subst (λ (zs : List Entry). T (q5_created zs (part s a m))) same yes.1),
          λ x e. is_true _ (subst (λ (zs : List Entry). T (q26_subset zs (part s a m) x)) same (yes.2 x e)),
        )

    -- its places
    abbrev places : PackageEntry
    places = record { at = at; file = m; next = j }

    -- its domain stands behind kind and body length
    package_named : StandFrom s (first_entry s) end → part s a m ≡ aid_at s (at + 3)
    package_named t =
        let r = g t.0 t.1 in
        entry_domain s at (part s a m) (part s m j) j (p r.rest r.behind).2.stands

    -- the entry stands there
    pub package_there : DomainsYes s end → StandFrom s (first_entry s) end → PackageThere s places
    package_there y t =
        let r = g t.0 t.1 in
        let q = p r.rest r.behind in
        let n = entry_next s at (loaded (part s a m) (part s m j)) j q.2.stands in
        let to : j ≤ length s = q.2.stands.to in
        let d : length (part s a m) ≡ m - a = part_length s a m (omega (arith, to, q.1)) in
        let f : length (part s m j) ≡ j - m = part_length s m j to in
        let l = length-append (part s a m) (part s m j) in
        let named = package_named t in
        let three = (package_domain_lem y t r.pre r.over).0 in
        record {
          stands = subst (λ (z : Aid). EntryAt s at (loaded z (part s m j)) j) named q.2.stands;
          domain = entry_there s at (part s a m) (part s m j) j q.2.stands (of_true three);
          file = q.1;
          inside = omega (arith, n, l, d, f, q.0, q.1);
          known = subst (λ (z : Aid). (pre : List Entry) → Over s at pre → Known z pre) named (package_domain_lem y t);
        }

    -- what is said of the entry by its places is said of it
    package_says : StandFrom s (first_entry s) end → (r : Bool) → EntrySays s at (entry_of s places) r → EntrySays s at (loaded (part s a m) (part s m j)) r
    package_says t r y = subst (λ (z : Aid). EntrySays s at (loaded z (part s m j)) r) (sym (package_named t)) y

    pub package_on : EntrySays s at (entry_of s places) true → Going s end j
    package_on y es t =
        let r = g es t in
        going_on s end at es r (loaded (part s a m) (part s m j)) j (p r.rest r.behind).2 (sym (package_says (es, t) true y r.pre r.over))

    pub package_bad : EntrySays s at (entry_of s places) false → PackagesSay s end false
    package_bad y es t =
        let r = g es t in
        sym (going_bad s end at es r (loaded (part s a m) (part s m j)) j (p r.rest r.behind).2
        (sym (package_says (es, t) false y r.pre r.over)))

  pub all_done : PartAt s at end None → PackagesSay s end true
  all_done p es t = let v = g es t in sym (going_done s end at es v (p v.rest v.behind).0)

  pub done_at : PartAt s at end None → StandFrom s (first_entry s) end → at ≡ end
  done_at p t = let v = g t.0 t.1 in (p v.rest v.behind).1
