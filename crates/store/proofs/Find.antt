-- What the walks over a store's entries find: an entry by its place, a domain, a package, a domain in use. Assumes nothing.
use Prim.Native.Nat.{ℕ, ◌+◌, ◌≤◌, ◌<◌}
use native.Mathlib.Omega.{arith}
use mathlib.Core.Path.{◌≡◌, sym, ◌∙◌, ap, subst}
use mathlib.Core.Bool.{Bool, true, false}
use mathlib.Core.List.{List, ◌∷◌}
use mathlib.Core.Option.{some}
use lib.ListN.{length, get_or}
use Rattle.rules.specs.Bytes.{Bytes, any}
use Rattle.rules.specs.Code.{u2_at}
use Rattle.rules.specs.Store.{Entry, domain, loaded, first_entry, store_limits}
use Rattle.store.specs.Entries.{part, kind_at, EntryAt, Entries, StandFrom, FirstIs, place_of, FileReads, AllRead}
use Rattle.store.specs.Answers.{PartAt}
use Rattle.std.specs.Prelude.{Some, None}
use Rattle.std.specs.Prelude.{Option as Optional}
use Rattle.store.specs.declared.EntryPart.{EntryPart}
use Rattle.store.specs.declared.EntryPart.TheVariants.{Domain, Package}
use Rattle.store.proofs.Stand.{KindBy, domain_by, loaded_by, not_loaded, entry_by, kind_by, entries_to, entries_front, entries_over, entry_one}
use Rattle.store.proofs.Walk.{Walk, walk_found, walk_more, walk_none, walk_reads, first_later}

-- the entry at a place
module _ (s : Bytes) (i k : ℕ) (ne : i ≡ k → ⊥) where
  pub part_in : StandFrom s i k → i + 3 + u2_at s (i + 1) ≤ length s
  part_in f =
      let b = entries_to s i f.0 k f.1 in
      let x = entries_front s i f.0 k (omega arith) f.1 in
      let y = entry_by s i x.one x.place x.stands in
      omega (arith, y.next, y.to)

  pub part_loaded : get_or s i 0 ≡ 2 → StandFrom s i k → (i + 4 ≤ length s) × (i + 4 + get_or s (i + 3) 0 ≤ length s)
  part_loaded n f =
      let b = entries_to s i f.0 k f.1 in
      let x = entries_front s i f.0 k (omega arith) f.1 in
      let y = entry_by s i x.one x.place x.stands in
      go (kind_by s i x.one x.place y) y.to
    where
      go : {e : Entry} {j : ℕ} → KindBy s i e j → j ≤ length s → (i + 4 ≤ length s) × (i + 4 + get_or s (i + 3) 0 ≤ length s)
      go (domain_by h) l = absurd (not_loaded (kind_at s i) (sym h.kind ∙ n))
      go (loaded_by h) l = (omega (arith, h.length), omega (arith, h.inside))

  module _ (n : ℕ) (h : n ≡ u2_at s (i + 1)) where
    -- the first of the entries, where it is known from its bytes
    first : (es : List Entry) → Entries s i es k → (e : Entry) → ((e₁ : Entry) → KindBy s i e₁ (i + 3 + n) → e₁ ≡ e) → FirstIs s i e (i + 3 + n) k es
    first es r e known =
        let b = entries_to s i es k r in
        let x = entries_front s i es k (omega arith) r in
        let y = entry_by s i x.one x.place x.stands in
        let j : x.place ≡ i + 3 + n = sym y.next ∙ ap (λ (m : ℕ). i + 3 + m) (sym h) in
        let z : x.one ≡ e = known x.one (subst (KindBy s i x.one) j (kind_by s i x.one x.place y)) in
        record {
          rest = x.others;
          are = x.are ∙ ap (λ (v : Entry). v ∷ x.others) z;
          stands = subst (λ (v : Entry). EntryAt s i v (i + 3 + n)) z (subst (EntryAt s i x.one) j x.stands);
          after = subst (λ (m : ℕ). Entries s m x.others k) j x.rest;
        }

    pub part_domain : (get_or s i 0 ≡ 2 → ⊥) → PartAt s i k (Some (Domain (i + 3) (i + 3 + n)))
    part_domain d es r = (omega arith, first es r (domain (kind_at s i) (part s (i + 3) (i + 3 + n))) known)
      where
        known : (e : Entry) → KindBy s i e (i + 3 + n) → e ≡ domain (kind_at s i) (part s (i + 3) (i + 3 + n))
        known e (domain_by a) = a.is
        known e (loaded_by a) = absurd (d a.kind)

    pub part_package : (m : ℕ) → m ≡ get_or s (i + 3) 0 → get_or s i 0 ≡ 2 → PartAt s i k (Some (Package (i + 4) (i + 4 + m) (i + 3 + n)))
    part_package m q d es r =
        let f = first es r (loaded (part s (i + 4) (i + 4 + m)) (part s (i + 4 + m) (i + 3 + n))) known in
        (omega arith, inside (kind_by s i _ _ (entry_by s i _ _ f.stands)), f)
      where
        known : (e : Entry) → KindBy s i e (i + 3 + n) → e ≡ loaded (part s (i + 4) (i + 4 + m)) (part s (i + 4 + m) (i + 3 + n))
        known e (domain_by a) = absurd (not_loaded (kind_at s i) (sym a.kind ∙ d))
        known e (loaded_by a) = rw q a.is

        inside : {e : Entry} {j : ℕ} → KindBy s i e j → i + 4 + m ≤ j
        inside (domain_by a) = absurd (not_loaded (kind_at s i) (sym a.kind ∙ d))
        inside (loaded_by a) = omega (arith, a.inside)

pub part_end : (s : Bytes) (i k : ℕ) → i ≡ k → PartAt s i k None
part_end s i k e es r = (entries_over s i es k (omega arith) r, e)

-- a walk, for whatever entries end at place k
abbrev pub Walks : (Entry → Bool) → Bytes → ℕ → ℕ → Type 0
Walks q s k i = (es : List Entry) → Entries s (first_entry s) es k → Walk q s es k i

-- the entry at place i of the first k bytes: a domain, its AID from a to j; a package, its domain's AID from a to m, its file from there to j
abbrev pub DomainIn : Bytes → ℕ → ℕ → ℕ → ℕ → Type 0
DomainIn s k i a j = (a ≤ j) × (j ≤ length s) × (i < j) × (j ≤ k)

abbrev pub PackageIn : Bytes → ℕ → ℕ → ℕ → ℕ → ℕ → Type 0
PackageIn s k i a m j = (a ≤ m) × (m ≤ j) × (j ≤ length s) × (i < j) × (j ≤ k)

module _ {q : Entry → Bool} {s : Bytes} {k i : ℕ} (w : Walks q s k i) where
  pub walks_from : StandFrom s (first_entry s) k → StandFrom s i k
  walks_from f = let v = w f.0 f.1 in (v.rest, v.from)

  pub domain_in : {a j : ℕ} → StandFrom s (first_entry s) k → PartAt s i k (Some (Domain a j)) → DomainIn s k i a j
  domain_in {a} {j} f p =
      let v = w f.0 f.1 in
      let x = p v.rest v.from in
      let l = first_later x.1 in
      (x.0, omega arith, l.0, l.1)

  pub package_in : {a m j : ℕ} → StandFrom s (first_entry s) k → PartAt s i k (Some (Package a m j)) → PackageIn s k i a m j
  package_in {a} {m} {j} f p =
      let v = w f.0 f.1 in
      let x = p v.rest v.from in
      let l = first_later x.2 in
      (x.0, x.1, omega arith, l.0, l.1)

  pub walks_domain : {a j : ℕ} → PartAt s i k (Some (Domain a j)) → q (domain (kind_at s i) (part s a j)) ≡ false → Walks q s k j
  walks_domain {a} {j} p h es r = let v = w es r in walk_more v (p v.rest v.from).1 h

  pub walks_package : {a m j : ℕ} → PartAt s i k (Some (Package a m j)) → q (loaded (part s a m) (part s m j)) ≡ false → Walks q s k j
  walks_package {a} {m} {j} p h es r = let v = w es r in walk_more v (p v.rest v.from).2 h

  pub found_domain : {a j : ℕ} → PartAt s i k (Some (Domain a j)) → q (domain (kind_at s i) (part s a j)) ≡ true → (es : List Entry) → Entries s (first_entry s) es k →
      place_of q (first_entry s) es ≡ some (i, j)
  found_domain {a} {j} p h es r = let v = w es r in walk_found v (p v.rest v.from).1 h

  pub found_package : {a m j : ℕ} → PartAt s i k (Some (Package a m j)) → q (loaded (part s a m) (part s m j)) ≡ true → (es : List Entry) →
      Entries s (first_entry s) es k → place_of q (first_entry s) es ≡ some (i, j)
  found_package {a} {m} {j} p h es r = let v = w es r in walk_found v (p v.rest v.from).2 h

  pub found_none : PartAt s i k None → (es : List Entry) → Entries s (first_entry s) es k → any q es ≡ false
  found_none p es r = let v = w es r in walk_none v (p v.rest v.from).0

  -- the file of the package at hand reads where all do
  pub package_reads : {a m j : ℕ} → PartAt s i k (Some (Package a m j)) → (es : List Entry) → Entries s (first_entry s) es k → AllRead (store_limits s) es → FileReads
      (store_limits s) (loaded (part s a m) (part s m j))
  package_reads {a} {m} {j} p es r h =
      let v = w es r in
      let x = (p v.rest v.from).2 in
      (subst (AllRead (store_limits s)) x.are (walk_reads v (store_limits s) h)).0

  pub package_entry : {a m j : ℕ} → PartAt s i k (Some (Package a m j)) → (es : List Entry) → Entries s (first_entry s) es k → (e : Entry) →
      EntryAt s i e j → e ≡ loaded (part s a m) (part s m j)
  package_entry {a} {m} {j} p es r e t =
      let v = w es r in
      let x = (p v.rest v.from).2 in
      (entry_one s i e (loaded (part s a m) (part s m j)) j j t x.stands).0

-- an entry that is known
pub part_told : {s : Bytes} {i k : ℕ} {r : Optional EntryPart} {x y : EntryPart} → r ≡ Some x → x ≡ y → PartAt s i k r → PartAt s i k (Some y)
part_told {s} {i} {k} e d p = subst (λ (v : EntryPart). PartAt s i k (Some v)) d (subst (PartAt s i k) e p)

-- no entry
pub none_told : {s : Bytes} {i k : ℕ} {r : Optional EntryPart} → r ≡ None → PartAt s i k r → PartAt s i k None
none_told {s} {i} {k} e p = subst (PartAt s i k) e p
