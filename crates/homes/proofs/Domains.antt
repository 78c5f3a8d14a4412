-- The domain of the package at a home: it stands in the store, its length before it. Assumes nothing.
use Prim.Native.Nat.{ℕ, ◌+◌, ◌-◌, ◌≤◌, ◌<◌}
use native.Mathlib.Omega.{arith}
use mathlib.Core.Path.{◌≡◌, sym, ◌∙◌, ap, subst}
use mathlib.Core.List.{List, [], ◌∷◌}
use mathlib.Core.Bool.{true}
use lib.Dec.{T, leb, leb→le}
use lib.ListN.{length, take, drop, get_or}
use borrow.Author.Tests.{eq-eqb, ne_eqb}
use Rattle.rules.specs.Bytes.{Bytes, Aid, aid_length, u1, when, span, aid}
use Rattle.rules.specs.Store.{Entry, DomainKind, domain, loaded}
use Rattle.rules.specs.Classes.{Installed}
use Rattle.rules.specs.Questions.{q3_lengths}
use Rattle.rules.proofs.Tests.{and_l, and_r}
use Rattle.store.specs.Entries.{part, EntryAt}
use Rattle.store.proofs.Parts.{part_length}
use Rattle.store.proofs.Stand.{EntryBy, KindBy, domain_by, loaded_by, kind_by, entry_by}
use Rattle.index.proofs.Here.{PackageBy, package_by}
use Rattle.places.specs.Reads.{Reads, Ends}
use Rattle.places.proofs.Build.{bind_reads, when_reads, u1_reads, span_reads}
use Rattle.places.proofs.Parts.{aid_part}
use Rattle.files.specs.Say.{AidBytes}
use Rattle.homes.specs.Homes.{Setting, HomeIs, own, stored, aid_at, DomainAt, domain_place}
use Rattle.homes.specs.declared.Home.{Home}
use Rattle.homes.proofs.Homes.{stored_yes}

-- the AID that is read at a place
pub aid_at_lem : {s : Bytes} {i : ℕ} {a : Aid} {j : ℕ} → Reads aid s i a j → a ≡ aid_at s i
aid_at_lem {s} {i} {a} {j} p = sym (aid_part s i a j p).bytes

-- it begins within the bytes
pub aid_inside : {s : Bytes} {i : ℕ} → Ends aid s i → i < length s
aid_inside {s} {i} t = (aid_part s i t.0 t.1 t.2).inside

-- a length of 5 to 16 and that many bytes
pub aid_reads : (s : Bytes) (i : ℕ) → T (aid_length (get_or s i 0)) → i + 1 + get_or s i 0 ≤ length s → Reads aid s i (aid_at s i) (i + 1 + get_or s i 0)
aid_reads s i t k =
    let n : ℕ = get_or s i 0 in
    bind_reads u1 (λ n. when (aid_length n) (span n)) s i n (i + 1) (aid_at s i) (i + 1 + n) (u1_reads s i (omega arith))
    (when_reads (aid_length n) (span n) s (i + 1) (aid_at s i) (i + 1 + n) t (span_reads n s (i + 1) k))

-- a package's entry whose domain question 3 accepts: the domain stands behind kind and body length
module _ (s : Bytes) (p : ℕ) (d f : Bytes) (j : ℕ) (t : EntryAt s p (loaded d f) j) where
  by : PackageBy s p d f j
  by = package_by s p d f j t

  pub entry_domain : d ≡ aid_at s (p + 3)
  entry_domain =
      let n : ℕ = get_or s (p + 3) 0 in
      let e : p + 4 + n - (p + 4) ≡ n = omega arith in
      let k : p + 4 ≡ p + 3 + 1 = omega arith in
      by.domain ∙ ap (λ (m : ℕ). take m (drop (p + 4) s)) e ∙ ap (λ (i : ℕ). take n (drop i s)) k

  pub entry_there : T (q3_lengths (d ∷ [])) → Ends aid s (p + 3)
  unfolding q3_lengths
  entry_there q =
      let n : ℕ = get_or s (p + 3) 0 in
      let l : length d ≡ n = omega (arith, ap length by.domain, part_length s (p + 4) (p + 4 + n) (omega (arith, by.inside, t.to))) in
      let a : T (aid_length n) = subst (λ (m : ℕ). T (aid_length m)) l (and_l (aid_length (length d)) true q) in
      (aid_at s (p + 3), p + 3 + 1 + n, aid_reads s (p + 3) a (omega (arith, by.inside, t.to)))

-- a domain's entry: the body length's low byte stands right before the AID
pub created_domain : (s : Bytes) (p : ℕ) {k : DomainKind} (a : Aid) (j : ℕ) → EntryAt s p (domain k a) j → T (q3_lengths (a ∷ [])) →
    Ends aid s (p + 2) × (a ≡ aid_at s (p + 2))
unfolding q3_lengths
created_domain s p {k} a j t q = go (kind_by s p (domain k a) j b)
  where
    b : EntryBy s p (domain k a) j
    b = entry_by s p (domain k a) j t

    size : T (aid_length (length a))
    size = and_l (aid_length (length a)) true q

    most : length a ≤ 16
    most = leb→le (length a) 16 (and_r (leb 5 (length a)) (leb (length a) 16) size)

    named : a ≡ part s (p + 3) j → Ends aid s (p + 2) × (a ≡ aid_at s (p + 2))
    named e =
        let l : get_or s (p + 2) 0 ≡ length a =
        omega (arith, b.next, most, ap length e, part_length s (p + 3) j b.to, ap (λ (i : ℕ). get_or s i 0) (second p)) in
        let to : p + 2 + 1 + get_or s (p + 2) 0 ≡ j = omega (arith, b.next, l, ap length e, part_length s (p + 3) j b.to) in
        let n : j - (p + 3) ≡ get_or s (p + 2) 0 = omega (arith, to) in
        let k : p + 3 ≡ p + 2 + 1 = omega arith in
        let whole : T (aid_length (get_or s (p + 2) 0)) = subst (λ (m : ℕ). T (aid_length m)) (sym l) size in (
          (aid_at s (p + 2), p + 2 + 1 + get_or s (p + 2) 0, aid_reads s (p + 2) whole (omega (arith, to, b.to))),
          e ∙ ap (λ (m : ℕ). take m (drop (p + 3) s)) n ∙ ap (λ (i : ℕ). take (get_or s (p + 2) 0) (drop i s)) k,
        )
      where
        second : (p : ℕ) → p + 1 + 1 ≡ p + 2
        second p = omega arith

    go : KindBy s p (domain k a) j → Ends aid s (p + 2) × (a ≡ aid_at s (p + 2))
    go (domain_by x) = let e = x.is in named cc
    go (loaded_by x) = let e = x.is in let z : ◌≡◌ {A = ℕ} 0 1 = cc in absurd (omega arith)

-- where the domain of the package at a home stands: the file being judged, and a stored package
pub place_own : (h : Home) (d : ℕ) → h.from ≡ 0 → domain_place h d ≡ d
place_own h d e = rw (eq-eqb h.from 0 e)

pub place_stored : (h : Home) (d : ℕ) → (h.from ≡ 0 → ⊥) → domain_place h d ≡ h.before + 3
place_stored h d e = rw (ne_eqb h.from 0 e)

-- the bytes of the AID there
pub domain_bytes_lem : {s : Bytes} (h : Home) (d : ℕ) {i : ℕ} {r : Bytes} → domain_place h d ≡ i → Ends aid s (domain_place h d) → AidBytes s i r → r ≡ aid_at s
    (domain_place h d)
domain_bytes_lem {s} h d e t q = q t.0 t.1 (subst (λ (i : ℕ). Reads aid s i t.0 t.1) e t.2) ∙ aid_at_lem t.2

-- the package at a home lies in the domain there
module _ {f s : Bytes} {end : ℕ} {es : List Entry} {self : Installed} {d : ℕ} where
  pub domain_there : {h : Home} {x : Installed} → Setting f s end es self → HomeIs f s end es self h x → DomainAt s d self → Ends aid s (domain_place h d)
  domain_there g own k = k.there
  domain_there {h} {x} g (stored t) k =
      subst (Ends aid s) (sym (place_stored h d (λ e. omega (arith, t.inside))))
      (entry_there s h.before x.domain (part s h.from h.to) h.to t.entry (stored_yes f s end es self g h x t).q3)

  pub domain_is : {h : Home} {x : Installed} → HomeIs f s end es self h x → DomainAt s d self → x.domain ≡ aid_at s (domain_place h d)
  domain_is own k = k.is
  domain_is {h} {x} (stored t) k =
      entry_domain s h.before x.domain (part s h.from h.to) h.to t.entry
      ∙ ap (aid_at s) (sym (place_stored h d (λ e. omega (arith, t.inside))))
