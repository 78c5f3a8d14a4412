-- A domain that is an AID and that a policy lists, by its index or as FE: the loop over the domains, and what it says of `admits`. Assumes nothing.
use Prim.Native.Nat.{ℕ, zero, suc, ◌+◌, ◌-◌, ◌≤◌, ◌<◌}
use native.Mathlib.Omega.{arith}
use native.Mathlib.Numerals.{add-one}
use mathlib.Core.Path.{◌≡◌, refl, sym, ◌∙◌, subst}
use mathlib.Core.Bool.{Bool, true, false, ◌&&◌, ◌||◌}
use mathlib.Core.List.{List, [], ◌∷◌, map}
use mathlib.Core.Logic.{inl, inr}
use mathlib.Core.Option.{some}
use lib.Dec.{eqb}
use lib.ListN.{length, get_or}
use Rattle.std.specs.Prelude.{Some, None}
use Rattle.std.specs.Prelude.{Option as Optional}
use Rattle.std.specs.Option.{is_some}
use Rattle.rules.specs.Bytes.{Bytes, Aid, any, at, same, u1, aid, counted}
use Rattle.rules.specs.Package.{most_domains, own_index}
use Rattle.rules.specs.Classes.{item_means}
use Rattle.rules.proofs.Tests.{none_some, and_l, of_true, same_eq}
use Rattle.places.specs.Reads.{Reads, EndsAt}
use Rattle.places.proofs.Steady.{steady_aid}
use Rattle.places.proofs.Track.{track_front, track_more, track_done}
use Rattle.files.specs.Say.{AidIs}
use Rattle.files.proofs.Loops.{AidLoop, aids_start}
use Rattle.policies.specs.Say.{own_slot, indexes_at, ListsIs, ListedIs, Admits}
use Rattle.policies.specs.Numbers.{DomainsThere, OfDomains, listed_as, listed_from, DomainNumber, SlotFor, ListedSlot}
use Rattle.policies.proofs.Slots.{aid_domain}
use Rattle.policies.proofs.Indexes.{any_indexed}
use Rattle.policies.proofs.Numbers.{domains_few, domains_length}
use Rattle.policies.proofs.Rules.{every_is, only_list, at_get}

-- a domain and its number
module _ {s : Bytes} {c : ℕ} (x : Aid) (i k : ℕ) where
  pub listed_other : AidIs s c x false → ListedIs s c x i k false
  listed_other h a j p = let e : same x a ≡ false = sym (h a j p) in rw e

  pub listed_this : {r : Bool} → AidIs s c x true → ListsIs s i k r → ListedIs s c x i k r
  listed_this h l a j p = let e : same x a ≡ true = sym (h a j p) in l ∙ rw e

-- the loop over the domains: of the list at d, those from number k on are left
abbrev pub DomainLoop : Bytes → ℕ → ℕ → Aid → ℕ → ℕ → ℕ → Type 0
DomainLoop s d i x k left c = AidLoop (listed_from s i x 0) (listed_from s i x k) s d left c

pub admits_every : {s : Bytes} {d : ℕ} (e : Aid) {i : ℕ} (x : Aid) → get_or s i 0 ≡ 255 → Admits s d e i x true
admits_every {s} {d} e {i} x h ds j rd q k p = rw (← every_is ds s i q k p h)

-- x is a domain listed by its index, or the own domain listed as FE
admits_is : (s : Bytes) (d : ℕ) (e : Aid) (i : ℕ) (x : Aid) → (get_or s i 0 ≡ 255 → ⊥) → (b : Bool) →
    (OfDomains s d λ ds. (listed_from s i x 0 ds || (same x e && any (eqb own_index) (indexes_at s i))) ≡ b) → Admits s d e i x b
admits_is s d e i x n b h ds j rd q k p =
    let o = only_list ds s i q k p n in
    let w : any (same x) (map (item_means e) o.listed) ≡ b =
    any_indexed (same x) ds e s (get_or s i 0) (i + 1) o.listed k (domains_length ds j rd) o.list ∙ h ds j rd in
    rw (← o.is) (sym w)

-- the number of the domain at hand is k
abbrev CountLoop : Bytes → ℕ → ℕ → ℕ → ℕ → Type 0
CountLoop s d k left c = (m : ℕ) → AidLoop (λ xs. at xs (k + m)) (λ ys. at ys m) s d left c

-- what has a number is below the length
at_below : {A : Type 0} (xs : List A) (k : ℕ) (x : A) → at xs k ≡ some x → k < length xs
at_below [] k x e = absurd (none_some e)
at_below (y ∷ ys) zero x e = omega arith
at_below (y ∷ ys) (suc k) x e = omega (arith, at_below ys k x e)

-- the loop: no domain passed is x and listed
pub record ListedLoop (s : Bytes) (d i : ℕ) (x : Aid) (k left c : ℕ) : Type 0 where
  pub few : k + left ≤ most_domains
  pub walk : DomainLoop s d i x k left c
  pub count : CountLoop s d k left c

pub listed_start : {s : Bytes} {d : ℕ} (i : ℕ) (x : Aid) {n : ℕ} → DomainsThere s d → n ≡ get_or s d 0 → ListedLoop s d i x 0 n (d + 1)
listed_start {s} {d} i x {n} e h = record {
  few = omega (arith, domains_few e);
  walk = aids_start h;
  count = λ m. let z : 0 + m ≡ m = omega arith in rw z (aids_start {f = λ xs. at xs m} h);
}

module _ {s : Bytes} {d : ℕ} (i : ℕ) (x : Aid) {k left c : ℕ} (t : ListedLoop s d i x k left c) where
  -- the domain at hand is x and listed
  pub listed_hit : 0 < left → ListedIs s c x i k true → DomainNumber s d i x k
  listed_hit h q = record { there = there; listed = hit }
    where
      there : (ds : List Aid) (j : ℕ) → Reads (counted most_domains u1 aid) s d ds j → (k < length ds) × (get_or ds k [] ≡ x)
      there ds j rd =
          let z = track_front aid steady_aid s (counted most_domains u1 aid) d (λ xs. at xs (k + 0)) (λ ys. at ys 0) left c (t.count 0 most_domains) h ds j rd in
          let e : k + 0 ≡ k = omega arith in
          let a = subst (λ (n : ℕ). at ds n ≡ some z.one) e z.value in
          let b = and_l (same x z.one) (any (eqb k) (indexes_at s i)) (of_true (sym (q z.one z.place z.reads))) in
          (at_below ds k z.one a, at_get ds k z.one [] a ∙ sym (same_eq x z.one b))

      hit : (ds : List Aid) (j : ℕ) → Reads (counted most_domains u1 aid) s d ds j → listed_from s i x 0 ds ≡ true
      hit ds j rd =
          let z =
          track_front aid steady_aid s (counted most_domains u1 aid) d (listed_from s i x 0) (listed_from s i x k) left c (t.walk most_domains)
          h ds j rd
          in
          let a : listed_as s i x k z.one ≡ true = sym (q z.one z.place z.reads) in
          z.value ∙ rw a

  -- it is not
  pub listed_miss : {e : ℕ} → 0 < left → ListedIs s c x i k false → EndsAt aid s c e → ListedLoop s d i x (k + 1) (left - 1) e
  listed_miss {e} h q f = record { few = omega (arith, t.few); walk = walk; count = count }
    where
      walk : DomainLoop s d i x (k + 1) (left - 1) e
      walk most =
          track_more aid steady_aid s (counted most u1 aid) d (listed_from s i x 0) (listed_from s i x k) left c (t.walk most)
          (listed_from s i x (k + 1)) e h f
          λ a m p ys. let b : listed_as s i x k a ≡ false = sym (q a m p) in rw (b, add-one)

      count : CountLoop s d (k + 1) (left - 1) e
      count m most xs j p =
          let z =
          track_more aid steady_aid s (counted most u1 aid) d (λ xs. at xs (k + suc m)) (λ ys. at ys (suc m)) left c (t.count (suc m) most) (λ ys. at ys m) e
          h f
          (λ a o r ys. refl) xs j p
          in
          let b : k + suc m ≡ k + 1 + m = omega arith in
          (z.0, z.1, subst (λ (n : ℕ). at xs n ≡ at z.0 m) b z.2)

  pub listed_none : left ≤ 0 → OfDomains s d λ ds. listed_from s i x 0 ds ≡ false
  listed_none h ds j rd =
      let z =
      track_done aid steady_aid s (counted most_domains u1 aid) d (listed_from s i x 0) (listed_from s i x k) left c
      (t.walk most_domains) h ds j rd
      in
      z.1

module _ {s : Bytes} {d : ℕ} (e : Aid) {i : ℕ} (x : Aid) (n : get_or s i 0 ≡ 255 → ⊥) where
  -- a domain listed by its index
  pub slot_listed : {k : ℕ} → DomainNumber s d i x k → SlotFor s d e i x k
  slot_listed {k} q = record {
    there = λ ds j rd.
        let z = q.there ds j rd in
        let h : k < most_domains = omega (arith, z.0, domains_length ds j rd) in
        (inr (h, z.0), aid_domain ds e k h ∙ z.1);
    allowed = admits_is s d e i x n true λ ds j rd. let z : listed_from s i x 0 ds ≡ true = q.listed ds j rd in rw z;
  }

  -- none is
  module _ (unlisted : OfDomains s d λ ds. listed_from s i x 0 ds ≡ false) where
    -- x is the own domain, and FE is listed or not
    slot_told : {r : Bool} → same x e ≡ true → ListsIs s i own_index r → Admits s d e i x r
    slot_told {r} f l = admits_is s d e i x n r λ ds j rd. let u = unlisted ds j rd in rw (u, f) (sym l)

    pub slot_as_own : same x e ≡ true → ListsIs s i own_index true → SlotFor s d e i x own_slot
    slot_as_own f l = record { there = λ ds j rd. (inl refl, sym (same_eq x e (of_true f))); allowed = slot_told f l }

    pub slot_unlisted : same x e ≡ true → ListsIs s i own_index false → Admits s d e i x false
    slot_unlisted f l = slot_told f l

    pub slot_none : same x e ≡ false → Admits s d e i x false
    slot_none f = admits_is s d e i x n false λ ds j rd. let u = unlisted ds j rd in rw (u, f)

-- a slot that is told says yes, none no
pub slot_tells : {s : Bytes} {d : ℕ} (e : Aid) {i : ℕ} (x : Aid) (r : Optional ℕ) → ListedSlot s d e i x r → Admits s d e i x (is_some r)
slot_tells e x (Some r) q = q.allowed
slot_tells e x None q = q
