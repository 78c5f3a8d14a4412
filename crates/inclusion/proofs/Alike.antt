-- What the indexes of a policy as bits say of `admits_all_of`: numbers of domains, the file's own domain behind them. Assumes nothing.
use Prim.Native.Nat.{ℕ, ◌+◌, ◌%◌, ◌≤◌, ◌<◌}
use native.Mathlib.Omega.{arith}
use native.Mathlib.Decide.{ℕ_discrete}
use mathlib.Core.Path.{◌≡◌, refl, sym, ◌∙◌, ap}
use mathlib.Core.Bool.{Bool, true, false}
use mathlib.Core.List.{List, [], ◌∷◌, ◌++◌, map}
use mathlib.Core.Logic.{inl, inr}
use lib.Dec.{eqb}
use lib.ListN.{length, get_or, length-append, get_or-append}
use borrow.Author.Tests.{eqb-true, lt-ltb, le-ltb}
use Rattle.rules.specs.Bytes.{Bytes, Aid, pick, any, all, same}
use Rattle.rules.specs.Package.{most_domains, own_index, only}
use Rattle.rules.specs.Classes.{item_means, meant, admits}
use Rattle.rules.proofs.Tests.{is_true, of_true, same_eq, same_refl}
use Rattle.policies.specs.Say.{own_slot, slot_of, slot_aid, IsSlot, indexes_at, AdmitsAllOf}
use Rattle.policies.specs.Numbers.{OfDomains}
use Rattle.policies.specs.Rows.{has_bit}
use Rattle.policies.specs.declared.RightsPlace.{RightsPlace}
use Rattle.policies.proofs.Slots.{slot_own, slot_domain, aid_own, aid_domain}
use Rattle.policies.proofs.Numbers.{number_found, domains_length}
use Rattle.policies.proofs.Rules.{only_list}
use Rattle.policies.proofs.Compared.{Slotted, reads_slotted, any_through, all_through}
use Rattle.policies.proofs.Kept.{told_small}
use Rattle.inclusion.specs.declared.Masked.{Masked}
use Rattle.inclusion.specs.Rows.{WithinKept, row_number, RowTrue}
use Rattle.inclusion.specs.Order.{slot_as, IndexBits, BitsIs, OwnBit, PrefixIs}
use Rattle.inclusion.proofs.Pairs.{tells_other}
use Rattle.inclusion.proofs.Begins.{domains_count, prefix_nth}

-- the number of a domain's slot, of FE, and of an index
as_domain : (own k : ℕ) → k < own_slot → slot_as own k ≡ k
as_domain own k h = rw (lt-ltb k most_domains h)

as_own : (own k : ℕ) → own_slot ≤ k → slot_as own k ≡ own
as_own own k h = rw (le-ltb k most_domains h)

as_index : (own i : ℕ) → slot_as own i ≡ slot_as own (slot_of i)
as_index own i = elim (ℕ_discrete i own_index) [
  | yes z ↦ as_own own i (omega arith) ∙ sym (as_own own (slot_of i) (omega (arith, slot_own i z)))
  | no z ↦ ap (slot_as own) (sym (slot_domain i z))
]

-- the own domain stands behind the domains
last_own : (ds : List Aid) (d : Aid) → get_or (ds ++ d ∷ []) (length ds) [] ≡ d
last_own [] d = refl
last_own (x ∷ ds) d = last_own ds d

-- what a slot stands for has this number
slot_number : (ds : List Aid) (d : Aid) (k : ℕ) → IsSlot ds k →
    (slot_as (length ds) k ≤ length ds) × (get_or (ds ++ d ∷ []) (slot_as (length ds) k) [] ≡ slot_aid ds d k)
slot_number ds d k h = elim h [
  | inl z ↦ rw (as_own (length ds) k (omega arith)) (omega arith, last_own ds d ∙ sym (aid_own ds d k z))
  | inr z ↦ rw (as_domain (length ds) k z.0) (omega (arith, z.1), get_or-append ds (d ∷ []) [] k z.1 ∙ sym (aid_domain ds d k z.0))
]

-- an AID whose number is a bit is one that the policy means
module _ (a : Bytes) (p m : ℕ) (ds : List Aid) (d : Aid) (few : length ds ≤ most_domains) (bits : IndexBits a p (length ds) m) where
  listed_bit : (xs : List Aid) → Slotted ds d (indexes_at a p) xs → (x : Aid) (n : ℕ) → n < 64 → (n ≤ length ds → x ≡ get_or (ds ++ d ∷ []) n []) →
      has_bit m n ≡ true → any (same x) xs ≡ true
  listed_bit xs i x n l e h = any_through ds d (λ k. eqb (slot_as (length ds) k % 64) n) (same x) each (indexes_at a p) xs i
      (sym (by_slot (indexes_at a p)) ∙ sym (bits n l) ∙ h)
    where
      by_slot : (ks : List ℕ) → any (λ k. eqb (slot_as (length ds) k % 64) n) ks ≡ any (λ k. eqb (slot_as (length ds) (slot_of k) % 64) n) ks
      by_slot [] = refl
      by_slot (k ∷ ks) = rw (as_index (length ds) k, by_slot ks)

      each : (k : ℕ) → IsSlot ds k → eqb (slot_as (length ds) k % 64) n ≡ true → same x (slot_aid ds d k) ≡ true
      each k b q =
          let s = slot_number ds d k b in
          let z = eqb-true (slot_as (length ds) k % 64) n q in
          let t : n ≡ slot_as (length ds) k = omega (arith, s.0) in
          let w : x ≡ slot_aid ds d k = e (omega (arith, s.0)) ∙ ap (λ (i : ℕ). get_or (ds ++ d ∷ []) i []) t ∙ s.1 in
          rw w (is_true _ (same_refl (slot_aid ds d k)))

-- each test of an index, by its slot
all_slots : (m own : ℕ) (ks : List ℕ) → all (λ k. has_bit m (slot_as own k)) ks ≡ all (λ k. has_bit m (slot_as own (slot_of k))) ks
all_slots m own [] = refl
all_slots m own (k ∷ ks) = rw (as_index own k, all_slots m own ks)

-- both are lists: w tells a number of each slot of b, and those that are listed are bits
module _ {a : Bytes} (d : Aid) {b : Bytes} (e : Aid) (p : ℕ) (m : Masked) (q : RightsPlace) (na : get_or a p 0 ≡ 255 → ⊥)
    (nb : get_or b q.policy 0 ≡ 255 → ⊥) (bits : IndexBits a p (get_or a m.domains 0) m.bits) where
  by_bits : (w : List Aid → List Aid → ℕ → ℕ) →
      (OfDomains a m.domains λ ds. OfDomains b q.domains λ gs. (k : ℕ) → IsSlot gs k →
      (w ds gs k < 64) × (w ds gs k ≤ length ds → slot_aid gs e k ≡ get_or (ds ++ d ∷ []) (w ds gs k) [])) →
      (OfDomains a m.domains λ ds. OfDomains b q.domains λ gs. all (λ k. has_bit m.bits (w ds gs (slot_of k))) (indexes_at b q.policy) ≡ true) →
      AdmitsAllOf a m.domains d p b q.domains e q.policy true
  by_bits w told set ds j rd po n rp gs k rg o i ro =
      let f = only_list ds a p po n rp na in
      let g = only_list gs b q.policy o i ro nb in
      let few = domains_length ds j rd in
      let mine = reads_slotted ds d a (get_or a p 0) (p + 1) f.listed n few f.list in
      let theirs = reads_slotted gs e b (get_or b q.policy 0) (q.policy + 1) g.listed i (domains_length gs k rg) g.list in
      let these : IndexBits a p (length ds) m.bits = rw (domains_count ds j rd) bits in
      let each : (k' : ℕ) → IsSlot gs k' → has_bit m.bits (w ds gs k') ≡ true → admits (meant d (only f.listed)) (slot_aid gs e k') ≡ true = λ k' l h.
      let z = told ds j rd gs k rg k' l in
      listed_bit a p m.bits ds d few these (map (item_means d) f.listed) mine (slot_aid gs e k') (w ds gs k') z.0 z.1 h
      in
      let others =
      all_through gs e (λ k'. has_bit m.bits (w ds gs k')) (admits (meant d (only f.listed))) each (indexes_at b q.policy)
      (map (item_means e) g.listed) theirs (set ds j rd gs k rg)
      in
      rw (← f.is, ← g.is) (sym others)

  -- the lists begin alike: an index of b is one of a, and FE has the number of the own domain where that is the same
  pub order_yes : (own : ℕ) → OwnBit d e (get_or a m.domains 0) own → BitsIs b q.policy own m.bits true → PrefixIs a m.domains b q.domains true →
      AdmitsAllOf a m.domains d p b q.domains e q.policy true
  order_yes own h s t = by_bits (λ ds gs k. slot_as own k) told (λ ds j rd gs i rg. sym (s ∙ all_slots m.bits own (indexes_at b q.policy)))
    where
      behind : (ds : List Aid) → length ds ≡ get_or a m.domains 0 → length ds ≤ most_domains → (r : Bool) → same d e ≡ r →
          (pick r (get_or a m.domains 0) 63 < 64) × (pick r (get_or a m.domains 0) 63 ≤ length ds →
          e ≡ get_or (ds ++ d ∷ []) (pick r (get_or a m.domains 0) 63) [])
      behind ds n few true z = (omega arith, λ _. rw (← n) (sym (same_eq d e (of_true z)) ∙ sym (last_own ds d)))
      behind ds n few false z = (omega arith, λ l. absurd (omega arith))

      told : OfDomains a m.domains λ ds. OfDomains b q.domains λ gs. (k : ℕ) → IsSlot gs k →
          (slot_as own k < 64) × (slot_as own k ≤ length ds → slot_aid gs e k ≡ get_or (ds ++ d ∷ []) (slot_as own k) [])
      told ds j rd gs i rg k l = elim l [
        | inl z ↦
            let x = behind ds (domains_count ds j rd) (domains_length ds j rd) (same d e) refl in
            rw (as_own own k (omega arith), h, aid_own gs e k z) x
        | inr z ↦
            let x = prefix_nth gs ds (sym (t ds j rd gs i rg)) k z.1 in
            rw (as_domain own k z.0, aid_domain gs e k z.0) (omega (arith, z.0), λ _. x.1 ∙ sym (get_or-append ds (d ∷ []) [] k x.0))
      ]

  -- a number is that of the first same domain of a
  pub numbers_yes : {x y : List ℕ} {r : Bool} → RowTrue a m.domains d b q.domains e x → WithinKept a d m b e q x y r → r ≡ true →
      AdmitsAllOf a m.domains d p b q.domains e q.policy true
  numbers_yes t s z = by_bits (λ ds gs k. row_number ds d gs e (0 + k)) told
      (λ ds j rd gs i rg. sym (s.holds (row_number ds d gs e) (tells_other d e rd rg) (t.known ds j rd gs i rg)) ∙ z)
    where
      told : OfDomains a m.domains λ ds. OfDomains b q.domains λ gs. (k : ℕ) → IsSlot gs k →
          (row_number ds d gs e (0 + k) < 64) × (row_number ds d gs e (0 + k) ≤ length ds → slot_aid gs e k ≡ get_or (ds ++ d ∷ []) (row_number ds d gs e (0 + k)) [])
      told ds j rd gs i rg k l =
          let tells = tells_other d e rd rg in
          let n : 0 + k ≡ k = omega arith in (
            told_small k (ds, j, rd) (gs, i, rg, l) (row_number ds d gs e) tells,
            rw n (λ h. number_found (ds ++ d ∷ []) (slot_aid gs e k) (omega (arith, length-append ds (d ∷ [])))),
          )
