-- The loop over the indexes of a policy, and what it says of `admits_all_of`; the AID that a slot stands for. Assumes nothing.
use Rattle.std.specs.Prelude.{Some, None}
use Rattle.std.specs.Prelude.{Option as Optional}
use Prim.Native.Nat.{ℕ, zero, suc, ◌+◌, ◌≤◌, ◌<◌}
use native.Mathlib.Omega.{arith}
use mathlib.Core.Path.{◌≡◌, refl, sym, ◌∙◌, ap, subst}
use mathlib.Core.Bool.{Bool, true, false}
use mathlib.Core.List.{List, [], ◌∷◌, map}
use mathlib.Core.Option.{none, some, some-injective}
use mathlib.Core.Logic.{inl, inr}
use lib.ListN.{length, drop, get_or}
use Rattle.rules.specs.Bytes.{Bytes, Aid, all, at, u1, aid, counted}
use Rattle.rules.specs.Package.{most_domains, Item, Policy, every, only, policy}
use Rattle.rules.specs.Classes.{Rights, item_means, meant, admits, admits_all_of}
use Rattle.rules.proofs.Tests.{none_some}
use Rattle.places.specs.Reads.{Reads, Ends}
use Rattle.places.specs.Parts.{OnlyPart}
use Rattle.places.proofs.Inverse.{reads_same}
use Rattle.places.proofs.Parts.{policy_part}
use Rattle.places.proofs.Track.{placed_at, placed_none}
use Rattle.files.specs.Say.{Aids, AidBytes, AidNth}
use Rattle.files.proofs.Steps as steps
use Rattle.policies.specs.Say.{own_slot, slot_of, slot_aid, IsSlot, indexes_at, IndexesThere, PolicyOver, OfPolicy, Admits, HasSlot, SlotIs, AdmitsAllOf}
use Rattle.policies.specs.Numbers.{OfDomains}
use Rattle.policies.specs.Rows.{ListOver}
use Rattle.policies.proofs.Slots.{aid_own, aid_domain, slot_below}
use Rattle.policies.proofs.Numbers.{domains_length}
use Rattle.policies.proofs.Indexes.{all_fails, all_passes, all_end}
use Rattle.policies.proofs.Compared.{slotted_at, reads_slotted, all_by_slot}

-- a policy that is FF, and one that is not
pub every_is : (ds : List Aid) (s : Bytes) (i : ℕ) (q : Policy) (e : ℕ) → Reads (policy ds) s i q e → get_or s i 0 ≡ 255 → every ≡ q
every_is ds s i q e p h = elim (policy_part ds s i q e p) [ inl x ↦ x.is | inr x ↦ absurd (omega (arith, x.few)) ]

pub only_list : (ds : List Aid) (s : Bytes) (i : ℕ) (q : Policy) (e : ℕ) → Reads (policy ds) s i q e → (get_or s i 0 ≡ 255 → ⊥) → OnlyPart ds s i q e
only_list ds s i q e p h = elim (policy_part ds s i q e p) [ inl x ↦ absurd (h x.mark) | inr x ↦ x ]

module _ {s : Bytes} {d i : ℕ} (e : PolicyOver s d i) where
  pub over_in : i < length s
  over_in = steps.policy_in (e.0, e.3)

  pub over_aids : Aids s d
  over_aids = (most_domains, (e.0, e.1, e.2))

  pub over_indexes : (get_or s i 0 ≡ 255 → ⊥) → IndexesThere s i
  over_indexes h = steps.policy_to h (e.0, e.3)

pub has_aids : {s : Bytes} {d k : ℕ} → HasSlot s d k → Aids s d
has_aids e = (most_domains, (e.0, e.1, e.2))

-- the AID with a number
pub at_get : {A : Type 0} (xs : List A) (k : ℕ) (x y : A) → at xs k ≡ some x → get_or xs k y ≡ x
at_get [] k x y e = absurd (none_some e)
at_get (z ∷ zs) zero x y e = some-injective _ _ e
at_get (z ∷ zs) (suc k) x y e = at_get zs k x y e

at_in : {A : Type 0} (xs : List A) (k : ℕ) → k < length xs → at xs k ≡ none → ⊥
at_in [] k h e = omega arith
at_in (z ∷ zs) zero h e = none_some (sym e)
at_in (z ∷ zs) (suc k) h e = at_in zs k (omega arith) e

module _ {t : Bytes} {u : ℕ} (k : ℕ) {r : (Optional ℕ)} (h : AidNth t u k r) where
  pub nth_is : {a : ℕ} → r ≡ Some a → (ds : List Aid) (j : ℕ) → Reads (counted most_domains u1 aid) t u ds j → (e : ℕ) × Reads aid t a (get_or ds k []) e
  nth_is {a} q ds j p =
      let g : AidNth t u k (Some a) = subst (λ (z : Optional ℕ). AidNth t u k z) q h in
      let z = placed_at (g most_domains ds j p) in (z.1, rw (at_get ds k z.0 [] z.2) z.3)

  pub nth_there : {a : ℕ} → r ≡ Some a → HasSlot t u k → Ends aid t a
  nth_there q e = let z = nth_is q e.0 e.1 e.2 in (get_or e.0 k [], z.0, z.1)

  pub nth_none : r ≡ None → (ds : List Aid) (j : ℕ) → Reads (counted most_domains u1 aid) t u ds j → k < length ds → ⊥
  nth_none q ds j p l =
      let g : AidNth t u k None = subst (λ (z : Optional ℕ). AidNth t u k z) q h in
      at_in ds k l (placed_none (g most_domains ds j p))

  -- what a slot that is not that of FE stands for
  pub slot_nth : (g : Aid) → (k ≡ own_slot → ⊥) → {a : ℕ} {x : Bytes} → r ≡ Some a → AidBytes t a x → SlotIs t u g k x
  slot_nth g n q m ds j p l =
      let z = nth_is q ds j p in
      m (get_or ds k []) z.0 z.1 ∙ sym (aid_domain ds g k (slot_below ds k l n).0)

  pub slot_missing : (g x : Aid) → (k ≡ own_slot → ⊥) → r ≡ None → SlotIs t u g k x
  slot_missing g x n q ds j p l = absurd (nth_none q ds j p (slot_below ds k l n).1)

-- what the slot of FE stands for
pub slot_own_is : {t : Bytes} {u : ℕ} (g : Aid) (k : ℕ) → k ≡ own_slot → SlotIs t u g k g
slot_own_is g k q ds j p l = sym (aid_own ds g k q)

-- each index of a policy that is not FF has a slot
pub slots_here : {t : Bytes} {u v : ℕ} → ListOver t u v → OfDomains t u λ es. (k : ℕ) → k < length (indexes_at t v) → IsSlot es (slot_of (get_or (indexes_at t v) k 0))
slots_here {t} {u} {v} o es j rd k h =
    let e = o.0 in
    let y = only_list e.0 t v e.3.0 e.3.1 e.3.2 o.1 in
    let same = (reads_same (counted most_domains u1 aid) t u e.0 es e.1 j e.2 rd).0 in
    rw (← same) (slotted_at e.0 [] (indexes_at t v) (map (item_means []) y.listed)
    (reads_slotted e.0 [] t (get_or t v 0) (v + 1) y.listed e.3.1 (domains_length e.0 e.1 e.2) y.list) k h)

pub slot_there : {t : Bytes} {u v k : ℕ} → ListOver t u v → k < length (indexes_at t v) → HasSlot t u (slot_of (get_or (indexes_at t v) k 0))
slot_there {k = k} o h = let e = o.0 in (e.0, e.1, e.2, slots_here o e.0 e.1 e.2 k h)

pub all_every : {s : Bytes} {d : ℕ} (e : Aid) {i : ℕ} {t : Bytes} {u : ℕ} (g : Aid) {v : ℕ} → get_or s i 0 ≡ 255 → AdmitsAllOf s d e i t u g v true
all_every {s} {d} e {i} g h ds j rd p f rp es k re o n ro = rw (← every_is ds s i p f rp h)

-- only FF allows all that FF does
pub all_within : {s : Bytes} {d : ℕ} (e : Aid) {i : ℕ} {t : Bytes} {u : ℕ} (g : Aid) {v : ℕ} → (get_or s i 0 ≡ 255 → ⊥) → get_or t v 0 ≡ 255 →
    AdmitsAllOf s d e i t u g v false
all_within {s} {d} e {i} {t} {u} g {v} n h ds j rd p f rp es k re o m ro =
    let x = only_list ds s i p f rp n in rw (← x.is, ← every_is es t v o m ro h)

-- what index k of a policy over the domains es means, in a file of domain g, is allowed
abbrev pub index_allowed : Rights → Aid → List Aid → ℕ → Bool
index_allowed r g es k = admits r (slot_aid es g (slot_of k))

-- of whatever policy stands at i, and whatever domains at u
abbrev OfBoth : Bytes → ℕ → ℕ → Bytes → ℕ → (Policy → List Aid → Type 0) → Type 0
OfBoth s d i t u q = OfPolicy s d i λ p. OfDomains t u λ es. q p es

-- two policies that are not FF: each index of the second is asked
all_is : (s : Bytes) (d : ℕ) (e : Aid) (i : ℕ) (t : Bytes) (u : ℕ) (g : Aid) (v : ℕ) → (get_or s i 0 ≡ 255 → ⊥) → (get_or t v 0 ≡ 255 → ⊥) → (b : Bool) →
    (OfBoth s d i t u λ p es. all (index_allowed (meant e p) g es) (indexes_at t v) ≡ b) → AdmitsAllOf s d e i t u g v b
all_is s d e i t u g v n f b h ds j rd p q rp es k re o m ro =
    let x = only_list ds s i p q rp n in
    let y = only_list es t v o m ro f in
    let z =
    all_by_slot es g (λ a. admits (meant e p) (slot_aid es g a)) (admits (meant e p)) (λ a c. refl) (indexes_at t v) (map (item_means g) y.listed)
    (reads_slotted es g t (get_or t v 0) (v + 1) y.listed m (domains_length es k re) y.list)
    in
    let r : all (admits (meant e p)) (map (item_means g) y.listed) ≡ b = sym z ∙ h ds j rd p q rp es k re in
    sym (alls p o x.listed y.listed x.is y.is ∙ r)
  where
    alls : (p o : Policy) (xs ys : List Item) → only xs ≡ p → only ys ≡ o → admits_all_of (meant e p) (meant g o) ≡ all (admits (meant e p)) (map (item_means g) ys)
    alls p o xs ys y z = rw (← y, ← z)

-- the loop over the indexes of the policy at v, of a file of domain g: those from number k on are still to be asked
abbrev pub IndexLoop : Bytes → ℕ → Aid → ℕ → Bytes → ℕ → Aid → ℕ → ℕ → Type 0
IndexLoop s d e i t u g v k = OfBoth s d i t u λ p es.
    all (index_allowed (meant e p) g es) (indexes_at t v) ≡ all (index_allowed (meant e p) g es) (drop k (indexes_at t v))

module _ {s : Bytes} {d : ℕ} (e : Aid) {i : ℕ} {t : Bytes} {u : ℕ} (g : Aid) (v : ℕ) where
  pub indexes_start : IndexLoop s d e i t u g v 0
  indexes_start ds j rd p f rp es k re = refl

  module _ (o : ListOver t u v) {k : ℕ} (w : IndexLoop s d e i t u g v k) where
    -- what the index at hand means is allowed, as was told
    module _ (h : k < length (indexes_at t v)) (y : Aid) (z : SlotIs t u g (slot_of (get_or (indexes_at t v) k 0)) y) where
      asked : (b : Bool) → Admits s d e i y b → OfBoth s d i t u λ p es. index_allowed (meant e p) g es (get_or (indexes_at t v) k 0) ≡ b
      asked b q ds j rd p f rp es m re = sym (q ds j rd p f rp ∙ ap (admits (meant e p)) (z es m re (slots_here o es m re k h)))

      pub all_hit : (get_or s i 0 ≡ 255 → ⊥) → Admits s d e i y false → AdmitsAllOf s d e i t u g v false
      all_hit n q = all_is s d e i t u g v n o.1 false λ ds j rd p f rp es m re.
          w ds j rd p f rp es m re ∙ all_fails (indexes_at t v) (index_allowed (meant e p) g es) k h (asked false q ds j rd p f rp es m re)

      pub all_miss : Admits s d e i y true → IndexLoop s d e i t u g v (k + 1)
      all_miss q ds j rd p f rp es m re =
          w ds j rd p f rp es m re ∙ all_passes (indexes_at t v) (index_allowed (meant e p) g es) k h (asked true q ds j rd p f rp es m re)

    pub all_none : (get_or s i 0 ≡ 255 → ⊥) → length (indexes_at t v) ≤ k → AdmitsAllOf s d e i t u g v true
    all_none n h = all_is s d e i t u g v n o.1 true λ ds j rd p f rp es m re.
        w ds j rd p f rp es m re ∙ all_end (indexes_at t v) (index_allowed (meant e p) g es) k h
