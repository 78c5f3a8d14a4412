-- All that the caller's policy lists, looked for in the list of what is called where no bit tells it. Assumes nothing.
use Prim.Native.Nat.{ℕ, ◌+◌, ◌≤◌, ◌<◌}
use native.Mathlib.Omega.{arith}
use mathlib.Core.Path.{◌≡◌, refl, sym, ◌∙◌, ap, subst}
use mathlib.Core.Bool.{Bool, true, false}
use mathlib.Core.List.{List, [], ◌∷◌, ◌++◌, map}
use lib.ListN.{length, drop, get_or}
use Rattle.rules.specs.Bytes.{Bytes, Aid, all, u1, aid, counted}
use Rattle.rules.specs.Package.{most_domains, Item, Policy, only}
use Rattle.rules.specs.Classes.{item_means, meant, admits, admits_all_of}
use Rattle.places.proofs.Inverse.{reads_same}
use Rattle.policies.specs.Say.{own_slot, slot_of, slot_aid, IsSlot, indexes_at, HasSlot, OfPolicy}
use Rattle.policies.specs.Numbers.{number_in, OfDomains}
use Rattle.policies.specs.Rows.{has_bit, with_bit, Known, Tells, NumberKept, own_lists}
use Rattle.policies.specs.declared.TwoLists.{TwoLists}
use Rattle.policies.proofs.Slots.{aid_own, aid_domain, slot_below, slot_most}
use Rattle.policies.proofs.Numbers.{domain_in, domains_length}
use Rattle.policies.proofs.Indexes.{all_fails, all_passes, all_end}
use Rattle.policies.proofs.Rules.{only_list}
use Rattle.policies.proofs.Compared.{reads_slotted, all_by_slot}
use Rattle.coverage.specs.Covers.{TellsOf, WantedKept, Both, BitsSure, AllKept}
use Rattle.coverage.specs.declared.Listing.{Listing}
use Rattle.coverage.proofs.Sure.{numbers_few, sure_more}

-- a slot, whatever list is read
has_slot : {f : Bytes} {u k : ℕ} → HasSlot f u k → OfDomains f u λ ds. IsSlot ds k
has_slot {f} {u} {k} h ds j rd = rw (← (reads_same (counted most_domains u1 aid) f u h.0 ds h.1 j h.2 rd).0) h.3

module _ (f : Bytes) (d : Aid) (g : Bytes) (e : Aid) (l : TwoLists) (p : Listing) where
  -- what an index of the caller's policy stands for is allowed
  abbrev index_allowed : Policy → List Aid → ℕ → Bool
  index_allowed q ds i = admits (meant e q) (slot_aid ds d (slot_of i))

  -- where the policy called allows the loading domain, of whatever the lists are
  abbrev WhereLoading : (Policy → List Aid → Type 0) → Type 0
  WhereLoading s = OfPolicy g l.other p.called λ q. OfDomains f l.own λ ds. admits (meant e q) d ≡ true → s q ds

  -- the loop over the indexes of the caller's policy: those from number c on are still to be asked
  abbrev pub AllLoop : List ℕ → List ℕ → ℕ → ℕ → Type 0
  AllLoop x y bits c = Both f d g e l x y (BitsSure f d g e l p.called p.bits → BitsSure f d g e l p.called bits
      × WhereLoading λ q ds. all (index_allowed q ds) (indexes_at f p.caller) ≡ all (index_allowed q ds) (drop c (indexes_at f p.caller)))

  pub all_start : (x : List ℕ) → AllLoop x x p.bits 0
  all_start x = record { known = λ w t o k. k; holds = λ w t o k s. (s, λ gs j rg q c rq ds i rd a. refl) }

  -- what is told of all indexes is told of the caller's policy
  all_answer_lem : (b : Bool) → (get_or g p.called 0 ≡ 255 → ⊥) → (get_or f p.caller 0 ≡ 255 → ⊥) →
      (WhereLoading λ q ds. all (index_allowed q ds) (indexes_at f p.caller) ≡ b) →
      OfPolicy g l.other p.called λ q. OfPolicy f l.own p.caller λ o. admits (meant e q) d ≡ true → b ≡ admits_all_of (meant e q) (meant d o)
  all_answer_lem b nc nr h gs j rg q u rq ds i rd o c ro v =
      let called = only_list gs g p.called q u rq nc in
      let caller = only_list ds f p.caller o c ro nr in
      let z =
      all_by_slot ds d (λ k. admits (meant e q) (slot_aid ds d k)) (admits (meant e q)) (λ k s. refl) (indexes_at f p.caller)
      (map (item_means d) caller.listed)
      (reads_slotted ds d f (get_or f p.caller 0) (p.caller + 1) caller.listed c (domains_length ds i rd) caller.list)
      in
      let r : all (admits (meant e q)) (map (item_means d) caller.listed) ≡ b = sym z ∙ h gs j rg q u rq ds i rd v in
      sym (alls called.listed caller.listed called.is caller.is ∙ r)
    where
      alls : (xs ys : List Item) → only xs ≡ q → only ys ≡ o → admits_all_of (meant e q) (meant d o) ≡ all (admits (meant e q)) (map (item_means d) ys)
      alls xs ys y z = rw (← y, ← z)

  module _ (x y : List ℕ) (bits c : ℕ) (s : AllLoop x y bits c) where
    -- the slot k of the index at hand
    module _ (k : ℕ) (here : k ≡ slot_of (get_or (indexes_at f p.caller) c 0)) (a : HasSlot f l.own k) (h : c < length (indexes_at f p.caller)) where
      -- FE: the loading domain
      pub all_own : own_slot ≤ k → AllLoop x y bits (c + 1)
      all_own z = record {
        known = s.known;
        holds = λ w t o r u.
            let i' = s.holds w t o r u in (
              i'.0,
              λ gs j rg q v rq ds i rd a'.
                  i'.1 gs j rg q v rq ds i rd a' ∙ all_passes (indexes_at f p.caller) (index_allowed q ds) c h (ap (admits (meant e q)) (loading ds i rd) ∙ a'),
            );
      }
        where
          loading : OfDomains f l.own λ ds. slot_aid ds d (slot_of (get_or (indexes_at f p.caller) c 0)) ≡ d
          loading ds i rd = rw (← here) (aid_own ds d k (omega (arith, slot_most ds k (has_slot a ds i rd))))

      -- a domain: its number, and what is told of it
      module _ {y₁ y₂ : List ℕ} (n : ℕ) {r : Bool} (below : k < own_slot) (kept : NumberKept f d f d (own_lists l.own) k y y₁ n)
          (q : WantedKept f g e l (record { index = k; number = n; policy = p.called }) bits y₁ y₂ r) where
        -- it is of the own list
        domain : OfDomains f l.own λ ds. slot_aid ds d k ≡ get_or ds k []
        domain ds i rd = aid_domain ds d k below

        short : OfDomains f l.own λ ds. k < length ds
        short ds i rd = (slot_below ds k (has_slot a ds i rd) (λ z. omega arith)).1

        number : (w : ℕ → ℕ) → Tells w f d g e l → Tells w f d f d (own_lists l.own) → Known w x →
            OfDomains f l.own λ ds. n ≡ number_in (ds ++ d ∷ []) (get_or ds k [])
        number w t o z ds i rd =
            kept.holds w o (s.known w t o z) ∙ o.number k ds i rd ds i rd (has_slot a ds i rd) ∙ ap (number_in (ds ++ d ∷ [])) (domain ds i rd)

        known : (w : ℕ → ℕ) → Tells w f d g e l → Tells w f d f d (own_lists l.own) → Known w x → Known w y₂
        known w t o z = q.known w told (kept.known w o (s.known w t o z))
          where
            told : OfDomains f l.own λ ds. TellsOf w g e l (get_or ds k []) n
            told ds i rd gs j rg v u m = number w t o z ds i rd ∙ ap (number_in (ds ++ d ∷ [])) (sym m) ∙ sym (t.number v ds i rd gs j rg u)

        -- whether it is allowed
        allowed : (w : ℕ → ℕ) → Tells w f d g e l → Tells w f d f d (own_lists l.own) → Known w x → BitsSure f d g e l p.called bits →
            OfPolicy g l.other p.called λ v. OfDomains f l.own λ ds. r ≡ admits (meant e v) (get_or ds k [])
        allowed w t o z m gs j rg v u rv ds i rd =
            let sure = m gs j rg v u rv ds i rd (get_or ds k []) (domain_in ds d k (short ds i rd)) in
            q.answer ds i rd gs j rg v u rv
            (subst (λ (j : ℕ). has_bit bits j ≡ true → admits (meant e v) (get_or ds k []) ≡ true) (sym (number w t o z ds i rd)) sure)

        -- and so the index
        index : (w : ℕ → ℕ) → Tells w f d g e l → Tells w f d f d (own_lists l.own) → Known w x → BitsSure f d g e l p.called bits →
            OfPolicy g l.other p.called λ v. OfDomains f l.own λ ds. index_allowed v ds (get_or (indexes_at f p.caller) c 0) ≡ r
        index w t o z m gs j rg v u rv ds i rd =
            rw (← here) (ap (admits (meant e v)) (domain ds i rd) ∙ sym (allowed w t o z m gs j rg v u rv ds i rd))

        pub all_not : r ≡ false → (get_or g p.called 0 ≡ 255 → ⊥) → (get_or f p.caller 0 ≡ 255 → ⊥) → AllKept f d g e l p x y₂ false
        all_not z nc nr = record {
          known = known;
          holds = λ w t o m u. all_answer_lem false nc nr λ gs j rg v i rv ds n rd a'.
              let i' = s.holds w t o m u in
              i'.1 gs j rg v i rv ds n rd a' ∙ all_fails (indexes_at f p.caller) (index_allowed v ds) c h (index w t o m i'.0 gs j rg v i rv ds n rd ∙ z);
        }

        pub all_more : r ≡ true → AllLoop x y₂ (with_bit bits n) (c + 1)
        all_more z = record {
          known = known;
          holds = λ w t o m u.
              let i' = s.holds w t o m u in (
                λ gs j rg v i rv ds n' rd y' mem.
                    let yes' = sym (allowed w t o m i'.0 gs j rg v i rv ds n' rd) ∙ z in
                    sure_more (ds ++ d ∷ []) bits n (get_or ds k []) (meant e v) (numbers_few d ds n' rd) (domain_in ds d k (short ds n' rd))
                    (number w t o m ds n' rd) yes' y' mem
                    (i'.0 gs j rg v i rv ds n' rd y' mem),
                λ gs j rg v i rv ds n' rd a'.
                    i'.1 gs j rg v i rv ds n' rd a' ∙ all_passes (indexes_at f p.caller) (index_allowed v ds) c h (index w t o m i'.0 gs j rg v i rv ds n' rd ∙ z),
              );
        }

    pub all_done : length (indexes_at f p.caller) ≤ c → (get_or g p.called 0 ≡ 255 → ⊥) → (get_or f p.caller 0 ≡ 255 → ⊥) → AllKept f d g e l p x y true
    all_done h nc nr = record {
      known = s.known;
      holds =
          λ w t o m u. all_answer_lem true nc nr λ gs j rg v i rv ds n rd a'.
          (s.holds w t o m u).1 gs j rg v i rv ds n rd a' ∙ all_end (indexes_at f p.caller) (index_allowed v ds) c h;
    }
