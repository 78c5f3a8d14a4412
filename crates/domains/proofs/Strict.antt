-- The kind of a domain, by the place that the table has for its AID. Assumes nothing.
use Prim.Native.Nat.{ℕ}
use native.Mathlib.Omega.{arith}
use native.Mathlib.Decide.{dec_le, ℕ_discrete}
use mathlib.Core.Path.{◌≡◌, refl, sym, ◌∙◌, ap, subst}
use mathlib.Core.Bool.{Bool, true, false}
use mathlib.Core.List.{List}
use mathlib.Core.Option.{some, some-injective}
use lib.Dec.{T}
use lib.ListN.{get_or}
use Rattle.rules.specs.Bytes.{Bytes, Aid, any, same}
use Rattle.rules.specs.Store.{full, without_int, Entry, domain, loaded, first_entry}
use Rattle.rules.specs.Questions.{keeps_subset}
use Rattle.rules.proofs.Tests.{none_some, of_true, is_true, same_eq, same_refl}
use Rattle.store.specs.Entries.{kind_at, EntryAt, Entries, is_without_int}
use Rattle.store.proofs.Stand.{KindBy, domain_by, loaded_by, entry_by, kind_by, entry_one}
use Rattle.store.proofs.Asked.{subset_any}
use Rattle.store.proofs.Checks.{other_kind, third_kind}
use Rattle.sorted.specs.Sorted.{below, key_at, place_at, Has, Sorted}
use Rattle.sorted.proofs.Order.{below_self}
use Rattle.index.specs.Index.{TableOf}
use Rattle.index.proofs.Entered.{FoundThere, stood_any, any_stood}
use Rattle.index.proofs.Tables.{found_has}
use Rattle.domains.specs.Domains.{domain_key}

-- one place has an AID
has_one : (s : Bytes) (l : List ℕ) → Sorted s l → (p q : ℕ) → Has l p → Has l q → key_at s p ≡ key_at s q → p ≡ q
has_one s l t p q (i, b, e) (j, c, f) k = elim (ℕ_discrete i j) [
  | yes z ↦ sym e ∙ ap (place_at l) z ∙ f
  | no z ↦ elim (dec_le i j) [
    | yes h ↦ absurd (not_below (ap (key_at s) e ∙ k ∙ ap (key_at s) (sym f)) (t.order i j (omega arith) c))
    | no h ↦ absurd (not_below (ap (key_at s) f ∙ sym k ∙ ap (key_at s) (sym e)) (t.order j i (omega arith) b))
  ]
]
  where
    not_below : {a b : Aid} → a ≡ b → below a b ≡ true → ⊥
    not_below {a} {b} z h = subst T (sym (sym (below_self b) ∙ subst (λ (x : Aid). below x b ≡ true) z h)) tt

-- a domain of kind 3 with an AID has the AID for its key
strict_key : (a : Aid) (e : Entry) → is_without_int a e ≡ true → domain_key e ≡ some a
strict_key a (domain full b) h = let z : ◌≡◌ {A = ℕ} 0 1 = cc in absurd (omega arith)
strict_key a (domain without_int b) h = ap some (sym (same_eq a b (of_true h)))
strict_key a (loaded d f) h = let z : ◌≡◌ {A = ℕ} 0 1 = cc in absurd (omega arith)

-- a domain's entry, by its key and its kind byte
key_entry : (s : Bytes) (p : ℕ) (a : Aid) (e : Entry) (j : ℕ) → EntryAt s p e j → domain_key e ≡ some a → e ≡ domain (kind_at s p) a
key_entry s p a (domain k b) j t h = go (kind_by s p (domain k b) j (entry_by s p (domain k b) j t))
  where
    z : b ≡ a
    z = some-injective _ _ h

    go : KindBy s p (domain k b) j → domain k b ≡ domain (kind_at s p) a
    go (domain_by x) = let e = x.is in cc
    go (loaded_by x) = let e = x.is in let y : ◌≡◌ {A = ℕ} 0 1 = cc in absurd (omega arith)
key_entry s p a (loaded d f) j t h = absurd (none_some h)

module _ (s : Bytes) (at : ℕ) (l : List ℕ) (t : TableOf domain_key s at l) (a : Aid) (q : ℕ) (h : Has l q × (key_at s q ≡ a)) where
  -- the entry at that place
  here : EntryAt s q (domain (kind_at s q) a) (t.only q h.0).next
  here =
      let o = t.only q h.0 in
      subst (λ (e : Entry). EntryAt s q e o.next) (key_entry s q a o.one o.next o.stood.stands (o.named ∙ ap some h.1)) o.stood.stands

  pub found_strict : get_or s q 0 ≡ 3 → (pre : List Entry) → Entries s (first_entry s) pre at → keeps_subset pre a ≡ true
  found_strict n pre r =
      let o = t.only q h.0 in
      let e = key_entry s q a o.one o.next o.stood.stands (o.named ∙ ap some h.1) in
      subset_any a pre ∙ stood_any (is_without_int a) pre r o.stood (ap (is_without_int a) e ∙ sym (third_kind s q a a n) ∙ is_true (same a a) (same_refl a))

  pub found_full : (get_or s q 0 ≡ 3 → ⊥) → (pre : List Entry) → Entries s (first_entry s) pre at → keeps_subset pre a ≡ false
  found_full n pre r = subset_any a pre ∙ go (any (is_without_int a) pre) refl
    where
      -- another place with this AID is this one
      clash : FoundThere (is_without_int a) s at pre → ⊥
      clash y =
          let x = found_has domain_key s at l t a (is_without_int a) (strict_key a) pre y in
          let p : y.from ≡ q = has_one s l t.sorted y.from q x.0 h.0 (x.1 ∙ sym h.1) in
          let w : EntryAt s q y.one y.to = subst (λ (i : ℕ). EntryAt s i y.one y.to) p y.stood.stands in
          let e = (entry_one s q y.one (domain (kind_at s q) a) y.to (t.only q h.0).next w here).0 in
          subst T (sym (other_kind s q a a n ∙ sym (ap (is_without_int a) e) ∙ y.found)) tt

      go : (b : Bool) → any (is_without_int a) pre ≡ b → any (is_without_int a) pre ≡ false
      go false e = e
      go true e = absurd (clash (any_stood (is_without_int a) s at pre r e))
