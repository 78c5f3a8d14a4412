-- Tables of the entries that have an AID under a key: an empty one, one behind an entry more, and what is found in one. Assumes nothing.
use Prim.Native.Nat.{ℕ, ◌≤◌, ◌<◌}
use native.Mathlib.Omega.{arith}
use mathlib.Core.Path.{◌≡◌, refl, sym, ◌∙◌, ap, subst}
use mathlib.Core.Bool.{Bool, true, false}
use mathlib.Core.List.{List, [], ◌∷◌, ◌++◌}
use mathlib.Core.Logic.{◌⊎◌, inl, inr}
use mathlib.Core.Option.{Option, none, some, some-injective}
use lib.ListN.{length}
use Rattle.rules.specs.Bytes.{Bytes, Aid, any}
use Rattle.rules.specs.Store.{Entry, first_entry}
use Rattle.rules.proofs.Tests.{none_some}
use Rattle.store.specs.Entries.{EntryAt, Entries, over}
use Rattle.store.proofs.Stand.{entry_one, entry_later, entries_more}
use Rattle.sorted.specs.Sorted.{key_at, count, Has, EnteredNew}
use Rattle.index.specs.Index.{Stood, KeyedOf, TableOf}
use Rattle.index.proofs.Entered.{FoundThere, stood_inside, stood_more, stood_cases, stood_any, any_stood}

-- a table of no places, before the first entry
pub table_start : (key : Entry → Option Aid) (s : Bytes) (l : List ℕ) → first_entry s ≤ length s → 0 < length l → count l ≡ 0 → TableOf key s (first_entry s) l
table_start key s l h g e = record {
  behind = ([], over h);
  sorted = record { size = omega arith; keyed = λ k m. absurd (omega arith); order = λ i j m n. absurd (omega arith) };
  only = λ p x. absurd (nothing x.0 x.1);
  all = λ p o j a t k. absurd (never t);
}
  where
    nothing : (k : ℕ) → k < count l → ⊥
    nothing k m = omega arith

    never : {p : ℕ} {o : Entry} {j : ℕ} → Stood s (first_entry s) p o j → ⊥
    never t = let m = stood_inside t in omega (arith, m.0, m.1, m.2)

module _ (key : Entry → Option Aid) (s : Bytes) (at next : ℕ) (one : Entry) (l : List ℕ) (t : TableOf key s at l) (u : EntryAt s at one next) where
  later : at ≤ next
  later = omega (arith, entry_later s at one next u)

  keyed_more : {p : ℕ} → KeyedOf key s at p → KeyedOf key s next p
  keyed_more o = record { one = o.one; next = o.next; stood = stood_more next later o.stood; named = o.named }

  abbrev Cases : ℕ → Entry → ℕ → Type 0
  Cases p e j = Stood s at p e j ⊎ ((p ≡ at) × (e ≡ one) × (j ≡ next))

  -- behind an entry without an AID under the key it is the same table
  pub table_other : key one ≡ none → TableOf key s next l
  table_other h = record {
    behind = (t.behind.0 ++ one ∷ [], entries_more s (first_entry s) t.behind.0 at one next t.behind.1 u);
    sorted = t.sorted;
    only = λ p x. keyed_more (t.only p x);
    all = λ p e j a w k. all p e j a k (stood_cases at next one t.behind u w);
  }
    where
      all : (p : ℕ) (e : Entry) (j : ℕ) (a : Aid) → key e ≡ some a → Cases p e j → Has l p
      all p e j a k (inl w) = t.all p e j a w k
      all p e j a k (inr w) = absurd (none_some (sym h ∙ ap key (sym w.1) ∙ k))

  -- one with an AID is entered
  pub table_more : (m : List ℕ) → key one ≡ some (key_at s at) → EnteredNew s l m at → TableOf key s next m
  table_more m h n = record {
    behind = (t.behind.0 ++ one ∷ [], entries_more s (first_entry s) t.behind.0 at one next t.behind.1 u);
    sorted = n.sorted;
    only = λ p x. only p (n.from p x);
    all = λ p e j a w k. all p e j a k (stood_cases at next one t.behind u w);
  }
    where
      only : (p : ℕ) → (p ≡ at) ⊎ Has l p → KeyedOf key s next p
      only p (inl e) =
          subst (KeyedOf key s next) (sym e)
          (record { one = one; next = next; stood = record { behind = t.behind; stands = u; to = omega arith }; named = h })
      only p (inr x) = keyed_more (t.only p x)

      all : (p : ℕ) (e : Entry) (j : ℕ) (a : Aid) → key e ≡ some a → Cases p e j → Has m p
      all p e j a k (inl w) = n.kept p (t.all p e j a w k)
      all p e j a k (inr w) = subst (Has m) (sym w.0) n.has

-- a test that finds the entries with an AID, and a table of these
module _ (key : Entry → Option Aid) (s : Bytes) (end : ℕ) (l : List ℕ) (t : TableOf key s end l) (a : Aid) (q : Entry → Bool) where
  -- an entry that the test finds is in the table, with this AID
  pub found_has : ((e : Entry) → q e ≡ true → key e ≡ some a) → (es : List Entry) → (y : FoundThere q s end es) → Has l y.from × (key_at s y.from ≡ a)
  found_has finds es y = (here, is (t.only y.from here))
    where
      named : key y.one ≡ some a
      named = finds y.one y.found

      here : Has l y.from
      here = t.all y.from y.one y.to a y.stood named

      is : KeyedOf key s end y.from → key_at s y.from ≡ a
      is o =
          let z = (entry_one s y.from o.one y.one o.next y.to o.stood.stands y.stood.stands).0 in
          some-injective _ _ (sym o.named ∙ ap key z ∙ named)

  -- none is in the table
  pub found_none : ((e : Entry) → q e ≡ true → key e ≡ some a) → ((p : ℕ) → Has l p → key_at s p ≡ a → ⊥) → (es : List Entry) →
      Entries s (first_entry s) es end → any q es ≡ false
  found_none finds miss es r = go (any q es) refl
    where
      go : (b : Bool) → any q es ≡ b → any q es ≡ false
      go false e = e
      go true e = let y = any_stood q s end es r e in let h = found_has finds es y in absurd (miss y.from h.0 h.1)

  -- one is
  pub found_any : ((e : Entry) → key e ≡ some a → q e ≡ true) → (p : ℕ) → Has l p → key_at s p ≡ a → (es : List Entry) → Entries s (first_entry s) es end →
      any q es ≡ true
  found_any has p h e es r = let o = t.only p h in stood_any q es r o.stood (has o.one (o.named ∙ ap some e))
