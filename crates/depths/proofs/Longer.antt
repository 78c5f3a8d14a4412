-- One entry more: a package among the entries stands before it or is its, and the depths of the earlier packages' classes are the same. Assumes nothing.
use Prim.Native.Nat.{ℕ, ◌+◌, ◌≤◌}
use native.Mathlib.Omega.{arith}
use mathlib.Core.Path.{◌≡◌, refl, sym, ◌∙◌, ap, ap₂, subst}
use mathlib.Core.Logic.{◌⊎◌, inl, inr}
use mathlib.Core.List.{List, [], ◌∷◌, ◌++◌, Memᴰ}
use lib.Dec.{T}
use lib.ListN.{length, length-append}
use Rattle.rules.specs.Bytes.{Bytes, is_some}
use Rattle.rules.specs.Package.{Limits}
use Rattle.rules.specs.Store.{Entry, loaded, entry_bytes, entries_bytes, first_entry, store_limits}
use Rattle.rules.specs.Classes.{Installed, installed_by, installed, has_aid, by_aid, ClassAt, depth_up_to}
use Rattle.rules.specs.Questions.{q13_imports}
use Rattle.rules.proofs.Tests.{all_mem, find_some}
use Rattle.rules.proofs.Lists.{flat_append}
use Rattle.rules.proofs.Bounds.{flat_mem}
use Rattle.rules.proofs.Reached.{depth_agree}
use Rattle.rules.proofs.Sound.{Sane, by_aid_more}
use Rattle.store.specs.Entries.{part, EntryAt, Entries}
use Rattle.store.proofs.Stand.{entry_next, entries_next}
use Rattle.homes.specs.Homes.{Stored}
use Rattle.homes.specs.declared.Home.{Home}

-- an entry among no entries
pub among_none : (pre : List Entry) (e : Entry) (post : List Entry) → [] ≡ pre ++ e ∷ post → ⊥
among_none pre e post z = let l : 0 ≡ length (pre ++ e ∷ post) = ap length z in omega (arith, l, length-append pre (e ∷ post))

-- lists by head and tail
head_same : {x y : Entry} {xs ys : List Entry} → x ∷ xs ≡ y ∷ ys → x ≡ y
head_same z = cc

tail_same : {x y : Entry} {xs ys : List Entry} → x ∷ xs ≡ y ∷ ys → xs ≡ ys
tail_same z = cc

cons_same : {x y : Entry} {xs ys : List Entry} → x ≡ y → xs ≡ ys → x ∷ xs ≡ y ∷ ys
cons_same p q = ap₂ (λ (v : Entry) (vs : List Entry). v ∷ vs) p q

-- an entry among some and one more: it is the last one, or one of the others
last_or : (e o : Entry) (es pre post : List Entry) → es ++ e ∷ [] ≡ pre ++ o ∷ post →
    ((pre ≡ es) × (o ≡ e)) ⊎ ((rest : List Entry) × (es ≡ pre ++ o ∷ rest))
last_or e o [] [] post z = inl (refl, sym (head_same z))
last_or e o [] (x ∷ pre) post z = absurd (among_none pre o post (tail_same z))
last_or e o (x ∷ es) [] post z = inr (es, cons_same (head_same z) refl)
last_or e o (x ∷ es) (y ∷ pre) post z = elim (last_or e o es pre post (tail_same z)) [
  | inl h ↦ inl (cons_same (sym (head_same z)) h.0, h.1)
  | inr h ↦ inr (h.0, cons_same (head_same z) h.1)
]

-- a package that stands before the last entry, or is its
pub data StoredOr (s : Bytes) (es : List Entry) (end : ℕ) (e : Entry) (next : ℕ) (h : Home) (x : Installed) : Type 0 where
  before : Stored s es h x → h.to ≤ end → StoredOr s es end e next h x
  last : loaded x.domain (part s h.from h.to) ≡ e → h.to ≡ next → StoredOr s es end e next h x

pub stored_or : (s : Bytes) (es : List Entry) (end : ℕ) (e : Entry) (next : ℕ) → Entries s (first_entry s) es end → EntryAt s end e next →
    (h : Home) (x : Installed) → Stored s (es ++ e ∷ []) h x → StoredOr s es end e next h x
stored_or s es end e next stand one h x t = elim (last_or e o es t.pre t.post t.are) [
  | inl z ↦ last z.1 (ends z.0 z.1)
  | inr z ↦ before (front z.0 z.1) (below z.0 z.1)
]
  where
    o : Entry
    o = loaded x.domain (part s h.from h.to)

    front : (rest : List Entry) → es ≡ t.pre ++ o ∷ rest → Stored s es h x
    front rest p =
        record { pre = t.pre; post = rest; are = p; stand = t.stand; entry = t.entry; reads = t.reads; inside = t.inside; order = t.order }

    to : h.before + length (entry_bytes o) ≡ h.to
    to = entry_next s h.before o h.to t.entry

    places : ((first_entry s) + length (entries_bytes es) ≡ end) × ((first_entry s) + length (entries_bytes t.pre) ≡ h.before)
    places = (entries_next s (first_entry s) es end stand, entries_next s (first_entry s) t.pre h.before t.stand)

    ends : t.pre ≡ es → o ≡ e → h.to ≡ next
    ends p q =
        let a : length (entries_bytes t.pre) ≡ length (entries_bytes es) = ap (λ (zs : List Entry). length (entries_bytes zs)) p in
        let b : length (entry_bytes o) ≡ length (entry_bytes e) = ap (λ (v : Entry). length (entry_bytes v)) q in
        omega (arith, a, b, places.0, places.1, to, entry_next s end e next one)

    below : (rest : List Entry) → es ≡ t.pre ++ o ∷ rest → h.to ≤ end
    below rest p =
        let a : length (entries_bytes es) ≡ length (entries_bytes t.pre ++ entries_bytes (o ∷ rest)) =
        ap (λ (zs : List Entry). length (entries_bytes zs)) p ∙ ap length (flat_append entry_bytes t.pre (o ∷ rest)) in
        let b = length-append (entries_bytes t.pre) (entries_bytes (o ∷ rest)) in
        omega (arith, a, b, length-append (entry_bytes o) (entries_bytes rest), places.0, places.1, to)

-- a stored package is installed
pub stored_mem : (s : Bytes) (es : List Entry) (h : Home) (x : Installed) → Stored s es h x → Memᴰ x (installed (store_limits s) es)
stored_mem s es h x t =
    let o : Entry = loaded x.domain (part s h.from h.to) in
    let a : Memᴰ o es = subst (λ (zs : List Entry). Memᴰ o zs) (sym t.are) (mathlib.Core.List.Memᴰ.append_right t.pre (mathlib.Core.List.Memᴰ.head refl)) in
    let b : Memᴰ x (installed_by (store_limits s) o) = rw t.reads (mathlib.Core.List.Memᴰ.head refl) in
    flat_mem (installed_by (store_limits s)) o x es a b

-- the depth of a class of a package whose imports are installed stays with more packages
pub depth_more : (l : Limits) (is js : List Installed) → Sane l is → (k : ℕ) (c : ClassAt) → T (q13_imports is c.home.pack) →
    depth_up_to is k c ≡ depth_up_to (is ++ js) k c
unfolding q13_imports
depth_more l is js s k c r = depth_agree is (is ++ js) (λ y. T (q13_imports is y.pack))
    (λ y q a m. by_aid_more is js a (all_mem (λ b. is_some (by_aid is b)) q m))
    (λ y q a m z e. s.imports z (find_some (has_aid a) is z e).0) k c r
