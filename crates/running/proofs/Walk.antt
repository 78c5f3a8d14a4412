-- The walk over a class and its ancestors, and the bits of those that passed. Assumes nothing.
use Prim.Native.Nat.{ℕ, suc, ◌+◌, ◌*◌, ◌/◌, ◌≤◌, ◌<◌}
use native.Mathlib.Omega.{arith}
use native.Mathlib.Decide.{dec_le}
use mathlib.Core.Path.{◌≡◌, refl, sym, ◌∙◌, ap, subst}
use mathlib.Core.Bool.{true, false, ◌||◌}
use mathlib.Core.Logic.{◌⊎◌, inl, inr}
use mathlib.Core.List.Memᴰ
use mathlib.Core.List.{List, [], ◌∷◌, Memᴰ}
use mathlib.Core.Option.{some, some-injective}
use lib.Dec.{eqb}
use lib.ListN.{length}
use borrow.Author.Tests.{ne_eqb}
use Rattle.rules.specs.Bytes.{Bytes, at, list_of}
use Rattle.rules.specs.Package.{ClassNumber, Class}
use Rattle.rules.specs.Store.{Entry, first_entry, store_limits}
use Rattle.rules.specs.Classes.{Installed, installed, ClassAt, record_of, class_named, parents_of}
use Rattle.rules.specs.Questions.{own}
use Rattle.rules.specs.Running.{running_allows}
use Rattle.rules.specs.Paths.{IsOrBelow, itself, below}
use Rattle.rules.proofs.Tests.{flat_mem_is, list_of_mem}
use Rattle.rules.proofs.Bounds.{flat_mem}
use Rattle.rules.proofs.Lists.{at_mem, at_below, same_or_not}
use Rattle.bits.specs.Bits.{bit_at, with_bit}
use Rattle.store.proofs.Stand.{entries_to}
use Rattle.homes.specs.Homes.{HomeIs}
use Rattle.homes.specs.declared.Home.{Home}
use Rattle.homes.proofs.Homes.{home_below}
use Rattle.classes.specs.Say.{CountIs, rank, NamedAt, ParentIs}
use Rattle.classes.specs.declared.ClassSpot.{ClassSpot}
use Rattle.running.specs.Say.{RunningIn, WalkThere, MethodsPass, Passes, ClassPasses}
use Rattle.running.specs.Walk.{SeenPass, FirstPass, ParentsPass}
use Rattle.classes.specs.Keys.{key, seen_length}
use Rattle.classes.proofs.Keys.{key_small, key_one}
use Rattle.classes.proofs.Records.{at_split}

-- a member of a list has a number
mem_number : {A : Type 0} (x : A) (xs : List A) → Memᴰ x xs → (i : ℕ) × (at xs i ≡ some x)
mem_number x xs (Memᴰ.head e) = (0, ap some (sym e))
mem_number x xs (Memᴰ.tail {xs = ys} m) = let r = mem_number x ys m in (suc r.0, r.1)

pub mem_at : {A : Type 0} (xs : List A) (x : A) → Memᴰ x xs → (i : ℕ) × (at xs i ≡ some x)
mem_at xs x = mem_number x xs

-- a class that a file names as a parent is a parent, and the other way
named_parent : (is : List Installed) (c : ClassAt) (k : Class) → record_of c ≡ some k → (p : ClassNumber) → Memᴰ p k.parents → (d : ClassAt) →
    class_named is c.home p ≡ some d →
    Memᴰ d (parents_of is c)
named_parent is c k e p m d q = rw e (flat_mem (λ x. list_of (class_named is c.home x) (λ c. c ∷ [])) p d k.parents m (rw q (Memᴰ.head refl)))

parent_named_is : (is : List Installed) (c : ClassAt) (k : Class) → record_of c ≡ some k → (d : ClassAt) → Memᴰ d (parents_of is c) →
    (p : ClassNumber) × Memᴰ p k.parents × (class_named is c.home p ≡ some d)
parent_named_is is c k e d m =
    let a = list_of_mem (record_of c) _ d m in
    let z : a.0 ≡ k = some-injective _ _ (sym a.1 ∙ e) in
    let b = flat_mem_is _ a.0.parents d a.2 in
    let t = list_of_mem (class_named is c.home b.0) _ d b.2 in
    let y : d ≡ t.0 = Memᴰ.eq_of_singleton t.2 in
    (b.0, subst (λ (v : Class). Memᴰ b.0 v.parents) z b.1, t.1 ∙ ap some (sym y))

-- a class is an ancestor of another: the same, or above a parent
below_cases : (is : List Installed) (c a : ClassAt) → IsOrBelow is c a → (c ≡ a) ⊎ ((d : ClassAt) × Memᴰ d (parents_of is c) × IsOrBelow is d a)
below_cases is c a itself = inl refl
below_cases is c a (below {c = d} m r) = inr (d, m, r)

module _ (f s : Bytes) (end d b : ℕ) (h : Home) (n : ℕ) where
  -- the class's own methods do not all pass
  pub class_no : MethodsPass f s end d b h n false → ClassPasses f s end d b h n false
  class_no q es self r x o k e = (record { home = x; number = n }, itself, sym (q es self r x o k e))

  -- a parent does not pass
  pub class_parent_no : ParentsPass f s end d b h n false → ClassPasses f s end d b h n false
  class_parent_no q es self r x o k e =
      let t = q es self r x o k e in
      let u = t.5 in (
        u.0,
        below (named_parent (installed (store_limits s) es) (record { home = x; number = n }) k e t.1 (at_mem k.parents t.0 t.1 t.2)
            t.3 t.4) u.1,
        u.2,
      )

  -- all pass
  pub class_yes : MethodsPass f s end d b h n true → ParentsPass f s end d b h n true → ClassPasses f s end d b h n true
  class_yes m p es self r x o k e a w = go (below_cases (installed (store_limits s) es) (record { home = x; number = n }) a w)
    where
      go : (record { home = x; number = n } ≡ a) ⊎ ((g : ClassAt) × Memᴰ g
          (parents_of (installed (store_limits s) es) (record { home = x; number = n })) × IsOrBelow (installed (store_limits s) es) g a) →
          running_allows (store_limits s) (installed (store_limits s) es) (own self b) a ≡ true
      go (inl z) = subst (λ (c : ClassAt). running_allows (store_limits s) (installed (store_limits s) es) (own self b) c ≡ true) z (sym (m es self r x o k e))
      go (inr u) =
          let y = parent_named_is (installed (store_limits s) es) (record { home = x; number = n }) k e u.0 u.1 in
          let i = mem_at k.parents y.0 y.1 in
          p es self r x o k e i.0 y.0 i.1 u.0 y.2 a u.2

  module _ (t : WalkThere f s end d b h n) where
    -- the class's home stands where the entries end, or before
    pub walk_below : h.before ≤ end
    walk_below = home_below f s end t.entries t.self t.asked.running.judged.parents.imported.setting h t.pack t.home

    -- its bit
    key_low : key h n ≤ end * 3 / 11 + 31
    key_low = key_small f s end t.entries t.self t.asked.running.judged.parents.imported.setting h t.pack t.home n t.class t.is

    end_inside : end ≤ length s
    end_inside = (entries_to s (first_entry s) t.entries end t.asked.running.judged.parents.imported.setting.stand).1

    pub key_few : length s ≤ 65535 → key h n ≤ 17905
    key_few z = omega (arith, key_low, end_inside)

    pub key_inside : (l : ℕ) → seen_length s ≤ l → key h n / 8 < l
    key_inside l z = omega (arith, key_low, end_inside)

  -- a class that was seen
  module _ (seen : Bytes) (m : SeenPass f s end d b seen) where
    pub class_seen : bit_at seen (key h n) ≡ true → ClassPasses f s end d b h n true
    class_seen e = m.hold h n e

    -- one more
    pub seen_more : WalkThere f s end d b h n → ClassPasses f s end d b h n true → (new : Bytes) → length new ≡ length seen →
        ((j : ℕ) → bit_at new j ≡ with_bit (bit_at seen) (key h n) j) →
        SeenPass f s end d b new
    unfolding with_bit
    seen_more t p new z w = record {
      room = omega (arith, m.room);
      hold = λ g l e es self r x o k q. hold g l (sym (w (key g l)) ∙ e) es self r x o k q (same_or_not (key g l) (key h n));
    }
      where
        hold : (g : Home) (l : ℕ) → (eqb (key g l) (key h n) || bit_at seen (key g l)) ≡ true → (es : List Entry) (self : Installed) → RunningIn f s end d b es
            self →
            (x : Installed) → HomeIs f s end es self g x → (k : Class) → at x.pack.classes l ≡ some k →
            (key g l ≡ key h n) ⊎ (key g l ≡ key h n → ⊥) → Passes (store_limits s) (installed (store_limits s) es) self b (record { home = x; number = l })
        hold g l e es self r x o k q (inr v) =
            let u : eqb (key g l) (key h n) ≡ false = ne_eqb (key g l) (key h n) v in
            m.hold g l (rw u at e) es self r x o k q
        hold g l e es self r x o k q (inl v) =
            let y = key_one f s end es t.entries self t.self r.running.judged.parents.imported.setting
            t.asked.running.judged.parents.imported.setting g h x t.pack o t.home l n k t.class q t.is v in
            subst (λ (i : ℕ). Passes (store_limits s) (installed (store_limits s) es) self b (record { home = x; number = i })) (sym y.1)
            (p es self r x (subst (λ (a : Home). HomeIs f s end es self a x) y.0 o) k (subst (λ (i : ℕ). at x.pack.classes i ≡ some k) y.1 q))

  -- parents: so far none was asked
  pub first_none : FirstPass f s end d b h n 0
  first_none es self r x o k e j w = absurd (omega arith)

  -- all were
  pub first_all : (count i : ℕ) → CountIs f s h n count → count ≤ i → FirstPass f s end d b h n i → ParentsPass f s end d b h n true
  first_all count i q z w es self r x o k e j p at_j = w es self r x o k e j
      (omega (arith, q end es self r.running.judged x o k e, at_below k.parents j p at_j)) p at_j

  -- parent i
  module _ (count i : ℕ) (q : CountIs f s h n count) (z : i < count) (c : ClassSpot) (p : ParentIs f s h n i c) where
    -- where it stands
    named_of : (t : WalkThere f s end d b h n) → (p : ClassNumber) × NamedAt f s end t.entries t.self t.pack p c ×
        (rank c.home c.number < rank h n)
    named_of t =
        let j = t.asked.running.judged in
        let m = at_split t.class.parents i (omega (arith, q end t.entries t.self j t.pack t.home t.class t.is)) in
        let w = p end t.entries t.self j t.pack t.home t.class t.is m.0 m.1 in
        (m.0, w.0, w.1)

    pub parent_walk : WalkThere f s end d b h n → WalkThere f s end d b c.home c.number
    parent_walk t =
        let w = (named_of t).1 in
        record { entries = t.entries; self = t.self; asked = t.asked; pack = w.pack; home = w.home; class = w.class; is = w.is }

    pub parent_rank : WalkThere f s end d b h n → rank c.home c.number < rank h n
    parent_rank t = (named_of t).2

    -- it does not pass
    pub parents_no : ClassPasses f s end d b c.home c.number false → ParentsPass f s end d b h n false
    parents_no w es self r x o k e =
        let m = at_split k.parents i (omega (arith, q end es self r.running.judged x o k e)) in
        let u = (p end es self r.running.judged x o k e m.0 m.1).0 in
        (i, m.0, m.1, record { home = u.pack; number = c.number }, u.named, w es self r u.pack u.home u.class u.is)

    -- it passes, as those before it
    pub first_more : ClassPasses f s end d b c.home c.number true → FirstPass f s end d b h n i → FirstPass f s end d b h n (i + 1)
    first_more y w es self r x o k e j less p' at_j g named = elim (dec_le i j) [
      | no a ↦ w es self r x o k e j (omega arith) p' at_j g named
      | yes a ↦
          let last : j ≡ i = omega arith in
          let u = (p end es self r.running.judged x o k e p' (subst (λ (j : ℕ). at k.parents j ≡ some p') last at_j)).0 in
          let same : record { home = u.pack; number = c.number } ≡ g = some-injective _ _ (sym u.named ∙ named) in
          subst (λ (a : ClassAt). Passes (store_limits s) (installed (store_limits s) es) self b a) same (y es self r u.pack u.home u.class u.is)
    ]
