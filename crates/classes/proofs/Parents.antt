-- Parents where they stand: each exists, and its rank is smaller; the first of kind 0. Assumes nothing.
use Rattle.std.specs.Prelude.{Some, None}
use Prim.Native.Nat.{ℕ, zero, suc, ◌+◌, ◌*◌, ◌≤◌, ◌<◌}
use native.Mathlib.Omega.{arith}
use native.Mathlib.Numerals.{add-one}
use mathlib.Core.Path.{◌≡◌, refl, sym, ◌∙◌, ap, subst}
use mathlib.Core.Bool.{Bool, true, false}
use mathlib.Core.List.{List, [], ◌∷◌, ◌++◌, Memᴰ}
use mathlib.Core.Logic.{inl, inr}
use mathlib.Core.Option.{Option, none, some, some-injective}
use lib.Dec.{T}
use lib.ListN.{drop, get_or, drop_of_length-le}
use Rattle.rules.specs.Bytes.{Bytes, pick, at, find, is_some, some_and, ◌and_then◌}
use Rattle.rules.specs.Package.{Limits, ClassNumber, Class}
use Rattle.rules.specs.Store.{Entry, loaded, store_limits}
use Rattle.rules.specs.Classes.{Installed, installed_by, installed, by_aid, package_numbered, ClassAt, record_of, class_named, parents_named, is_kind0, kind0_parent}
use Rattle.rules.specs.Questions.{q13_imports, parent_exists}
use Rattle.rules.proofs.Tests.{and_l, all_mem, all_from_zero, none_some, some_and_is}
use Rattle.rules.proofs.Lists.{at_mem, flat_append, and_then_cong, some_is}
use Rattle.rules.proofs.Asked.{parents_yes}
use Rattle.rules.proofs.Sound.{by_aid_more}
use Rattle.store.specs.Entries.{part}
use Rattle.homes.specs.Homes.{Parents, HomeIs, NumberedIs, RecordIs}
use Rattle.homes.specs.Homes as homes
use Rattle.homes.specs.declared.Home.{Home}
use Rattle.homes.proofs.Homes.{stored_yes, parent_smaller}
use Rattle.classes.specs.Say.{Judged, ClassThere, AtClass, CountIs, ParentThere, rank, NamedAt, Nearer, ParentIs, Kind0Is, Kind0ParentIs}
use Rattle.classes.specs.declared.ClassSpot.{ClassSpot}
use Rattle.classes.proofs.Records.{record_front, at_split}

-- a package that a file names is found the same among more entries
package_more : (l : Limits) (es pre post : List Entry) → es ≡ pre ++ post → (x : Installed) → T (q13_imports (installed l pre) x.pack) → (k : ℕ) →
    package_numbered (installed l pre) x k ≡ package_numbered (installed l es) x k
unfolding q13_imports
package_more l es pre post are x q zero = refl
package_more l es pre post are x q (suc k) = and_then_cong (at x.pack.imports k) _ _ (λ a e.
    by_aid_more (installed l pre) (installed l post) a (all_mem (λ c. is_some (by_aid (installed l pre) c)) q (at_mem x.pack.imports k a e))
    ∙ ap (λ (is : List Installed). by_aid is a) (sym (flat_append (installed_by l) pre post) ∙ ap (installed l) (sym are)))

named_more : (l : Limits) (es pre post : List Entry) → es ≡ pre ++ post → (x : Installed) → T (q13_imports (installed l pre) x.pack) → (p : ClassNumber) →
    class_named (installed l pre) x p ≡ class_named (installed l es) x p
named_more l es pre post are x q p = ap (λ (o : Option Installed). o and_then λ i. some (record { home = i; number = p.class }))
    (package_more l es pre post are x q p.pack)

-- a class that a package names and that is there
pub record Exists (is : List Installed) (x : Installed) (p : ClassNumber) : Type 0 where
  pub class : ClassAt
  pub named : class_named is x p ≡ some class
  pub there : T (is_some (record_of class))

exists_is : (is : List Installed) (x : Installed) (n : ℕ) (p : ClassNumber) → T (parent_exists is x n p) → Exists is x p
exists_is is x n p h =
    let r = some_and_is (class_named is x p) (λ c. is_some (record_of c)) (and_l (some_and (class_named is x p) (λ c. is_some (record_of c))) _ h) in
    record { class = r.0; named = r.1; there = r.2 }

module _ (f s : Bytes) (end : ℕ) (es : List Entry) (self : Installed) where
  -- each parent exists, at any home
  pub parent_exists_lem : Parents f s end es self → (h : Home) (x : Installed) → HomeIs f s end es self h x → (n : ℕ) (k : Class) → at x.pack.classes n ≡
      some k →
      (p : ClassNumber) → Memᴰ p k.parents → Exists (installed (store_limits s) es) x p
  parent_exists_lem g _ _ homes.own n k e p m =
      exists_is (installed (store_limits s) es) self n p (all_mem _ (all_from_zero _ self.pack.classes n k g.exist e) m)
  parent_exists_lem g h x (homes.stored t) n k e p m =
      let y = stored_yes f s end es self g.imported.setting h x t in
      let q = (parents_yes (store_limits s) (installed (store_limits s) t.pre) (record { domain = x.domain; pack = x.pack }) y.inside.q14).exist in
      let r = exists_is (installed (store_limits s) t.pre) x n p (all_mem _ (all_from_zero _ x.pack.classes n k q e) m) in
      let z = named_more (store_limits s) es t.pre (loaded x.domain (part s h.from h.to) ∷ t.post) t.are x y.q13 p in
      record { class = r.class; named = sym z ∙ r.named; there = r.there }

  -- the class that a number and a home stand for
  named_at : (x y : Installed) (p : ClassNumber) (g : Home) (m : ℕ) → m ≡ p.class → HomeIs f s end es self g y → package_numbered
      (installed (store_limits s) es) x p.pack ≡ some y →
      Exists (installed (store_limits s) es) x p → NamedAt f s end es self x p (record { home = g; number = m })
  named_at x y p g m e o q r =
      let z : class_named (installed (store_limits s) es) x p ≡ some (record { home = y; number = m }) = rw (q, e) in
      let c : r.class ≡ record { home = y; number = m } = some-injective _ _ (sym r.named ∙ z) in
      let k = some_is (at y.pack.classes m) (subst (λ (d : ClassAt). T (is_some (record_of d))) c r.there) in
      record { pack = y; home = o; named = z; class = k.0; is = k.1 }

  pub parent_named : Judged f s end es self → (h : Home) (x : Installed) → HomeIs f s end es self h x → (n : ℕ) (k : Class) → at x.pack.classes n ≡ some k →
      (p : ClassNumber) → Memᴰ p k.parents → (g : Home) (m : ℕ) → m ≡ p.class → m < 256 → NumberedIs f s h p.pack (Some g) →
      NamedAt f s end es self x p (record { home = g; number = m }) × (rank g m < rank h n) × Nearer h g
  parent_named j h x o n k e p mem g m z small q = go p.pack refl q
    where
      go : (a : ℕ) → p.pack ≡ a → NumberedIs f s h a (Some g) → NamedAt f s end es self x p (record { home = g; number = m }) ×
          (rank g m < rank h n) × Nearer h g
      go zero w q =
          let same : g ≡ h = cc in
          let less : p.class < n = parent_smaller f s end es self j.parents h x o n k e p mem w in (
            named_at x x p g m z (subst (λ (v : Home). HomeIs f s end es self v x) (sym same) o) (rw w) (parent_exists_lem j.parents h x o n k e p mem),
            rw
                same (omega (arith, z)),
            inl same,
          )
      go (suc a) w q =
          let t = q end es self j.parents.imported x o in
          (named_at x t.0 p g m z t.2 (rw w t.1) (parent_exists_lem j.parents h x o n k e p mem), omega (arith, t.3), inr t.3)

  -- a parent's package is never missing
  pub parent_missing : Judged f s end es self → (h : Home) (x : Installed) → HomeIs f s end es self h x → (n : ℕ) (k : Class) → at x.pack.classes n ≡
      some k →
      (p : ClassNumber) → Memᴰ p k.parents → NumberedIs f s h p.pack None → ⊥
  parent_missing j h x o n k e p mem q = go p.pack refl q
    where
      go : (a : ℕ) → p.pack ≡ a → NumberedIs f s h a None → ⊥
      go zero w q = let z : ◌≡◌ {A = ℕ} 0 1 = cc in omega arith
      go (suc a) w q =
          let t : package_numbered (installed (store_limits s) es) x (suc a) ≡ none = q end es self j.parents.imported x o in
          let r = parent_exists_lem j.parents h x o n k e p mem in
          let z : class_named (installed (store_limits s) es) x p ≡ none = rw (w, t) in
          none_some (sym z ∙ r.named)

module _ (f s : Bytes) (h : Home) (n i : ℕ) (r : Bytes) (p : RecordIs f s h n r) (a b : ℕ) (ea : a ≡ get_or r (2 + 2 * i) 0) (eb : b ≡ get_or r (3 + 2 * i) 0) where
  -- parent i of a class
  pub parent_is : (g : Home) → b < 256 → NumberedIs f s h a (Some g) → ParentIs f s h n i (record { home = g; number = b })
  parent_is g small q end es self j x o k e m at_i =
      let t = (record_front f s h n r p end es self j x o k e).pair i m at_i in
      parent_named f s end es self j h x o n k e m (at_mem k.parents i m at_i) g b (eb ∙ t.1) small
      (subst (λ (v : ℕ). NumberedIs f s h v (Some g)) (ea ∙ t.0) q)

  pub parent_none : ParentThere f s h n i → NumberedIs f s h a None → ⊥
  parent_none t q =
      let c = t.class.1 in
      let m = at_split c.class.parents i t.inside in
      let u = (record_front f s h n r p t.class.0 c.entries c.self c.asked c.pack c.home c.class c.is).pair i m.0 m.1 in
      parent_missing f s t.class.0 c.entries c.self c.asked h c.pack c.home n c.class c.is m.0
      (at_mem c.class.parents i m.0 m.1)
      (subst (λ (v : ℕ). NumberedIs f s h v None) (ea ∙ u.0) q)

-- the first parent of kind 0 is that of the parents from i on
abbrev pub Kind0From : Bytes → Bytes → Home → ℕ → ℕ → Type 0
Kind0From f s h n i = AtClass f s h n λ end es self x k.
    kind0_parent (installed (store_limits s) es) (record { home = x; number = n }) ≡ find is_kind0
    (parents_named (installed (store_limits s) es) x (drop i k.parents))

pub named_first : (is : List Installed) (x : Installed) (p : ClassNumber) (ps : List ClassNumber) (c : ClassAt) (b : Bool) → class_named is x p ≡ some c →
    is_kind0 c ≡ b →
    find is_kind0 (parents_named is x (p ∷ ps)) ≡ pick b (some c) (find is_kind0 (parents_named is x ps))
named_first is x p ps c b e k = rw (e, k)

pub kind0_start : (f s : Bytes) (h : Home) (n : ℕ) → Kind0From f s h n 0
kind0_start f s h n end es self j x o k e = rw e

module _ (f s : Bytes) (h : Home) (n count i : ℕ) (q : CountIs f s h n count) (inv : Kind0From f s h n i) where
  pub kind0_none : count ≤ i → Kind0ParentIs f s h n None
  kind0_none z end es self j x o k e =
      let d : drop i k.parents ≡ [] = drop_of_length-le k.parents {i = i} (omega (arith, q end es self j x o k e)) in
      inv end es self j x o k e ∙ ap (λ (ps : List ClassNumber). find is_kind0 (parents_named (installed (store_limits s) es) x ps)) d

  pub parent_there : (t : ClassThere f s h n) → i < count → ParentThere f s h n i
  parent_there t z = let c = t.1 in record {
    class = t;
    inside = omega (
      arith,
      q t.0 c.entries c.self c.asked c.pack c.home c.class
          c.is,
    );
  }

  module _ (z : i < count) (r : ClassSpot) (p : ParentIs f s h n i r) where
    -- the parent at hand, where it stands
    pub named_there : ClassThere f s h n → ClassThere f s r.home r.number
    unfolding parent_there
    named_there t =
        let c = t.1 in
        let m = at_split c.class.parents i (parent_there t z).inside in
        let u = (p t.0 c.entries c.self c.asked c.pack c.home c.class c.is m.0 m.1).0 in
        (t.0, record { entries = c.entries; self = c.self; asked = c.asked; pack = u.pack; home = u.home; class = u.class; is = u.is })

    pub kind0_nearer : ClassThere f s h n → Nearer h r.home
    unfolding parent_there
    kind0_nearer t =
        let c = t.1 in
        let m = at_split c.class.parents i (parent_there t z).inside in
        (p t.0 c.entries c.self c.asked c.pack c.home c.class c.is m.0 m.1).2

    pub kind0_before : ClassThere f s h n → rank r.home r.number < rank h n
    unfolding parent_there
    kind0_before t =
        let c = t.1 in
        let m = at_split c.class.parents i (parent_there t z).inside in
        (p t.0 c.entries c.self c.asked c.pack c.home c.class c.is m.0 m.1).1

    pub kind0_hit : Kind0Is f s r.home r.number true → Kind0ParentIs f s h n (Some r)
    kind0_hit y end es self j x o k e =
        let m = at_split k.parents i (omega (arith, q end es self j x o k e)) in
        let c = (p end es self j x o k e m.0 m.1).0 in
        let w : is_kind0 (record { home = c.pack; number = r.number }) ≡ true = sym (y end es self j c.pack c.home c.class c.is) in (
          c.pack,
          c.home,
          inv end es self j x o k e ∙ ap (λ (ps : List ClassNumber). find is_kind0 (parents_named (installed (store_limits s) es) x ps)) m.2 ∙ named_first
              (installed (store_limits s) es) x m.0 (drop (suc i) k.parents) _ true c.named w,
          c.class,
          c.is,
        )

    pub kind0_miss : Kind0Is f s r.home r.number false → Kind0From f s h n (i + 1)
    kind0_miss y end es self j x o k e =
        let m = at_split k.parents i (omega (arith, q end es self j x o k e)) in
        let c = (p end es self j x o k e m.0 m.1).0 in
        let w : is_kind0 (record { home = c.pack; number = r.number }) ≡ false = sym (y end es self j c.pack c.home c.class c.is) in
        inv end es self j x o k e ∙ ap (λ (ps : List ClassNumber). find is_kind0 (parents_named (installed (store_limits s) es) x ps)) m.2 ∙ named_first
        (installed (store_limits s) es) x m.0 (drop (suc i) k.parents) _ false c.named w
        ∙ ap (λ (v : ℕ). find is_kind0 (parents_named (installed (store_limits s) es) x (drop v k.parents))) (sym (add-one i))
