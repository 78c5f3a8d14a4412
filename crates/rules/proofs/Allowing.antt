-- `allows` is the sentence: FF, an index, or FE; FE is the same right as the own domain by an index. Assumes nothing.
use mathlib.Core.Path.{◌≡◌, refl, sym, ap, subst}
use mathlib.Core.Bool.{Bool, true, false, ◌||◌}
use mathlib.Core.List.{List, [], ◌∷◌, ◌++◌, map, Memᴰ}
use lib.Dec.{T}
use Rattle.rules.specs.Bytes.{Aid, any, same}
use Rattle.rules.specs.Package.{Item, listed, own_domain, Policy, every, only}
use Rattle.rules.specs.Classes.{MethodAt, these, item_means, meant, admits, allows}
use Rattle.rules.specs.Allowing.{Allowing, by_ff, by_index, by_fe}
use Rattle.rules.proofs.Tests.{is_true, of_true, same_eq, same_refl}

-- an item of the list means a, in domain d
abbrev Listed : Aid → List Item → Aid → Type 0
Listed d xs a = (x : Item) × Memᴰ x xs × (a ≡ item_means d x)

any_listed : (d : Aid) (xs : List Item) (a : Aid) → T (any (same a) (map (item_means d) xs)) → Listed d xs a
any_listed d [] a h = absurd h
any_listed d (x ∷ xs) a h = go (same a (item_means d x)) refl h (any_listed d xs a)
  where
    go : (t : Bool) → same a (item_means d x) ≡ t → T (t || any (same a) (map (item_means d) xs)) → (T (any (same a) (map (item_means d) xs)) → Listed d xs a) →
        Listed d (x ∷ xs) a
    go true e h rest = (x, Memᴰ.head refl, same_eq a (item_means d x) (of_true e))
    go false e h rest = let r = rest h in (r.0, Memᴰ.tail r.1, r.2)

or_right : (b c : Bool) → T c → T (b || c)
or_right true c k = tt
or_right false c k = k

listed_any : (d a : Aid) (x : Item) (xs : List Item) → Memᴰ x xs → a ≡ item_means d x → T (any (same a) (map (item_means d) xs))
listed_any d a x _ (Memᴰ.head {x = y} {xs = ys} e) h =
    let t : same a (item_means d y) ≡ true = is_true _ (rw (h, e) (same_refl (item_means d y))) in rw t tt
listed_any d a x _ (Memᴰ.tail {x = y} {xs = ys} m) h =
    or_right (same a (item_means d y)) (any (same a) (map (item_means d) ys)) (listed_any d a x ys m h)

module _ (m : MethodAt) (a : Aid) where
  -- the domain that the method's package lies in
  abbrev home : Aid
  home = m.class.home.domain

  pub allows_says : T (allows m a) → Allowing m a
  allows_says h = go m.method.policy refl h
    where
      of_item : (xs : List Item) → m.method.policy ≡ only xs → (x : Item) → Memᴰ x xs → a ≡ item_means home x → Allowing m a
      of_item xs e (listed b) i z = by_index xs e (subst (λ (c : Aid). Memᴰ (listed c) xs) (sym z) i)
      of_item xs e own_domain i z = by_fe xs e i z

      go : (p : Policy) → m.method.policy ≡ p → T (admits (meant home p) a) → Allowing m a
      go every e h = by_ff e
      go (only xs) e h = let r = any_listed home xs a h in of_item xs e r.0 r.1 r.2

  pub says_allows : Allowing m a → T (allows m a)
  says_allows (by_ff e) = rw e tt
  says_allows (by_index xs e i) = rw e (listed_any home a (listed a) xs i refl)
  says_allows (by_fe xs e i z) = rw e (listed_any home a own_domain xs i z)

-- in a package that lies in d, FE and d by an index are one right
pub own_by_index : (d : Aid) (xs ys : List Item) → meant d (only (xs ++ own_domain ∷ ys)) ≡ meant d (only (xs ++ listed d ∷ ys))
own_by_index d xs ys = ap these (go xs)
  where
    go : (zs : List Item) → map (item_means d) (zs ++ own_domain ∷ ys) ≡ map (item_means d) (zs ++ listed d ∷ ys)
    go [] = refl
    go (z ∷ zs) = ap (λ (ds : List Aid). item_means d z ∷ ds) (go zs)
