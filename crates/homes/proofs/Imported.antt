-- The places of a file's imports: at each a package's entry stands, and the home there is that of the package that the number stands for.
-- Assumes nothing.
use Rattle.std.specs.Prelude.{Some, None}
use Prim.Native.Nat.{ℕ, zero, suc, ◌-◌, ◌<◌, ◌≤◌}
use native.Mathlib.Omega.{arith}
use native.Mathlib.Decide.{dec_le}
use mathlib.Core.Path.{◌≡◌, refl, sym, ap, subst}
use mathlib.Core.Bool.{Bool, true, false}
use mathlib.Core.List.{List, [], ◌∷◌}
use mathlib.Core.Option.{none}
use lib.Dec.{eqb}
use lib.ListN.{length, get_or, get_or-eq_default}
use borrow.Author.Tests.{eqb-true, eqb-false, eq-eqb, ne_eqb}
use Rattle.rules.specs.Bytes.{Bytes, at, pick}
use Rattle.rules.specs.Store.{Entry, first_entry, store_limits}
use Rattle.rules.specs.Classes.{Installed, installed, package_numbered}
use Rattle.rules.proofs.Limits.{first_entry_lem}
use Rattle.store.proofs.Stand.{entries_to}
use Rattle.homes.specs.Homes.{Imports, own_home, home_of, PackageFrom, Stored, HomeIs, own, stored, FoundIs, NumberedIs}
use Rattle.homes.specs.Found.{home_at, placed_home, home_numbered, ImportPlaces, PlacesStand}
use Rattle.homes.specs.declared.Home.{Home}

-- a home whose entry stands before the place where the entries end is a stored one
pub stored_of : (f s : Bytes) (end : ℕ) (es : List Entry) (self : Installed) (h : Home) (x : Installed) → HomeIs f s end es self h x → h.before < end →
    Stored s es h x
stored_of f s end es self _ _ own l = absurd (omega (arith, l))
stored_of f s end es self h x (stored t) l = t

-- the home that begins at 0 is that of the file being judged
own_of : (f s : Bytes) (end : ℕ) (es : List Entry) (self : Installed) (h : Home) (x : Installed) → HomeIs f s end es self h x → h.from ≡ 0 →
    (x ≡ self) × (h.before ≡ end)
own_of f s end es self _ _ own e = (refl, refl)
own_of f s end es self h x (stored t) e = absurd (omega (arith, e, t.inside))

-- a list has nothing behind its end
at_past : {A : Type 0} (xs : List A) (k : ℕ) → length xs ≤ k → at xs k ≡ none
at_past [] k l = refl
at_past (x ∷ xs) zero l = absurd (omega arith)
at_past (x ∷ xs) (suc k) l = at_past xs k (omega arith)

module _ (f s : Bytes) (end : ℕ) (t : List ℕ) (p : ImportPlaces f s end t) (es : List Entry) (self : Installed) (i : Imports f s end es self) where
  -- a place for each import
  import_stored : (k : ℕ) → k < length self.pack.imports → (y : Installed) × Stored s es (home_at s t k) y
  import_stored k l = let z = p.found es self i k l in (z.0, stored_of f s end es self (home_at s t k) z.0 z.2 z.3)

  place_above : (k : ℕ) → k < length self.pack.imports → 0 < get_or t k 0
  place_above k l =
      let z = (import_stored k l).1 in
      omega (arith, (entries_to s (first_entry s) z.pre (get_or t k 0) z.stand).0, (first_entry_lem s).0)

  -- a package's entry stands there
  pub place_stands : (k : ℕ) → k < length self.pack.imports → PackageFrom s (get_or t k 0)
  place_stands k l = let z = import_stored k l in (z.0.domain, _, (home_at s t k).to, z.1.entry)

  -- where the table has a place there is an import
  place_import : (k : ℕ) → (get_or t k 0 ≡ 0 → ⊥) → k < length self.pack.imports
  place_import k n = elim (dec_le (length self.pack.imports) k) [
    | yes l ↦ absurd (n (p.past es self i k l))
    | no l ↦ omega arith
  ]

  pub places_stand : PlacesStand s t
  places_stand k n = place_stands k (place_import k n)

  -- what the table tells of package number k + 1
  placed_found : (k : ℕ) → FoundIs f s end es self (own_home end) (package_numbered (installed (store_limits s) es) self (suc k)) (placed_home s t k)
  placed_found k = go (eqb (get_or t k 0) 0) refl
    where
      go : (b : Bool) → eqb (get_or t k 0) 0 ≡ b →
          FoundIs f s end es self (own_home end) (package_numbered (installed (store_limits s) es) self (suc k)) (pick b None (Some (home_at s t k)))
      go false e = p.found es self i k (place_import k (eqb-false (get_or t k 0) 0 e))
      go true e = elim (dec_le (length self.pack.imports) k) [
        | yes l ↦ rw (at_past self.pack.imports k l)
        | no l ↦ absurd (omega (arith, place_above k (omega arith), eqb-true (get_or t k 0) 0 e))
      ]

-- the home that the places tell for a package number is the one that the number stands for
pub numbered_placed : (f s : Bytes) (end : ℕ) (t : List ℕ) → ImportPlaces f s end t → (p : ℕ) → NumberedIs f s (own_home end) p (home_numbered s end t p)
numbered_placed f s end t w zero = refl
numbered_placed f s end t w (suc k) = λ end' es self i x h.
    let o = own_of f s end' es self (own_home end) x h refl in
    let at_end_lem : Imports f s end es self = subst (λ (n : ℕ). Imports f s n es self) (sym o.1) i in
    let here = placed_found f s end t w es self at_end_lem k in
    subst (λ (y : Installed). FoundIs f s end' es self (own_home end) (package_numbered (installed (store_limits s) es) y (suc k)) (placed_home s t k)) (sym o.0)
    (subst (λ (n : ℕ). FoundIs f s n es self (own_home end) (package_numbered (installed (store_limits s) es) self (suc k)) (placed_home s t k)) o.1 here)

-- what the table tells of a number that is not 0
module _ (s : Bytes) (end : ℕ) (t : List ℕ) where
  pub placed_own : (p : ℕ) (h : Home) → p ≡ 0 → h ≡ own_home end → Some h ≡ home_numbered s end t p
  placed_own p h z e = rw (z, e)

  pub placed_past : (p : ℕ) → length t < p → None ≡ home_numbered s end t p
  placed_past zero l = absurd (omega arith)
  placed_past (suc k) l = rw (get_or-eq_default t 0 {n = k} (omega arith))

  pub placed_none : (p : ℕ) → (p ≡ 0 → ⊥) → get_or t (p - 1) 0 ≡ 0 → None ≡ home_numbered s end t p
  placed_none zero n e = absurd (n refl)
  placed_none (suc k) n e = let z : suc k - 1 ≡ k = omega arith in rw (eq-eqb (get_or t k 0) 0 (rw z at e))

  pub placed_at : (p : ℕ) (h : Home) → (p ≡ 0 → ⊥) → (get_or t (p - 1) 0 ≡ 0 → ⊥) → h ≡ home_of s (get_or t (p - 1) 0) → Some h ≡ home_numbered s end t p
  placed_at zero h n m e = absurd (n refl)
  placed_at (suc k) h n m e =
      let z : suc k - 1 ≡ k = omega arith in
      let m' : get_or t k 0 ≡ 0 → ⊥ = rw z at m in
      rw (ne_eqb (get_or t k 0) 0 m') (ap Some (rw z at e))
