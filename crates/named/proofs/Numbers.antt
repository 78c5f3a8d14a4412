-- Package numbers in the file being judged: their homes, and their rows. Assumes nothing.
use Prim.Native.Nat.{ℕ, zero, suc, ◌+◌, ◌-◌, ◌*◌, ◌≤◌, ◌<◌}
use native.Mathlib.Omega.{arith}
use mathlib.Core.Path.{◌≡◌, refl, ◌∙◌}
use mathlib.Core.Bool.{Bool, true, false}
use mathlib.Core.List.{List}
use mathlib.Core.Option.{some}
use lib.Dec.{eqb, ltb}
use lib.ListN.{length, get_or}
use borrow.Author.Tests.{eqb-true, eqb-false, ltb-true, ltb-false}
use Rattle.rules.specs.Bytes.{Bytes, u1, aid}
use Rattle.rules.specs.Package.{Limits, most_imports, most_classes, Package, read_file}
use Rattle.rules.specs.Store.{store_limits}
use Rattle.rules.specs.Classes.{Installed, installed, package_numbered}
use Rattle.places.proofs.Steady.{steady_u1, steady_aid}
use Rattle.places.proofs.Inverse.{reads_counted}
use Rattle.places.proofs.Parts.{file_parts}
use Rattle.places.proofs.Track.{many_length}
use Rattle.homes.specs.Homes.{own_home, PackageFrom, file_of, HomeIs, own, HomeThere}
use Rattle.homes.specs.Homes as homes
use Rattle.homes.specs.Found.{ImportPlaces}
use Rattle.homes.specs.declared.Home.{Home}
use Rattle.homes.proofs.Imported.{place_stands}
use Rattle.named.specs.Named.{Judged, OfJudged, home_of, PackageThere, NumberPlaced, ClassFrom, RowTrue, Beside, rows_length, RowsTrue}

-- the number of imports
pub imports_few : (l : Limits) (f : Bytes) (p : Package) → read_file l f ≡ some p → length p.imports ≤ most_imports
imports_few l f p e =
    let t = file_parts l f p e in
    let c = reads_counted most_imports u1 aid steady_u1 f t.imports_at p.imports t.references_at t.imports in
    omega (arith, c.small, many_length aid steady_aid c.number f c.place p.imports t.references_at c.list)

-- the home of an import
pub home_import : (s : Bytes) (end : ℕ) (t : List ℕ) (p : ℕ) (h : Home) → (p ≡ 0 → ⊥) → h ≡ homes.home_of s (get_or t (p - 1) 0) → h ≡ home_of s end t p
home_import s end t zero h n e = absurd (n refl)
home_import s end t (suc k) h n e = let z : suc k - 1 ≡ k = omega arith in rw z at e

pub home_own : (s : Bytes) (end : ℕ) (t : List ℕ) (p : ℕ) (h : Home) → p ≡ 0 → h ≡ own_home end → h ≡ home_of s end t p
home_own s end t p h z e = rw (z, e)

-- a package number
module _ (f s : Bytes) (end : ℕ) where
  pub number_few : (p : ℕ) → Judged f s end → PackageThere f p → p ≤ most_imports
  number_few p g h = omega (arith, h (store_limits s) g.1.pack g.2.setting.reads, imports_few (store_limits s) f g.1.pack g.2.setting.reads)

  module _ (t : List ℕ) (i : ImportPlaces f s end t) where
    -- there is a place for it
    pub number_placed_lem : (p : ℕ) → PackageThere f p → Judged f s end → NumberPlaced s t p
    number_placed_lem p h g = record { few = number_few p g h; stands = stands p h }
      where
        stands : (p : ℕ) → PackageThere f p → (p ≡ 0 → ⊥) → PackageFrom s (get_or t (p - 1) 0)
        stands zero h n = absurd (n refl)
        stands (suc k) h n =
            let z : suc k - 1 ≡ k = omega arith in
            let l : k < length g.1.pack.imports = omega (arith, h (store_limits s) g.1.pack g.2.setting.reads) in
            rw z (place_stands f s end t i g.0 g.1 g.2 k l)

    pub number_home : (p : ℕ) → PackageThere f p → OfJudged f s end λ es self.
        (y : Installed) × (package_numbered (installed (store_limits s) es) self p ≡ some y) × HomeIs f s end es self (home_of s end t p) y
    number_home zero h es self m = (self, refl, own)
    number_home (suc p) h es self m = let z = i.found es self m p (omega (arith, h (store_limits s) self.pack m.setting.reads)) in (z.0, z.1, z.2)

    pub number_there : (p : ℕ) → PackageThere f p → Judged f s end → HomeThere f s (home_of s end t p)
    number_there p h g = let z = number_home p h g.0 g.1 g.2 in (end, g.0, g.1, g.2, z.0, z.2)

    pub number_at : (p : ℕ) (h : Home) → h ≡ home_of s end t p → PackageThere f p → Judged f s end → HomeThere f s h
    number_at p h e q g = rw e (number_there p q g)

-- a row beside the one that was written
row_beside : (g : Bytes) (rows new : List ℕ) (p q : ℕ) → (q ≡ p → ⊥) → length new ≡ length rows → Beside rows new (most_classes * p) → RowTrue g rows
    (most_classes * q) → RowTrue g new (most_classes * q)
row_beside g rows new p q n len b t = record { room = rw len t.room; told = told }
  where
    same : (c : ℕ) → c < most_classes → get_or new (most_classes * q + c) 0 ≡ get_or rows (most_classes * q + c) 0
    same c h = go (ltb q p) refl
      where
        go : (z : Bool) → ltb q p ≡ z → get_or new (most_classes * q + c) 0 ≡ get_or rows (most_classes * q + c) 0
        go true e = let l = ltb-true q p e in b.below (most_classes * q + c) (omega (arith, l, h))
        go false e = let l = ltb-false q p e in b.above (most_classes * q + c) (omega (arith, l, n, h))

    told : (c : ℕ) → c < most_classes → 0 < get_or new (most_classes * q + c) 0 → ClassFrom g c (get_or new (most_classes * q + c) 0)
    told c h = rw (same c h) (t.told c h)

-- the rows, one of which was written
pub rows_written : (f s : Bytes) (end : ℕ) (t rows new : List ℕ) (p : ℕ) → length new ≡ length rows → RowsTrue f s end t rows →
    RowTrue (file_of f s (home_of s end t p)) new (most_classes * p) → Beside rows new (most_classes * p) → RowsTrue f s end t new
rows_written f s end t rows new p len r one b = record { size = len ∙ r.size; row = row }
  where
    row : (q : ℕ) → q ≤ most_imports → RowTrue (file_of f s (home_of s end t q)) new (most_classes * q)
    row q h = go (eqb q p) refl
      where
        go : (z : Bool) → eqb q p ≡ z → RowTrue (file_of f s (home_of s end t q)) new (most_classes * q)
        go true e = rw (eqb-true q p e) one
        go false e = row_beside (file_of f s (home_of s end t q)) rows new p q (eqb-false q p e) len b (r.row q h)

-- rows of zeros tell nothing
pub rows_empty : (f s : Bytes) (end : ℕ) (t rows : List ℕ) → length rows ≡ rows_length → ((i : ℕ) → get_or rows i 0 ≡ 0) → RowsTrue f s end t rows
rows_empty f s end t rows len z = record {
  size = len;
  row = λ p h. record
      { room = omega (arith, len, h); told = λ c k n. absurd (omega (arith, n, z (most_classes * p + c))) };
}

-- the row of a package number
pub row_of : (f s : Bytes) (end : ℕ) (t rows : List ℕ) (p : ℕ) (h : Home) (g : Bytes) → h ≡ home_of s end t p → g ≡ file_of f s h → p ≤ most_imports → RowsTrue
    f s end t rows → RowTrue g rows (most_classes * p)
row_of f s end t rows p h g e q few r = rw (q, e) (r.row p few)

pub row_back : (f s : Bytes) (end : ℕ) (t rows : List ℕ) (p : ℕ) (h : Home) (g : Bytes) → h ≡ home_of s end t p → g ≡ file_of f s h → RowTrue g rows
    (most_classes * p) → RowTrue (file_of f s (home_of s end t p)) rows (most_classes * p)
row_back f s end t rows p h g e q r = rw (q, e) at r
