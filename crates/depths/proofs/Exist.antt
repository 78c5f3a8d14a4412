-- Question 14's first part: a parent exists, an own one with a smaller number. Assumes nothing.
use Rattle.std.specs.Prelude.{Some, None}
use Prim.Native.Nat.{ℕ, zero, suc, ◌+◌, ◌*◌, ◌≤◌, ◌<◌}
use native.Mathlib.Omega.{arith}
use mathlib.Core.Path.{◌≡◌, refl, sym, ◌∙◌, ap, ap₂}
use mathlib.Core.Bool.{Bool, true, false, ◌&&◌, ◌||◌, not}
use mathlib.Core.List.{List}
use mathlib.Core.Option.{some}
use lib.Dec.{eqb, ltb}
use lib.ListN.{length, get_or}
use Rattle.rules.specs.Bytes.{Bytes, all, at, is_some, u1, aid}
use Rattle.rules.specs.Package.{most_imports, most_classes, ClassNumber, Class}
use Rattle.rules.specs.Store.{Entry, store_limits}
use Rattle.rules.specs.Classes.{Installed, installed, package_numbered}
use Rattle.rules.specs.Questions.{parent_exists}
use Rattle.rules.proofs.Lists.{at_below}
use Rattle.places.proofs.Steady.{steady_u1, steady_aid}
use Rattle.places.proofs.Inverse.{reads_counted, reads_u1}
use Rattle.places.proofs.Track.{placed_at, placed_none, many_length, counted_inside}
use Rattle.files.specs.Say.{Readable, ImportsAt}
use Rattle.files.specs.Say as files
use Rattle.files.proofs.Walks.{imports_read}
use Rattle.homes.specs.Homes.{Imports, HomeIs, ClassPlaced}
use Rattle.homes.specs.Found.{ImportPlaces}
use Rattle.named.specs.Named.{Judged, OfJudged, home_of, PackageThere, ClassFrom, RowTrue, Beside, RowsTrue}
use Rattle.named.proofs.Numbers.{number_home, rows_written}
use Rattle.named.proofs.Rows.{from_front, at_none, classes_few}
use Rattle.depths.specs.Depths.{ImportCount, OfOwnClass, ExistsIs, AllExist, ParentsExist}
use Rattle.depths.proofs.ByNumber.{all_from_lem, Left, left_more, left_bad, left_done, left_none}
use Rattle.depths.proofs.Records.{RecordBy, record_by}

-- the number of imports
pub imports_inside : (f : Bytes) (i : ℕ) → Readable f → ImportsAt f i → i < length f
imports_inside f i r h = let t = imports_read h r.0 r.1 r.2 in counted_inside aid f most_imports i r.1.imports t.0 t.1

pub imports_count : (f : Bytes) (i n : ℕ) → ImportsAt f i → n ≡ get_or f i 0 → ImportCount f n
imports_count f i n h e l p r =
    let t = imports_read h l p r in
    let c = reads_counted most_imports u1 aid steady_u1 f i p.imports t.0 t.1 in
    e ∙ (reads_u1 f i c.number c.place c.count).byte ∙ sym (many_length aid steady_aid c.number f c.place p.imports t.0 c.list)

pub imports_there : (f : Bytes) (n p : ℕ) → ImportCount f n → p ≤ n → PackageThere f p
imports_there f n p c h l q e = omega (arith, h, c l q e)

-- the row of the own file
pub own_row : (f s : Bytes) (end : ℕ) (t rows : List ℕ) → RowsTrue f s end t rows → RowTrue f rows 0
own_row f s end t rows r = r.row 0 (omega arith)

pub own_written : (f s : Bytes) (end : ℕ) (t rows new : List ℕ) → length new ≡ length rows → RowsTrue f s end t rows → RowTrue f new 0 × Beside rows new
    0 → RowsTrue f s end t new
own_written f s end t rows new l r w = rows_written f s end t rows new 0 l r w.0 w.1

-- a class's number is below the greatest count
pub own_few : (f : Bytes) (n a : ℕ) → Readable f → ClassFrom f n a → n < most_classes
own_few f n a r h =
    let z = from_front f n a h r.0 r.1 r.2 in
    omega (arith, at_below r.1.classes n z.one z.is, classes_few r.0 f r.1 r.2)

module _ (f s : Bytes) (end : ℕ) where
  pub judged_reads : Judged f s end → Readable f
  judged_reads t = (store_limits s, t.1.pack, t.2.setting.reads)

  -- what is asked of a parent, by the package that its number stands for
  exists_some : (is : List Installed) (self y : Installed) (n p c : ℕ) → package_numbered is self p ≡ some y →
      parent_exists is self n (record { pack = p; class = c }) ≡ (is_some (at y.pack.classes c) && (not (eqb p 0) || ltb c n))
  exists_some is self y n p c e = rw e

  module _ (n p c : ℕ) where
    pub exists_beyond : (m : ℕ) → ImportCount f m → m < p → ExistsIs f s end n (record { pack = p; class = c }) false
    exists_beyond m k h es self i = sym (go p (omega (arith, h, k (store_limits s) self.pack i.setting.reads)))
      where
        go : (p : ℕ) → length self.pack.imports < p → parent_exists (installed (store_limits s) es) self n (record { pack = p; class = c }) ≡ false
        go zero h = absurd (omega arith)
        go (suc q) h = rw (at_none self.pack.imports q (omega arith))

    module _ (t : List ℕ) (i : ImportPlaces f s end t) (g : PackageThere f p) where
      exists_as : (b : Bool) → (OfJudged f s end λ es self. (y : Installed) → package_numbered (installed (store_limits s) es) self p ≡ some y → HomeIs f s
          end es self (home_of s end t p) y → b ≡ is_some (at y.pack.classes c)) →
          (d r : Bool) → eqb p 0 ≡ d → r ≡ (b && (not d || ltb c n)) → ExistsIs f s end n (record { pack = p; class = c }) r
      exists_as b q d r z w es self j =
          let y = number_home f s end t i p g es self j in
          w ∙ ap₂ (λ (u v : Bool). u && (not v || ltb c n)) (q es self j y.0 y.1 y.2) (sym z) ∙ sym
          (exists_some (installed (store_limits s) es) self y.0 n p c y.1)

      pub exists_at : (k : ℕ) → ClassPlaced f s (home_of s end t p) c (Some k) → (d r : Bool) → eqb p 0 ≡ d → r ≡ (not d || ltb c n) → ExistsIs f s end n
          (record { pack = p; class = c }) r
      exists_at k q = exists_as true λ es self j y e h. let z = placed_at (q end es self j y h) in rw z.2

      pub exists_not : ClassPlaced f s (home_of s end t p) c None → ExistsIs f s end n (record { pack = p; class = c }) false
      exists_not q = exists_as false (λ es self j y e h. rw (placed_none (q end es self j y h))) (eqb p 0) false refl refl

  -- the parents of own class n, whose record stands at a place, from parent i on are left
  abbrev pub ExistLeft : ℕ → ℕ → Type 0
  ExistLeft n i = OfOwnClass f s end n λ es self k. Left (λ j x. parent_exists (installed (store_limits s) es) self n x) k.parents i

  pub exist_start : (n : ℕ) → ExistLeft n 0
  exist_start n es self t k e = refl

  module _ (n a : ℕ) (q : ClassFrom f n a) where
    pub own_by : (es : List Entry) (self : Installed) → Imports f s end es self → (k : Class) → at self.pack.classes n ≡ some k → RecordBy f a k
    own_by es self t k e = record_by (store_limits s) f self.pack n a k t.setting.reads q e

    pub own_at : (es : List Entry) (self : Installed) → Imports f s end es self → (k : Class) × (at self.pack.classes n ≡ some k)
    own_at es self t = let z = from_front f n a q (store_limits s) self.pack t.setting.reads in (z.one, z.is)

    pub own_record : Judged f s end → (k : Class) × RecordBy f a k
    own_record t = let z = own_at t.0 t.1 t.2 in (z.0, own_by t.0 t.1 t.2 z.0 z.1)

    pub own_parent : Judged f s end → (i m : ℕ) → m ≡ get_or f (a + 1) 0 → i < m → a + 3 + 2 * i < length f
    own_parent t i m z h = ((own_record t).1.parent i (omega (arith, z))).to

    module _ (i m b c : ℕ) (z : m ≡ get_or f (a + 1) 0) (h : i < m) (zb : b ≡ get_or f (a + 2 + 2 * i) 0) (zc : c ≡ get_or f (a + 3 + 2 * i) 0)
        (t : ExistLeft n i) where
      parent_is : (v : Bool) → ExistsIs f s end n (record { pack = b; class = c }) v → OfOwnClass f s end n λ es self k.
          (x : ClassNumber) × (at k.parents i ≡ some x) × (parent_exists (installed (store_limits s) es) self n x ≡ v)
      parent_is v y es self u k e =
          let w = (own_by es self u k e).parent i (omega (arith, z)) in
          let j : record { pack = b; class = c } ≡ w.number = ap₂ (λ (x y : ℕ). record { pack = x; class = y }) (zb ∙ w.pack) (zc ∙ w.class) in
          (w.number, w.listed, ap (parent_exists (installed (store_limits s) es) self n) (sym j) ∙ sym (y es self u))

      pub exist_more : ExistsIs f s end n (record { pack = b; class = c }) true → ExistLeft n (i + 1)
      exist_more y es self u k e =
          let w = parent_is true y es self u k e in
          left_more (λ j x. parent_exists (installed (store_limits s) es) self n x) k.parents i w.0 w.1 w.2 (t es self u k e)

      pub exist_bad : ExistsIs f s end n (record { pack = b; class = c }) false → AllExist f s end n false
      exist_bad y es self u k e =
          let w = parent_is false y es self u k e in
          sym (all_from_lem (parent_exists (installed (store_limits s) es) self n) 0 k.parents ∙ left_bad
          (λ j x. parent_exists (installed (store_limits s) es) self n x) k.parents i w.0 w.1 w.2 (t es self u k e))

    pub exist_done : (i m : ℕ) → m ≡ get_or f (a + 1) 0 → m ≤ i → ExistLeft n i → AllExist f s end n true
    exist_done i m z h t es self u k e =
        let w = own_by es self u k e in
        sym (all_from_lem (parent_exists (installed (store_limits s) es) self n) 0 k.parents ∙ left_done
        (λ j x. parent_exists (installed (store_limits s) es) self n x) k.parents i (omega (arith, z, w.count)) (t es self u k e))

  -- the own classes from class n on are left
  abbrev pub ClassesLeft : ℕ → Type 0
  ClassesLeft n = OfJudged f s end λ es self. Left (λ j k. all (parent_exists (installed (store_limits s) es) self j) k.parents) self.pack.classes n

  pub classes_start : ClassesLeft 0
  classes_start es self t = refl

  module _ (n : ℕ) (t : ClassesLeft n) where
    pub classes_more : (a : ℕ) → ClassFrom f n a → AllExist f s end n true → ClassesLeft (n + 1)
    classes_more a h q es self i =
        let y = own_at n a h es self i in
        left_more (λ j k. all (parent_exists (installed (store_limits s) es) self j) k.parents) self.pack.classes n y.0 y.1
        (sym (q es self i y.0 y.1)) (t es self i)

    pub classes_bad : (a : ℕ) → ClassFrom f n a → AllExist f s end n false → ParentsExist f s end false
    classes_bad a h q es self i =
        let y = own_at n a h es self i in
        sym (left_bad (λ j k. all (parent_exists (installed (store_limits s) es) self j) k.parents) self.pack.classes n y.0 y.1
        (sym (q es self i y.0 y.1)) (t es self i))

    pub classes_done : files.ClassPlaced f n None → ParentsExist f s end true
    classes_done h es self i =
        let z = placed_none (h (store_limits s) self.pack i.setting.reads) in
        sym (left_none (λ j k. all (parent_exists (installed (store_limits s) es) self j) k.parents) self.pack.classes n z (t es self i))
