-- The depth of a parent, as it is told by the own depths or by the table. Assumes nothing.
use Rattle.std.specs.Prelude.{None}
use Prim.Native.Nat.{ℕ, zero, suc, ◌+◌, ◌/◌, ◌<◌}
use native.Mathlib.Omega.{arith}
use native.Mathlib.Decide.{dec_le}
use mathlib.Core.Path.{◌≡◌, refl, sym, ◌∙◌, ap, subst}
use mathlib.Core.Bool.{Bool}
use mathlib.Core.List.{List, [], ◌∷◌}
use mathlib.Core.Option.{some}
use lib.Dec.{eqb}
use lib.ListN.{length, get_or}
use borrow.Author.Tests.{eq-eqb, ne_eqb}
use Rattle.rules.specs.Bytes.{Bytes, pick, at}
use Rattle.rules.specs.Package.{ClassNumber, Class, read_file}
use Rattle.rules.specs.Store.{Entry, store_limits}
use Rattle.rules.specs.Classes.{Installed}
use Rattle.rules.specs.Questions.{own}
use Rattle.rules.proofs.Tests.{none_some}
use Rattle.places.proofs.Track.{placed_none}
use Rattle.files.specs.Say.{ClassPlaced}
use Rattle.store.specs.Entries.{part}
use Rattle.store.proofs.Parts.{part_length}
use Rattle.homes.specs.Homes.{own_home, file_of, Stored, HomeIs}
use Rattle.homes.specs.Homes as homes
use Rattle.homes.specs.Found.{home_at, ImportPlaces}
use Rattle.homes.specs.declared.Home.{Home}
use Rattle.homes.proofs.Homes.{home_reads, stored_file}
use Rattle.homes.proofs.Imported.{stored_of}
use Rattle.named.specs.Named.{home_of, PackageThere, ClassFrom, Stands}
use Rattle.depths.specs.Depths.{ClassIs, ClassThere, Kind0Is, depth_of, DepthIs, DepthsKept, told_depth, depth_width, depth_field}
use Rattle.depths.proofs.Records.{RecordBy, record_by}
use Rattle.depths.proofs.ParentKinds.{kind_is}

-- a class with no parents
depth_one : (s : Bytes) (es : List Entry) (x : Installed) (n : ℕ) (k : Class) → at x.pack.classes n ≡ some k → length k.parents ≡ 0 → 1 ≡ depth_of s
    es (own x n)
depth_one s es x n k e z = rw (e, empty k.parents z)
  where
    empty : (xs : List ClassNumber) → length xs ≡ 0 → xs ≡ []
    empty [] z = refl
    empty (x ∷ xs) z = absurd (omega (arith, z))

-- what the code tells, by its cases
module _ (w : ℕ) (ds tab : List ℕ) (from i c n : ℕ) where
  pub told_own : (r : ℕ) → from ≡ 0 → r ≡ get_or ds c 0 → r ≡ told_depth w ds tab from i c n
  told_own r e z = rw (eq-eqb from 0 e) z

  pub told_one : (from ≡ 0 → ⊥) → n ≡ 0 → 1 ≡ told_depth w ds tab from i c n
  told_one e z = rw (ne_eqb from 0 e, eq-eqb n 0 z) refl

  pub told_field : (r : ℕ) → (from ≡ 0 → ⊥) → (n ≡ 0 → ⊥) → r ≡ depth_field w tab ((from + i) / 5) → r + 1 ≡ told_depth w ds tab from i c n
  told_field r e z q = rw (ne_eqb from 0 e, ne_eqb n 0 z, q) refl

module _ (f s : Bytes) (end : ℕ) (t : List ℕ) (u : ImportPlaces f s end t) where
  -- the file of an import is stored
  import_stored : (p : ℕ) → PackageThere f p → (p ≡ 0 → ⊥) → (es : List Entry) (self x : Installed) → homes.Imports f s end es self → HomeIs f s end es
      self (home_of s end t p) x → Stored s es (home_of s end t p) x
  import_stored zero g n es self x i h = absurd (n refl)
  import_stored (suc k) g n es self x i h =
      let z = u.found es self i k (omega (arith, g (store_limits s) self.pack i.setting.reads)) in
      stored_of f s end es self (home_at s t k) x h z.3

  -- the own home alone starts at 0
  pub from_own : (p c : ℕ) → PackageThere f p → (h : Home) → h ≡ home_of s end t p → ClassThere f s end (home_of s end t p) c → h.from ≡ 0 → p ≡ 0
  from_own p c g h e d z = elim (dec_le p 0) [
    | yes o ↦ omega arith
    | no o ↦
        let y = import_stored p g (λ w. o (omega arith)) d.0 d.1 d.2 d.4.parents.imported d.4.home in
        absurd (omega (arith, z, ap (λ (v : Home). v.from) e, y.inside))
  ]

  -- a class that is there is not missing
  pub parent_never : (p c : ℕ) (h : Home) → h ≡ home_of s end t p → (b : Bytes) → b ≡ file_of f s h → ClassThere f s end (home_of s end t p) c → ClassPlaced b c
      None → ⊥
  parent_never p c h e b eb d q =
      let r = ap (read_file (store_limits s)) (eb ∙ ap (file_of f s) e) ∙ home_reads f s end d.0 d.1 d.4.parents.imported.setting
      (home_of s end t p) d.2 d.4.home in
      none_some (sym (placed_none (q (store_limits s) d.2.pack r)) ∙ d.4.is)

  module _ (p c i : ℕ) (g : PackageThere f p) (h : Home) (e : h ≡ home_of s end t p) (b : Bytes) (eb : b ≡ file_of f s h) (q : ClassFrom b c i) where
    file_is : b ≡ file_of f s (home_of s end t p)
    file_is = eb ∙ ap (file_of f s) e

    -- the record of the class, by its bytes
    pub parent_by : (es : List Entry) (self x : Installed) (k : Class) → ClassIs f s end (home_of s end t p) c es self x k → RecordBy b i k
    parent_by es self x k d =
        record_by (store_limits s) b x.pack c i k (ap (read_file (store_limits s)) file_is ∙ home_reads f s end es self d.parents.imported.setting
        (home_of s end t p) x d.home) q d.is

    pub parent_inside : ClassThere f s end (home_of s end t p) c → i + 1 < length b
    parent_inside d = (parent_by d.0 d.1 d.2 d.3 d.4).inside

    pub parent_kind : (v k0 : ℕ) → v ≡ get_or b i 0 → (v ≡ 1 → k0 ≡ 0) → ((v ≡ 1 → ⊥) → k0 ≡ 1) → Kind0Is f s end (home_of s end t p) c k0
    parent_kind v k0 z low high = kind_is f s end (home_of s end t p) c v k0 low high (λ es self x k d. rw z (parent_by es self x k d).kind)

    -- a stored record stands before the end of the store
    pub parent_room : ClassThere f s end (home_of s end t p) c → 0 < h.from → h.from + i < length s
    parent_room d n = let y = import_stored p g zero_own d.0 d.1 d.2 d.4.parents.imported d.4.home in
        let l = part_length s (home_of s end t p).from (home_of s end t p).to y.entry.to in
        let j : length b ≡ length (part s (home_of s end t p).from (home_of s end t p).to) = ap length
        (file_is ∙ stored_file f s end d.0 d.1 (home_of s end t p) d.2 y) in
        omega (arith, ap (λ (v : Home). v.from) e, l, j, q.inside, y.entry.to, y.order)
      where
        zero_own : p ≡ 0 → ⊥
        zero_own z = let w : h.from ≡ 0 = ap (λ (v : Home). v.from) (e ∙ ap (home_of s end t) z) in omega (arith, n, w)

    module _ (ds tab : List ℕ) (kept : DepthsKept s end tab) (low : p ≡ 0 → DepthIs f s end (own_home end) c (get_or ds c 0)) (v w r : ℕ)
        (zv : v ≡ get_or b (i + 1) 0) (zw : w ≡ depth_width s) (z : r ≡ told_depth w ds tab h.from i c v) where
      zr : r ≡ told_depth (depth_width s) ds tab h.from i c v
      zr = z ∙ ap (λ (x : ℕ). told_depth x ds tab h.from i c v) zw

      own_case : p ≡ 0 → DepthIs f s end (home_of s end t p) c r
      own_case z =
          let w : h.from ≡ 0 = ap (λ (v : Home). v.from) (e ∙ ap (home_of s end t) z) in
          let y : r ≡ get_or ds c 0 = zr ∙ ap (λ (m : Bool). pick m (get_or ds c 0) (pick (eqb v 0) 1 (depth_field (depth_width s) tab ((h.from + i) / 5) + 1)))
          (eq-eqb h.from 0 w) in
          subst (λ (m : ℕ). DepthIs f s end (home_of s end t m) c r) (sym z) (subst (DepthIs f s end (own_home end) c) (sym y) (low z))

      stored_case : (p ≡ 0 → ⊥) → DepthIs f s end (home_of s end t p) c r
      stored_case n es self x k d = elim (dec_le v 0) [ yes o ↦ none (omega arith) | no o ↦ some' (omega arith) ]
        where
          st : Stored s es (home_of s end t p) x
          st = import_stored p g n es self x d.parents.imported d.home

          from : (h.from ≡ 0 → ⊥)
          from w = omega (arith, w, ap (λ (v : Home). v.from) e, st.inside)

          count : v ≡ length k.parents
          count = zv ∙ (parent_by es self x k d).count

          told : r ≡ pick (eqb v 0) 1 (depth_field (depth_width s) tab ((h.from + i) / 5) + 1)
          told = zr ∙ ap (λ (m : Bool). pick m (get_or ds c 0) (pick (eqb v 0) 1 (depth_field (depth_width s) tab ((h.from + i) / 5) + 1)))
              (ne_eqb h.from 0 from)

          none : v ≡ 0 → r ≡ depth_of s es (own x c)
          none z = told ∙ ap (λ (m : Bool). pick m 1 (depth_field (depth_width s) tab ((h.from + i) / 5) + 1)) (eq-eqb v 0 z)
              ∙ depth_one s es x c k d.is (sym count ∙ z)

          some' : 0 < v → r ≡ depth_of s es (own x c)
          some' z =
              let a = subst (λ (w : Bytes). Stands w c i) (file_is ∙ stored_file f s end es self (home_of s end t p) x st) q.rest.stands in
              let w = kept.told es d.parents.imported.setting.size d.parents.imported.setting.stand d.parents.imported.setting.sound
              (home_of s end t p) x st c k i d.is (omega (arith, z, count)) a in
              let j : h.from ≡ (home_of s end t p).from = ap (λ (v : Home). v.from) e in
              told ∙ ap (λ (m : Bool). pick m 1 (depth_field (depth_width s) tab ((h.from + i) / 5) + 1)) (ne_eqb v 0 (λ y. omega (arith, y, z))) ∙ ap
              (λ (m : ℕ). depth_field (depth_width s) tab ((m + i) / 5) + 1) j ∙ w

      pub told_is : DepthIs f s end (home_of s end t p) c r
      told_is = elim (dec_le p 0) [ yes o ↦ own_case (omega arith) | no o ↦ stored_case (λ z. o (omega arith)) ]
