-- Questions 12 and 13: the package's own AID and its imports, looked for among the entries, and the table of the imports' homes.
-- Assumes nothing.
use Rattle.std.specs.Prelude.{not, Some, None}
use Rattle.std.specs.Prelude.{Option as Optional}
use Rattle.homes.specs.declared.Home.{Home}
use Prim.Native.Nat.{ℕ, zero, suc, ◌≤◌, ◌<◌}
use native.Mathlib.Omega.{arith}
use mathlib.Core.Path.{◌≡◌, refl, sym, ◌∙◌, ap, subst}
use mathlib.Core.Bool.{Bool, true, false, ◌&&◌}
use mathlib.Core.List.{List, [], ◌∷◌}
use mathlib.Core.Option.{none, some}
use lib.ListN.{length, get_or}
use Rattle.rules.specs.Bytes.{Bytes, Aid, all, at, u1, aid}
use Rattle.rules.specs.Package.{most_imports}
use Rattle.rules.specs.Store.{store_limits, store_opening}
use Rattle.rules.specs.Questions.{q12_new}
use Rattle.places.specs.Reads.{Ends}
use Rattle.places.proofs.Steady.{steady_u1, steady_aid}
use Rattle.places.proofs.Inverse.{reads_u1, reads_counted}
use Rattle.places.proofs.Track.{placed_at, placed_none, many_length, counted_inside}
use Rattle.files.specs.Say.{Readable, OwnAid, ImportsAt, Aids, AidNth, AidBytes}
use Rattle.files.proofs.Walks.{imports_read}
use Rattle.store.specs.Entries.{FilesStand}
use Rattle.store.specs.Answers.{FileAt}
use Rattle.std.specs.Option as optional
use Rattle.store.specs.declared.FileBounds.{FileBounds}
use Rattle.index.specs.Index.{IndexIs}
use Rattle.homes.specs.Found.{Indexed}
use Rattle.homes.specs.Homes.{HomeSays, ByAid}
use Rattle.homes.proofs.Homes.{all_read}
use Rattle.imports.specs.Say.{SettingThere, OfSetting, NewIs, ImportHomeIs}

-- where every element of a list passes a test it passes for all, where one does not it does not
pub every : {A : Type 0} (p : A → Bool) (xs : List A) → ((i : ℕ) (x : A) → at xs i ≡ some x → p x ≡ true) → all p xs ≡ true
every p [] h = refl
every p (x ∷ xs) h = rw (h 0 x refl) (every p xs (λ i y e. h (suc i) y e))

pub one_not : {A : Type 0} (p : A → Bool) (xs : List A) (i : ℕ) (x : A) → at xs i ≡ some x → p x ≡ false → all p xs ≡ false
one_not p [] i x e h = let z : ◌≡◌ {A = ℕ} 0 1 = cc in absurd (omega arith)
one_not p (y ∷ ys) zero x e h = let z : y ≡ x = cc in rw (ap p z ∙ h)
one_not p (y ∷ ys) (suc i) x e h = go (p y) (one_not p ys i x e h)
  where
    go : (b : Bool) → all p ys ≡ false → (b && all p ys) ≡ false
    go true n = n
    go false n = refl

module _ (f s : Bytes) (end : ℕ) where
  pub setting_reads : SettingThere f s end → Readable f
  setting_reads t = (store_limits s, t.1.pack, t.2.reads)

  pub setting_stands : SettingThere f s end → FilesStand s end
  setting_stands t = (t.0, t.2.stand, all_read (store_opening s) t.2.size [] t.0 t.2.sound)

  pub indexed : (index : List ℕ) → SettingThere f s end → IndexIs s end index → Indexed s end index
  indexed index t i = record { files = setting_stands t; is = i }

  -- 12
  module _ (a : Aid) (o : OwnAid f a) where
    pub new_is : (r : Optional FileBounds) → FileAt s end a r → (b : Bool) → optional.is_some r ≡ not b → NewIs f s end b
    unfolding q12_new
    new_is (Some x) q false e es self g =
        let z = o (store_limits s) self.pack g.reads in
        let p = q es g.stand (all_read (store_opening s) g.size [] es g.sound) in
        rw (← z, p.is)
    new_is None q true e es self g =
        let z = o (store_limits s) self.pack g.reads in
        let p = q es g.stand (all_read (store_opening s) g.size [] es g.sound) in
        rw (← z, p.1)
    new_is (Some x) q true e es self g = let z : ◌≡◌ {A = ℕ} 0 1 = cc in absurd (omega arith)
    new_is None q false e es self g = let z : ◌≡◌ {A = ℕ} 0 1 = cc in absurd (omega arith)

  -- 13: the list of imports
  module _ (i : ℕ) (h : ImportsAt f i) (t : SettingThere f s end) where
    pub imports_aids : Aids f i
    imports_aids = let x = imports_read h (store_limits s) t.1.pack t.2.reads in (most_imports, (t.1.pack.imports, x.0, x.1))

    pub imports_inside : i < length f
    imports_inside = let x = imports_read h (store_limits s) t.1.pack t.2.reads in counted_inside aid f most_imports i t.1.pack.imports x.0 x.1

    pub imports_few : get_or f i 0 ≤ 15
    imports_few =
        let x = imports_read h (store_limits s) t.1.pack t.2.reads in
        let c = reads_counted most_imports u1 aid steady_u1 f i t.1.pack.imports x.0 x.1 in
        let u = reads_u1 f i c.number c.place c.count in
        omega (arith, u.byte, c.small)

  -- the import count
  pub imports_count : (i : ℕ) → ImportsAt f i → OfSetting f s end λ es self. get_or f i 0 ≡ length self.pack.imports
  imports_count i h es self g =
      let x = imports_read h (store_limits s) self.pack g.reads in
      let c = reads_counted most_imports u1 aid steady_u1 f i self.pack.imports x.0 x.1 in
      let u = reads_u1 f i c.number c.place c.count in
      u.byte ∙ sym (many_length aid steady_aid c.number f c.place self.pack.imports x.0 c.list)

  -- import k
  module _ (i k : ℕ) (h : ImportsAt f i) where
    pub import_ends : (c : ℕ) → AidNth f i k (Some c) → SettingThere f s end → Ends aid f c
    import_ends c n t =
        let x = imports_read h (store_limits s) t.1.pack t.2.reads in
        let y = placed_at (n _ t.1.pack.imports x.0 x.1) in (y.0, y.1, y.3)

    pub import_is : (c : ℕ) (b : Aid) → AidNth f i k (Some c) → AidBytes f c b → (r : Optional Home) → ByAid s end b r → ImportHomeIs f s end k r
    import_is c b n q r w es self g a e =
        let x = imports_read h (store_limits s) self.pack g.reads in
        let y = placed_at (n _ self.pack.imports x.0 x.1) in
        let z : b ≡ y.0 = q y.0 y.1 y.3 in
        let v : some y.0 ≡ some a = sym y.2 ∙ e in
        let u : y.0 ≡ a = cc in
        subst (λ (d : Aid). HomeSays s es d r) (z ∙ u) (w es g.stand (all_read (store_opening s) g.size [] es g.sound))

    pub import_never : AidNth f i k None → ImportHomeIs f s end k None
    import_never n es self g a e =
        let x = imports_read h (store_limits s) self.pack g.reads in
        let y = placed_none (n _ self.pack.imports x.0 x.1) in
        let z : none ≡ some a = sym y ∙ e in
        let w : ◌≡◌ {A = ℕ} 0 1 = cc in absurd (omega arith)
