-- Files, classes and packages looked up at a home: what the functions' returns say. Assumes nothing.
use Rattle.std.specs.Prelude.{ℕ, Some, None}
use Rattle.std.specs.Prelude.{Option as Optional}
use Rattle.fields.specs.Told.{told}
use Prim.Native.Nat.{ℕ, zero, suc, ◌-◌, ◌≤◌}
use native.Mathlib.Omega.{arith}
use mathlib.Core.Path.{◌≡◌, refl, sym, ◌∙◌, ap, subst, subst⁻¹}
use mathlib.Core.List.{Memᴰ}
use mathlib.Core.Option.{Option, some}
use lib.ListN.{length, take, drop, length-drop}
use lib.Seq.{take_all}
use borrow.Author.Tests.{eq-eqb, ne_eqb}
use Rattle.rules.specs.Bytes.{Bytes, Aid, at, is_some, aid}
use Rattle.rules.specs.Package.{class, read_file}
use Rattle.rules.specs.Store.{store_limits}
use Rattle.rules.specs.Classes.{Installed, installed, by_aid, package_numbered}
use Rattle.rules.specs.Questions.{q13_imports}
use Rattle.rules.proofs.Tests.{all_mem}
use Rattle.rules.proofs.Lists.{at_mem}
use Rattle.places.specs.Reads.{Ends, Placed}
use Rattle.places.proofs.Track.{placed_at, placed_none}
use Rattle.files.specs.Say.{Readable, ImportsAt, AidNth, AidBytes}
use Rattle.files.specs.Say as say
use Rattle.files.proofs.Walks.{imports_read}
use Rattle.store.specs.Entries.{part, FilesStand}
use Rattle.store.specs.Answers.{FileSays, FileAt}
use Rattle.store.specs.declared.FileBounds.{FileBounds}
use Rattle.homes.specs.Homes.{file_of, format_at, HomeThere, FoundIs, HomeSays, ByAid, ImportPlaced, NumberedIs, ClassPlaced}
use Rattle.homes.specs.declared.Home.{Home}
use Rattle.homes.proofs.Earlier.{earlier}
use Rattle.homes.proofs.Homes.{home_reads, home_bounds, Before, home_before, import_found, import_there}

module _ (f s : Bytes) (h : Home) where
  -- the file at a home
  pub file_own : h.from ≡ 0 → f ≡ file_of f s h
  file_own e = rw (eq-eqb h.from 0 e)

  pub file_part : (h.from ≡ 0 → ⊥) → part s h.from h.to ≡ file_of f s h
  file_part n = rw (ne_eqb h.from 0 n)

  pub there_bounds : HomeThere f s h → (h.from ≤ h.to) × (h.to ≤ length s)
  there_bounds t = home_bounds f s t.0 t.1 t.2 h t.4 t.5

  module _ (g : Bytes) (e : g ≡ file_of f s h) where
    pub there_reads : HomeThere f s h → Readable g
    there_reads t = (store_limits s, t.4.pack, ap (read_file (store_limits s)) e ∙ home_reads f s t.0 t.1 t.2 t.3.setting h t.4 t.5)

    -- a class's record in it
    pub class_placed_lem : (n : ℕ) (r : Optional ℕ) → say.ClassPlaced g n r → ClassPlaced f s h n r
    class_placed_lem n r p end es self i x t =
        subst (λ (b : Bytes). Placed (class (format_at s b) x.pack.domains) b (at x.pack.classes n) (told r)) e
        (p (store_limits s) x.pack (ap (read_file (store_limits s)) e ∙ home_reads f s end es self i.setting h x t))

-- the bytes from a place to the end
pub rest_is : (g : Bytes) (c : ℕ) → take (length g - c) (drop c g) ≡ drop c g
rest_is g c = take_all (length g - c) (drop c g) (omega (arith, length-drop c g))

-- import k of a file
pub import_placed : (g : Bytes) (i k : ℕ) (r : Optional ℕ) → ImportsAt g i → AidNth g i k r → ImportPlaced g k r
import_placed g i k r q n l p e = let t = imports_read q l p e in n _ p.imports t.0 t.1

-- the search for a package, as a home
pub by_aid_file : (s : Bytes) (end : ℕ) (a : Aid) (r : Optional FileBounds) (b : FileBounds) → r ≡ Some b → FileAt s end a r → ByAid s end a
    (Some (record { from = b.from; to = b.to; before = b.at }))
by_aid_file s end a r b e q es t u = subst (FileSays s es a) e (q es t u)

pub by_aid_missing : (s : Bytes) (end : ℕ) (a : Aid) (r : Optional FileBounds) → r ≡ None → FileAt s end a r → ByAid s end a None
by_aid_missing s end a r e q es t u = (subst (FileSays s es a) e (q es t u)).1

-- the package of import k of the file at a home
module _ (f s : Bytes) (h : Home) where
  pub numbered_none : (g : Bytes) (k : ℕ) → g ≡ file_of f s h → ImportPlaced g k None → NumberedIs f s h (suc k) None
  numbered_none g k e p end es self i x t =
      let n = placed_none (p (store_limits s) x.pack (ap (read_file (store_limits s)) e ∙ home_reads f s end es self i.setting h x t)) in
      rw n

  pub numbered_at : (g : Bytes) (k c : ℕ) (a : Aid) → g ≡ file_of f s h → ImportPlaced g k (Some c) → AidBytes g c a →
      (stop : ℕ) → FilesStand s stop → h.before ≤ stop → (r : Optional Home) → ByAid s stop a r → NumberedIs f s h (suc k) r
  unfolding q13_imports
  numbered_at g k c a e p q stop d le r w end es self i x t =
      let n = placed_at (p (store_limits s) x.pack (ap (read_file (store_limits s)) e ∙ home_reads f s end es self i.setting h x t)) in
      let z : n.0 ≡ a = sym (q n.0 n.1 n.3) in
      let m : Memᴰ a x.pack.imports = at_mem x.pack.imports k a (n.2 ∙ ap some z) in
      let b = home_before f s end es self i h x t in
      let o : package_numbered (installed (store_limits s) es) x (suc k) ≡ by_aid (installed (store_limits s) es) a = rw (n.2 ∙ ap some z) in
      let here = all_mem (λ y. is_some (by_aid (installed (store_limits s) b.pre) y)) b.imports m in
      subst⁻¹ (λ (v : Option Installed). FoundIs f s end es self h v r) o
      (found r m b (earlier s stop h.before a d.0 b.pre d.1 b.stand le here r (w d.0 d.1 d.2)))
    where
      found : (r : Optional Home) → Memᴰ a x.pack.imports → (b : Before f s end es self h x) → HomeSays s b.pre a r → FoundIs f s end es self h
          (by_aid (installed (store_limits s) es) a) r
      found (Some v) m b u = import_found f s end es self h x b a m v.before v.from v.to u
      found None m b u = absurd (import_there f s end es self h x b a m u)

-- an import's AID stands at the place told
pub import_ends : (g : Bytes) (k c : ℕ) → Readable g → ImportPlaced g k (Some c) → Ends aid g c
import_ends g k c r p = let q = placed_at (p r.0 r.1 r.2) in (q.0, q.1, q.3)

-- a number that is not 0
pub numbered_suc : (f s : Bytes) (h : Home) (k : ℕ) (r : Optional Home) → (k ≡ 0 → ⊥) → NumberedIs f s h (suc (k - 1)) r → NumberedIs f s h k r
numbered_suc f s h zero r n q = absurd (n refl)
numbered_suc f s h (suc k) r n q = let e : suc k - 1 ≡ k = omega arith in subst (λ (m : ℕ). NumberedIs f s h (suc m) r) e q

pub numbered_zero : (f s : Bytes) (h : Home) (k : ℕ) → k ≡ 0 → NumberedIs f s h k (Some h)
numbered_zero f s h k e = subst⁻¹ (λ (m : ℕ). NumberedIs f s h m (Some h)) e refl
