-- The depths of classes behind a package's entry: of its own ones, and of those of the packages before it. Assumes nothing.
use Prim.Native.Nat.{ℕ, suc, ◌+◌, ◌/◌, ◌<◌}
use mathlib.Core.Path.{◌≡◌, sym, ◌∙◌, ap, subst}
use mathlib.Core.List.{List, [], ◌∷◌, ◌++◌}
use mathlib.Core.Option.{some}
use lib.Dec.{T}
use lib.ListN.{length, get_or}
use Rattle.rules.specs.Bytes.{Bytes, Aid, at}
use Rattle.rules.specs.Package.{Class, Package, read_file}
use Rattle.rules.specs.Store.{Entry, loaded, first_entry, store_limits, store_opening}
use Rattle.rules.specs.Classes.{Installed, installed_by, installed, ClassAt, depth_up_to}
use Rattle.rules.specs.Questions.{q13_imports, own}
use Rattle.rules.specs.Operations.{accepted_all, sound_entries}
use Rattle.rules.proofs.Lists.{flat_append}
use Rattle.rules.proofs.Asked.{LoadYes, parents_yes}
use Rattle.rules.proofs.Sound.{Sane, sound_sane}
use Rattle.store.specs.Entries.{part, Entries}
use Rattle.homes.specs.Homes.{Setting, Parents, Stored}
use Rattle.homes.specs.Homes as homes
use Rattle.homes.specs.declared.Home.{Home}
use Rattle.named.specs.Named.{Stands}
use Rattle.depths.specs.Depths.{DepthsKept, OwnDepths, depth_of, depth_width, depth_field}
use Rattle.depths.proofs.Records.{RecordBy, record_by}
use Rattle.depths.proofs.Written.{stands_class}
use Rattle.depths.proofs.Longer.{stored_mem, depth_more}

-- a package more
module _ (s f : Bytes) (es : List Entry) (end : ℕ) (d : Aid) (stand : Entries s (first_entry s) es end) (size : ℕ)
    (sound : T (accepted_all (store_opening s) size [] es)) (p : Package) (yes_of : LoadYes (store_opening s) size es d f p) where
  abbrev self : Installed
  self = record { domain = d; pack = p }

  abbrev is : List Installed
  is = installed (store_limits s) es

  sane : Sane (store_limits s) is
  unfolding sound_entries
  sane = sound_sane (store_opening s) size es sound

  -- what was told of a class is so with it
  same_depth : (c : ClassAt) → T (q13_imports is c.home.pack) → depth_of s es c ≡ depth_of s (es ++ loaded d f ∷ []) c
  same_depth c q =
      depth_more (store_limits s) is (installed (store_limits s) (loaded d f ∷ [])) sane (suc (store_limits s).depth) c q
      ∙ ap (λ (v : List Installed). depth_up_to v (suc (store_limits s).depth) c) (sym (flat_append (installed_by (store_limits s)) es (loaded d f ∷ [])))

  -- it was judged over the others
  judged : Parents f s end es self
  judged =
      let g : Setting f s end es self = record { stand = stand; size = size; sound = sound; reads = yes_of.q11 } in
      record { imported = record { setting = g; imports = yes_of.q13 }; exist = (parents_yes (store_limits s) is self yes_of.inside.q14).exist }

  -- the depths of its classes
  pub own_is : (ds : List ℕ) → OwnDepths f s end ds → (x : Installed) → x ≡ self → (n : ℕ) (k : Class) → at x.pack.classes n ≡ some k →
      get_or ds n 0 ≡ depth_of s (es ++ loaded d f ∷ []) (own x n)
  own_is ds o x e n k z =
      let g : Parents f s end es x = subst (Parents f s end es) (sym e) judged in
      o n es x x k (record { parents = g; home = homes.own; is = z }) ∙ same_depth (own x n) g.imported.imports

  -- of the classes of the others
  pub other_is : (t : List ℕ) → DepthsKept s end t → (h : Home) (x : Installed) → Stored s es h x → (n : ℕ) (k : Class) (i : ℕ) →
      at x.pack.classes n ≡ some k → 0 < length k.parents → Stands (part s h.from h.to) n i →
      depth_field (depth_width s) t ((h.from + i) / 5) + 1 ≡ depth_of s (es ++ loaded d f ∷ []) (own x n)
  other_is t kept h x y n k i z ps here =
      kept.told es size stand sound h x y n k i z ps here ∙ same_depth (own x n) (sane.imports x (stored_mem s es h x y))

-- the record of a class of a stored file, by its bytes
pub class_record : (s : Bytes) (from to : ℕ) (p : Package) (n i : ℕ) (k : Class) → read_file (store_limits s) (part s from to) ≡ some p →
    at p.classes n ≡ some k → Stands (part s from to) n i → RecordBy (part s from to) i k
class_record s from to p n i k e z here =
    let g : Bytes = part s from to in
    record_by (store_limits s) g p n i k e (stands_class (store_limits s) g p n i k e z here) z
