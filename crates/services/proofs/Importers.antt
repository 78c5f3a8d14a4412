-- Question 8: the walk over a file's imports, and over the installed packages. Assumes nothing.
use Prim.Native.Nat.{ℕ, ◌+◌, ◌≤◌, ◌<◌}
use native.Mathlib.Omega.{arith}
use mathlib.Core.Path.{◌≡◌, refl, sym, ◌∙◌, ap, subst}
use mathlib.Core.Bool.{Bool, true, false, ◌&&◌, ◌||◌, not}
use mathlib.Core.List.{List, [], ◌∷◌}
use mathlib.Core.Option.{some}
use Rattle.rules.specs.Bytes.{Bytes, Aid, is_some, any, all, u1, aid, counted, same}
use Rattle.rules.specs.Package.{Limits, Package, most_imports, read_file}
use Rattle.rules.specs.Store.{Entry, domain, loaded, store_limits, first_entry}
use Rattle.rules.specs.Classes.{Installed, installed, has_aid}
use Rattle.rules.specs.Questions.{q8_unused}
use Rattle.places.specs.Reads.{EndsAt, Tracks}
use Rattle.places.proofs.Steady.{steady_aid}
use Rattle.places.proofs.Search.{some_hit, some_miss, some_none}
use Rattle.places.proofs.Parts.{file_parts}
use Rattle.files.specs.Say.{AidIs, ImportsAt}
use Rattle.files.proofs.Loops.{AidLoop}
use Rattle.files.proofs.Walks.{imports_read}
use Rattle.store.specs.Entries.{part, AllRead}
use Rattle.store.specs.Answers.{PartAt}
use Rattle.store.specs.declared.EntryPart.TheVariants.{Package as PackagePart}
use Rattle.std.specs.Prelude.{Some, None}
use Rattle.store.proofs.Walk.{place_any}
use Rattle.store.proofs.Find.{Walks, found_package, found_none}
use Rattle.services.specs.Answers.{ImportsSays, OtherSays, importer, ImportedSays}

-- the walk over a list of AIDs for one
abbrev pub Seeks : Aid → Bytes → ℕ → ℕ → ℕ → Type 0
Seeks a g i left c = AidLoop (any (same a)) (any (same a)) g i left c

module _ (a : Aid) (g : Bytes) (i left c : ℕ) (t : Seeks a g i left c) where
  pub imports_hit : 0 < left → AidIs g c a true → ImportsAt g i → ImportsSays g a true
  imports_hit h q at l p e =
      let r = imports_read at l p e in
      sym (some_hit aid steady_aid g (counted most_imports u1 aid) i left c (same a) (t most_imports) h (λ x m k. sym (q x m k)) p.imports r.0 r.1)

  pub imports_miss : (d rest : ℕ) → left ≡ rest + 1 → AidIs g c a false → EndsAt aid g c d → Seeks a g i rest d
  imports_miss d rest m q e most =
      let next = some_miss aid steady_aid g (counted most u1 aid) i left c (same a) (t most) d (omega (arith, m)) (λ x m k. sym (q x m k)) e in
      subst (λ (n : ℕ). Tracks aid g (counted most u1 aid) i (any (same a)) (any (same a)) n d) (omega (arith, m)) next

  pub imports_none : left ≤ 0 → ImportsAt g i → ImportsSays g a false
  imports_none h at l p e =
      let r = imports_read at l p e in
      sym (some_none aid steady_aid g (counted most_imports u1 aid) i left c (same a) (t most_imports) h p.imports r.0 r.1)

-- a file with that AID itself, and one with another
pub other_own : (g a : Bytes) → AidIs g 7 a true → OtherSays g a false
other_own g a q l p e = let t = file_parts l g p e in rw (sym (q p.aid t.domains_at t.named))

pub other_is : (g a : Bytes) (b : Bool) → AidIs g 7 a false → ImportsSays g a b → OtherSays g a b
other_is g a b q r l p e = let t = file_parts l g p e in r l p e ∙ rw (sym (q p.aid t.domains_at t.named))

-- an entry's file with another AID that imports this one, or not
pub importer_is : (l : Limits) (a d g : Bytes) (b : Bool) (p : Package) → read_file l g ≡ some p → OtherSays g a b → importer l a (loaded d g) ≡ b
importer_is l a d g b p e q = rw e (sym (q l p e))

-- 8 is the contrary of finding an importer
pub used_any : (l : Limits) (es : List Entry) (a : Aid) → AllRead l es → not (q8_unused (installed l es) a) ≡ any (importer l a) es
unfolding q8_unused
used_any l [] a h = refl
used_any l (domain k b ∷ es) a h = used_any l es a h.1
used_any l (loaded d f ∷ es) a h = rw h.0.1 (go (same a h.0.0.aid) (any (same a) h.0.0.imports) (used_any l es a h.1))
  where
    rest : Bool
    rest = all (λ (i : Installed). has_aid a i || not (any (same a) i.pack.imports)) (installed l es)

    go : (own lists : Bool) → not rest ≡ any (importer l a) es → not ((own || not lists) && rest) ≡ ((not own && lists) || any (importer l a) es)
    go true lists e = e
    go false true e = refl
    go false false e = e

module _ (a : Aid) (s : Bytes) (k i : ℕ) (w : Walks (importer (store_limits s) a) s k i) where
  pub imported_yes : (d m j : ℕ) → PartAt s i k (Some (PackagePart d m j)) → importer (store_limits s) a (loaded (part s d m) (part s m j)) ≡ true → ImportedSays
      s k a true
  imported_yes d m j p h es r reads = sym (used_any (store_limits s) es a reads ∙ sym (place_any (importer (store_limits s) a) (first_entry s) es) ∙ ap is_some
      (found_package w p h es r))

  pub imported_no : PartAt s i k None → ImportedSays s k a false
  imported_no p es r reads = sym (used_any (store_limits s) es a reads ∙ found_none w p es r)
