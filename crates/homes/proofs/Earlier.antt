-- A package that is found by its AID among all entries stands among the earlier ones, where it is installed there. Assumes nothing.
use Rattle.std.specs.Prelude.{Some, None}
use Rattle.std.specs.Prelude.{Option as Optional}
use Rattle.homes.specs.declared.Home.{Home}
use Prim.Native.Nat.{ℕ, ◌+◌, ◌≤◌}
use native.Mathlib.Omega.{arith}
use mathlib.Core.Path.{◌≡◌, refl, sym, ◌∙◌, ap}
use mathlib.Core.Bool.{Bool, true, false, ◌||◌}
use mathlib.Core.List.{List, [], ◌∷◌, ◌++◌}
use mathlib.Core.Option.{Option, none, some}
use lib.Dec.{T}
use lib.ListN.{length}
use Rattle.rules.specs.Bytes.{Bytes, Aid, pick, any, is_some}
use Rattle.rules.specs.Store.{Entry, entry_bytes, first_entry, store_limits}
use Rattle.rules.specs.Classes.{Installed, installed_by, installed, by_aid}
use Rattle.rules.specs.Operations.{is_package}
use Rattle.rules.proofs.Lists.{flat_append}
use Rattle.rules.proofs.Sound.{by_aid_more}
use Rattle.store.specs.Entries.{Entries, place_of}
use Rattle.store.proofs.Stand.{Split, entries_split}
use Rattle.store.proofs.Asked.{by_aid_none}
use Rattle.homes.specs.Homes.{HomeSays}

-- the first entry that a test finds, where it finds one in front
place_front : (q : Entry → Bool) (i : ℕ) (es fs : List Entry) → any q es ≡ true → place_of q i (es ++ fs) ≡ place_of q i es
place_front q i [] fs h = let z : ◌≡◌ {A = ℕ} 0 1 = cc in absurd (omega arith)
place_front q i (e ∷ es) fs h = go (q e) h (place_front q (i + length (entry_bytes e)) es fs)
  where
    go : (b : Bool) → (b || any q es) ≡ true → (any q es ≡ true → place_of q (i + length (entry_bytes e)) (es ++ fs) ≡ place_of q (i + length (entry_bytes e)) es) →
        pick b (some (i, i + length (entry_bytes e))) (place_of q (i + length (entry_bytes e)) (es ++ fs)) ≡ pick b (some (i, i + length (entry_bytes e)))
        (place_of q (i + length (entry_bytes e)) es)
    go true k r = refl
    go false k r = r k

-- of the entries es that end at a place, those in front end at another
module _ (s : Bytes) (end before : ℕ) (a : Aid) (es pre : List Entry) (stand : Entries s (first_entry s) es end)
    (front : Entries s (first_entry s) pre before) (h : before ≤ end) (here : T (is_some (by_aid (installed (store_limits s) pre) a))) where
  rest : Split s es pre before end
  rest = entries_split s (first_entry s) es pre before end h front stand

  package_here : any (is_package (store_limits s) a) pre ≡ true
  package_here = go (any (is_package (store_limits s) a) pre) refl
    where
      no_none : (o : Option Installed) → o ≡ none → T (is_some o) → ⊥
      no_none none e t = t
      no_none (some x) e t = let z : ◌≡◌ {A = ℕ} 0 1 = cc in absurd (omega arith)

      go : (b : Bool) → any (is_package (store_limits s) a) pre ≡ b → b ≡ true
      go true e = refl
      go false e = absurd (no_none (by_aid (installed (store_limits s) pre) a) (by_aid_none (store_limits s) a pre e) here)

  same_package_lem : by_aid (installed (store_limits s) pre) a ≡ by_aid (installed (store_limits s) es) a
  same_package_lem =
      by_aid_more (installed (store_limits s) pre) (installed (store_limits s) rest.rest) a here
      ∙ ap (λ (is : List Installed). by_aid is a) (sym (flat_append (installed_by (store_limits s)) pre rest.rest) ∙ ap (installed (store_limits s))
      (sym rest.are))

  pub earlier : (r : Optional Home) → HomeSays s es a r → HomeSays s pre a r
  earlier (Some v) p = record {
    place = sym (place_front (is_package (store_limits s) a) (first_entry s) pre rest.rest package_here) ∙ ap
        (place_of (is_package (store_limits s) a) (first_entry s)) (sym rest.are) ∙ p.place;
    home = p.home;
    stands = p.stands;
    inside = p.inside;
    is = same_package_lem ∙ p.is;
    reads = p.reads;
    from = p.from;
    to = p.to;
  }
  earlier None e = same_package_lem ∙ e
