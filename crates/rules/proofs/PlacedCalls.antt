-- With the places found for a file's imports, its calls name what they name by AIDs, so that questions 18 and 19 say the same. Assumes nothing.
use Prim.Native.Nat.{ℕ, zero, suc}
use mathlib.Core.Path.{◌≡◌, refl, sym, ◌∙◌, ap}
use mathlib.Core.Logic.{◌⊎◌, inl, inr}
use mathlib.Core.Bool.{true, false}
use mathlib.Core.List.{List, [], ◌∷◌, map, Memᴰ}
use mathlib.Core.Option.{Option, some}
use lib.Dec.{T}
use Rattle.rules.specs.Bytes.{Aid, at, ◌and_then◌, list_of}
use Rattle.rules.specs.Code.{Call}
use Rattle.rules.specs.Package.{Limits, ClassNumber, Reference}
use Rattle.rules.specs.Store.{Opening, opening_limits, opening_length, Entry}
use Rattle.rules.specs.Classes.{Installed, installed, has_aid, by_aid, package_numbered, ClassAt, record_of, class_named, parents_named, parents_of, MethodAt}
use Rattle.rules.specs.Search.{search_up_to, search_by}
use Rattle.rules.specs.Questions.{Named, reference_names, call_names, q12_new, q18_calls, q19_allowed}
use Rattle.rules.specs.Places.{package_place, import_places, package_at, number_placed, class_placed, own_parents, parents_placed, reference_placed, call_placed, calls_placed, allowed_placed}
use Rattle.rules.proofs.Tests.{is_true}
use Rattle.rules.proofs.Lists.{flat_cong, list_of_cong, and_then_cong}
use Rattle.rules.proofs.Agree.{calls_named, calls_allowed}
use Rattle.rules.proofs.Homes.{class_home, parent_home, own_aid_lem, other_aid}
use Rattle.rules.proofs.SearchBy.{search_by_lem}
use Rattle.rules.proofs.Placed.{package_placed}

module _ (v : Opening) (es : List Entry) (self : Installed) where
  abbrev l : Limits
  l = opening_limits v

  abbrev is : List Installed
  is = installed l es

  abbrev places : List (Option ℕ)
  places = import_places v es self.pack

  -- the package at an import's place is the one with its AID
  at_places : (xs : List Aid) (k : ℕ) → (at (map (package_place v es) xs) k and_then λ o. o and_then package_at v es) ≡ (at xs k and_then by_aid is)
  at_places [] k = refl
  at_places (a ∷ xs) zero = package_placed l a (opening_length v) es
  at_places (a ∷ xs) (suc k) = at_places xs k

  pub number_placed_lem : (k : ℕ) → number_placed v es places self k ≡ package_numbered is self k
  number_placed_lem zero = refl
  number_placed_lem (suc k) = at_places self.pack.imports k

  class_placed_lem : (x : ClassNumber) → class_placed v es places self x ≡ class_named is self x
  class_placed_lem x = ap (λ (o : Option Installed). o and_then λ i. some (record { home = i; number = x.class })) (number_placed_lem x.pack)

  own_parents_lem : (c : ClassAt) → c.home ≡ self → parents_of is c ≡ own_parents v es places self c
  own_parents_lem c e = list_of_cong (record_of c) _ _ (λ k r. ap (λ (i : Installed). parents_named is i k.parents) e
      ∙ flat_cong _ _ k.parents (λ x m. ap (λ (o : Option ClassAt). list_of o (λ d. d ∷ [])) (sym (class_placed_lem x))))

  -- the file's package, or an installed one
  abbrev Known : Installed → Type 0
  Known i = (i ≡ self) ⊎ Memᴰ i is

  known_parent : (c : ClassAt) → Known c.home → (d : ClassAt) → Memᴰ d (parents_of is c) → Known d.home
  known_parent c h d m = parent_home is Known (λ x k. inr k) c d h m

  module _ (q12 : T (q12_new is self.pack)) where
    -- a class of the file is told by the AID of its package
    parents_placed_lem : (c : ClassAt) → Known c.home → parents_of is c ≡ parents_placed v es places self c
    parents_placed_lem c (inl e) =
        let own : has_aid self.pack.aid c.home ≡ true = rw e (is_true _ (own_aid_lem is self)) in
        rw own (own_parents_lem c e)
    parents_placed_lem c (inr m) = let other : has_aid self.pack.aid c.home ≡ false = other_aid is self q12 c.home m in rw other

    search_placed : (c : ClassAt) (n : ℕ) → Known c.home → search_by (parents_placed v es places self) l.depth c n ≡ search_up_to is l.depth c n
    search_placed c n h = sym (search_by_lem (parents_of is) (parents_placed v es places self) (λ d. Known d.home) parents_placed_lem known_parent l.depth c n h)

    reference_placed_lem : (r : Reference) → reference_placed v es places self r ≡ reference_names l is self r
    reference_placed_lem r =
        ap (λ (o : Option ClassAt). o and_then meant (parents_placed v es places self)) (class_placed_lem r.class)
        ∙ and_then_cong (class_named is self r.class) (meant (parents_placed v es places self)) (meant (parents_of is))
        (λ c e. ap (λ (o : Option MethodAt). o and_then λ m. some (record { class = c; means = m })) (search_placed c r.name (home c e)))
      where
        meant : (ClassAt → List ClassAt) → ClassAt → Option Named
        meant up c = search_by up l.depth c r.name and_then λ m. some (record { class = c; means = m })

        home : (c : ClassAt) → class_named is self r.class ≡ some c → Known c.home
        home c e = class_home is Known (λ x k. inr k) self (inl refl) r.class c e

    pub call_placed_lem : (c : Call) → call_placed v es places self c ≡ call_names l is self c
    call_placed_lem c = and_then_cong (at self.pack.references c.index) _ _ (λ r e. reference_placed_lem r)

    pub q18_placed : calls_placed v es places self ≡ q18_calls l is self
    unfolding q18_calls
    q18_placed = calls_named (call_placed v es places self) (call_names l is self) self call_placed_lem

    pub q19_placed : allowed_placed v es places self ≡ q19_allowed l is self
    unfolding q19_allowed
    q19_placed = calls_allowed (call_placed v es places self) (call_names l is self) self call_placed_lem
