-- The first of two and of a list, and the parents that are interfaces. Assumes nothing.
use mathlib.Core.Path.{◌≡◌, refl, ◌∙◌}
use mathlib.Core.Bool.{Bool, true, false, not}
use mathlib.Core.List.{List, ◌∷◌}
use mathlib.Core.Option.{Option, none, some}
use Rattle.rules.specs.Bytes.{pick, or_else, keep, first_of}
use Rattle.rules.specs.Package.{ClassNumber, Class}
use Rattle.rules.specs.Classes.{Installed, ClassAt, record_of, class_named, parents_named, is_kind0, is_interface, MethodAt}

-- the first of two, where the one is there, and where it is not
pub first_there : {A : Type 0} (o p : Option A) (a : A) → o ≡ some a → or_else o p ≡ some a
first_there o p a e = rw e

pub second_there : {A : Type 0} (o p : Option A) → o ≡ none → or_else o p ≡ p
second_there o p e = rw e

-- the second, if the first is not there, whether it is asked or not
pub none_there : {A : Type 0} (b : Bool) (o p : Option A) → o ≡ none → pick b (or_else o p) p ≡ p
none_there true o p e = second_there o p e
none_there false o p e = refl

-- an interface is there, and is not of kind 0
pub interface_is : (c : ClassAt) (k : Class) → record_of c ≡ some k → (b : Bool) → b ≡ is_kind0 c → is_interface c ≡ not b
interface_is c k e b z = go k.interface refl
  where
    go : (i : Bool) → k.interface ≡ i → is_interface c ≡ not b
    go true i = let w : b ≡ false = z ∙ rw (e, i) in rw (w, e, i)
    go false i = let w : b ≡ true = z ∙ rw (e, i) in rw (w, e, i)

-- the first of the parents that are interfaces
pub first_named : (is : List Installed) (x : Installed) (p : ClassNumber) (ps : List ClassNumber) (c : ClassAt) (b : Bool) (g : ClassAt → Option MethodAt) →
    class_named is x p ≡ some c → is_interface c ≡ b →
    first_of g (keep is_interface (parents_named is x (p ∷ ps))) ≡ pick b (or_else (g c) (first_of g (keep is_interface (parents_named is x ps))))
    (first_of g (keep is_interface (parents_named is x ps)))
first_named is x p ps c true g e i = rw (e, i)
first_named is x p ps c false g e i = rw (e, i)
