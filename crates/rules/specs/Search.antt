-- Which declaration a class and a name mean (document 02, request 3), computed: the twin of Means in Paths. Assumes nothing.
--
-- up                    == a function that tells a class's parents
-- chain_by up k c        == the class and its kind-0 parents upwards, at most k steps up
-- interfaces_by up k c   == the interfaces among its parents and theirs, depth first in listed order, an interface before its own, at most k steps up
-- searched_by up k c     == the classes in the order of the search
-- search_by up k c n     == the declaration that c and n mean: that of the first of these that declares n, in any form
-- chain_up_to is, interfaces_up_to is, searched_up_to is, search_up_to is == the same by the parents that the installed packages give
-- interface_parents is c == the interfaces among these parents of a class, in listed order
use Rattle.std.specs.Prelude.{ℕ, zero, suc, List, [], ◌∷◌, ◌++◌}
use Rattle.std.proofs.Math.Option.{Option}
use Rattle.rules.specs.Bytes.{keep, find, first_of, list_of, flat}
use Rattle.rules.specs.Classes.{Installed, ClassAt, parents_of, is_kind0, is_interface, MethodAt, declared_at}

abbrev pub chain_by : (ClassAt → List ClassAt) → ℕ → ClassAt → List ClassAt
chain_by up zero c = c ∷ []
chain_by up (suc k) c = c ∷ list_of (find is_kind0 (up c)) (chain_by up k)

abbrev pub interfaces_by : (ClassAt → List ClassAt) → ℕ → ClassAt → List ClassAt
interfaces_by up zero c = []
interfaces_by up (suc k) c = flat (λ i. i ∷ interfaces_by up k i) (keep is_interface (up c))

-- the class itself, its kind-0 parent chain, then its interfaces and theirs, each chain member's in turn
abbrev pub searched_by : (ClassAt → List ClassAt) → ℕ → ClassAt → List ClassAt
searched_by up k c = chain_by up k c ++ flat (interfaces_by up k) (chain_by up k c)

abbrev pub search_by : (ClassAt → List ClassAt) → ℕ → ClassAt → ℕ → Option MethodAt
search_by up k c n = first_of (declared_at n) (searched_by up k c)

-- by the parents that the installed packages give
abbrev pub chain_up_to : List Installed → ℕ → ClassAt → List ClassAt
chain_up_to is = chain_by (parents_of is)

abbrev pub interface_parents : List Installed → ClassAt → List ClassAt
interface_parents is c = keep is_interface (parents_of is c)

abbrev pub interfaces_up_to : List Installed → ℕ → ClassAt → List ClassAt
interfaces_up_to is = interfaces_by (parents_of is)

abbrev pub searched_up_to : List Installed → ℕ → ClassAt → List ClassAt
searched_up_to is = searched_by (parents_of is)

abbrev pub search_up_to : List Installed → ℕ → ClassAt → ℕ → Option MethodAt
search_up_to is = search_by (parents_of is)
