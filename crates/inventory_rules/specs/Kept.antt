-- The files accepted and not since removed, from the calls and their answers (document 02, request 1). Assumes nothing.
--
-- Load              == the domain and the file of a load
-- kept l xs os ks   == from the loads xs on, the loads that the calls os with the answers ks accepted and no later removal took out
-- sums l fs         == the sums over files: how many, their bytes, their methods
-- as_loaded x        == a load as the entry that it leaves
use Rattle.std.specs.Prelude.{ℕ, Bool, List, [], ◌∷◌, ◌++◌, map, length}
use Rattle.rules.specs.Bytes.{Bytes, Aid, pick, some_and, same}
use Rattle.rules.specs.Package.{Limits, read_file}
use Rattle.rules.specs.Store.{Entry, loaded}
use Rattle.rules.specs.Operations.{Operation, create, delete, load, remove, if_done}
use Rattle.inventory_rules.specs.Inventory.{sum_of, methods_of, Totals}

pub record Load : Type 0 where
  pub domain : Aid
  pub file : Bytes

-- the file's package has the AID
abbrev pub is_of : Limits → Aid → Load → Bool
is_of l a x = some_and (read_file l x.file) λ p. same a p.aid

-- the loads without the first one of the AID
abbrev pub without_load : Limits → Aid → List Load → List Load
without_load l a [] = []
without_load l a (x ∷ xs) = pick (is_of l a x) xs (x ∷ without_load l a xs)

-- an accepted load is added, an accepted removal takes one out
abbrev pub kept_step : Limits → List Load → Operation → ℕ → List Load
kept_step l xs (create k a) n = xs
kept_step l xs (delete a) n = xs
kept_step l xs (load d f) n = if_done n (xs ++ record { domain = d; file = f } ∷ []) xs
kept_step l xs (remove a) n = if_done n (without_load l a xs) xs

abbrev pub kept : Limits → List Load → List Operation → List ℕ → List Load
kept l xs [] ks = xs
kept l xs (o ∷ os) [] = xs
kept l xs (o ∷ os) (k ∷ ks) = kept l (kept_step l xs o k) os ks

-- their files
abbrev pub files_of : List Load → List Bytes
files_of xs = map (λ x. x.file) xs

abbrev pub sums : Limits → List Bytes → Totals
sums l fs = record { packages = length fs; bytes = sum_of length fs; methods = sum_of (λ f. methods_of (read_file l f)) fs }

-- the entry that a load leaves
abbrev pub as_loaded : Load → Entry
as_loaded x = loaded x.domain x.file
