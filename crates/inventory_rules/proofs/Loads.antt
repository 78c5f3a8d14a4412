-- The packages of a list of entries as loads: the page tells these alone, and an operation does to them what its answer says. Assumes nothing.
--
-- loads_in es == the packages of the entries, in store order
use Prim.Native.Nat.{ℕ, zero, suc, ◌+◌}
use native.Mathlib.Omega.{arith}
use mathlib.Core.Path.{◌≡◌, refl, ◌∙◌, ap}
use mathlib.Core.Bool.{Bool, true, false}
use mathlib.Core.List.{List, [], ◌∷◌, ◌++◌, append-nil, map}
use lib.ListN.{length}
use Rattle.rules.specs.Bytes.{Aid, pick, flat}
use Rattle.rules.specs.Package.{Limits, read_file}
use Rattle.rules.specs.Store.{Opening, opening_limits, Entry, domain, loaded}
use Rattle.rules.specs.Operations.{Operation, create, delete, load, remove, is_domain, is_package, without, change, if_done}
use Rattle.rules.specs.Ledger.{ledger_number, ledger_step}
use Rattle.rules.proofs.Lists.{flat_append}
use Rattle.inventory_rules.specs.Inventory.{sum_of, Line, line_of, lines_of, package_of, file_bytes_of, methods_of, entry_methods, Totals, totals_of}
use Rattle.inventory_rules.specs.Kept.{Load, is_of, without_load, kept_step, files_of, sums, as_loaded}

abbrev pub load_in : Entry → List Load
load_in (domain k a) = []
load_in (loaded d f) = record { domain = d; file = f } ∷ []

abbrev pub loads_in : List Entry → List Load
loads_in es = flat load_in es

-- the lines of the entries are those of their packages
pub lines_loads : (l : Limits) (es : List Entry) → lines_of l es ≡ lines_of l (map as_loaded (loads_in es))
lines_loads l [] = refl
lines_loads l (domain k a ∷ es) = lines_loads l es
lines_loads l (loaded d f ∷ es) = ap (λ (t : List Line). line_of l (loaded d f) ++ t) (lines_loads l es)

-- the totals of the entries are the sums over the files
packages_loads : (es : List Entry) → sum_of package_of es ≡ length (files_of (loads_in es))
packages_loads [] = refl
packages_loads (domain k a ∷ es) = let r = packages_loads es in omega arith
packages_loads (loaded d f ∷ es) = let r = packages_loads es in omega arith

bytes_loads : (es : List Entry) → sum_of file_bytes_of es ≡ sum_of length (files_of (loads_in es))
bytes_loads [] = refl
bytes_loads (domain k a ∷ es) = let r = bytes_loads es in omega arith
bytes_loads (loaded d f ∷ es) = let r = bytes_loads es in omega arith

methods_loads : (l : Limits) (es : List Entry) → sum_of (entry_methods l) es ≡ sum_of (λ f. methods_of (read_file l f)) (files_of (loads_in es))
methods_loads l [] = refl
methods_loads l (domain k a ∷ es) = let r = methods_loads l es in omega arith
methods_loads l (loaded d f ∷ es) = ap (λ (n : ℕ). methods_of (read_file l f) + n) (methods_loads l es)

-- the same figures, the same totals
pub totals_same : {p q b c m n : ℕ} → p ≡ q → b ≡ c → m ≡ n →
    ◌≡◌ {A = Totals} (record { packages = p; bytes = b; methods = m }) (record { packages = q; bytes = c; methods = n })
totals_same e f g = rw (e, f, g)

pub totals_loads : (l : Limits) (es : List Entry) → totals_of l es ≡ sums l (files_of (loads_in es))
totals_loads l es = totals_same (packages_loads es) (bytes_loads es) (methods_loads l es)

-- the packages after an operation that was accepted
loads_domain : (a : Aid) (es : List Entry) → loads_in (without (is_domain a) es) ≡ loads_in es
loads_domain a [] = refl
loads_domain a (domain k b ∷ es) = go (is_domain a (domain k b)) (loads_domain a es)
  where
    go : (t : Bool) → loads_in (without (is_domain a) es) ≡ loads_in es → loads_in (pick t es (domain k b ∷ without (is_domain a) es)) ≡ loads_in es
    go true h = refl
    go false h = h
loads_domain a (loaded d f ∷ es) = ap (λ (xs : List Load). record { domain = d; file = f } ∷ xs) (loads_domain a es)

loads_package : (l : Limits) (a : Aid) (es : List Entry) → loads_in (without (is_package l a) es) ≡ without_load l a (loads_in es)
loads_package l a [] = refl
loads_package l a (domain k b ∷ es) = loads_package l a es
loads_package l a (loaded d f ∷ es) = go (is_of l a (record { domain = d; file = f })) (loads_package l a es)
  where
    go : (t : Bool) → loads_in (without (is_package l a) es) ≡ without_load l a (loads_in es) →
        loads_in (pick t es (loaded d f ∷ without (is_package l a) es)) ≡ pick t (loads_in es) (record { domain = d; file = f } ∷ without_load l a (loads_in es))
    go true h = refl
    go false h = ap (λ (xs : List Load). record { domain = d; file = f } ∷ xs) h

loads_change : (l : Limits) (es : List Entry) (o : Operation) → loads_in (change l es o) ≡ kept_step l (loads_in es) o 0
loads_change l es (create k a) = flat_append load_in es (domain k a ∷ []) ∙ append-nil (loads_in es)
loads_change l es (delete a) = loads_domain a es
loads_change l es (load d f) = flat_append load_in es (loaded d f ∷ [])
loads_change l es (remove a) = loads_package l a es

-- a refusal keeps them
loads_refused : (l : Limits) (xs : List Load) (o : Operation) (k : ℕ) → xs ≡ kept_step l xs o (suc k)
loads_refused l xs (create j a) k = refl
loads_refused l xs (delete a) k = refl
loads_refused l xs (load d f) k = refl
loads_refused l xs (remove a) k = refl

-- the packages of the ledger after an operation, by its answer
pub loads_step : (v : Opening) (n : ℕ) (es : List Entry) (o : Operation) →
    loads_in (ledger_step v n es o) ≡ kept_step (opening_limits v) (loads_in es) o (ledger_number v n es o)
unfolding ledger_step
loads_step v n es o = go (ledger_number v n es o)
  where
    go : (k : ℕ) → loads_in (if_done k (change (opening_limits v) es o) es) ≡ kept_step (opening_limits v) (loads_in es) o k
    go zero = loads_change (opening_limits v) es o
    go (suc k) = loads_refused (opening_limits v) (loads_in es) o k
