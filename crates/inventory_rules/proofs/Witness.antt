-- Request 1 is not empty: a list of calls on a fresh store of either version, its answers, the loads that are left and the page. Assumes nothing.
use Prim.Native.Nat.{ℕ, ◌+◌}
use mathlib.Core.Path.{◌≡◌, refl, subst}
use mathlib.Core.List.{List, [], ◌∷◌}
use lib.ListN.{replicate}
use Rattle.rules.specs.Bytes.{Bytes}
use Rattle.rules.specs.Code.{u2_at}
use Rattle.rules.specs.Store.{Opening, version1, opening_limits}
use Rattle.rules.specs.Limits.{standard}
use Rattle.rules.specs.Operations.{fresh_number, fresh_bytes}
use Rattle.rules.specs.Ledger.{Run}
use Rattle.rules.specs.CasesFiles.{D1, importer, library}
use Rattle.rules.specs.CasesOpening.{limited}
use Rattle.rules.proofs.Runs.{answers, left_by, run_of}
use Rattle.inventory_rules.specs.Inventory.{inventory}
use Rattle.inventory_rules.specs.Kept.{Load, kept}
use Rattle.inventory_rules.specs.CasesForm.{text, failing_pages}
use Rattle.inventory_rules.specs.Cases.{growing, growing_answers}

-- a buffer that held other bytes, and what the calls leave of it
abbrev pub erased : Bytes
erased = replicate 256 0xFF

abbrev pub left : Opening → Bytes
left v = left_by (fresh_bytes erased v) growing

-- the calls have these answers
answered_1 : answers (fresh_bytes erased version1) growing ≡ growing_answers
unfolding failing_pages
answered_1 = refl

answered_2 : answers (fresh_bytes erased (limited 3 2 16)) growing ≡ growing_answers
unfolding failing_pages
answered_2 = refl

pub fresh_yes : (fresh_number erased version1 ≡ 0) × (fresh_number erased (limited 3 2 16) ≡ 0)
unfolding failing_pages
fresh_yes = (refl, refl)

-- so they have a run
run_by : (v : Opening) → answers (fresh_bytes erased v) growing ≡ growing_answers → Run (fresh_bytes erased v) growing growing_answers (left v)
run_by v e = subst (λ (ks : List ℕ). Run (fresh_bytes erased v) growing ks (left v)) e (run_of (fresh_bytes erased v) growing)

pub runs : Run (fresh_bytes erased version1) growing growing_answers (left version1)
    × Run (fresh_bytes erased (limited 3 2 16)) growing growing_answers (left (limited 3 2 16))
runs = (run_by version1 answered_1, run_by (limited 3 2 16) answered_2)

-- the loads that are left, whatever the limits say of depth, parents and code
abbrev pub remaining : List Load
remaining = record { domain = D1; file = library } ∷ record { domain = D1; file = importer } ∷ []

pub kept_are : (kept standard [] growing growing_answers ≡ remaining) × (kept (opening_limits (limited 3 2 16)) [] growing growing_answers ≡ remaining)
unfolding failing_pages
kept_are = (refl, refl)

-- what is printed, and the used field
pub pages_are : (inventory (left version1) ≡ text "A000000101 A0000000D1 61 5\nA000000102 A0000000D1 24 0\n2 85 5\n")
    × (inventory (left (limited 3 2 16)) ≡ text "A000000101 A0000000D1 61 5\nA000000102 A0000000D1 24 0\n2 85 5\n")
unfolding failing_pages
pages_are = (refl, refl)

pub used_are : (u2_at (left version1) 5 ≡ 7 + (18 + (8 + 85))) × (u2_at (left (limited 3 2 16)) 5 ≡ 11 + (18 + (8 + 85)))
unfolding failing_pages
used_are = (refl, refl)
