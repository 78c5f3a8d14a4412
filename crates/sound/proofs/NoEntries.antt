-- A store without entries has passed every question of its entries. Assumes nothing.
use Prim.Native.Nat.{ℕ, ◌≤◌}
use mathlib.Core.Path.{◌≡◌, refl, sym, subst}
use mathlib.Core.Bool.{true}
use mathlib.Core.List.{List, []}
use lib.ListN.{length}
use Rattle.rules.specs.Bytes.{Bytes}
use Rattle.rules.specs.Store.{Entry, first_entry, store_limits, store_opening}
use Rattle.rules.specs.Operations.{sound_entries}
use Rattle.store.proofs.Stand.{entries_over}
use Rattle.domains.specs.Domains.{domains_accepted, AllSay}
use Rattle.judge.specs.Says.{PackagesSay}

-- 3 to 5
pub no_domains : (s : Bytes) (u : ℕ) → u ≤ first_entry s → AllSay s u true
no_domains s u le es r = subst (λ (fs : List Entry). true ≡ domains_accepted (store_limits s) [] fs) (sym (entries_over s (first_entry s) es u le r)) refl

-- the others
pub no_packages : (s : Bytes) (u : ℕ) → u ≤ first_entry s → PackagesSay s u true
unfolding sound_entries
no_packages s u le es r =
    subst (λ (fs : List Entry). true ≡ sound_entries (store_opening s) (length s) fs) (sym (entries_over s (first_entry s) es u le r)) refl
