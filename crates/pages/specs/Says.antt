-- What the functions that put a page promise. Assumes nothing.
--
-- most_page              == a buffer of so many bytes holds every page
-- MethodsSay f n        == n is the number of methods of the package that f reads as
-- LinePut b i d f n c j == the line of the package that f reads as, in domain d with n methods, stands in c behind the first i bytes of b, up to j
-- LinesSay s u c x      == the lines of the store s stand in c up to the place of x, and the totals of x are the store's
use Rattle.std.specs.Prelude.{ℕ, ◌*◌, ◌≤◌, ◌≡◌, length, take}
use Rattle.std.proofs.Math.Option.{some}
use Rattle.rules.specs.Bytes.{Bytes, flat}
use Rattle.rules.specs.Package.{Limits, Package, read_file}
use Rattle.rules.specs.Store.{store_limits}
use Rattle.rules.specs.Operations.{entries}
use Rattle.text.specs.Put.{Put}
use Rattle.inventory_rules.specs.Inventory.{methods_in, lines_of, line_text, Totals, totals_of}
use Rattle.pages.specs.declared.Listed.{Listed}

-- twice the longest store, and the last line
abbrev pub most_page : ℕ
most_page = 131100

abbrev pub MethodsSay : Bytes → ℕ → Type 0
MethodsSay f n = ((l : Limits) (p : Package) → read_file l f ≡ some p → n ≡ methods_in p) × (n ≤ 65025)

abbrev pub LinePut : Bytes → ℕ → Bytes → Bytes → ℕ → Bytes → ℕ → Type 0
LinePut b i d f n c j = (l : Limits) (p : Package) → read_file l f ≡ some p →
    Put b i (line_text (record { aid = p.aid; domain = d; bytes = length f; methods = n })) c j

-- totals of these figures
abbrev pub totals : ℕ → ℕ → ℕ → Totals
totals p b m = record { packages = p; bytes = b; methods = m }

pub record LinesSay (s : Bytes) (u : ℕ) (c : Bytes) (x : Listed) : Type 0 where
  pub lines : take x.at c ≡ flat line_text (lines_of (store_limits s) (entries s))
  pub sums : totals x.packages x.bytes x.methods ≡ totals_of (store_limits s) (entries s)
  pub room : x.at ≤ 2 * u
  pub few : (x.packages ≤ u) × (x.bytes ≤ u) × (x.methods ≤ 65025 * u)
  pub inside : u ≤ 65535
