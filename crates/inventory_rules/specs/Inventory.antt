-- The printed inventory of a store (document 02, request 1). Assumes nothing.
--
-- Line              == of a package: AID, domain, file length, number of methods; lines_of l es == those of the entries, in store order
-- Totals            == packages, file bytes and methods in all; totals_of l es == those of the entries
-- headings, domain_bytes, file_bytes == the bytes of the entries, by what they are
-- page l es         == every byte of the page of these entries, in a store of the limits l
-- inventory s       == what is printed of the bytes s
use Rattle.std.specs.Prelude.{ℕ, ◌+◌, List, [], ◌∷◌, ◌++◌, length}
use Rattle.std.proofs.Math.Option.{Option, none, some}
use Rattle.rules.specs.Bytes.{Bytes, Aid, list_of, flat}
use Rattle.rules.specs.Package.{Limits, Package, read_file}
use Rattle.rules.specs.Store.{Entry, domain, loaded, entry_bytes, store_limits}
use Rattle.rules.specs.Operations.{on_store, entries, if_done}
use Rattle.text.specs.Text.{space, newline, hex_bytes, decimal}

-- the sum of what the elements give
abbrev pub sum_of : {A : Type 0} → (A → ℕ) → List A → ℕ
sum_of f [] = 0
sum_of f (x ∷ xs) = f x + sum_of f xs

pub record Line : Type 0 where
  pub aid : Aid
  pub domain : Aid
  pub bytes : ℕ
  pub methods : ℕ

-- the methods of a package: the records of all its classes, implemented or not
abbrev pub methods_in : Package → ℕ
methods_in p = sum_of (λ k. length k.methods) p.classes

-- a package's line; a domain has none
abbrev pub line_of : Limits → Entry → List Line
line_of l (domain k a) = []
line_of l (loaded d f) = list_of (read_file l f) λ p. record { aid = p.aid; domain = d; bytes = length f; methods = methods_in p } ∷ []

abbrev pub lines_of : Limits → List Entry → List Line
lines_of l es = flat (line_of l) es

-- a package is one, a domain none
abbrev pub package_of : Entry → ℕ
package_of (domain k a) = 0
package_of (loaded d f) = 1

-- the bytes of a package's file
abbrev pub file_bytes_of : Entry → ℕ
file_bytes_of (domain k a) = 0
file_bytes_of (loaded d f) = length f

-- the methods of a file
abbrev pub methods_of : Option Package → ℕ
methods_of none = 0
methods_of (some p) = methods_in p

abbrev pub entry_methods : Limits → Entry → ℕ
entry_methods l (domain k a) = 0
entry_methods l (loaded d f) = methods_of (read_file l f)

pub record Totals : Type 0 where
  pub packages : ℕ
  pub bytes : ℕ
  pub methods : ℕ

abbrev pub totals_of : Limits → List Entry → Totals
totals_of l es = record { packages = sum_of package_of es; bytes = sum_of file_bytes_of es; methods = sum_of (entry_methods l) es }

-- a package entry's heading: its kind, its length and its domain's AID with length
abbrev pub heading_of : Entry → ℕ
heading_of (domain k a) = 0
heading_of (loaded d f) = 1 + 2 + (1 + length d)

-- a whole domain entry
abbrev pub domain_bytes_of : Entry → ℕ
domain_bytes_of (domain k a) = length (entry_bytes (domain k a))
domain_bytes_of (loaded d f) = 0

abbrev pub headings : List Entry → ℕ
headings es = sum_of heading_of es

abbrev pub domain_bytes : List Entry → ℕ
domain_bytes es = sum_of domain_bytes_of es

abbrev pub file_bytes : List Entry → ℕ
file_bytes es = sum_of file_bytes_of es

-- a line as text: single spaces, a newline at its end
abbrev pub line_text : Line → Bytes
line_text x =
    hex_bytes x.aid ++ (space ∷ hex_bytes x.domain ++ (space ∷ decimal x.bytes ++ (space ∷ decimal x.methods ++ newline ∷ [])))

abbrev pub totals_text : Totals → Bytes
totals_text t = decimal t.packages ++ (space ∷ decimal t.bytes ++ (space ∷ decimal t.methods ++ newline ∷ []))

-- a line for each package, then the totals
abbrev pub page : Limits → List Entry → Bytes
page l es = flat line_text (lines_of l es) ++ totals_text (totals_of l es)

-- a number alone
abbrev pub number_text : ℕ → Bytes
number_text n = decimal n ++ newline ∷ []

-- a store that fails 1 or 2 prints only that number
unfoldable pub inventory : Bytes → Bytes
inventory s = if_done (on_store s []) (page (store_limits s) (entries s)) (number_text (on_store s []))
