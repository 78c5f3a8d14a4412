-- In a sound store each package has one line, and the lines add up to the totals. Assumes nothing.
use native.Mathlib.Omega.{arith}
use mathlib.Core.Path.{◌≡◌, refl, ap}
use mathlib.Core.List.{List, [], ◌∷◌, Memᴰ}
use mathlib.Core.Option.{Option, some}
use lib.Dec.{T}
use lib.ListN.{length}
use Rattle.rules.specs.Bytes.{Bytes, Aid, all, is_some, list_of}
use Rattle.rules.specs.Package.{Limits, Package, read_file}
use Rattle.rules.specs.Store.{Entry, domain, loaded, store_opening, store_limits}
use Rattle.rules.specs.Operations.{sound, entries}
use Rattle.rules.proofs.Tests.{and_l, and_r, all_mem}
use Rattle.rules.proofs.Lists.{some_is}
use Rattle.inventory_rules.specs.Inventory.{sum_of, Line, methods_in, line_of, lines_of, totals_of}
use Rattle.inventory_rules.proofs.Held.{sound_entries_lem, reads, sound_reads}

-- the line of a package whose file reads
abbrev pub line_by : Aid → Bytes → Package → Line
line_by d f p = record { aid = p.aid; domain = d; bytes = length f; methods = methods_in p }

line_one : (l : Limits) (d : Aid) (f : Bytes) → T (is_some (read_file l f)) →
    (p : Package) × (read_file l f ≡ some p) × (line_of l (loaded d f) ≡ line_by d f p ∷ [])
line_one l d f h = let x = some_is (read_file l f) h in (x.0, x.1, ap (λ (o : Option Package). list_of o λ p. line_by d f p ∷ []) x.1)

-- how many lines, and the sums over them
record Added (l : Limits) (es : List Entry) : Type 0 where
  packages : length (lines_of l es) ≡ (totals_of l es).packages
  bytes : sum_of (λ x. x.bytes) (lines_of l es) ≡ (totals_of l es).bytes
  methods : sum_of (λ x. x.methods) (lines_of l es) ≡ (totals_of l es).methods

added : (l : Limits) (es : List Entry) → T (all (reads l) es) → Added l es
added l [] h = record { packages = refl; bytes = refl; methods = refl }
added l (domain k a ∷ es) h =
    let r = added l es h in
    record { packages = omega (arith, r.packages); bytes = omega (arith, r.bytes); methods = omega (arith, r.methods) }
added l (loaded d f ∷ es) h =
    let r = added l es (and_r (is_some (read_file l f)) (all (reads l) es) h) in
    let x = some_is (read_file l f) (and_l (is_some (read_file l f)) (all (reads l) es) h) in
    record {
      packages = rw x.1 (omega (arith, r.packages));
      bytes = rw x.1 (omega (arith, r.bytes));
      methods = rw x.1 (omega (arith, r.methods));
    }

module _ (s : Bytes) (h : T (sound s)) where
  all_read : T (all (reads (store_limits s)) (entries s))
  all_read = sound_reads (store_opening s) (length s) (entries s) (sound_entries_lem s h).1

  pub lines_one : (d : Aid) (f : Bytes) → Memᴰ (loaded d f) (entries s) →
      (p : Package) × (read_file (store_limits s) f ≡ some p) × (line_of (store_limits s) (loaded d f) ≡ line_by d f p ∷ [])
  lines_one d f m = line_one (store_limits s) d f (all_mem (reads (store_limits s)) all_read m)

  pub lines_add : (length (lines_of (store_limits s) (entries s)) ≡ (totals_of (store_limits s) (entries s)).packages)
      × (sum_of (λ x. x.bytes) (lines_of (store_limits s) (entries s)) ≡ (totals_of (store_limits s) (entries s)).bytes)
      × (sum_of (λ x. x.methods) (lines_of (store_limits s) (entries s)) ≡ (totals_of (store_limits s) (entries s)).methods)
  lines_add = let r = added (store_limits s) (entries s) all_read in (r.packages, r.bytes, r.methods)
