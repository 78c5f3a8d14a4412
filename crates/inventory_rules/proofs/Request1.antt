-- REQUEST 1, a printed inventory: the page of a store, from its bytes alone (inventory: specs/Inventory.antt). Assumes nothing.
--   Let one of the two fresh calls have answered 0, and let a list of calls run on the buffer as in demand 3. Then every byte of the page is told
--   from the calls and their answers: a line for each file accepted and not since removed, in the order of their loads, and the sums over
--   these files (kept, sums: specs/Kept.antt).
--   The totals of the last store's entries are these sums.
--   In a sound store opening bytes, headings, whole domain entries and the file bytes of the totals add up to the used field.
--   The opening bytes are seven where the store says version 1 and eleven where it says version 2; a sound store says one of the two.
--   A buffer that question 1 refuses prints 1 and a newline, one that is not sound 2 and a newline, a sound store the page of its entries.
--   Bytes behind the first 65,536 change nothing: who reads so many and stops prints the same.
--   Below 10 ^ 20 a figure's digits are 0 to 9, stand for the figure, and begin with 0 for 0 alone; the capital hex digits of bytes read back as
--   these bytes.
--   In a sound store each package's file reads, and its line has its AID, its domain, its length and its methods; there are as many lines as
--   packages in all, and the lines add up to the totals.
--   No figure of a sound store's page is above 65,535 but the methods in all, and these are at most 2,048 for each package.
--   A list of nine calls on a fresh store, of version 1 and of version 2, with loads, removals and refusals: its answers, what is left, the page.
use Prim.Native.Nat.{ℕ, ◌+◌, ◌*◌, ◌^◌, ◌≤◌, ◌<◌}
use mathlib.Core.Path.{◌≡◌}
use mathlib.Core.Bool.{true, false}
use mathlib.Core.Logic.{◌⊎◌}
use mathlib.Core.List.{List, [], ◌∷◌, ◌++◌, map, Memᴰ}
use mathlib.Core.Option.{some}
use lib.Dec.{T}
use lib.ListN.{length, take, replicate}
use Rattle.rules.specs.Bytes.{Bytes, Aid, flat, all, within}
use Rattle.rules.specs.Code.{u2_at}
use Rattle.rules.specs.Package.{Package, read_file}
use Rattle.rules.specs.Store.{Opening, version1, opening_limits, loaded, store_mark, opening_length, store_opening, store_limits}
use Rattle.rules.specs.Questions.{q1_size}
use Rattle.rules.specs.Operations.{sound, entries, Operation, fresh_number, fresh_bytes}
use Rattle.rules.specs.Ledger.{Run}
use Rattle.rules.specs.CasesFiles.{D1, importer, library}
use Rattle.rules.specs.CasesOpening.{limited}
use Rattle.rules.proofs.Opens.{is_byte}
use Rattle.text.specs.Text.{hex_bytes, decimal, value}
use Rattle.text.proofs.Back.{value_decimal, decimal_within, decimal_zero}
use Rattle.lines.specs.Line.{bytes_of}
use Rattle.inventory_rules.specs.Inventory.{sum_of, Line, methods_in, line_of, lines_of, totals_of, headings, domain_bytes, line_text, totals_text, page, inventory}
use Rattle.inventory_rules.specs.Kept.{kept, files_of, sums, as_loaded}
use Rattle.inventory_rules.specs.CasesForm.{text}
use Rattle.inventory_rules.specs.Cases.{growing, growing_answers}
use Rattle.inventory_rules.proofs.Grown.{page_grown, totals_grown}
use Rattle.inventory_rules.proofs.Held.{sound_opening}
use Rattle.inventory_rules.proofs.Used.{used_adds}
use Rattle.inventory_rules.proofs.Printed.{printed_1, printed_2, printed_page, printed_long}
use Rattle.inventory_rules.proofs.Lines.{lines_one, lines_add}
use Rattle.inventory_rules.proofs.Figures.{totals_few, lines_few}
use Rattle.inventory_rules.proofs.Hex.{hex_back}
use Rattle.inventory_rules.proofs.Witness as witness

pub request1 : (s : Bytes) (v : Opening) → fresh_number s v ≡ 0 → (os : List Operation) (ks : List ℕ) (t : Bytes) → Run (fresh_bytes s v) os ks t →
    inventory t ≡ flat line_text (lines_of (opening_limits v) (map as_loaded (kept (opening_limits v) [] os ks)))
    ++ totals_text (sums (opening_limits v) (files_of (kept (opening_limits v) [] os ks)))
request1 = page_grown

pub request1_totals : (s : Bytes) (v : Opening) → fresh_number s v ≡ 0 → (os : List Operation) (ks : List ℕ) (t : Bytes) → Run (fresh_bytes s v) os ks t →
    totals_of (opening_limits v) (entries t) ≡ sums (opening_limits v) (files_of (kept (opening_limits v) [] os ks))
request1_totals = totals_grown

pub request1_used : (s : Bytes) → T (sound s) → u2_at s 5 ≡
    opening_length (store_opening s) + (headings (entries s) + (domain_bytes (entries s) + (totals_of (store_limits s) (entries s)).bytes))
request1_used = used_adds

pub request1_opening : (s : Bytes) → T (sound s) →
    ((take 5 s ≡ store_mark 1) × (opening_length (store_opening s) ≡ 7)) ⊎ ((take 5 s ≡ store_mark 2) × (opening_length (store_opening s) ≡ 11))
request1_opening = sound_opening

pub request1_refused : (s : Bytes) →
    (q1_size s ≡ false → inventory s ≡ 0x31 ∷ 0x0A ∷ [])
    × (q1_size s ≡ true → sound s ≡ false → inventory s ≡ 0x32 ∷ 0x0A ∷ [])
    × (T (sound s) → inventory s ≡ page (store_limits s) (entries s))
request1_refused s = (printed_1 s, printed_2 s, printed_page s)

pub request1_long : (s : Bytes) → inventory (take 65536 s) ≡ inventory s
request1_long = printed_long

pub request1_text :
    ((n : ℕ) → n < 10 ^ 20 →
    (value (decimal n) ≡ n) × T (all (within 0x30 0x39) (decimal n)) × ((ds : Bytes) → decimal n ≡ 0x30 ∷ ds → (n ≡ 0) × (ds ≡ [])))
    × ((bs : Bytes) → T (all is_byte bs) → bytes_of (hex_bytes bs) ≡ some bs)
request1_text = (λ n h. (value_decimal n h, decimal_within n, decimal_zero n h), hex_back)

pub request1_line : (s : Bytes) → T (sound s) → (d : Aid) (f : Bytes) → Memᴰ (loaded d f) (entries s) →
    (p : Package) × (read_file (store_limits s) f ≡ some p)
    × (line_of (store_limits s) (loaded d f) ≡ record { aid = p.aid; domain = d; bytes = length f; methods = methods_in p } ∷ [])
request1_line = lines_one

pub request1_lines : (s : Bytes) → T (sound s) →
    (length (lines_of (store_limits s) (entries s)) ≡ (totals_of (store_limits s) (entries s)).packages)
    × (sum_of (λ x. x.bytes) (lines_of (store_limits s) (entries s)) ≡ (totals_of (store_limits s) (entries s)).bytes)
    × (sum_of (λ x. x.methods) (lines_of (store_limits s) (entries s)) ≡ (totals_of (store_limits s) (entries s)).methods)
request1_lines = lines_add

pub request1_figures : (s : Bytes) → T (sound s) →
    ((totals_of (store_limits s) (entries s)).packages ≤ 65535)
    × ((totals_of (store_limits s) (entries s)).bytes ≤ 65535)
    × ((totals_of (store_limits s) (entries s)).methods ≤ 2048 * (totals_of (store_limits s) (entries s)).packages)
    × ((x : Line) → Memᴰ x (lines_of (store_limits s) (entries s)) → (x.bytes ≤ 65535) × (x.methods ≤ 2048))
request1_figures s h = ((totals_few s h).0, (totals_few s h).1, (totals_few s h).2, lines_few s h)

-- of a store that opens so: the two loads that are left are the library's and the importer's, in D1
pub record Witness (v : Opening) (used : ℕ) : Type 0 where
  pub store : Bytes
  pub fresh : fresh_number (replicate 256 0xFF) v ≡ 0
  pub run : Run (fresh_bytes (replicate 256 0xFF) v) growing growing_answers store
  pub keeps : kept (opening_limits v) [] growing growing_answers ≡ record { domain = D1; file = library } ∷ record { domain = D1; file = importer } ∷ []
  pub prints : inventory store ≡ text "A000000101 A0000000D1 61 5\nA000000102 A0000000D1 24 0\n2 85 5\n"
  pub uses : u2_at store 5 ≡ used

pub request1_witness : Witness version1 (7 + (18 + (8 + 85))) × Witness (limited 3 2 16) (11 + (18 + (8 + 85)))
request1_witness = (
  record {
    store = witness.left version1;
    fresh = (witness.fresh_yes).0;
    run = (witness.runs).0;
    keeps = (witness.kept_are).0;
    prints = (witness.pages_are).0;
    uses = (witness.used_are).0;
  },
  record {
    store = witness.left (limited 3 2 16);
    fresh = (witness.fresh_yes).1;
    run = (witness.runs).1;
    keeps = (witness.kept_are).1;
    prints = (witness.pages_are).1;
    uses = (witness.used_are).1;
  },
)
