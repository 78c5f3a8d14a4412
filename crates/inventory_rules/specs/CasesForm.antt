-- The form of a row of the inventory's table (request 1 of document 02), and which rows do not follow from the definitions. Assumes nothing.
--
-- text t       == the bytes of a text, a character each
-- PageRow      == a named case: a buffer and its page; calls from a fresh store on with their answers, and the page after them; a store's used
--                 field and the bytes that add up to it; a figure, or bytes, as text
-- failing_pages == the names of the rows that do not follow from the definitions
use Rattle.std.specs.Prelude.{ℕ, Bool, ◌&&◌, List, [], ◌∷◌, ◌++◌, map, eqb, replicate}
use Prim.Native.Char.{code as codePoint}
use Prim.Native.String.{String, [] as endOfText, ◌∷◌ as ◌then◌}
use Rattle.rules.specs.Bytes.{Bytes, pick, flat, same}
use Rattle.rules.specs.Code.{u2_at, signed, numbers_from, length_of, length_as, instruction_length, split_from, split, may_end, code_splits, targets_each, switch_targets, targets_at, code_branches, code_handlers, call_at, calls_of}
use Rattle.rules.specs.Subset.{barred_opcode, barred_operand, code_without_int}
use Rattle.rules.specs.Limits.{Limits, standard, limits_range}
use Rattle.rules.specs.Package.{class_number, reference, item, items, policy, code_if, handler, handlers_if, method, class, contents, sized, edition_of, read_file}
use Rattle.rules.specs.Store.{Opening, opening_limits, opening_length, write, opening_of, entries_of, store_opening, store_limits}
use Rattle.rules.specs.Questions.{q1_size, q3_lengths, q4_new, q5_created, q6_empty, q7_installed, q8_unused, q10_marked, q11_reads, q12_new, q13_imports, q14_parents, q15_names, q16_splits, q17_targets, q24_handlers, keeps_subset, q26_subset, q18_calls, q19_allowed, q20_running, q21_fits, q30_limits}
use Rattle.rules.specs.Operations.{create_questions, delete_questions, package_questions, load_questions, remove_questions, sound_entries, sound, entries, Operation, number, after, fresh_number, fresh_bytes}
use Rattle.text.specs.Text.{hex_digit, hex_bytes, decimal}
use Rattle.inventory_rules.specs.Inventory.{lines_of, totals_of, headings, domain_bytes, line_text, totals_text, inventory}
use Rattle.inventory_rules.specs.Kept.{Load, kept, files_of, sums, as_loaded}

-- the bytes of a text, a character each
abbrev pub text : String → Bytes
text endOfText = []
text (c then t) = codePoint c ∷ text t

-- a call and its answer
abbrev pub Answered : Type 0
Answered = Operation × ℕ

pub data PageRow : Type 0 where
  -- a buffer, and what is printed of it
  prints : String → Bytes → String → PageRow
  -- an opening and a length, the calls on a fresh store with their answers, and the page after them
  grown : String → Opening → ℕ → List Answered → String → PageRow
  -- a store; its used field; opening bytes, headings, domain entries, file bytes
  adds : String → Bytes → ℕ → List ℕ → PageRow
  -- a figure as text
  figure : String → ℕ → PageRow
  -- bytes in hex digits
  digits : String → Bytes → PageRow

abbrev row_name : PageRow → String
row_name (prints name s t) = name
row_name (grown name v n cs t) = name
row_name (adds name s u ns) = name
row_name (figure t n) = t
row_name (digits t bs) = t

-- the page of loads, as request 1 tells it from the calls
abbrev pub page_of : Limits → List Load → Bytes
page_of l xs = flat line_text (lines_of l (map as_loaded xs)) ++ totals_text (sums l (files_of xs))

abbrev calls_hold : Bytes → List Answered → String → Bool
calls_hold s [] t = same (inventory s) (text t)
calls_hold s (c ∷ cs) t = eqb (number s c.0) c.1 && calls_hold (after s c.0) cs t

abbrev row_holds : PageRow → Bool
row_holds (prints name s t) = same (inventory s) (text t)
row_holds (grown name v n cs t) = calls_hold (fresh_bytes (replicate n 0xFF) v) cs t
    && same (page_of (opening_limits v) (kept (opening_limits v) [] (map (λ c. c.0) cs) (map (λ c. c.1) cs))) (text t)
row_holds (adds name s u ns) = eqb (u2_at s 5) u
    && same (opening_length (store_opening s) ∷ headings (entries s) ∷ domain_bytes (entries s) ∷ (totals_of (store_limits s) (entries s)).bytes ∷ []) ns
row_holds (figure t n) = same (decimal n) (text t)
row_holds (digits t bs) = same (hex_bytes bs) (text t)

-- every definition is opened here, so that the table computes where this one is opened
unfoldable pub failing_pages : List PageRow → List String
unfolding signed numbers_from length_of length_as instruction_length split_from split may_end code_splits targets_each switch_targets targets_at code_branches
    code_handlers barred_opcode barred_operand code_without_int call_at calls_of standard limits_range class_number reference item items policy code_if handler handlers_if
    method class contents sized edition_of read_file write opening_of entries_of store_opening q1_size q3_lengths q4_new q5_created q6_empty q7_installed q8_unused
    q10_marked q11_reads q12_new q13_imports q14_parents q15_names q16_splits q17_targets q24_handlers keeps_subset q26_subset q18_calls q19_allowed q20_running
    q21_fits q30_limits create_questions delete_questions package_questions load_questions remove_questions sound_entries sound number after fresh_number fresh_bytes
    hex_digit decimal inventory
failing_pages [] = []
failing_pages (r ∷ rs) = pick (row_holds r) (failing_pages rs) (row_name r ∷ failing_pages rs)
