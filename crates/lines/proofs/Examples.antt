-- Document 01's lines and lines of other form by computation: what each asks for, and what the card answers to the sample. Assumes nothing.
use Prim.Native.Char.{code}
use Prim.Native.String.{String, [] as empty, ◌∷◌ as ◌then◌}
use mathlib.Core.Path.{◌≡◌, refl}
use mathlib.Core.Bool.{true, false}
use mathlib.Core.List.{List, [], ◌∷◌, ◌++◌, map}
use mathlib.Core.Option.{none, some}
use lib.ListN.{replicate}
use Rattle.rules.specs.Bytes.{Bytes, is_some}
use Rattle.rules.specs.Code.{signed, numbers_from, length_of, length_as, instruction_length, split_from, split, may_end, code_splits, targets_each, switch_targets, targets_at, code_branches, code_handlers, call_at, calls_of}
use Rattle.rules.specs.Package.{standard, class_number, reference, item, items, policy, code_if, handler, handlers_if, method, class, contents, sized, read_file}
use Rattle.rules.specs.Store.{full, write, opening_of, entries_of, store_opening}
use Rattle.rules.specs.Questions.{q1_size, q3_lengths, q4_new, q5_created, q6_empty, q7_installed, q8_unused, q10_marked, q11_reads, q12_new, q13_imports, q14_parents, q15_names, q16_splits, q17_targets, q24_handlers, keeps_subset, q26_subset, q18_calls, q19_allowed, q20_running, q21_fits}
use Rattle.rules.specs.Operations.{create, delete, remove, load, create_questions, delete_questions, package_questions, load_questions, remove_questions, sound_entries, sound, number, after, fresh_number, fresh_bytes}
use Rattle.lines.specs.Line.{digit, line_of, lines_of}
use Rattle.lines.specs.Card.{answered, card_of}

-- the characters of a text
text : String → Bytes
text empty = []
text (c then cs) = code c ∷ text cs

abbrev D1 : Bytes
D1 = 0xA0 ∷ 0x00 ∷ 0x00 ∷ 0x00 ∷ 0xD1 ∷ []

-- the four forms; an argument of one byte has the form
asked : map (λ s. line_of (text s)) ("C A0000000D1" ∷ "D A0000000D1" ∷ "R A0000000D1" ∷ "L A0000000D1 42FF" ∷ "C 0F" ∷ [])
    ≡ some (create full D1) ∷ some (delete D1) ∷ some (remove D1) ∷ some (load D1 (0x42 ∷ 0xFF ∷ [])) ∷ some (create full (0x0F ∷ [])) ∷ []
unfolding digit line_of text
asked = refl

-- other forms: empty, no letter or another one, lower case, odd digits, missing and further arguments, spaces, a tab, CR
others : List String
others =
    "" ∷ " " ∷ "A0" ∷ "X A0" ∷ "CC A0" ∷ "c A0" ∷ "C a0" ∷ "C A" ∷ "C A00" ∷ "C G0" ∷ "C" ∷ "C " ∷ "C A0 A0" ∷ "L A0" ∷ "L A0 " ∷ "L  A0" ∷ "L A0 A0 A0"
    ∷ "CA0" ∷ " C A0" ∷ "C  A0" ∷ "C A0 " ∷ "C A0 0" ∷ "C\tA0" ∷ "C A0\r" ∷ "L A0 A0\r" ∷ "C A0\0" ∷ "C :0" ∷ "C @0" ∷ "C /0" ∷ "C 0x" ∷ []

all_bad : map (λ s. line_of (text s)) others ≡ map (λ s. none) others
unfolding digit line_of text others
all_bad = refl

-- 8,000 characters have the form, one more has not: C with 3,999 bytes, L with 1 and 3,998 bytes
longest_line : is_some (line_of (text "C " ++ replicate 7998 0x30)) ≡ true
unfolding digit line_of text
longest_line = refl

too_long_line : is_some (line_of (text "L 00 " ++ replicate 7996 0x30)) ≡ false
unfolding digit line_of text
too_long_line = refl

-- the lines of an input: the last newline may be missing, and an empty line is a line
lines_of_lem : map (λ s. lines_of (text s)) ("" ∷ "\n" ∷ "C" ∷ "C\n" ∷ "C\n\nD" ∷ "\nC\n\n" ∷ [])
    ≡ [] ∷ ([] ∷ []) ∷ (text "C" ∷ []) ∷ (text "C" ∷ []) ∷ (text "C" ∷ [] ∷ text "D" ∷ []) ∷ ([] ∷ text "C" ∷ [] ∷ []) ∷ []
unfolding lines_of text
lines_of_lem = refl

-- document 01's sample
sample : String
sample = "C A0000000D1\nL A0000000D1 42504B0001001205A0000001010000000000\nD A0000000D1\nR A000000101\nD A0000000D1\n"

sample_answers : card_of (text sample) ≡ answered 1 0 15 ∷ answered 2 0 42 ∷ answered 3 6 42 ∷ answered 4 0 15 ∷ answered 5 0 7 ∷ []
unfolding text sample digit line_of lines_of card_of signed numbers_from length_of length_as instruction_length split_from split may_end code_splits
    targets_each switch_targets targets_at code_branches code_handlers call_at calls_of standard class_number reference item items policy code_if handler
    handlers_if method class contents sized read_file write opening_of entries_of store_opening q1_size q3_lengths q4_new q5_created q6_empty q7_installed q8_unused
    q10_marked q11_reads q12_new q13_imports q14_parents q15_names q16_splits q17_targets q24_handlers keeps_subset q26_subset q18_calls q19_allowed q20_running q21_fits
    create_questions delete_questions package_questions load_questions remove_questions sound_entries sound number after fresh_number fresh_bytes
sample_answers = refl
