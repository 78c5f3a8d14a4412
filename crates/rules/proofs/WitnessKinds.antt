-- Request 9 is not empty: a list of calls with the second creation installs two packages in domains of both kinds, and a call path leads from
-- the one in the kind-3 domain to the other, which has a barred instruction. Assumes nothing.
use native.Mathlib.Omega.{arith}
use mathlib.Core.Path.{◌≡◌, refl}
use mathlib.Core.List.{[], ◌∷◌, Memᴰ}
use lib.Dec.{T}
use Rattle.rules.specs.Code.{signed, numbers_from, length_of, length_as, instruction_length, split_from, split, may_end, code_splits, targets_each, switch_targets, targets_at, code_branches, code_handlers, call_at, calls_of}
use Rattle.rules.specs.Subset.{barred_opcode, barred_operand, code_without_int}
use Rattle.rules.specs.Package.{standard, class_number, reference, item, items, policy, code_if, handler, handlers_if, method, class, contents, sized, edition_of, read_file}
use Rattle.rules.specs.Store.{version1, full, without_int, domain, write, opening_of, entries_of, store_opening}
use Rattle.rules.specs.Questions.{q1_size, q3_lengths, q4_new, q5_created, q10_marked, q11_reads, q12_new, q13_imports, q14_parents, q15_names, q16_splits, q17_targets, q24_handlers, keeps_subset, q26_subset, q18_calls, q19_allowed, q20_running, q21_fits}
use Rattle.rules.specs.Operations.{create_questions, package_questions, load_questions, sound_entries, sound, number, after}
use Rattle.rules.specs.Ledger.{ledger_number, ledger_step, ledger_after}
use Rattle.rules.specs.Paths.{InstalledMethod, CallPath}
use Rattle.rules.specs.Called.{called, calls_b}
use Rattle.rules.specs.Splitting.{first, Begins}
use Rattle.rules.specs.Barred.{Barred, by_opcode}
use Rattle.rules.specs.CasesKinds.{installing_kinds, kind_packages}
use Rattle.rules.proofs.Located.{found, called_path}
use Rattle.rules.proofs.Runs.{answers}

-- the numbers of these calls on a buffer of 256 bytes, and the ledger after them
pub kinds_installed : (answers (write version1 256 []) installing_kinds ≡ 0 ∷ 0 ∷ 26 ∷ 0 ∷ 26 ∷ 0 ∷ [])
    × (ledger_after version1 256 [] installing_kinds ≡ kind_packages)
unfolding ledger_number ledger_step signed numbers_from length_of length_as instruction_length split_from split may_end code_splits targets_each switch_targets
    targets_at code_branches code_handlers barred_opcode barred_operand code_without_int call_at calls_of standard class_number reference item items policy code_if
    handler handlers_if method class contents sized edition_of read_file write opening_of entries_of store_opening q1_size q3_lengths q4_new q5_created q10_marked
    q11_reads q12_new q13_imports q14_parents q15_names q16_splits q17_targets q24_handlers keeps_subset q26_subset q18_calls q19_allowed q20_running q21_fits
    create_questions package_questions load_questions sound_entries sound number after
kinds_installed = (refl, refl)

-- the entries would be accepted again
kinds_sound : T (sound_entries version1 256 kind_packages)
unfolding signed numbers_from length_of length_as instruction_length split_from split may_end code_splits targets_each switch_targets targets_at code_branches
    code_handlers barred_opcode barred_operand code_without_int call_at calls_of standard class_number reference item items policy code_if handler handlers_if method
    class contents sized edition_of read_file q1_size q3_lengths q4_new q5_created q10_marked q11_reads q12_new q13_imports q14_parents q15_names q16_splits
    q17_targets q24_handlers keeps_subset q26_subset q18_calls q19_allowed q20_running q21_fits create_questions package_questions load_questions sound_entries
kinds_sound = tt

-- P2's method in D2, of kind 3, which calls P1's in D1, of kind 1
abbrev pub caller : InstalledMethod standard kind_packages
unfolding standard class_number reference item items policy code_if handler handlers_if method class contents sized edition_of read_file
caller = found kind_packages 3 0 0 tt

abbrev pub callee : InstalledMethod standard kind_packages
unfolding standard class_number reference item items policy code_if handler handlers_if method class contents sized edition_of read_file
callee = found kind_packages 2 0 0 tt

pub kinds_path : CallPath standard kind_packages caller callee
unfolding signed numbers_from length_of length_as instruction_length split_from split call_at calls_of standard class_number reference item items policy
    code_if handler handlers_if method class contents sized edition_of read_file called calls_b
kinds_path = called_path 256 kind_packages kinds_sound caller callee tt

-- they lie in domains of kinds 3 and 1
pub kinds_domains : Memᴰ (domain without_int caller.domain) kind_packages × Memᴰ (domain full callee.domain) kind_packages
unfolding standard class_number reference item items policy code_if handler handlers_if method class contents sized edition_of read_file
kinds_domains = (Memᴰ.tail (Memᴰ.head refl), Memᴰ.head refl)

-- the code of P1's method begins with a barred instruction
pub callee_barred : Begins callee.method.code 0 × Barred callee.method.code 0
unfolding standard class_number reference item items policy code_if handler handlers_if method class contents sized edition_of read_file
callee_barred = ((first, omega arith), by_opcode (Memᴰ.head refl))
