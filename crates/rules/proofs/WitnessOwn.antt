-- Request 2 is not empty: a list of calls installs two packages in two domains, both with FE, and a call path leads from the one to the other.
-- Assumes nothing.
use mathlib.Core.Path.{◌≡◌, refl}
use mathlib.Core.List.{[], ◌∷◌}
use lib.Dec.{T}
use Rattle.rules.specs.Code.{signed, numbers_from, length_of, length_as, instruction_length, split_from, split, may_end, code_splits, targets_each, switch_targets, targets_at, code_branches, code_handlers, call_at, calls_of}
use Rattle.rules.specs.Package.{listed, own_domain, only, standard, class_number, reference, item, items, policy, code_if, handler, handlers_if, method, class, contents, sized, edition_of, read_file}
use Rattle.rules.specs.Store.{version1, write, opening_of, entries_of, store_opening}
use Rattle.rules.specs.Questions.{q1_size, q3_lengths, q4_new, q5_created, q10_marked, q11_reads, q12_new, q13_imports, q14_parents, q15_names, q16_splits, q17_targets, q24_handlers, keeps_subset, q26_subset, q18_calls, q19_allowed, q20_running, q21_fits}
use Rattle.rules.specs.Operations.{create_questions, package_questions, load_questions, sound_entries, sound, number}
use Rattle.rules.specs.Ledger.{ledger_number, ledger_step, ledger_after}
use Rattle.rules.specs.Paths.{InstalledMethod, CallPath}
use Rattle.rules.specs.Called.{called, calls_b}
use Rattle.rules.specs.CasesFiles.{D1, D2}
use Rattle.rules.specs.CasesOwn.{installing_own, own_packages}
use Rattle.rules.proofs.Located.{found, called_path}

-- the ledger of a buffer of 256 bytes after these calls
pub own_installed : ledger_after version1 256 [] installing_own ≡ own_packages
unfolding ledger_number ledger_step signed numbers_from length_of length_as instruction_length split_from split may_end code_splits targets_each switch_targets
    targets_at code_branches code_handlers call_at calls_of standard class_number reference item items policy code_if handler handlers_if method class
    contents sized edition_of read_file write opening_of entries_of store_opening q1_size q3_lengths q4_new q5_created q10_marked q11_reads q12_new q13_imports q14_parents
    q15_names q16_splits q17_targets q24_handlers keeps_subset q26_subset q18_calls q19_allowed q20_running q21_fits create_questions package_questions load_questions
    sound_entries sound number
own_installed = refl

-- they would be accepted again
own_sound : T (sound_entries version1 256 own_packages)
unfolding signed numbers_from length_of length_as instruction_length split_from split may_end code_splits targets_each switch_targets targets_at code_branches
    code_handlers call_at calls_of standard class_number reference item items policy code_if handler handlers_if method class contents sized edition_of
    read_file q1_size q3_lengths q4_new q5_created q10_marked q11_reads q12_new q13_imports q14_parents q15_names q16_splits q17_targets q24_handlers
    keeps_subset q26_subset q18_calls q19_allowed q20_running q21_fits create_questions package_questions load_questions sound_entries
own_sound = tt

-- P2's method in D2, which calls P1's in D1
abbrev pub caller : InstalledMethod standard own_packages
unfolding standard class_number reference item items policy code_if handler handlers_if method class contents sized edition_of read_file
caller = found own_packages 3 0 0 tt

abbrev pub callee : InstalledMethod standard own_packages
unfolding standard class_number reference item items policy code_if handler handlers_if method class contents sized edition_of read_file
callee = found own_packages 2 0 0 tt

pub own_path : CallPath standard own_packages caller callee
unfolding signed numbers_from length_of length_as instruction_length split_from split call_at calls_of standard class_number reference item items policy
    code_if handler handlers_if method class contents sized edition_of read_file called calls_b
own_path = called_path 256 own_packages own_sound caller callee tt

-- each lists FE and the other's domain
pub own_policies : (caller.domain ≡ D2) × (callee.domain ≡ D1) × (caller.method.policy ≡ only (listed D1 ∷ own_domain ∷ []))
    × (callee.method.policy ≡ only (own_domain ∷ listed D2 ∷ []))
unfolding standard class_number reference item items policy code_if handler handlers_if method class contents sized edition_of read_file
own_policies = (refl, refl, refl, refl)
