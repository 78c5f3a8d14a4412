-- Request 3 is not empty: a list of calls installs three packages, and a call path leads from the third to a declaration of the first, which
-- the class named, of the second, inherits and which the third does not import; one more leads to a method below the class named. Assumes nothing.
use mathlib.Core.Path.{◌≡◌, refl, ◌∙◌, ap, subst⁻¹}
use mathlib.Core.List.{List, [], ◌∷◌, ◌++◌, Memᴰ}
use mathlib.Core.Option.{some}
use lib.Dec.{T}
use Rattle.rules.specs.Code.{signed, numbers_from, length_of, length_as, instruction_length, split_from, split, may_end, code_splits, targets_each, switch_targets, targets_at, code_branches, code_handlers, virtual, Call, call_at, calls_of}
use Rattle.rules.specs.Package.{standard, class_number, reference, item, items, policy, code_if, handler, handlers_if, method, class, contents, sized, edition_of, read_file}
use Rattle.rules.specs.Store.{version1, Entry, loaded, write, opening_of, entries_of, store_opening}
use Rattle.rules.specs.Classes.{installed, ClassAt}
use Rattle.rules.specs.Questions.{call_names, q1_size, q3_lengths, q4_new, q5_created, q7_installed, q8_unused, q10_marked, q11_reads, q12_new, q13_imports, q14_parents, q15_names, q16_splits, q17_targets, q24_handlers, keeps_subset, q26_subset, q18_calls, q19_allowed, q20_running, q21_fits}
use Rattle.rules.specs.Operations.{create_questions, package_questions, load_questions, remove_questions, sound_entries, sound, load, remove, number}
use Rattle.rules.specs.Ledger.{ledger_number, ledger_step, ledger_after, Stays}
use Rattle.rules.specs.Paths.{InstalledMethod, home_of, located, Names, CallPath}
use Rattle.rules.specs.Called.{called, calls_b}
use Rattle.rules.specs.CasesFiles.{D2, P1, P2}
use Rattle.rules.specs.CasesSearch.{installing_searched, searched_packages, P4, fourth, passing}
use Rattle.rules.proofs.Sound.{sound_sane}
use Rattle.rules.proofs.Paths.{home_installed, found_names}
use Rattle.rules.proofs.Located.{found, called_path}
use Rattle.rules.proofs.Since.{further}

-- the ledger of a buffer of 512 bytes after these calls
pub searched_installed : ledger_after version1 512 [] installing_searched ≡ searched_packages
unfolding ledger_number ledger_step signed numbers_from length_of length_as instruction_length split_from split may_end code_splits targets_each switch_targets
    targets_at code_branches code_handlers call_at calls_of standard class_number reference item items policy code_if handler handlers_if method class
    contents sized edition_of read_file write opening_of entries_of store_opening q1_size q3_lengths q4_new q5_created q10_marked q11_reads q12_new
    q13_imports q14_parents q15_names q16_splits q17_targets q24_handlers keeps_subset q26_subset q18_calls q19_allowed q20_running q21_fits
    create_questions package_questions load_questions sound_entries sound number
searched_installed = refl

-- they would be accepted again
searched_sound : T (sound_entries version1 512 searched_packages)
unfolding signed numbers_from length_of length_as instruction_length split_from split may_end code_splits targets_each switch_targets targets_at code_branches
    code_handlers call_at calls_of standard class_number reference item items policy code_if handler handlers_if method class contents sized edition_of
    read_file q1_size q3_lengths q4_new q5_created q10_marked q11_reads q12_new q13_imports q14_parents q15_names q16_splits q17_targets q24_handlers
    keeps_subset q26_subset q18_calls q19_allowed q20_running q21_fits create_questions package_questions load_questions sound_entries
searched_sound = tt

-- P3's first method, P1's 7 in class 0, and P2's 7 in class 1
abbrev pub caller : InstalledMethod standard searched_packages
unfolding standard class_number reference item items policy code_if handler handlers_if method class contents sized edition_of read_file
caller = found searched_packages 4 0 0 tt

abbrev pub inherited : InstalledMethod standard searched_packages
unfolding standard class_number reference item items policy code_if handler handlers_if method class contents sized edition_of read_file
inherited = found searched_packages 2 0 0 tt

abbrev pub overriding : InstalledMethod standard searched_packages
unfolding standard class_number reference item items policy code_if handler handlers_if method class contents sized edition_of read_file
overriding = found searched_packages 3 1 0 tt

-- P2's class 0
abbrev pub named_class : ClassAt
named_class = record { home = home_of overriding; number = 0 }

-- the caller's code calls by 8B
abbrev pub by_virtual : Call
by_virtual = record { kind = virtual; index = 0 }

pub caller_calls : Memᴰ by_virtual (calls_of caller.method.code)
unfolding signed numbers_from length_of length_as instruction_length split_from split call_at calls_of standard class_number reference item items policy
    code_if handler handlers_if method class contents sized edition_of read_file
caller_calls = Memᴰ.head refl

-- its package imports P2 alone; the class named lies in P2, the declaration meant in P1
pub packages : (caller.pack.imports ≡ P2 ∷ []) × (named_class.home.pack.aid ≡ P2) × (inherited.pack.aid ≡ P1)
unfolding standard class_number reference item items policy code_if handler handlers_if method class contents sized edition_of read_file
packages = (refl, refl, refl)

found_inherited : call_names standard (installed standard searched_packages) (home_of caller) by_virtual ≡
    some (record { class = named_class; means = located inherited })
unfolding standard class_number reference item items policy code_if handler handlers_if method class contents sized edition_of read_file
found_inherited = refl

pub names_inherited : Names (installed standard searched_packages) (home_of caller) by_virtual named_class (located inherited)
names_inherited = found_names standard (installed standard searched_packages) (sound_sane version1 512 searched_packages searched_sound) (home_of caller)
    (home_installed standard searched_packages caller) by_virtual (record { class = named_class; means = located inherited }) found_inherited

-- the paths
pub inherited_path : CallPath standard searched_packages caller inherited
unfolding signed numbers_from length_of length_as instruction_length split_from split call_at calls_of standard class_number reference item items policy
    code_if handler handlers_if method class contents sized edition_of read_file called calls_b
inherited_path = called_path 512 searched_packages searched_sound caller inherited tt

pub overriding_path : CallPath standard searched_packages caller overriding
unfolding signed numbers_from length_of length_as instruction_length split_from split call_at calls_of standard class_number reference item items policy
    code_if handler handlers_if method class contents sized edition_of read_file called calls_b
overriding_path = called_path 512 searched_packages searched_sound caller overriding tt

-- a fourth package comes and goes
pub passing_ledger : (ledger_step version1 512 searched_packages (load D2 fourth) ≡ searched_packages ++ loaded D2 fourth ∷ [])
    × (ledger_step version1 512 (searched_packages ++ loaded D2 fourth ∷ []) (remove P4) ≡ searched_packages)
unfolding ledger_number ledger_step signed numbers_from length_of length_as instruction_length split_from split may_end code_splits targets_each switch_targets
    targets_at code_branches code_handlers call_at calls_of standard class_number reference item items policy code_if handler handlers_if method class
    contents sized edition_of read_file write opening_of entries_of store_opening q1_size q3_lengths q4_new q5_created q7_installed q8_unused q10_marked
    q11_reads q12_new q13_imports q14_parents q15_names q16_splits q17_targets q24_handlers keeps_subset q26_subset q18_calls q19_allowed q20_running
    q21_fits create_questions package_questions load_questions remove_questions sound_entries sound number
passing_ledger = (refl, refl)

-- and P3 stays
abbrev Installs : List Entry → Type 0
Installs es = Memᴰ (home_of caller) (installed standard es)

pub caller_stays : Stays version1 512 searched_packages passing (home_of caller)
caller_stays =
    let there : Installs searched_packages = home_installed standard searched_packages caller in
    let more = further standard searched_packages (home_of caller) (loaded D2 fourth ∷ []) there in
    let after : ledger_step version1 512 (ledger_step version1 512 searched_packages (load D2 fourth)) (remove P4) ≡ searched_packages =
    ap (λ (es : List Entry). ledger_step version1 512 es (remove P4)) passing_ledger.0 ∙ passing_ledger.1 in
    (there, (subst⁻¹ Installs passing_ledger.0 more, subst⁻¹ Installs after there))
