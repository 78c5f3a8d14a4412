-- Request 7 is not empty: a list of calls installs a package of version 1 and one of version 2, whose code calls the other from inside a
-- handler, once in what it guards and once at its target. Assumes nothing.
use Prim.Native.Nat.{ℕ}
use native.Mathlib.Omega.{arith}
use mathlib.Core.Path.{◌≡◌, refl}
use mathlib.Core.Option.{Option, none, some}
use mathlib.Core.Logic.{inl, inr}
use mathlib.Core.List.{[], ◌∷◌, Memᴰ}
use lib.Dec.{T}
use Rattle.rules.specs.Bytes.{is_some}
use Rattle.rules.specs.Code.{signed, numbers_from, length_of, length_as, instruction_length, split_from, split, may_end, code_splits, targets_each, switch_targets, targets_at, code_branches, Handler, code_handlers, static, Call, call_at, calls_of}
use Rattle.rules.specs.Package.{edition1, edition2, standard, class_number, reference, item, items, policy, code_if, handler, handlers_if, method, class, contents, sized, edition_of, read_file}
use Rattle.rules.specs.Store.{version1, write, opening_of, entries_of, store_opening}
use Rattle.rules.specs.Questions.{Named, call_names, q1_size, q3_lengths, q4_new, q5_created, q10_marked, q11_reads, q12_new, q13_imports, q14_parents, q15_names, q16_splits, q17_targets, q24_handlers, keeps_subset, q26_subset, q18_calls, q19_allowed, q20_running, q21_fits}
use Rattle.rules.specs.Operations.{create_questions, package_questions, load_questions, sound_entries, sound, number}
use Rattle.rules.specs.Ledger.{ledger_number, ledger_step, ledger_after}
use Rattle.rules.specs.Classes.{installed}
use Rattle.rules.specs.Paths.{InstalledMethod, home_of, located, static_is}
use Rattle.rules.specs.Splitting.{first, next, Begins, InHandler, MadeBy, names}
use Rattle.rules.specs.CasesHandlers.{installing_handlers, handler_packages}
use Rattle.rules.proofs.Sound.{sound_sane}
use Rattle.rules.proofs.Paths.{home_installed, found_names}
use Rattle.rules.proofs.Located.{the, found}

-- the ledger of a buffer of 256 bytes after these calls
pub handlers_installed : ledger_after version1 256 [] installing_handlers ≡ handler_packages
unfolding ledger_number ledger_step signed numbers_from length_of length_as instruction_length split_from split may_end code_splits targets_each switch_targets
    targets_at code_branches code_handlers call_at calls_of standard class_number reference item items policy code_if handler handlers_if method class
    contents sized edition_of read_file write opening_of entries_of store_opening q1_size q3_lengths q4_new q5_created q10_marked q11_reads q12_new q13_imports q14_parents
    q15_names q16_splits q17_targets q24_handlers keeps_subset q26_subset q18_calls q19_allowed q20_running q21_fits create_questions package_questions load_questions
    sound_entries sound number
handlers_installed = refl

-- they would be accepted again
handlers_sound : T (sound_entries version1 256 handler_packages)
unfolding signed numbers_from length_of length_as instruction_length split_from split may_end code_splits targets_each switch_targets targets_at code_branches
    code_handlers call_at calls_of standard class_number reference item items policy code_if handler handlers_if method class contents sized edition_of
    read_file q1_size q3_lengths q4_new q5_created q10_marked q11_reads q12_new q13_imports q14_parents q15_names q16_splits q17_targets q24_handlers
    keeps_subset q26_subset q18_calls q19_allowed q20_running q21_fits create_questions package_questions load_questions sound_entries
handlers_sound = tt

-- P2's method, and the two of P1 that it calls
abbrev pub caller : InstalledMethod standard handler_packages
unfolding standard class_number reference item items policy code_if handler handlers_if method class contents sized edition_of read_file
caller = found handler_packages 3 0 0 tt

abbrev pub guarded : InstalledMethod standard handler_packages
unfolding standard class_number reference item items policy code_if handler handlers_if method class contents sized edition_of read_file
guarded = found handler_packages 2 0 0 tt

abbrev pub aimed : InstalledMethod standard handler_packages
unfolding standard class_number reference item items policy code_if handler handlers_if method class contents sized edition_of read_file
aimed = found handler_packages 2 0 1 tt

-- the handler of P2's code, from 0 up to 3, with target 4
abbrev pub guard : Handler
guard = record { start = 0; end = 3; target = 4 }

pub caller_handlers : caller.method.handlers ≡ guard ∷ []
unfolding standard class_number reference item items policy code_if handler handlers_if method class contents sized edition_of read_file
caller_handlers = refl

-- the two files' versions
pub editions : (edition_of guarded.file ≡ edition1) × (edition_of caller.file ≡ edition2)
unfolding standard class_number reference item items policy code_if handler handlers_if method class contents sized edition_of read_file
editions = (refl, refl)

abbrev pub call_to : ℕ → Call
call_to n = record { kind = static; index = n }

-- what they name
abbrev named : (n : ℕ) → T (is_some (call_names standard (installed standard handler_packages) (home_of caller) (call_to n))) → Named
named n h = the (call_names standard (installed standard handler_packages) (home_of caller) (call_to n)) h

the_is : {A : Type 0} (o : Option A) (h : T (is_some o)) → o ≡ some (the o h)
the_is none h = absurd h
the_is (some a) h = refl

-- a call of P2's method calls what it means
made : (n : ℕ) (h : T (is_some (call_names standard (installed standard handler_packages) (home_of caller) (call_to n)))) →
    MadeBy (installed standard handler_packages) (located caller) (call_to n) (named n h).means
made n h = names static_is (named n h).class (named n h).means (found_names standard (installed standard handler_packages)
    (sound_sane version1 256 handler_packages handlers_sound) (home_of caller) (home_installed standard handler_packages caller) (call_to n) (named n h)
    (the_is (call_names standard (installed standard handler_packages) (home_of caller) (call_to n)) h))

made_guarded : MadeBy (installed standard handler_packages) (located caller) (call_to 0) (located guarded)
unfolding standard class_number reference item items policy code_if handler handlers_if method class contents sized edition_of read_file
made_guarded = made 0 tt

made_aimed : MadeBy (installed standard handler_packages) (located caller) (call_to 1) (located aimed)
unfolding standard class_number reference item items policy code_if handler handlers_if method class contents sized edition_of read_file
made_aimed = made 1 tt

-- the one begins at offset 0, the other at offset 4
abbrev CallAt : ℕ → Call → InstalledMethod standard handler_packages → Type 0
CallAt k c o = Begins caller.method.code k × Memᴰ c (call_at caller.method.code k)
    × MadeBy (installed standard handler_packages) (located caller) c (located o)

pub call_guarded : CallAt 0 (call_to 0) guarded
unfolding standard class_number reference item items policy code_if handler handlers_if method class contents sized edition_of read_file call_at
call_guarded = ((first, omega arith), Memᴰ.head refl, made_guarded)

pub call_aimed : CallAt 4 (call_to 1) aimed
unfolding standard class_number reference item items policy code_if handler handlers_if method class contents sized edition_of read_file call_at length_of
    length_as instruction_length
call_aimed = ((next 1 (next 3 first refl) refl, omega arith), Memᴰ.head refl, made_aimed)

-- inside what is guarded, and at the target
pub in_handler : InHandler guard 0 × InHandler guard 4
in_handler = (inl (omega arith, omega arith), inr (omega arith))
