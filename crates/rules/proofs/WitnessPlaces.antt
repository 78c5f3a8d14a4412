-- A sound store with two packages, the AID of one beginning that of the other, and two files that import both: with the places of their imports
-- exchanged their calls name something else. Assumes nothing.
use mathlib.Core.Path.{◌≡◌, refl}
use mathlib.Core.Bool.{true, false}
use mathlib.Core.List.{[], ◌∷◌, ◌++◌}
use mathlib.Core.Option.{some}
use lib.Dec.{T}
use Rattle.rules.specs.Code.{signed, numbers_from, length_of, length_as, instruction_length, split_from, split, may_end, code_splits, targets_each, switch_targets, targets_at, code_branches, code_handlers, static, Call, call_at, calls_of}
use Rattle.rules.specs.Package.{standard, class_number, reference, item, items, policy, code_if, handler, handlers_if, method, class, contents, sized, edition_of, read_file}
use Rattle.rules.specs.Store.{version1}
use Rattle.rules.specs.Classes.{Installed, installed}
use Rattle.rules.specs.Questions.{Named, own, q3_lengths, q4_new, q5_created, q10_marked, q11_reads, q12_new, q13_imports, q14_parents, q15_names, q16_splits, q17_targets, q24_handlers, keeps_subset, q26_subset, q18_calls, q19_allowed, q20_running, q21_fits}
use Rattle.rules.specs.Operations.{create_questions, package_questions, load_questions, sound_entries}
use Rattle.rules.specs.Places.{import_places, call_placed, calls_placed, allowed_placed}
use Rattle.rules.specs.CasesFiles.{D1, P1}
use Rattle.rules.specs.CasesPlaces.{P1-more, prefixed, sevens, inherits}
use Rattle.rules.proofs.Located.{the}

pub aid_begins : P1-more ≡ P1 ++ 0x01 ∷ []
aid_begins = refl

pub prefixed_sound : T (sound_entries version1 256 prefixed)
unfolding signed numbers_from length_of length_as instruction_length split_from split may_end code_splits targets_each switch_targets targets_at code_branches
    code_handlers call_at calls_of standard class_number reference item items policy code_if handler handlers_if method class contents sized edition_of
    read_file q3_lengths q4_new q5_created q10_marked q11_reads q12_new q13_imports q14_parents q15_names q16_splits q17_targets q24_handlers
    keeps_subset q26_subset q18_calls q19_allowed q20_running q21_fits create_questions package_questions load_questions sound_entries
prefixed_sound = tt

-- the two files' packages, loaded in D1
abbrev pub caller : Installed
unfolding standard class_number reference item items policy code_if handler handlers_if method class contents sized edition_of read_file
caller = record { domain = D1; pack = the (read_file standard sevens) tt }

abbrev pub heir : Installed
unfolding standard class_number reference item items policy code_if handler handlers_if method class contents sized edition_of read_file
heir = record { domain = D1; pack = the (read_file standard inherits) tt }

pub both_read : (read_file standard sevens ≡ some caller.pack) × (read_file standard inherits ≡ some heir.pack)
unfolding standard class_number reference item items policy code_if handler handlers_if method class contents sized edition_of read_file
both_read = (refl, refl)

-- 12 and 13 say yes of them
pub both_asked : (T (q12_new (installed standard prefixed) caller.pack) × T (q13_imports (installed standard prefixed) caller.pack))
    × (T (q12_new (installed standard prefixed) heir.pack) × T (q13_imports (installed standard prefixed) heir.pack))
unfolding standard class_number reference item items policy code_if handler handlers_if method class contents sized edition_of read_file q12_new q13_imports
both_asked = ((tt, tt), (tt, tt))

pub both_import : (caller.pack.imports ≡ P1 ∷ P1-more ∷ []) × (heir.pack.imports ≡ P1 ∷ P1-more ∷ [])
unfolding standard class_number reference item items policy code_if handler handlers_if method class contents sized edition_of read_file
both_import = (refl, refl)

pub both_places : (import_places version1 prefixed caller.pack ≡ some 15 ∷ some 59 ∷ [])
    × (import_places version1 prefixed heir.pack ≡ some 15 ∷ some 59 ∷ [])
unfolding standard class_number reference item items policy code_if handler handlers_if method class contents sized edition_of read_file
both_places = (refl, refl)

-- 18 by the places, and by the places exchanged
pub calls_exchanged : (calls_placed version1 prefixed (some 15 ∷ some 59 ∷ []) caller ≡ true)
    × (calls_placed version1 prefixed (some 59 ∷ some 15 ∷ []) caller ≡ false)
unfolding signed numbers_from length_of length_as instruction_length split_from split call_at calls_of standard class_number reference item items policy
    code_if handler handlers_if method class contents sized edition_of read_file
calls_exchanged = (refl, refl)

-- 19 of the other file likewise; 18 says yes both times
pub allowed_exchanged : (allowed_placed version1 prefixed (some 15 ∷ some 59 ∷ []) heir ≡ true)
    × (allowed_placed version1 prefixed (some 59 ∷ some 15 ∷ []) heir ≡ false)
unfolding signed numbers_from length_of length_as instruction_length split_from split call_at calls_of standard class_number reference item items policy
    code_if handler handlers_if method class contents sized edition_of read_file
allowed_exchanged = (refl, refl)

-- its call names its own class 0 and means a declaration of the package at the first place
abbrev pub by_static : Call
by_static = record { kind = static; index = 0 }

pub inherits_placed : (x : Named) × (call_placed version1 prefixed (some 15 ∷ some 59 ∷ []) heir by_static ≡ some x) × (x.class ≡ own heir 0)
    × (x.means.class.home.pack.aid ≡ P1)
unfolding standard class_number reference item items policy code_if handler handlers_if method class contents sized edition_of read_file
inherits_placed = (the (call_placed version1 prefixed (some 15 ∷ some 59 ∷ []) heir by_static) tt, refl, refl, refl)

pub inherits_exchanged : (x : Named) × (call_placed version1 prefixed (some 59 ∷ some 15 ∷ []) heir by_static ≡ some x) × (x.class ≡ own heir 0)
    × (x.means.class.home.pack.aid ≡ P1-more)
unfolding standard class_number reference item items policy code_if handler handlers_if method class contents sized edition_of read_file
inherits_exchanged = (the (call_placed version1 prefixed (some 59 ∷ some 15 ∷ []) heir by_static) tt, refl, refl, refl)
