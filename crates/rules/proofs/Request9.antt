-- REQUEST 9, door readers without 32-bit numbers: domains of kind 3, whose packages keep to the subset without int. Assumes nothing.
--   The barred opcodes are the document's 51, one by one, of all numbers; a barred instruction has one of these, or is 90, 94 or 95 with the
--   first operand 0D (Barred: specs/Barred.antt).
--   Question 26 says yes exactly where the domain has no entry of kind 3, or no instruction of any code of the file, reached or not, is barred;
--   an operand byte begins no instruction (Q26: specs/Barred.antt). Domains of kind 1 do not ask it.
--   The second creation gives on any bytes the number that the first gives. When it is done, the entry that it appends, in the store and in the
--   ledger, is of kind 3: 03, the AID's length, the AID.
--   In a sound list of entries no two domains, of whatever kinds, have the same AID.
--   In a sound list of entries every package in a domain of kind 3 keeps to the subset; so in the ledger after every list of calls.
--   Deletion treats both kinds the same: entries that differ in kinds alone get the same number, and what is left differs in kinds alone. After it
--   the AID is new, so that the domain may come back as either kind.
--   Demand 3 covers every list with the second creation. One such list installs a package with a barred instruction in a domain of kind 1 and,
--   in one of kind 3, which refuses that package and a caller with such an instruction, a caller: a call path leads from this one to the other.
use Prim.Native.Nat.{ℕ}
use mathlib.Core.Path.{◌≡◌, ap}
use mathlib.Core.List.{List, [], ◌∷◌, ◌++◌, Memᴰ}
use mathlib.Core.Option.{some}
use lib.Dec.{T}
use lib.ListN.{length}
use Rattle.rules.specs.Bytes.{Bytes, Aid, at, high, low}
use Rattle.rules.specs.Subset.{barred_opcode, barred_at}
use Rattle.rules.specs.Package.{Limits, standard, Package, read_file}
use Rattle.rules.specs.Store.{Opening, version1, opening_limits, DomainKind, full, without_int, Entry, domain, loaded, entries_bytes, write, store_opening}
use Rattle.rules.specs.Questions.{q4_new, q16_splits, q26_subset}
use Rattle.rules.specs.Operations.{first_no, delete_questions, sound_entries, entries, Operation, create, number, is_domain, without, after, fresh_number, fresh_bytes}
use Rattle.rules.specs.Ledger.{ledger_number, ledger_step, ledger_after, Run, AsLedger}
use Rattle.rules.specs.Paths.{InstalledMethod, CallPath, PathsAllow}
use Rattle.rules.specs.Splitting.{Begins}
use Rattle.rules.specs.Barred.{barred_opcodes, Barred, WithoutInt, Q26, SameButKinds}
use Rattle.rules.specs.CasesKinds.{installing_kinds, kind_packages}
use Rattle.rules.proofs.Barred.{how_many, barred_listed, listed_barred, test_barred, barred_test}
use Rattle.rules.proofs.Subset.{subset_asked, asked_subset}
use Rattle.rules.proofs.EitherKind as either
use Rattle.rules.proofs.BothKinds as both
use Rattle.rules.proofs.Runs.{answers}
use Rattle.rules.proofs.Demand3.{demand3}
use Rattle.rules.proofs.WitnessKinds as witness

pub request9_opcodes : (length barred_opcodes ≡ 51)
    × ((o : ℕ) → (T (barred_opcode o) → Memᴰ o barred_opcodes) × (Memᴰ o barred_opcodes → T (barred_opcode o)))
request9_opcodes = (how_many, λ o. (barred_listed o, listed_barred o))

pub request9_instructions : (code : Bytes) (k : ℕ) → (T (barred_at code k) → Barred code k) × (Barred code k → T (barred_at code k))
request9_instructions code k = (test_barred code k, barred_test code k)

pub request9 : (p : Package) → T (q16_splits p) → (es : List Entry) (d : Aid) → (T (q26_subset es d p) → Q26 es d p) × (Q26 es d p → T (q26_subset es d p))
request9 p q16 es d = (subset_asked p q16 es d, asked_subset p q16 es d)

pub request9_creation : (s : Bytes) (a : Aid) → number s (create without_int a) ≡ number s (create full a)
request9_creation = either.creations_ask

pub request9_entered : (s : Bytes) (a : Aid) → number s (create without_int a) ≡ 0 →
    (after s (create without_int a) ≡ write (store_opening s) (length s) (entries s ++ domain without_int a ∷ []))
    × (entries_bytes (entries s ++ domain without_int a ∷ []) ≡ entries_bytes (entries s) ++ (0x03 ∷ high (length a) ∷ low (length a) ∷ a))
request9_entered s a e = (either.creation_appends s without_int a e, either.bytes_appended (entries s) a)

pub request9_ledger : (v : Opening) (n : ℕ) (es : List Entry) (a : Aid) → ledger_number v n es (create without_int a) ≡ 0 →
    ledger_step v n es (create without_int a) ≡ es ++ domain without_int a ∷ []
request9_ledger v n es = either.ledger_appends v n es without_int

pub request9_apart : (v : Opening) (n : ℕ) (es : List Entry) → T (sound_entries v n es) →
    ((i j : ℕ) (k h : DomainKind) (a : Aid) → at es i ≡ some (domain k a) → at es j ≡ some (domain h a) → i ≡ j)
    × ((a : Aid) → Memᴰ (domain full a) es → Memᴰ (domain without_int a) es → ⊥)
request9_apart v n es h = (both.one_domain v n es h, both.kinds_apart v n es h)

pub request9_sound : (v : Opening) (n : ℕ) (es : List Entry) → T (sound_entries v n es) → (d : Aid) (f : Bytes) (p : Package) →
    Memᴰ (loaded d f) es → Memᴰ (domain without_int d) es → read_file (opening_limits v) f ≡ some p → WithoutInt p
request9_sound = both.kept_without

pub request9_kept : (s : Bytes) (v : Opening) → fresh_number s v ≡ 0 → (os : List Operation) (d : Aid) (f : Bytes) (p : Package) →
    Memᴰ (loaded d f) (ledger_after v (length s) [] os) → Memᴰ (domain without_int d) (ledger_after v (length s) [] os) →
    read_file (opening_limits v) f ≡ some p → WithoutInt p
request9_kept = both.ledger_without

pub request9_deletion : (l : Limits) (es fs : List Entry) → SameButKinds es fs → (a : Aid) →
    (first_no (delete_questions l es a) ≡ first_no (delete_questions l fs a)) × SameButKinds (without (is_domain a) es) (without (is_domain a) fs)
request9_deletion l es fs r a = (ap first_no (either.deletion_asks l es fs r a), either.deletion_leaves es fs r a)

pub request9_new : (v : Opening) (n : ℕ) (es : List Entry) → T (sound_entries v n es) → (a : Aid) → T (q4_new (without (is_domain a) es) a)
request9_new = both.deleted_new

pub request9_lists : (s : Bytes) (v : Opening) → fresh_number s v ≡ 0 → (os : List Operation) (ks : List ℕ) (t : Bytes) (r : Run (fresh_bytes s v) os ks t) →
    AsLedger v (length s) [] r × PathsAllow (opening_limits v) (ledger_after v (length s) [] os)
request9_lists = demand3

-- packages in domains of both kinds, the one of kind 3 calling the other
pub record Witness : Type 0 where
  pub numbers : answers (write version1 256 []) installing_kinds ≡ 0 ∷ 0 ∷ 26 ∷ 0 ∷ 26 ∷ 0 ∷ []
  pub installed : ledger_after version1 256 [] installing_kinds ≡ kind_packages
  pub first : InstalledMethod standard kind_packages
  pub last : InstalledMethod standard kind_packages
  pub kinds : Memᴰ (domain without_int first.domain) kind_packages × Memᴰ (domain full last.domain) kind_packages
  pub path : CallPath standard kind_packages first last
  pub barred : Begins last.method.code 0 × Barred last.method.code 0

pub request9_witness : Witness
request9_witness = record {
  numbers = (witness.kinds_installed).0;
  installed = (witness.kinds_installed).1;
  first = witness.caller;
  last = witness.callee;
  kinds = witness.kinds_domains;
  path = witness.kinds_path;
  barred = witness.callee_barred;
}
