-- REQUEST 3, calls that name an inheriting class. Assumes nothing.
--   Question 18, asked after 12 and 14 over a sound list of entries, says yes exactly where each call's reference exists and names a class, and
--   the first declaration of the name, in any form, by that class and its kind-0 parent chain, then by the interfaces of each of these in turn and
--   theirs, depth first in listed order, is visible unless it lies in the file, and has the call's form: 8B non-static and the class named of
--   kind 0, 8C implemented, 8D static, 8E non-static and declared by an interface (Q18: specs/Unbounded.antt; Means: specs/Paths.antt).
--   The class that declares what is meant is the class named or above it.
--   What a reference names and means at a package's load it names and means after every list of calls through which the package stays installed.
--   Acceptance and paths are by one reading: of every installed package the class named and the declaration meant on call paths are those that
--   questions 18 and 19 found. For 8B and 8E the receivers are the classes at or below the class named (Calls: specs/Paths.antt).
--   Demand 3 holds of these paths. One list of calls installs three packages with a path from the third to a declaration of the first, which the
--   class named, of the second, inherits; the third imports the second alone, and stays installed while a fourth comes and goes.
use Prim.Native.Nat.{ℕ}
use mathlib.Core.Path.{◌≡◌, refl}
use mathlib.Core.List.{List, [], ◌∷◌, ◌++◌, Memᴰ}
use mathlib.Core.Option.{some}
use lib.Dec.{T}
use lib.ListN.{length}
use Rattle.rules.specs.Bytes.{Bytes, Aid}
use Rattle.rules.specs.Code.{virtual, Call, calls_of}
use Rattle.rules.specs.Package.{standard, Reference, Class, Package, read_file}
use Rattle.rules.specs.Store.{Opening, version1, opening_limits, Entry}
use Rattle.rules.specs.Classes.{Installed, installed, ClassAt, record_of, declared, MethodAt}
use Rattle.rules.specs.Questions.{q12_new, q14_parents, reference_names, call_names, q18_calls}
use Rattle.rules.specs.Operations.{sound_entries, Operation, load, fresh_number, fresh_bytes}
use Rattle.rules.specs.Ledger.{ledger_number, ledger_after, Stays, Run, AsLedger}
use Rattle.rules.specs.Paths.{InstalledMethod, home_of, located, IsOrBelow, Means, Names, CallPath, PathsAllow}
use Rattle.rules.specs.Unbounded.{Q18}
use Rattle.rules.specs.CasesFiles.{P1, P2}
use Rattle.rules.specs.CasesSearch.{installing_searched, searched_packages, passing}
use Rattle.rules.proofs.Demand3.{demand3}
use Rattle.rules.proofs.Sound.{sound_sane}
use Rattle.rules.proofs.Paths.{names_found, found_names}
use Rattle.rules.proofs.Meant.{q18_unbounded, unbounded_q18}
use Rattle.rules.proofs.Above.{means_above}
use Rattle.rules.proofs.Since.{names_since}
use Rattle.rules.proofs.WitnessSearch as witness

pub request3 : (v : Opening) (n : ℕ) (es : List Entry) → T (sound_entries v n es) → (self : Installed) →
    T (q12_new (installed (opening_limits v) es) self.pack) → T (q14_parents (opening_limits v) (installed (opening_limits v) es) self) →
    (T (q18_calls (opening_limits v) (installed (opening_limits v) es) self) → Q18 (installed (opening_limits v) es) self)
    × (Q18 (installed (opening_limits v) es) self → T (q18_calls (opening_limits v) (installed (opening_limits v) es) self))
request3 v n es h self q12 q14 =
    let l = opening_limits v in
    let sane = sound_sane v n es h in
    (q18_unbounded l (installed l es) sane self q12 q14, unbounded_q18 l (installed l es) sane self q12 q14)

pub request3_above : (is : List Installed) (c : ClassAt) (n : ℕ) (m : MethodAt) → Means is c n m →
    IsOrBelow is c m.class × ((k : Class) × (record_of m.class ≡ some k) × (declared k n ≡ some m.method))
request3_above is c n m r = let f = means_above is c n m r in (f.above, (f.class, f.there, f.declares))

pub request3_since : (s : Bytes) (v : Opening) → fresh_number s v ≡ 0 → (os : List Operation) (d : Aid) (f : Bytes) (p : Package) →
    ledger_number v (length s) (ledger_after v (length s) [] os) (load d f) ≡ 0 → read_file (opening_limits v) f ≡ some p → (qs : List Operation) →
    Stays v (length s) (ledger_after v (length s) [] (os ++ load d f ∷ [])) qs (record { domain = d; pack = p }) → (r : Reference) →
    reference_names (opening_limits v) (installed (opening_limits v) (ledger_after v (length s) [] (os ++ load d f ∷ qs))) (record { domain = d; pack = p }) r
    ≡ reference_names (opening_limits v) (installed (opening_limits v) (ledger_after v (length s) [] os)) (record { domain = d; pack = p }) r
request3_since = names_since

-- what the questions find for a call of an installed package
abbrev Finds : Opening → List Entry → Installed → Call → ClassAt → MethodAt → Type 0
Finds v es self c x m = call_names (opening_limits v) (installed (opening_limits v) es) self c ≡ some (record { class = x; means = m })

pub request3_reading : (v : Opening) (n : ℕ) (es : List Entry) → T (sound_entries v n es) → (self : Installed) →
    Memᴰ self (installed (opening_limits v) es) → (c : Call) (x : ClassAt) (m : MethodAt) →
    (Names (installed (opening_limits v) es) self c x m → Finds v es self c x m) × (Finds v es self c x m → Names (installed (opening_limits v) es) self c x m)
request3_reading v n es h self i c x m =
    let l = opening_limits v in
    let sane = sound_sane v n es h in
    (names_found l (installed l es) sane self i c x m, found_names l (installed l es) sane self i c (record { class = x; means = m }))

pub request3_lists : (s : Bytes) (v : Opening) → fresh_number s v ≡ 0 → (os : List Operation) (ks : List ℕ) (t : Bytes) (r : Run (fresh_bytes s v) os ks t) →
    AsLedger v (length s) [] r × PathsAllow (opening_limits v) (ledger_after v (length s) [] os)
request3_lists = demand3

-- a call by 8B that names a class of P2, the one import of its package, and means a declaration of P1
pub record Witness : Type 0 where
  pub installed_by_lem : ledger_after version1 512 [] installing_searched ≡ searched_packages
  pub first : InstalledMethod standard searched_packages
  pub last : InstalledMethod standard searched_packages
  pub imports : first.pack.imports ≡ P2 ∷ []
  pub call : Call
  pub virtually : call.kind ≡ virtual
  pub calls : Memᴰ call (calls_of first.method.code)
  pub class : ClassAt
  pub between : class.home.pack.aid ≡ P2
  pub means : Names (installed standard searched_packages) (home_of first) call class (located last)
  pub above : last.pack.aid ≡ P1
  pub path : CallPath standard searched_packages first last
  pub stays : Stays version1 512 searched_packages passing (home_of first)
  pub below : (o : InstalledMethod standard searched_packages) × (o.pack.aid ≡ P2) × CallPath standard searched_packages first o

pub request3_witness : Witness
request3_witness = record {
  installed_by_lem = witness.searched_installed;
  first = witness.caller;
  last = witness.inherited;
  imports = (witness.packages).0;
  call = witness.by_virtual;
  virtually = refl;
  calls = witness.caller_calls;
  class = witness.named_class;
  between = (witness.packages).1;
  means = witness.names_inherited;
  above = (witness.packages).2;
  path = witness.inherited_path;
  stays = witness.caller_stays;
  below = (witness.overriding, (witness.packages).1, witness.overriding_path);
}
