-- REQUEST 7, the second edition of the package file, with handlers. Assumes nothing.
--   Question 24 says yes exactly where every handler of every code has its start below its end, its end at most the code length, a start and
--   a target that begin an instruction, and an end that begins one or equals the length (Q24: specs/Splitting.antt).
--   Splitting, for both versions together: of a file of either version, each code that question 16 takes is cut into instructions from offset
--   0 to its end, and the offsets listed are exactly those where an instruction begins. No version occurs in what is said of codes.
--   A file of version 1 has no handlers, and 24 says yes wherever 16 does: it loads as it did.
--   A call inside a handler, in what it guards or from its target on, is a call of its method on any path: it makes a call path, and one
--   with any path behind it, and along these demand 3 holds.
--   A list of calls installs a package of version 1 and one of version 2, whose one handler has a call in what it guards and one at its target.
use Prim.Native.Nat.{ℕ}
use mathlib.Core.Path.{◌≡◌}
use mathlib.Core.Bool.{true}
use mathlib.Core.List.{List, [], ◌∷◌, Memᴰ}
use mathlib.Core.Option.{some}
use lib.Dec.{T}
use lib.ListN.{length}
use Rattle.rules.specs.Bytes.{Bytes}
use Rattle.rules.specs.Code.{split, Handler, Call, call_at}
use Rattle.rules.specs.Package.{Limits, standard, edition1, edition2, Method, Class, Package, edition_of, read_file}
use Rattle.rules.specs.Store.{Opening, version1, opening_limits}
use Rattle.rules.specs.Classes.{installed}
use Rattle.rules.specs.Questions.{q16_splits, q24_handlers}
use Rattle.rules.specs.Operations.{Operation, fresh_number, fresh_bytes}
use Rattle.rules.specs.Ledger.{ledger_after, Run}
use Rattle.rules.specs.Paths.{InstalledMethod, located}
use Rattle.rules.specs.Splitting.{Begins, Splits, Q24, InHandler, MadeBy, CallsInHandlers}
use Rattle.rules.specs.CasesHandlers.{installing_handlers, handler_packages}
use Rattle.rules.proofs.Handlers.{handlers_good, good_handlers, file_splits, first_without, first_passes}
use Rattle.rules.proofs.HandlerCalls.{handler_paths}
use Rattle.rules.proofs.Editions.{EveryMethod}
use Rattle.rules.proofs.WitnessHandlers as witness

-- the call c, to the method o, begins at offset k of the method m's code
abbrev CallAt : InstalledMethod standard handler_packages → ℕ → Call → InstalledMethod standard handler_packages → Type 0
CallAt m k c o = Begins m.method.code k × Memᴰ c (call_at m.method.code k)
    × MadeBy (installed standard handler_packages) (located m) c (located o)

pub request7 : (p : Package) → T (q16_splits p) → (T (q24_handlers p) → Q24 p) × (Q24 p → T (q24_handlers p))
request7 p q16 = (handlers_good p q16, good_handlers p q16)

pub request7_splitting : (l : Limits) (f : Bytes) (p : Package) → read_file l f ≡ some p → T (q16_splits p) →
    (k : Class) → Memᴰ k p.classes → (m : Method) → Memᴰ m k.methods → m.implemented ≡ true →
    Splits m.code × ((ks : List ℕ) × (split m.code ≡ some ks)
    × ((i : ℕ) → (Memᴰ i ks → Begins m.code i) × (Begins m.code i → Memᴰ i ks)))
request7_splitting l f p r = file_splits p

pub request7_version1 : (l : Limits) (f : Bytes) (p : Package) → edition_of f ≡ edition1 → read_file l f ≡ some p →
    EveryMethod (λ m. m.handlers ≡ []) p × (T (q16_splits p) → T (q24_handlers p))
request7_version1 l f p e r = (first_without l f p e r, first_passes l f p e r)

pub request7_calls : (s : Bytes) (v : Opening) → fresh_number s v ≡ 0 → (os : List Operation) (ks : List ℕ) (t : Bytes) → Run (fresh_bytes s v) os ks t →
    CallsInHandlers (opening_limits v) (ledger_after v (length s) [] os)
request7_calls = handler_paths

-- a handler with a call in what it guards, to a method of a package of version 1, and one at its target
pub record Witness : Type 0 where
  pub installed : ledger_after version1 256 [] installing_handlers ≡ handler_packages
  pub first : InstalledMethod standard handler_packages
  pub guarded : InstalledMethod standard handler_packages
  pub aimed : InstalledMethod standard handler_packages
  pub versions : (edition_of guarded.file ≡ edition1) × (edition_of first.file ≡ edition2)
  pub handler : Handler
  pub has : first.method.handlers ≡ handler ∷ []
  pub within : InHandler handler 0 × InHandler handler 4
  pub calls : (c : Call) × (d : Call) × CallAt first 0 c guarded × CallAt first 4 d aimed

pub request7_witness : Witness
request7_witness = record {
  installed = witness.handlers_installed;
  first = witness.caller;
  guarded = witness.guarded;
  aimed = witness.aimed;
  versions = witness.editions;
  handler = witness.guard;
  has = witness.caller_handlers;
  within = witness.in_handler;
  calls = (witness.call_to 0, witness.call_to 1, witness.call_guarded, witness.call_aimed);
}
