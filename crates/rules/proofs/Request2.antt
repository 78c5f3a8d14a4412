-- REQUEST 2, "my own domain" in a policy: index FE in an allowed list means the domain that the package was loaded in. Assumes nothing.
--   What a method allows is told where it stands: with FF every AID, by an index the AID that it stands for, by FE the domain that the
--   method's own package lies in, and nothing else (Allowing: specs/Allowing.antt). Questions 19 and 20, the query and call paths ask
--   this of every method (allows, allows_all_of: specs/Classes.antt).
--   FE and the own domain by an index are one right.
--   Along every call path, through packages with FE in any domains, demand 3 holds: the last method allows the first one's domain and
--   all that the first one allows, each told where it stands.
--   A list of calls installs two packages in two domains. A call path leads from a method that lists the other's domain by an index and its
--   own by FE to one that lists its own by FE and the other's by an index.
use Prim.Native.Nat.{ℕ}
use mathlib.Core.Path.{◌≡◌}
use mathlib.Core.List.{List, [], ◌∷◌, ◌++◌}
use lib.Dec.{T}
use lib.ListN.{length}
use Rattle.rules.specs.Bytes.{Bytes, Aid}
use Rattle.rules.specs.Package.{standard, Item, listed, own_domain, only}
use Rattle.rules.specs.Store.{Opening, version1, opening_limits}
use Rattle.rules.specs.Classes.{MethodAt, meant, allows}
use Rattle.rules.specs.Operations.{Operation, fresh_number, fresh_bytes}
use Rattle.rules.specs.Ledger.{ledger_after, Run}
use Rattle.rules.specs.Paths.{InstalledMethod, CallPath, PathsAllow}
use Rattle.rules.specs.Allowing.{Allowing}
use Rattle.rules.specs.CasesFiles.{D1, D2}
use Rattle.rules.specs.CasesOwn.{installing_own, own_packages}
use Rattle.rules.proofs.Allowing.{allows_says, says_allows, own_by_index}
use Rattle.rules.proofs.Demand3.{demand3}
use Rattle.rules.proofs.WitnessOwn.{own_installed, caller, callee, own_path, own_policies}

pub request2 : (m : MethodAt) (a : Aid) → (T (allows m a) → Allowing m a) × (Allowing m a → T (allows m a))
request2 m a = (allows_says m a, says_allows m a)

pub request2_same : (d : Aid) (xs ys : List Item) → meant d (only (xs ++ own_domain ∷ ys)) ≡ meant d (only (xs ++ listed d ∷ ys))
request2_same = own_by_index

pub request2_paths : (s : Bytes) (v : Opening) → fresh_number s v ≡ 0 → (os : List Operation) (ks : List ℕ) (t : Bytes) → Run (fresh_bytes s v) os ks t →
    PathsAllow (opening_limits v) (ledger_after v (length s) [] os)
request2_paths s v h os ks t r = (demand3 s v h os ks t r).1

-- two packages in two domains, FE on both sides
pub record Witness : Type 0 where
  pub installed : ledger_after version1 256 [] installing_own ≡ own_packages
  pub first : InstalledMethod standard own_packages
  pub last : InstalledMethod standard own_packages
  pub domains : (first.domain ≡ D2) × (last.domain ≡ D1)
  pub policies : (first.method.policy ≡ only (listed D1 ∷ own_domain ∷ [])) × (last.method.policy ≡ only (own_domain ∷ listed D2 ∷ []))
  pub path : CallPath standard own_packages first last

pub request2_witness : Witness
request2_witness = record {
  installed = own_installed;
  first = caller;
  last = callee;
  domains = (own_policies.0, own_policies.1);
  policies = (own_policies.2, own_policies.3);
  path = own_path;
}
