-- REQUEST 5, the true depth: of a load on any bytes with any arguments. Assumes nothing.
--   An accepted load carries exactly the depth of the deepest own class, interfaces counted, 0 for a package without classes: its figure
--   is that depth, and no other number is (Depth and Deepest, without a bound: specs/Unbounded.antt).
--   A refused load carries 0.
-- The entry point promises this figure by an equation (LoadPromise: crates/loader/specs/Promises.antt).
use Prim.Native.Nat.{ℕ}
use mathlib.Core.Path.{◌≡◌}
use mathlib.Core.Option.{some}
use Rattle.rules.specs.Bytes.{Bytes, Aid}
use Rattle.rules.specs.Package.{Package, read_file}
use Rattle.rules.specs.Store.{store_limits}
use Rattle.rules.specs.Classes.{installed}
use Rattle.rules.specs.Operations.{entries, load, number, depth_figure}
use Rattle.rules.specs.Unbounded.{Deepest}
use Rattle.rules.specs.CasesFiles.{D1}
use Rattle.rules.specs.CasesDepths.{with_three, first_deepest}
use Rattle.rules.proofs.Results.{figure_refused, figure_exactly}
use Rattle.rules.proofs.Witness.{first_deepest_lem}

pub request5 : (s : Bytes) (d : Aid) (f : Bytes) (p : Package) → number s (load d f) ≡ 0 → read_file (store_limits s) f ≡ some p → (n : ℕ) →
    (n ≡ depth_figure s d f → Deepest (installed (store_limits s) (entries s)) (record { domain = d; pack = p }) n)
    × (Deepest (installed (store_limits s) (entries s)) (record { domain = d; pack = p }) n → n ≡ depth_figure s d f)
request5 = figure_exactly

pub request5_refused : (s : Bytes) (d : Aid) (f : Bytes) → (number s (load d f) ≡ 0 → ⊥) → depth_figure s d f ≡ 0
request5_refused = figure_refused

-- there is an accepted load, of a package whose first class is the deepest, four deep by way of an installed one
pub request5_witness : (s : Bytes) × (d : Aid) × (f : Bytes) × (number s (load d f) ≡ 0) × (depth_figure s d f ≡ 4)
request5_witness = (with_three, D1, first_deepest, first_deepest_lem.0, first_deepest_lem.1)
