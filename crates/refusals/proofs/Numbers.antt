-- The number of a refusal is none of a yes. Assumes nothing.
use Prim.Native.Nat.{◌<◌}
use native.Mathlib.Omega.{arith}
use Rattle.refusals.specs.declared.refusal.Refusal.{Refusal}
use Rattle.refusals.specs.declared.refusal.Refusal.TheVariants as refused
use Rattle.refusals.specs.Refusals.{number_of}

pub some_number : (e : Refusal) → 0 < number_of e
some_number refused.StoreSize = omega arith
some_number refused.StoreUnsound = omega arith
some_number refused.AidLength = omega arith
some_number refused.DomainExists = omega arith
some_number refused.DomainUnknown = omega arith
some_number refused.DomainOccupied = omega arith
some_number refused.PackageUnknown = omega arith
some_number refused.PackageImported = omega arith
some_number refused.MethodUnknown = omega arith
some_number refused.FileMark = omega arith
some_number refused.FileLayout = omega arith
some_number refused.PackageExists = omega arith
some_number refused.ImportMissing = omega arith
some_number refused.ClassParents = omega arith
some_number refused.MethodForm = omega arith
some_number refused.CodeSplit = omega arith
some_number refused.BranchTarget = omega arith
some_number refused.Handler = omega arith
some_number refused.CodeInt = omega arith
some_number refused.CallReference = omega arith
some_number refused.CallPolicy = omega arith
some_number refused.RunningPolicy = omega arith
some_number refused.StoreFull = omega arith
some_number refused.Limits = omega arith
