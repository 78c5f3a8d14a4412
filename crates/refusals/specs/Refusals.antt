-- The numbers of refusals. Assumes nothing.
--
-- number_of e   == the documents' number of a refusal
-- number_said r == the number of an answer: 0 where it is no refusal
use Rattle.std.specs.Prelude.{ℕ, Result, Ok, Err}
use Rattle.refusals.specs.declared.refusal.Refusal.{Refusal}
use Rattle.refusals.specs.declared.refusal.Refusal.TheVariants as refused

abbrev pub number_of : Refusal → ℕ
number_of refused.StoreSize = 1
number_of refused.StoreUnsound = 2
number_of refused.AidLength = 3
number_of refused.DomainExists = 4
number_of refused.DomainUnknown = 5
number_of refused.DomainOccupied = 6
number_of refused.PackageUnknown = 7
number_of refused.PackageImported = 8
number_of refused.MethodUnknown = 9
number_of refused.FileMark = 10
number_of refused.FileLayout = 11
number_of refused.PackageExists = 12
number_of refused.ImportMissing = 13
number_of refused.ClassParents = 14
number_of refused.MethodForm = 15
number_of refused.CodeSplit = 16
number_of refused.BranchTarget = 17
number_of refused.Handler = 24
number_of refused.CodeInt = 26
number_of refused.CallReference = 18
number_of refused.CallPolicy = 19
number_of refused.RunningPolicy = 20
number_of refused.StoreFull = 21
number_of refused.Limits = 30

abbrev pub number_said : {A : Type 0} → Result A Refusal → ℕ
number_said (Ok x) = 0
number_said (Err e) = number_of e
