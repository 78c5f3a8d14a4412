-- What a function answers, in the definitions' own terms. Assumes nothing.
--
-- told r == the value of r, if it has one
use Rattle.std.specs.Prelude.{Some, None}
use Rattle.std.specs.Prelude.{Option as Optional}
use Rattle.std.proofs.Math.Option.{Option, none, some}

abbrev pub told : {A : Type 0} → Optional A → Option A
told (Some x) = some x
told None = none
