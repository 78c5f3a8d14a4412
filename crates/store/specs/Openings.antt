-- What the answers of the functions over a store's opening say. Assumes nothing.
--
-- opening_told r  == the opening that an answer stands for
use Rattle.std.specs.Prelude.{Some, None}
use Rattle.std.specs.Prelude.{Option as Optional}
use Rattle.std.proofs.Math.Option.{Option, none, some}
use Rattle.rules.specs.Store.{version1, version2}
use Rattle.rules.specs.Store as rules
use Rattle.cursor.specs.Limits.{limits_of}
use Rattle.store.specs.declared.openings.Opening.{Opening}
use Rattle.store.specs.declared.openings.Opening.TheVariants.{First, Second}

-- the opening that an answer stands for
abbrev pub opening_told : Optional Opening → Option rules.Opening
opening_told (Some First) = some version1
opening_told (Some (Second l)) = some (version2 (limits_of l))
opening_told None = none
