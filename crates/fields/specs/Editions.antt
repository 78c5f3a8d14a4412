-- The edition of a file as code tells it. Assumes nothing.
use Rattle.std.specs.Prelude.{Bool, true, false}
use Rattle.rules.specs.Package.{Edition, edition1, edition2}

-- the second edition, or the first
abbrev pub edition_if : Bool → Edition
edition_if true = edition2
edition_if false = edition1
