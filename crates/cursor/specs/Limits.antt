-- The limits of the code as those of the definitions. Assumes nothing.
use Rattle.rules.specs.Package as rules
use Rattle.cursor.specs.declared.Limits.{Limits}

abbrev pub limits_of : Limits → rules.Limits
limits_of l = record { depth = l.depth; parents = l.parents; code = l.code }
