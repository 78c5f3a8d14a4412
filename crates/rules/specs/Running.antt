-- Question 20 a class at a time, as a walk over ancestors asks it; that this is question 20 is a law (proofs/Running). Assumes nothing.
use Rattle.std.specs.Prelude.{Bool, ◌||◌, List}
use Rattle.rules.specs.Bytes.{all, none_or}
use Rattle.rules.specs.Package.{Limits}
use Rattle.rules.specs.Classes.{Installed, ClassAt, record_of, runs_up_to, allows_all_of}

-- what runs for b and each non-static name of a allows all that the latter's method allows
abbrev pub running_allows : Limits → List Installed → ClassAt → ClassAt → Bool
running_allows l is b a = none_or (record_of a) λ k. all (λ m. m.static || none_or (runs_up_to is l.depth b m.name)
    (λ r. allows_all_of r (record { class = a; method = m }))) k.methods
