-- What the results of the functions over lines say in the words of the definitions. Assumes nothing.
--
-- first_byte cs     == the byte of the first two characters
-- found r at out   == an argument of so many bytes that stands at a place of a buffer, if there is one
-- asked f out      == the operation of a form whose arguments stand at the start of a buffer; said r out == that of a result
-- middle f, end f  == where the first and the last argument of a form end there
-- Within k r       == they end in this order within k bytes
use Rattle.std.specs.Prelude.{ℕ, ◌≤◌, ◌-◌, [], ◌∷◌, take, drop, Some, None, IfSome}
use Rattle.std.specs.Prelude.{Option as Optional}
use Rattle.std.proofs.Math.Option.{Option, none, some}
use Rattle.rules.specs.Bytes.{Bytes}
use Rattle.rules.specs.Store.{full}
use Rattle.rules.specs.Operations.{Operation, create, delete, remove, load}
use Rattle.lines.specs.Line.{byte_of}
use Rattle.lines.specs.declared.Form.{Form}
use Rattle.lines.specs.declared.Form.TheVariants.{Creation, Deletion, Removal, Loading}

-- the byte of the first two characters
abbrev pub first_byte : Bytes → Option ℕ
first_byte [] = none
first_byte (h ∷ []) = none
first_byte (h ∷ l ∷ cs) = byte_of h l

-- an argument of so many bytes at a place of a buffer
abbrev pub found : Optional ℕ → ℕ → Bytes → Option Bytes
found (Some n) at out = some (take n (drop at out))
found None at out = none

-- the operation of a form whose arguments stand at the start of a buffer
abbrev pub asked : Form → Bytes → Operation
asked (Creation n) out = create full (take n out)
asked (Deletion n) out = delete (take n out)
asked (Removal n) out = remove (take n out)
asked (Loading d n) out = load (take d out) (take (n - d) (drop d out))

-- that of a result
abbrev pub said : Optional Form → Bytes → Option Operation
said (Some f) out = some (asked f out)
said None out = none

-- where the first argument ends
abbrev pub middle : Form → ℕ
middle (Creation n) = n
middle (Deletion n) = n
middle (Removal n) = n
middle (Loading d n) = d

-- where the last argument ends
abbrev pub end : Form → ℕ
end (Creation n) = n
end (Deletion n) = n
end (Removal n) = n
end (Loading d n) = n

-- the arguments of a form that is there end in this order within k bytes
abbrev pub Within : ℕ → Optional Form → Type 0
Within k r = IfSome r (λ f. (middle f ≤ end f) × (end f ≤ k))
