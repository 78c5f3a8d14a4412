-- The calls of a code, one after the other. Assumes nothing.
--
-- SplitsFrom code at == from this offset to its end the code splits
-- calls_from code at  == the calls from this offset on
-- calls_here r        == the calls that an answer of call_at stands for
-- Follows code at r  == an answer of next_call is right
use Rattle.std.specs.Prelude.{ℕ, ◌≤◌, ◌<◌, ◌≡◌, List, [], ◌∷◌, T, length}
use Rattle.std.specs.Prelude.{Some, None}
use Rattle.std.specs.Prelude.{Option as Optional}
use Rattle.rules.specs.Bytes.{Bytes, is_some, list_of, flat}
use Rattle.rules.specs.Code.{CallKind, virtual, special, static, interface, Call, call_at, split_from}
use Rattle.codes.specs.declared.Calling.{Calling}
use Rattle.codes.specs.declared.Calling.TheVariants.{Virtual, Special, Static, Interface}
use Rattle.codes.specs.declared.CallHere.{CallHere}
use Rattle.codes.specs.declared.NextCall.{NextCall}

-- document 01's kind of a call
abbrev pub kind_of : Calling → CallKind
kind_of Virtual = virtual
kind_of Special = special
kind_of Static = static
kind_of Interface = interface

-- the code splits from an offset to its end
unfoldable pub SplitsFrom : Bytes → ℕ → Type 0
SplitsFrom code at = T (is_some (split_from (length code) code at))

-- the calls from an offset on, in order
unfoldable pub calls_from : Bytes → ℕ → List Call
calls_from code at = list_of (split_from (length code) code at) (flat (call_at code))

-- the calls that an answer of call_at stands for: one or none
abbrev pub calls_here : Optional CallHere → List Call
calls_here (Some c) = record { kind = kind_of c.kind; index = c.index } ∷ []
calls_here None = []

-- the index of the reference is a u2
abbrev pub IndexFits : Optional CallHere → Type 0
IndexFits (Some c) = c.index < 65536
IndexFits None = Unit

-- the first call from an offset on, and where to go on; or there is none left
abbrev pub Follows : Bytes → ℕ → Optional NextCall → Type 0
Follows code at (Some c) =
    (calls_from code at ≡ record { kind = kind_of c.kind; index = c.index } ∷ calls_from code c.next.0)
    × SplitsFrom code c.next.0 × (at < c.next.0) × (c.next.0 ≤ length code) × (c.index < 65536)
Follows code at None = calls_from code at ≡ []
