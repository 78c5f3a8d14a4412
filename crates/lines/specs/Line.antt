-- The lines of the simulated card: what the input's lines are, and what a line asks for (document 01, "The simulated card").
-- Assumes nothing.
--
-- before b cs   == the characters before the first b; parts b cs == the parts between the places where b stands
-- digit c       == the number of a capital hex digit; argument cs == one or more bytes as two such digits each
-- line_of cs     == the operation that a line asks for, none where it is bad
-- lines_of input == the lines of an input, without their newlines
-- kept cs       == what is kept of a line while it is read: enough to tell that it is too long
use Rattle.std.specs.Prelude.{ℕ, ◌+◌, ◌-◌, ◌*◌, List, [], ◌∷◌, leb, eqb, length, take}
use Rattle.std.proofs.Math.Option.{Option, none, some}
use Rattle.rules.specs.Bytes.{Bytes, Aid, pick, within, ◌and_then◌}
use Rattle.rules.specs.Store.{full}
use Rattle.rules.specs.Operations.{Operation, create, delete, remove, load}
pub use Rattle.text.specs.Text.{newline, space}

-- the most characters of a line without the newline
abbrev pub longest : ℕ
longest = 8000

-- the characters before the first b, all of them where there is none
abbrev pub before : ℕ → Bytes → Bytes
before b [] = []
before b (c ∷ cs) = pick (eqb c b) [] (c ∷ before b cs)

-- a character put in front of the first part
abbrev pub on_first : ℕ → List Bytes → List Bytes
on_first c [] = (c ∷ []) ∷ []
on_first c (w ∷ ws) = (c ∷ w) ∷ ws

-- the parts between the places where b stands, empty ones included
abbrev pub parts : ℕ → Bytes → List Bytes
parts b [] = [] ∷ []
parts b (c ∷ cs) = pick (eqb c b) ([] ∷ parts b cs) (on_first c (parts b cs))

-- the number of a capital hex digit: 0 to 9, A to F
unfoldable pub digit : ℕ → Option ℕ
digit c = pick (within 0x30 0x39 c) (some (c - 0x30)) (pick (within 0x41 0x46 c) (some (c - 0x41 + 10)) none)

-- the byte of two digits, the high one first
abbrev pub byte_of : ℕ → ℕ → Option ℕ
byte_of h l = digit h and_then λ x. digit l and_then λ y. some (x * 16 + y)

-- bytes as two digits each
abbrev pub bytes_of : Bytes → Option Bytes
bytes_of [] = some []
bytes_of (h ∷ []) = none
bytes_of (h ∷ l ∷ cs) = byte_of h l and_then λ b. bytes_of cs and_then λ bs. some (b ∷ bs)

-- an argument has one or more bytes
abbrev pub argument : Bytes → Option Bytes
argument [] = none
argument (c ∷ cs) = bytes_of (c ∷ cs)

-- C or D and a domain AID, R and a package AID
abbrev pub with_one : ℕ → Aid → Option Operation
with_one k a =
    pick (eqb k 0x43) (some (create full a)) (pick (eqb k 0x44) (some (delete a)) (pick (eqb k 0x52) (some (remove a)) none))

-- L with domain AID and file
abbrev pub with_two : ℕ → Aid → Bytes → Option Operation
with_two k d f = pick (eqb k 0x4C) (some (load d f)) none

-- a letter and the arguments after it
abbrev pub letter_and : ℕ → List Bytes → Option Operation
letter_and k [] = none
letter_and k (a ∷ []) = argument a and_then with_one k
letter_and k (d ∷ f ∷ []) = argument d and_then λ x. argument f and_then with_two k x
letter_and k (d ∷ f ∷ g ∷ ws) = none

-- a letter is a part of one character
abbrev pub letter : Bytes → Option ℕ
letter [] = none
letter (c ∷ []) = some c
letter (c ∷ b ∷ cs) = none

-- a line by its parts, with single spaces between them
abbrev pub form_of : List Bytes → Option Operation
form_of [] = none
form_of (w ∷ ws) = letter w and_then λ k. letter_and k ws

-- the operation that a line asks for, none where it is bad
unfoldable pub line_of : Bytes → Option Operation
line_of cs = pick (leb (length cs) longest) (form_of (parts space cs)) none

-- after the last newline there is a line only if a byte is there
abbrev pub to_last : List Bytes → List Bytes
to_last [] = []
to_last ([] ∷ []) = []
to_last ((c ∷ cs) ∷ []) = (c ∷ cs) ∷ []
to_last (w ∷ v ∷ ws) = w ∷ to_last (v ∷ ws)

-- the lines of an input, without their newlines
unfoldable pub lines_of : Bytes → List Bytes
lines_of input = to_last (parts newline input)

-- a line is kept up to one character more than it may have
abbrev pub most_kept : ℕ
most_kept = longest + 1

unfoldable pub kept : Bytes → Bytes
kept cs = take most_kept cs
