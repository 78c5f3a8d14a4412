-- `instructions::subset::is_barred` meets its contract: by the opcode, then by the byte behind it, which is there. Assumes nothing.
use mathlib.Core.Path.{◌≡◌, sym, ◌∙◌}
use mathlib.Core.Bool.{true, false}
use mathlib.Core.List.{[], ◌∷◌}
use borrow.Author.Tests.{not-false}
use Rattle.rules.specs.Code.{u1_at, among}
use Rattle.rules.specs.Subset.{barred_opcode}
use Rattle.instructions.proofs.Barred.{type_room, barred_plain, barred_none, barred_type}
use Rattle.instructions.proofs.subset.is_barred.Goals as goal
use Rattle.instructions.proofs.subset.is_barred.Goals.{Else-barred_opcode, Else-not-has_type, Start}

plain : (c : Else-barred_opcode) → let a = c.args in barred_opcode (u1_at a.code.now a.at) ≡ false
plain c = sym c.barred_opcode.ensures ∙ c.if-barred_opcode.false

pub returns-then-barred_opcode : goal.returns-then-barred_opcode
returns-then-barred_opcode c =
    let a = c.args in
    sym (barred_plain a.code.now a.at (sym c.barred_opcode.ensures ∙ c.if-barred_opcode.true))

pub returns-then-not-has_type : goal.returns-then-not-has_type
returns-then-not-has_type c =
    let a = c.args in
    sym (barred_none a.code.now a.at (plain (goal.at.returns-then-not-has_type c).Else-barred_opcode) (sym c.has_type.ensures ∙ c.if-not-has_type.true))

-- 90, 94 or 95
typed : (c : Else-not-has_type) → let a = c.args in among ((0x90, 0x90) ∷ (0x94, 0x95) ∷ []) (u1_at a.code.now a.at) ≡ true
typed c = sym c.has_type.ensures ∙ not-false _ c.if-not-has_type.false-raw

pub bounds-code-at-2 : goal.bounds-code-at-2
bounds-code-at-2 c =
    type_room c.args.code.now c.args.at c.requires.1 (typed (goal.at.bounds-code-at-2 c).Else-not-has_type)

pub returns : goal.returns
returns c =
    let a = c.args in
    sym (barred_type a.code.now a.at (plain (goal.at.returns c).Else-barred_opcode) (typed (goal.at.returns c).Else-not-has_type))
