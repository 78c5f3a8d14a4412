-- `calls::naming::has_form` meets its contract, for each kind of call. Assumes nothing.
use mathlib.Core.Bool.{Bool}
use mathlib.Core.Path.{◌≡◌, sym, subst}
use Rattle.codes.specs.declared.Calling.{Calling}
use Rattle.files.specs.Say.{StaticIs}
use Rattle.calls.specs.Named.{FormIs}
use Rattle.calls.proofs.Forms as forms
use Rattle.calls.proofs.naming.has_form.Goals as goal
use Rattle.calls.proofs.naming.has_form.Goals.{Start}

-- the answer r, by kind k; whether the method is static is r
abbrev Form : Start → Calling → Bool → Type 0
Form b k r = FormIs b.args.g.now b.args.x k r

abbrev Static : Start → Bool → Type 0
Static b r = StaticIs b.args.g.now b.args.x.method r

-- an answer by the kind that was told is one by the kind asked
by_kind : (b : Start) (k : Calling) (r : Bool) → b.args.kind ≡ k → Form b k r → Form b b.args.kind r
by_kind b k r e h = subst (λ (x : Calling). Form b x r) (sym e) h

pub returns-then-is_static : goal.returns-then-is_static
returns-then-is_static c =
    by_kind (goal.at.returns-then-is_static c).Start _ _ c.in-Virtual.is (forms.virtual_static c.args.x (subst (Static (goal.at.returns-then-is_static c).Start) c.if-is_static.true c.is_static.ensures))

pub returns-then-is_static-2 : goal.returns-then-is_static-2
returns-then-is_static-2 c =
    by_kind (goal.at.returns-then-is_static-2 c).Start _ _ c.in-Interface.is (forms.interface_static c.args.x (subst (Static (goal.at.returns-then-is_static-2 c).Start) c.if-is_static-2.true c.is_static-in-Interface.ensures))

pub returns-else-is_static : goal.returns-else-is_static
returns-else-is_static c =
    let non-static = subst (Static (goal.at.returns-else-is_static c).Start) c.if-is_static.false c.is_static.ensures in
    by_kind (goal.at.returns-else-is_static c).Start _ _ c.in-Virtual.is (forms.virtual_is c.args.x non-static)

pub returns-in-Special : goal.returns-in-Special
returns-in-Special c =
    by_kind (goal.at.returns-in-Special c).Start _ _ c.in-Special.is (forms.special_is c.args.x c.is_implemented.ensures)

pub returns-in-Static : goal.returns-in-Static
returns-in-Static c =
    by_kind (goal.at.returns-in-Static c).Start _ _ c.in-Static.is (forms.static_is c.args.x c.is_static-in-Static.ensures)

pub returns-else-is_static-2 : goal.returns-else-is_static-2
returns-else-is_static-2 c =
    let non-static = subst (Static (goal.at.returns-else-is_static-2 c).Start) c.if-is_static-2.false c.is_static-in-Interface.ensures in
    by_kind (goal.at.returns-else-is_static-2 c).Start _ _ c.in-Interface.is (forms.interface_is c.args.x non-static c.is_interface.ensures)
