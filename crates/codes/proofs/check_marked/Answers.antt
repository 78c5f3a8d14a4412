-- `codes::check_marked` meets its contract: the number by what the walk leaves. Assumes nothing.
use native.Mathlib.Omega.{arith}
use mathlib.Core.Path.{◌≡◌, sym, ap, subst, ◌∙◌}
use lib.ListN.{length}
use Rattle.fields.specs.Told.{told}
use mathlib.Core.Bool.{true}
use borrow.Author.Tests.{not-true, not-false}
use Rattle.rules.specs.Bytes.{Bytes}
use Rattle.rules.specs.Code.{u1_at, may_end}
use Rattle.places.specs.Parts.{handlers_in}
use Rattle.std.specs.Prelude.{Ok}
use Rattle.refusals.specs.Order.{code_told}
use Rattle.refusals.proofs.Said.{split_before, target_before, handler_before}
use Rattle.codes.specs.Marks.{LastInside, code_number}
use Rattle.codes.proofs.Numbers.{number_none, number_ends, number_outside, number_missed, number_misfits, number_lands}
use Rattle.codes.proofs.check_marked.Goals as goal
use Rattle.codes.proofs.check_marked.Goals.{After-walk-found, Else-not-all_fit, Else-not-may_end}

abbrev handlers : After-walk-found → Bytes
handlers k = k.args.handlers.now

-- the last instruction may end the code
ends : (k : Else-not-may_end) →
    may_end (u1_at k.args.code.now k.in-Some.last) ≡ true
ends k = sym k.may_end.ensures ∙ k.if-not-may_end.false

-- where all three hold, the number is by whether the code calls
lands : (k : Else-not-all_fit) →
    let a = k.args in
    code_told (Ok k.walk-found.result.calls) ≡ code_number a.code.now (handlers_in a.handlers.now)
lands k = number_lands _ (handlers (goal.at.Else-not-all_fit k).After-walk-found) _ _ _ _ _ k.walk-found.ensures _ (ap told k.in-Some.is) (ends (goal.at.Else-not-all_fit k).Else-not-may_end) (not-false _ k.if-not-found.false)
    k.is_within.result k.is_within.ensures (k.if-not-is_within.false)
    k.all_fit.result k.all_fit.ensures (k.if-not-all_fit.false)

pub walk-found-requires : goal.walk-found-requires
walk-found-requires c =
    record { table_is = (c.requires.0, omega (arith, c.requires.1, c.clear.auto), omega (arith, c.requires.1, c.requires.2, c.clear-2.auto)); by_index = (c.clear.ensures, c.clear-2.ensures) }

pub returns-in_default : goal.returns-in_default
returns-in_default c =
    (sym (number_none _ (handlers (goal.at.returns-in_default c).After-walk-found) _ _ _ _ _ c.walk-found.ensures (ap told c.in_default.is)), split_before)

pub bounds-code-last : goal.bounds-code-last
bounds-code-last c = subst (LastInside (length c.args.code.now)) c.in-Some.is c.walk-found.ensures.bound

pub returns-then-not-may_end : goal.returns-then-not-may_end
returns-then-not-may_end c =
    let no_end = sym c.may_end.ensures ∙ c.if-not-may_end.true in
    (sym (number_ends _ (handlers (goal.at.returns-then-not-may_end c).After-walk-found) _ _ _ _ _ c.walk-found.ensures _ (ap told c.in-Some.is) no_end), split_before)

pub returns-then-not-found : goal.returns-then-not-found
returns-then-not-found c =
    (sym (number_outside _ (handlers (goal.at.returns-then-not-found c).After-walk-found) _ _ _ _ _ c.walk-found.ensures _ (ap told c.in-Some.is) (ends (goal.at.returns-then-not-found c).Else-not-may_end) (not-true _ c.if-not-found.true)), target_before)

pub returns-then-not-is_within : goal.returns-then-not-is_within
returns-then-not-is_within c = (
  sym (number_missed _ (handlers (goal.at.returns-then-not-is_within c).After-walk-found) _ _ _ _ _ c.walk-found.ensures _ (ap told c.in-Some.is) (ends (goal.at.returns-then-not-is_within c).Else-not-may_end) (not-false _ c.if-not-found.false)
      c.is_within.result c.is_within.ensures (c.if-not-is_within.true)),
  target_before,
)

pub returns-then-not-all_fit : goal.returns-then-not-all_fit
returns-then-not-all_fit c = (
  sym (number_misfits _ (handlers (goal.at.returns-then-not-all_fit c).After-walk-found) _ _ _ _ _ c.walk-found.ensures _ (ap told c.in-Some.is) (ends (goal.at.returns-then-not-all_fit c).Else-not-may_end) (not-false _ c.if-not-found.false)
      c.is_within.result c.is_within.ensures (c.if-not-is_within.false)
      c.all_fit.result c.all_fit.ensures (c.if-not-all_fit.true)),
  handler_before,
)

pub returns : goal.returns
returns c = (lands (goal.at.returns c).Else-not-all_fit, tt)
