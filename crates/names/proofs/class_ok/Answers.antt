-- `names::class_ok` meets its contract: the loop goes on while each method passed has its form and a name that is not in the table yet. Assumes nothing.
use native.Mathlib.Omega.{arith}
use mathlib.Core.Path.{◌≡◌, refl, sym, ◌∙◌}
use mathlib.Core.Bool.{Bool, true, false}
use lib.ListN.{length-set}
use borrow.Author.Tests.{not-true, not-false}
use Rattle.files.specs.Say.{MethodThere, Methods}
use Rattle.files.proofs.Steps as steps
use Rattle.names.specs.Say.{FormIs, ClassIs}
use Rattle.names.proofs.Rules as rules
use Rattle.names.proofs.class_ok.Goals as goal
use Rattle.names.proofs.class_ok.Goals.{After-form_ok, After-is_taken, After-methods_of-start, At-loop-n, Else-is_taken, Else-not-form_ok, In-loop-n}

-- the list of methods
methods : (k : After-methods_of-start) → Methods k.args.s.now k.methods_of-start.result
methods k = steps.methods_there k.methods_of-start.ensures k.requires.0

-- the method at hand
here : (k : In-loop-n) → MethodThere k.args.s.now k.loop-n.c
here k =
    rules.names_here _ _ _ _ _ _ _ _ k.loop-n.invariant.0 k.loop-n-test.true (methods (goal.at.In-loop-n k).After-methods_of-start)

-- what is said of the class by what is said of its methods
answer : (k : At-loop-n) (r : Bool) →
    rules.OkAt k.is_interface-interface.result k.args.s.now k.methods_of-start.result r →
    ClassIs k.args.s.now k.args.at r
answer k r q = rules.class_is_lem _ r k.is_interface-interface.ensures k.methods_of-start.ensures q

-- whether it has its form
formed : (k : After-form_ok) (r : Bool) → k.form_ok.result ≡ r →
    FormIs k.args.s.now k.loop-n.c k.is_interface-interface.result r
formed k r e l ds m j p = sym e ∙ k.form_ok.ensures l ds m j p

pub is_interface-interface-requires : goal.is_interface-interface-requires
is_interface-interface-requires c = c.requires.0

pub methods_of-start-requires : goal.methods_of-start-requires
methods_of-start-requires c =
    c.requires.0

pub bounds-s-start : goal.bounds-s-start
bounds-s-start c = steps.methods_in_lem (methods (goal.at.bounds-s-start c).After-methods_of-start)

pub overflow_add-c : goal.overflow_add-c
overflow_add-c c = omega (arith, steps.methods_in_lem (methods (goal.at.overflow_add-c c).After-methods_of-start))

pub loop-n-init : goal.loop-n-init
loop-n-init c =
    (rules.names_start_lem _ _ _ _ _ (methods (goal.at.loop-n-init c).After-methods_of-start) c.from-count.ensures c.requires.1, refl)

pub form_ok-requires : goal.form_ok-requires
form_ok-requires c = here c

pub shape_of-names-then-not-form_ok : goal.shape_of-names-then-not-form_ok
shape_of-names-then-not-form_ok c =
    c.loop-n.invariant.1

pub returns-then-not-form_ok : goal.returns-then-not-form_ok
returns-then-not-form_ok c =
    let q = formed (goal.at.returns-then-not-form_ok c).After-form_ok false (not-true c.form_ok.result c.if-not-form_ok.true-raw) in
    answer (goal.at.returns-then-not-form_ok c).At-loop-n false (rules.names_form _ _ _ _ _ _ _ _ c.loop-n.invariant.0 c.loop-n-test.true q)

pub name_at-name-requires : goal.name_at-name-requires
name_at-name-requires c = here (goal.at.name_at-name-requires c).In-loop-n

pub is_taken-requires : goal.is_taken-requires
is_taken-requires c =
    c.loop-n.invariant.0.below

pub shape_of-names-then-is_taken : goal.shape_of-names-then-is_taken
shape_of-names-then-is_taken c =
    c.loop-n.invariant.1

pub returns-then-is_taken : goal.returns-then-is_taken
returns-then-is_taken c =
    answer (goal.at.returns-then-is_taken c).At-loop-n false (rules.names_same _ _ _ _ _ _ _ _ c.loop-n.invariant.0 c.loop-n-test.true c.name_at-name.ensures (sym c.if-is_taken.true ∙ c.is_taken.ensures))

pub bounds-names-n : goal.bounds-names-n
bounds-names-n c =
    omega (arith, c.loop-n.invariant.0.few, c.loop-n.invariant.0.size)

pub after_method-c-requires : goal.after_method-c-requires
after_method-c-requires c =
    here (goal.at.after_method-c-requires c).In-loop-n

pub loop-n-preserved : goal.loop-n-preserved
loop-n-preserved c =
    let q = formed (goal.at.loop-n-preserved c).After-form_ok true (not-false c.form_ok.result c.if-not-form_ok.false-raw) in
    let e = sym c.if-is_taken.false ∙ c.is_taken.ensures in (
      rules.names_next _ _ _ _ _ _ _ _ c.loop-n.invariant.0 c.loop-n-test.true q
          c.name_at-name.ensures e c.above-top.ensures.0 c.above-top.ensures.1 c.after_method-c.ensures,
      length-set c.loop-n.names c.loop-n.n _ ∙ c.loop-n.invariant.1,
    )

pub shape_of-names : goal.shape_of-names
shape_of-names c = c.loop-n.invariant.1

pub returns : goal.returns
returns c = answer (goal.at.returns c).At-loop-n true (rules.names_none _ _ _ _ _ _ _ _ c.loop-n.invariant.0 (omega arith))
