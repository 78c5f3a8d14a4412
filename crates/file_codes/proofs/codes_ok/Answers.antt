-- `file_codes::codes_ok` meets its contract: the loop keeps the first no of the classes that it has passed. Assumes nothing.
use native.Mathlib.Omega.{arith}
use Prim.Native.Nat.{◌+◌, ◌-◌}
use mathlib.Core.Path.{refl, ap, ◌∙◌}
use Rattle.refusals.specs.Order.{code_told}
use Rattle.refusals.proofs.Said.{first_codes}
use borrow.Author.Rules.{rules}
use Rattle.files.proofs.Walks.{classes_there}
use Rattle.files.proofs.Steps.{classes_in_lem}
use Rattle.file_codes.proofs.Loops.{classes_start, classes_here, classes_on, classes_done}
use Rattle.file_codes.proofs.codes_ok.Goals as goal

pub classes_at-start-requires : goal.classes_at-start-requires
classes_at-start-requires c =
    (c.requires.file_here.0, c.requires.file_here.1, c.requires.file_here.2)

pub bounds-f-start : goal.bounds-f-start
bounds-f-start c =
    classes_in_lem (classes_there c.classes_at-start.ensures ((c.requires.file_here.0, c.requires.file_here.1, c.requires.file_here.2)))

pub overflow_add-c : goal.overflow_add-c
overflow_add-c c =
    omega (arith, classes_in_lem (classes_there c.classes_at-start.ensures ((c.requires.file_here.0, c.requires.file_here.1, c.requires.file_here.2))))

pub loop-init : goal.loop-init
loop-init c = (classes_start (omega (arith, c.wide-end.ensures.0)), tt, refl, refl)

pub class_number-n-requires : goal.class_number-n-requires
class_number-n-requires c =
    record {
      class_here = (
        c.requires.file_here.0,
        c.requires.file_here.1.domains,
        classes_here c.classes_at-start.result (code_told c.loop.number) (c.wide-end.result - c.loop.counter) c.loop.c c.loop.invariant.0 c.requires.file_here.0 c.requires.file_here.1
            c.requires.file_here.2 c.classes_at-start.ensures (omega arith),
        (
          omega (arith, c.requires.file_here.3.0, c.loop.invariant.2),
          omega
              (arith, c.requires.file_here.3.1, c.loop.invariant.3),
        ),
      );
      table_is = c.requires.table_is;
    }

pub after_class-c-requires : goal.after_class-c-requires
after_class-c-requires c = (
  c.requires.file_here.0,
  c.requires.file_here.1.domains,
  classes_here c.classes_at-start.result (code_told c.loop.number) (c.wide-end.result - c.loop.counter) c.loop.c c.loop.invariant.0 c.requires.file_here.0 c.requires.file_here.1 c.requires.file_here.2
      c.classes_at-start.ensures (omega arith),
)

pub loop-preserved : goal.loop-preserved
loop-preserved c =
    let first = first_codes c.loop.number c.class_number-n.result c.loop.invariant.1 c.class_number-n.ensures.before in (
      classes_on c.classes_at-start.result (code_told c.loop.number) (c.wide-end.result - c.loop.counter) c.loop.c c.loop.invariant.0
          (code_told c.class_number-n.result) (c.wide-end.result - (c.loop.counter + 1)) (code_told c.first_said-number.result) c.after_class-c.result
          (omega arith) c.class_number-n.ensures.number (ap code_told c.first_said-number.ensures ∙ first.0) c.after_class-c.ensures,
      rw c.first_said-number.ensures first.1,
      search rules,
      search rules,
    )

pub returns : goal.returns
returns c =
    record {
      number =
          classes_done c.classes_at-start.result (code_told c.loop.number) (c.wide-end.result - c.loop.counter) c.loop.c c.loop.invariant.0 c.classes_at-start.ensures
          (omega arith);
      before = c.loop.invariant.1;
    }
