-- `file_codes::class_number` meets its contract: the loop keeps the first no of the methods that it has passed. Assumes nothing.
use native.Mathlib.Omega.{arith}
use Prim.Native.Nat.{◌+◌, ◌-◌}
use mathlib.Core.Path.{refl, ap, ◌∙◌}
use Rattle.refusals.specs.Order.{code_told}
use Rattle.refusals.proofs.Said.{first_codes}
use borrow.Author.Rules.{rules}
use Rattle.files.proofs.Steps.{methods_in_lem, methods_there}
use Rattle.file_codes.proofs.Loops.{methods_start, methods_here, methods_on, methods_done}
use Rattle.file_codes.proofs.class_number.Goals as goal

pub methods_of-start-requires : goal.methods_of-start-requires
methods_of-start-requires c =
    (c.requires.class_here.0, c.requires.class_here.1, c.requires.class_here.2)

pub bounds-f-start : goal.bounds-f-start
bounds-f-start c =
    methods_in_lem (methods_there c.methods_of-start.ensures ((c.requires.class_here.0, c.requires.class_here.1, c.requires.class_here.2)))

pub overflow_add-c : goal.overflow_add-c
overflow_add-c c =
    omega (arith, methods_in_lem (methods_there c.methods_of-start.ensures ((c.requires.class_here.0, c.requires.class_here.1, c.requires.class_here.2))))

pub loop-init : goal.loop-init
loop-init c = (methods_start (omega (arith, c.wide-end.ensures.0)), tt, refl, refl)

pub method_number-n-requires : goal.method_number-n-requires
method_number-n-requires c =
    record {
      method_here = (
        c.requires.class_here.0,
        c.requires.class_here.1,
        methods_here c.methods_of-start.result (code_told c.loop.number) (c.wide-end.result - c.loop.counter) c.loop.c c.loop.invariant.0 c.requires.class_here.0 c.requires.class_here.1 c.requires.class_here.2
            c.methods_of-start.ensures (omega arith),
        (
          omega (arith, c.requires.class_here.3.0, c.loop.invariant.2),
          omega
              (arith, c.requires.class_here.3.1, c.loop.invariant.3),
        ),
      );
      table_is = c.requires.table_is;
    }

pub after_method-c-requires : goal.after_method-c-requires
after_method-c-requires c = (
  c.requires.class_here.0,
  c.requires.class_here.1,
  methods_here c.methods_of-start.result (code_told c.loop.number) (c.wide-end.result - c.loop.counter) c.loop.c c.loop.invariant.0 c.requires.class_here.0 c.requires.class_here.1 c.requires.class_here.2
      c.methods_of-start.ensures (omega arith),
)

pub loop-preserved : goal.loop-preserved
loop-preserved c =
    let first = first_codes c.loop.number c.method_number-n.result c.loop.invariant.1 c.method_number-n.ensures.before in (
      methods_on c.methods_of-start.result (code_told c.loop.number) (c.wide-end.result - c.loop.counter) c.loop.c c.loop.invariant.0
          (code_told c.method_number-n.result) (c.wide-end.result - (c.loop.counter + 1)) (code_told c.first_said-number.result) c.after_method-c.result
          (omega arith) c.method_number-n.ensures.number (ap code_told c.first_said-number.ensures ∙ first.0) c.after_method-c.ensures,
      rw c.first_said-number.ensures first.1,
      search rules,
      search rules,
    )

pub returns : goal.returns
returns c =
    record {
      number =
          methods_done c.methods_of-start.result (code_told c.loop.number) (c.wide-end.result - c.loop.counter) c.loop.c c.loop.invariant.0 c.methods_of-start.ensures
          (omega arith);
      before = c.loop.invariant.1;
    }
