-- `lines::with_one` meets its contract: one letter after the other. Assumes nothing.
use native.Mathlib.Omega.{arith}
use borrow.Author.Tests.{ne_eqb}
use Rattle.lines.proofs.with_one.Goals as goal

pub returns-in-67 : goal.returns-in-67
returns-in-67 c = record { out_value = (λ out. rw c.in-67.is); result_bound = (omega arith, omega arith) }

pub returns-in-68 : goal.returns-in-68
returns-in-68 c = record { out_value = (λ out. rw c.in-68.is); result_bound = (omega arith, omega arith) }

pub returns-in-82 : goal.returns-in-82
returns-in-82 c = record { out_value = (λ out. rw c.in-82.is); result_bound = (omega arith, omega arith) }

pub returns-in_default : goal.returns-in_default
returns-in_default c = record {
  out_value = (λ out. rw (ne_eqb c.args.letter 67 (omega arith), ne_eqb c.args.letter 68 (omega arith), ne_eqb c.args.letter 82 (omega arith)));
  result_bound = tt;
}
