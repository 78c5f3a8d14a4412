-- `lines::read_two` meets its contract: only L has two arguments. Assumes nothing.
use mathlib.Core.Path.{sym}
use Rattle.lines.specs.Line.{argument}
use Rattle.lines.proofs.Reading.{not_load, no_first, no_second, load_said}
use native.Mathlib.Omega.{arith}
use Rattle.lines.proofs.read_two.Goals as goal

pub returns-then-letter-ne76 : goal.returns-then-letter-ne76
returns-then-letter-ne76 c = record {
  out_after = not_load c.args.letter (argument c.args.first.now) (argument c.args.second.now) c.if-letter-ne76.true;
  result_bound = tt;
}

pub returns-in_err-d : goal.returns-in_err-d
returns-in_err-d c = rw c.from_residual.ensures (record {
  out_after = no_first c.args.letter (argument c.args.first.now) (argument c.args.second.now) (sym c.in_err-d.ensures.out_after);
  result_bound = tt;
})

pub returns-in_err-n : goal.returns-in_err-n
returns-in_err-n c = rw c.from_residual-in_err-n.ensures (record {
  out_after = no_second c.args.letter (argument c.args.first.now) (argument c.args.second.now) (sym c.in_err-n.ensures.out_after);
  result_bound = tt;
})

pub returns : goal.returns
returns c = record {
  out_after = load_said c.args.letter c.in_ok-d.d c.in_ok-n.n c.decode.new.out c.decode-2.new.out (argument c.args.first.now) (argument c.args.second.now)
      c.if-letter-ne76.false (sym c.in_ok-d.ensures.out_after) (sym c.in_ok-n.ensures.out_after) c.in_ok-n.ensures.out_unchanged;
  result_bound = (omega arith, omega (arith, c.in_ok-d.ensures.result_bound, c.in_ok-n.ensures.result_bound));
}
