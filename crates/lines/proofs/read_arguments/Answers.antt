-- `lines::read_arguments` meets its contract: the first space parts the arguments. Assumes nothing.
use lib.ListN.{length-take, length-drop}
use lib.Seq.{length-take-le}
use Rattle.std.proofs.lemmas.Option.{IfSome_then}
use Rattle.lines.proofs.Reading.{one_argument, two_parts}
use mathlib.Core.Path.{sym, ◌∙◌}
use native.Mathlib.Omega.{arith}
use Rattle.lines.proofs.read_arguments.Goals as goal

pub slice_bounds-read_two-end : goal.slice_bounds-read_two-end
slice_bounds-read_two-end c =
    let args = c.args in
    sym (length-take-le c.find-at.result args.rest.now c.find-at.ensures.1)

pub read_two-requires : goal.read_two-requires
read_two-requires c = simp (length-take, length-drop) (omega arith)

pub returns-then-at-rest : goal.returns-then-at-rest
returns-then-at-rest c =
    let args = c.args in
    record { out_after = c.read_two.ensures.out_after ∙ two_parts args.letter c.find-at.result args.rest.now c.find-at.ensures.0 c.if-at-rest.true; result_bound = c.read_two.ensures.result_bound }

pub returns-in_err-n : goal.returns-in_err-n
returns-in_err-n c = rw c.from_residual.ensures (record {
  out_after = sym (one_argument c.args.letter c.args.rest.now (omega arith) ∙ rw (sym c.in_err-n.ensures.out_after));
  result_bound = tt;
})

pub returns : goal.returns
returns c = record {
  out_after = c.with_one.ensures.out_value c.decode.new.out
      ∙ sym (one_argument c.args.letter c.args.rest.now (omega arith) ∙ rw (sym c.in_ok-n.ensures.out_after));
  result_bound = IfSome_then c.with_one.result c.with_one.ensures.result_bound (λ f h. (h.0, omega (arith, h.1, c.in_ok-n.ensures.result_bound)));
}
