-- `lines::decode` meets its contract. The loop's invariant: the bytes decoded, with what is left to decode, are the argument's. Assumes nothing.
use lib.ListN.{length, length-set, take, drop}
use lib.Seq.{take-set-le}
use Rattle.lines.specs.Line.{bytes_of}
use Rattle.lines.proofs.Decoding.{joined_start, argument_none, decode_step, decode_two, decode_stop, decode_end}
use Prim.Native.Nat.{ℕ, ◌+◌, ◌*◌, ◌/◌}
use mathlib.Core.Option.{some}
use mathlib.Core.Path.{◌≡◌, refl, sym, ap, ◌∙◌}
use native.Mathlib.Omega.{arith}
use Rattle.lines.proofs.decode.Goals as goal

pub returns-then-digits-eq0 : goal.returns-then-digits-eq0
returns-then-digits-eq0 c = record { out_after = argument_none c.args.digits.now (omega arith); out_unchanged = refl; result_bound = tt }

pub loop-n-init : goal.loop-n-init
loop-n-init c = (omega arith, refl, refl, joined_start (bytes_of c.args.digits.now))

pub returns-in_err-out : goal.returns-in_err-out
returns-in_err-out c =
    let xs = take c.loop-n.n (drop c.args.at c.loop-n.out) in
    rw c.from_residual.ensures (record {
      out_after = decode_stop c.args.digits.now xs (2 * c.loop-n.n) (omega arith) (sym c.in_err-out.ensures) c.loop-n.invariant.3;
      out_unchanged = c.loop-n.invariant.2;
      result_bound = tt;
    })

pub loop-n-preserved : goal.loop-n-preserved
loop-n-preserved c =
    let at = c.args.at in
    let n = c.loop-n.n in
    let b = c.in_ok-out.field-0 in (
      decode_two c.args.digits.now n b (sym c.in_ok-out.ensures),
      simp length-set c.loop-n.invariant.1,
      take-set-le at c.loop-n.out (at + n) b (omega arith) ∙ c.loop-n.invariant.2,
      decode_step c.args.digits.now c.loop-n.out at n b (omega arith) (sym c.in_ok-out.ensures) c.loop-n.invariant.3,
    )

pub returns : goal.returns
returns c =
    let s = c.args.digits.now in
    let all : (length s + 1) / 2 ≡ c.loop-n.n = omega arith in
    let whole = decode_end s c.loop-n.out c.args.at c.loop-n.n (omega arith) (omega arith) c.loop-n.invariant.3 in
    record {
      out_after = ap (λ (n : ℕ). some (take n (drop c.args.at c.loop-n.out))) all ∙ whole;
      out_unchanged = c.loop-n.invariant.2;
      result_bound = omega (arith, c.loop-n.invariant.0);
    }
