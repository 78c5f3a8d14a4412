-- `lines::gather` meets its contract: as many characters are copied as are kept. Assumes nothing.
use Prim.Native.Nat.{ℕ, ◌+◌, ◌-◌}
use native.Mathlib.Omega.{arith}
use mathlib.Core.Path.{◌≡◌, ap, ◌∙◌}
use lib.ListN.{length, take, drop, length-take, length-drop}
use Rattle.std.proofs.lemmas.Slice.{put_mid-paste}
use Rattle.lines.proofs.Gathering.{gathered}
use Rattle.lines.proofs.gather.Goals as goal

pub returns : goal.returns
returns c =
    let line = c.args.line.now in
    let held = c.args.held in
    let x = drop c.args.from c.args.chunk.now in
    let n = c.min-n.result in
    let part : c.args.from + n - c.args.from ≡ n = omega arith in
    let copied : c.copy_from_slice.new.self ≡ take n x = c.copy_from_slice.ensures.after ∙ ap (λ (i : ℕ). take i x) part in
    let long : n ≡ length (take n x) = omega (arith, length-take n x, length-drop c.args.from c.args.chunk.now) in
    let put = put_mid-paste held (held + n - held) line c.copy_from_slice.new.self (take n x) n copied (omega arith) long in
    record {
      line_after = ap (take (held + n)) put ∙ gathered line x held n (omega arith) (omega arith) (omega arith);
      at_value = c.find-at.ensures.0;
      held_le_most_kept = (omega arith, c.find-at.ensures.1);
    }
