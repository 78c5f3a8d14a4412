-- `lines::find` meets its contract: what stands before the first such byte. Assumes nothing.
use native.Mathlib.Omega.{arith}
use borrow.Author.Tests.{tests}
use Prim.Native.Nat.{◌-◌}
use lib.Seq.{take_all}
use mathlib.Core.Path.{◌≡◌, refl, sym, ◌∙◌}
use mathlib.Core.Logic.{◌≢◌}
use lib.ListN.{length, drop, length-drop}
use Rattle.std.proofs.Common.{rules}
use Rattle.std.specs.Option.{unwrap_or}
use Rattle.std.proofs.lemmas.Iterator.{YieldsList-from_slice, IsFirst-from_position, index_from_first}
use Rattle.lines.specs.Line.{before}
use Rattle.lines.proofs.Parts.{before_stop, before_step, before_bound}
use Rattle.lines.proofs.find.Goals as goal

pub returns : goal.returns
returns c =
    let b = c.args.b in
    let rest = drop c.args.from c.args.s.now in
    let long : length rest ≡ length c.args.s.now - c.args.from = length-drop c.args.from c.args.s.now in
    let whole = take_all (length c.args.s.now - c.args.from) rest (omega arith) in
    let first = IsFirst-from_position _ _ c.position.result (λ x. x ≡ b) (λ x. x ≢ b) c.position.ensures.ran
    (YieldsList-from_slice rest (c.iter.ensures.rest ∙ whole))
    (λ x q k. search (rules, tests)) (λ x q k. search (rules, tests)) in
    let e : length (before b rest) ≡ unwrap_or c.position.result (length rest) =
    index_from_first (λ xs. length (before b xs)) (λ x. x ≡ b) (λ x. x ≢ b) refl (before_stop b) (before_step b) rest c.position.result first in
    let found : c.unwrap_or.result ≡ length (before b rest) = c.unwrap_or.ensures ∙ sym (rw long at e) in
    (omega arith, omega (arith, before_bound b rest))
