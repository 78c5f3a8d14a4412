-- `lines::decode` meets its contract. The loop's invariant: the bytes decoded, with what is left to decode, are the argument's. Assumes nothing.
use Rattle.lines.specs.Line.{bytes_of}
use Rattle.lines.proofs.Decoding.{joined}
use Prim.Native.Nat.{◌*◌, ◌≤◌}
use mathlib.Core.Path.{◌≡◌}
use lib.ListN.{length, take, drop}
use Rattle.lines.proofs.decode.Given as goal

abbrev pub invariant-loop-n : goal.invariant-loop-n
invariant-loop-n l = (2 * l.n ≤ length l.digits) × (length l.out ≡ length l.initial.out) × (take l.at l.out ≡ take l.at l.initial.out) ×
    (bytes_of l.digits ≡ joined (take l.n (drop l.at l.out)) (bytes_of (drop (2 * l.n) l.digits)))
