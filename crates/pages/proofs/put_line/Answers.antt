-- `pages::put_line` meets its contract: AID, space, domain, space, two figures. Assumes nothing.
use native.Mathlib.Omega.{arith}
use Prim.Native.Nat.{◌+◌, ◌*◌, ◌≤◌}
use mathlib.Core.Path.{◌≡◌, ap}
use lib.ListN.{length}
use Rattle.text.specs.Text.{hex_bytes}
use Rattle.text.proofs.Puts.{put_then, put_as, hex_length}
use Rattle.text.proofs.Digits.{decimal_few}
use Rattle.pages.proofs.Lines.{aid_short}
use Rattle.pages.proofs.put_line.Goals as goal
use Rattle.pages.proofs.put_line.Goals.{After-own_aid, After-put_byte-b, After-put_byte-d, After-put_hex-a, After-put_hex-c}

-- the AID is shorter than the file
short : (k : After-own_aid) → length k.own_aid.result.now + 8 ≤ length k.args.file.now
short k =
    let is = k.own_aid.ensures k.requires.readable.0.0 k.requires.readable.0.1 k.requires.readable.0.2 in
    omega (arith, ap length is, aid_short k.requires.readable.0.0 _ k.requires.readable.0.1 k.requires.readable.0.2)

-- the place that is reached, and the buffer's length, behind each text
aid-to : (k : After-put_hex-a) →
    (k.put_hex-a.result ≡ k.args.at + 2 * length k.own_aid.result.now) × (length k.put_hex-a.new.out ≡ length k.args.out.now)
aid-to k = (omega (arith, k.put_hex-a.ensures.to, hex_length k.own_aid.result.now), k.put_hex-a.ensures.kept)

space-to : (k : After-put_byte-b) →
    (k.put_byte-b.result ≡ k.put_hex-a.result + 1) × (length k.put_byte-b.new.out ≡ length k.args.out.now)
space-to k = (k.put_byte-b.ensures.to, omega (arith, k.put_byte-b.ensures.kept, (aid-to (goal.at.After-put_byte-b k).After-put_hex-a).1))

domain-to : (k : After-put_hex-c) →
    (k.put_hex-c.result ≡ k.put_byte-b.result + 2 * length k.args.domain.now) × (length k.put_hex-c.new.out ≡ length k.args.out.now)
domain-to k =
    (omega (arith, k.put_hex-c.ensures.to, hex_length k.args.domain.now), omega (arith, k.put_hex-c.ensures.kept, (space-to (goal.at.After-put_hex-c k).After-put_byte-b).1))

second-to : (k : After-put_byte-d) →
    (k.put_byte-d.result ≡ k.put_hex-c.result + 1) × (length k.put_byte-d.new.out ≡ length k.args.out.now)
second-to k = (k.put_byte-d.ensures.to, omega (arith, k.put_byte-d.ensures.kept, (domain-to (goal.at.After-put_byte-d k).After-put_hex-c).1))

pub put_hex-a-requires : goal.put_hex-a-requires
put_hex-a-requires c = omega (arith, short c, c.requires.file_in_bounds)

pub put_byte-b-requires : goal.put_byte-b-requires
put_byte-b-requires c =
    let to = aid-to (goal.at.put_byte-b-requires c).After-put_hex-a in
    omega (arith, to.0, to.1, short (goal.at.put_byte-b-requires c).After-own_aid, c.requires.file_in_bounds)

pub put_hex-c-requires : goal.put_hex-c-requires
put_hex-c-requires c =
    let to = space-to (goal.at.put_hex-c-requires c).After-put_byte-b in
    omega (arith, to.0, to.1, (aid-to (goal.at.put_hex-c-requires c).After-put_hex-a).0, short (goal.at.put_hex-c-requires c).After-own_aid, c.requires.file_in_bounds)

pub put_byte-d-requires : goal.put_byte-d-requires
put_byte-d-requires c =
    let to = domain-to (goal.at.put_byte-d-requires c).After-put_hex-c in
    omega (arith, to.0, to.1, (space-to (goal.at.put_byte-d-requires c).After-put_byte-b).0, (aid-to (goal.at.put_byte-d-requires c).After-put_hex-a).0, short (goal.at.put_byte-d-requires c).After-own_aid, c.requires.file_in_bounds)

pub put_two-requires : goal.put_two-requires
put_two-requires c =
    let to = second-to (goal.at.put_two-requires c).After-put_byte-d in
    let bytes = decimal_few 4 (length c.args.file.now) (omega (arith, c.requires.readable.1)) in
    let methods = decimal_few 4 c.args.methods (omega (arith, c.requires.readable.2)) in
    omega (arith, to.0, to.1, (domain-to (goal.at.put_two-requires c).After-put_hex-c).0, (space-to (goal.at.put_two-requires c).After-put_byte-b).0, (aid-to (goal.at.put_two-requires c).After-put_hex-a).0, short (goal.at.put_two-requires c).After-own_aid, c.requires.file_in_bounds, bytes, methods)

pub returns : goal.returns
returns c = λ l p r.
    let is = ap hex_bytes (c.own_aid.ensures l p r) in
    put_then (put_as is c.put_hex-a.ensures) (put_then c.put_byte-b.ensures (put_then c.put_hex-c.ensures
    (put_then c.put_byte-d.ensures c.put_two.ensures)))
