-- `text::put_decimal` meets its contract: the fewest digits that hold the figure are its digits. Assumes nothing.
use native.Mathlib.Omega.{arith}
use mathlib.Core.Path.{◌≡◌, ◌∙◌, ap}
use lib.ListN.{length, take}
use Rattle.text.specs.Text.{decimal}
use Rattle.text.proofs.Puts.{put_as}
use Rattle.text.proofs.Digits.{fewest_digits}
use Rattle.text.proofs.put_decimal.Goals as goal
use Rattle.text.proofs.put_decimal.Goals.{After-decimal-count}

-- the digits made are those of the figure
made : (k : After-decimal-count) → take k.decimal-count.result k.decimal-count.new.out ≡ decimal k.args.n
unfolding decimal
made k =
    let n = k.args.n in
    k.decimal-count.ensures.digits ∙ fewest_digits 19 k.decimal-count.result n (omega arith) k.decimal-count.ensures.len

pub put_bytes-requires : goal.put_bytes-requires
put_bytes-requires c = omega (arith, ap length (made (goal.at.put_bytes-requires c).After-decimal-count))

pub returns : goal.returns
returns c =
    put_as (made (goal.at.returns c).After-decimal-count) c.put_bytes.ensures
