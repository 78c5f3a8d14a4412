-- `text::put_byte` meets its contract. Assumes nothing.
use Rattle.text.proofs.Puts.{put_one}
use Rattle.text.proofs.put_byte.Goals as goal

pub returns : goal.returns
returns c =
    let a = c.args in
    put_one a.out.now a.at a.b c.requires
