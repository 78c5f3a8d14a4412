-- `inventory::page::put_number` meets its contract: figure, newline. Assumes nothing.
use Rattle.text.proofs.Puts.{put_then}
use Rattle.inventory.proofs.page.put_number.Goals as goal

pub returns : goal.returns
returns c =
    put_then c.put_decimal-a.ensures c.put_byte.ensures
