-- `named::class_at` meets its contract. Assumes nothing.
use Rattle.named.proofs.Rows as rows
use Rattle.named.proofs.class_at.Goals as goal
use Rattle.named.proofs.class_at.Goals.{After-stands_at}

pub returns : goal.returns
returns c =
    let a = c.args in
    record { class_placed = rows.stands_placed a.g.now a.c c.stands_at.result c.stands_at.ensures.class_stands; row_true = c.stands_at.ensures.row_true }
