-- `named::stands_at` meets its contract. Assumes nothing.
use native.Mathlib.Omega.{arith}
use mathlib.Core.Path.{◌∙◌}
use Rattle.named.proofs.Rows as rows
use Rattle.named.proofs.stands_at.Goals as goal
use Rattle.named.proofs.stands_at.Goals.{After-known_to-j, After-long, After-slice_known-1, Else-c-ge32, Start}

pub returns-then-c-ge32 : goal.returns-then-c-ge32
returns-then-c-ge32 c =
    let a = c.args in
    record { class_stands = rows.placed_behind a.g.now a.c c.if-c-ge32.true; row_true = (c.requires.1, rows.beside_same a.rows.now a.base) }

pub returns-then-known-ne0 : goal.returns-then-known-ne0
returns-then-known-ne0 c =
    let a = c.args in
    record {
      class_stands = rows.told_stands a.g.now a.rows.now a.base a.c c.long-known.result c.requires.1 (omega (arith, c.if-c-ge32.false))
          c.long-known.ensures.0 c.if-known-ne0.true;
      row_true = (c.requires.1, rows.beside_same a.rows.now a.base);
    }

pub known_to-j-requires : goal.known_to-j-requires
known_to-j-requires c =
    omega (arith, c.requires.1.room, c.if-c-ge32.false)

pub walk_on-requires : goal.walk_on-requires
walk_on-requires c =
    let a = c.args in
    record {
      readable = (c.requires.0, c.requires.1);
      j_le_c = (
        c.known_to-j.ensures.0,
        omega (arith, c.if-c-ge32.false),
        rows.walk_start a.g.now a.rows.now a.base a.c c.known_to-j.result
            c.start_of-place.result c.requires.1 (omega (arith, c.if-c-ge32.false)) c.known_to-j.ensures.0 c.known_to-j.ensures.1
            (λ e. c.start_of-place.ensures.0 (c.long.ensures.0 ∙ e)) (λ h. c.start_of-place.ensures.1 (omega (arith, c.long.ensures.0, h)) ∙
            c.long.ensures.0),
      );
    }
