-- `judge::contents::codes_with` meets its contract: it never calls itself, since no store is that long. Assumes nothing.
use Prim.Native.Nat.{ℕ, ◌*◌}
use lib.ListN.{length-replicate}
use Rattle.judge.proofs.Settings as settings
use Rattle.judge.proofs.contents.+codes_with.Goals as goal

pub codes_ok-requires : goal.codes_ok-requires
codes_ok-requires g t c =
    let a = c.args in
    let room = settings.code_room a.s.now a.file.now (8 * g.row.SET) c.requires.0 c.requires.2 in
    record { file_here = simp (length-replicate {A = ℕ}) room; table_is = c.table-table.ensures }
