-- `sound::packages_with` meets its contract: it never calls itself, since no store is that long. Assumes nothing.
use Prim.Native.Nat.{ℕ}
use lib.ListN.{length-replicate}
use Rattle.sound.proofs.Tables as tables
use Rattle.sound.proofs.+packages_with.Goals as goal

pub packages_sound-requires : goal.packages_sound-requires
packages_sound-requires g t c =
    let start = tables.tables_start _ _ _ _ _ _ c.requires.stand_from.0 c.requires.room.0 in
    record { stand_from = (c.requires.stand_from.0, c.requires.stand_from.1); index_is = start.0; s_len_bound = simp (length-replicate {A = ℕ}) start.1 }

pub returns : goal.returns
returns g t c = c.packages_sound.ensures.packages_say
