-- `sound::load_with` meets its contract: it never calls itself, since no store is that long. Assumes nothing.
use Prim.Native.Nat.{ℕ}
use native.Mathlib.Omega.{arith}
use lib.ListN.{length-replicate}
use Rattle.sound.proofs.Tables as tables
use Rattle.sound.proofs.+load_with.Goals as goal

pub packages_sound-requires : goal.packages_sound-requires
packages_sound-requires g t c =
    let start = tables.tables_start _ _ _ _ _ _ c.requires.stand_from.0 c.requires.room.0 in
    record { stand_from = (c.requires.stand_from.0, c.requires.stand_from.1); index_is = start.0; s_len_bound = simp (length-replicate {A = ℕ}) start.1 }

pub returns-then-not-packages_sound : goal.returns-then-not-packages_sound
returns-then-not-packages_sound g t c = tables.judged_no _ _ _ c.packages_sound.ensures.packages_say _ _ (c.if-not-packages_sound.true)

pub load_answer-requires : goal.load_answer-requires
load_answer-requires g t c =
    let over = tables.over_all _ _ _ c.packages_sound.ensures.packages_say (c.if-not-packages_sound.false) c.requires.stand_from.2 c.requires.stand_from.0 _ _ c.packages_sound.ensures.index_is_2 in
    let r = c.requires.room.0 in
    record { over_some = over.0; indexed = over.1; s_len_bound = (r.size, (omega (arith, r.names, c.packages_sound.auto.names, length-replicate {A = ℕ}), omega (arith, r.seen, c.packages_sound.auto.seen, length-replicate {A = ℕ}), omega (arith, r.slots, c.packages_sound.auto.names, length-replicate {A = ℕ}))) }

pub returns : goal.returns
returns g t c =
    tables.judged_yes _ _ _ c.packages_sound.ensures.packages_say (c.if-not-packages_sound.false) c.requires.stand_from.2 _ _ _ c.load_answer.ensures
