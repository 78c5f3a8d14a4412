-- `sound::domains_with` meets its contract: it never calls itself, since no store is that long. Assumes nothing.
use Prim.Native.Nat.{ℕ}
use lib.ListN.{length-replicate}
use Rattle.sound.proofs.+domains_with.Goals as goal

pub domains_ok-requires : goal.domains_ok-requires
domains_ok-requires g t c =
    record { stand_from = c.requires.0; s_len_bound = (c.requires.1, simp (length-replicate {A = ℕ}) c.requires.2) }
