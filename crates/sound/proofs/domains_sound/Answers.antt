-- `sound::domains_sound` meets its contract: no entry, or the tables of the store's length. Assumes nothing.
use native.Mathlib.Omega.{arith}
use Rattle.sound.proofs.NoEntries.{no_domains}
use Rattle.sound.proofs.domains_sound.Goals as goal

pub returns-then-used-first_entry : goal.returns-then-used-first_entry
returns-then-used-first_entry c =
    let a = c.args in
    no_domains a.s.now a.used (omega (arith, c.if-used-first_entry.true, c.first_entry.ensures))
