-- `calls::told_of` meets its contract: where the references stand, and the number of the loading domain in the file's list. Assumes nothing.
use native.Mathlib.Omega.{arith}
use mathlib.Core.Path.{refl}
use Rattle.files.specs.Say.{Readable}
use Rattle.files.proofs.Steps.{references_in}
use Rattle.files.proofs.Walks.{domains_read, references_there}
use Rattle.references.specs.Setting.{setting_of}
use Rattle.references.proofs.Lookups as look
use Rattle.calls.proofs.Rights as rights
use Rattle.calls.proofs.Covers as covers
use Rattle.calls.proofs.told_of.Goals as goal
use Rattle.calls.proofs.told_of.Goals.{Start}

-- the file reads
reads : (b : Start) → Readable b.args.f.now
reads b = look.judged_reads b.requires.judged

pub aid_bytes-loading-requires : goal.aid_bytes-loading-requires
aid_bytes-loading-requires c = c.requires.ends

pub references_at-at-requires : goal.references_at-at-requires
references_at-at-requires c = reads (goal.at.references_at-at-requires c).Start

pub domains_at-requires : goal.domains_at-requires
domains_at-requires c = reads (goal.at.domains_at-requires c).Start

pub u2_at-requires : goal.u2_at-requires
u2_at-requires c = (references_in (references_there c.references_at-at.ensures (reads (goal.at.u2_at-requires c).Start))).0

pub number_of-requires : goal.number_of-requires
number_of-requires c =
    let r = reads (goal.at.number_of-requires c).Start in
    let x = domains_read c.domains_at.ensures r.0 r.1 r.2 in
    (r.1.domains, x.0, x.1)

pub returns : goal.returns
returns c =
    let a = c.args in (
      refl,
      refl,
      omega (arith, c.u2_at.ensures.1),
      record {
        file = record { stand = c.references_at-at.ensures; count = c.u2_at.ensures.0; first = omega arith };
        domain = c.requires.ends;
        loading =
            covers.loading_told a.f.now a.s.now a.domain _ (rights.aid_is c.requires.ends c.aid_bytes-loading.ensures)
            c.domains_at.result c.domains_at.ensures c.requires.judged.1.pack (setting_of c.requires.judged.2).reads
            c.number_of.result c.number_of.ensures.number_is;
      },
    )
