-- `homes::numbered` meets its contract. Assumes nothing.
use Rattle.std.specs.Prelude.{None}
use Prim.Native.Nat.{◌-◌}
use mathlib.Core.Path.{subst}
use Rattle.homes.specs.Homes.{ImportPlaced}
use Rattle.homes.proofs.Lookups as look
use Rattle.homes.proofs.numbered.Goals as goal
use Rattle.homes.proofs.numbered.Goals.{After-file_of-g, After-import_place, Else-k-eq0, Start}

pub returns-then-k-eq0 : goal.returns-then-k-eq0
returns-then-k-eq0 c =
    look.numbered_zero c.args.f.now c.args.s.now c.args.h c.args.k c.if-k-eq0.true

pub file_of-g-requires : goal.file_of-g-requires
file_of-g-requires c =
    look.there_bounds c.args.f.now c.args.s.now c.args.h c.requires.home_there

pub import_place-requires : goal.import_place-requires
import_place-requires c =
    look.there_reads c.args.f.now c.args.s.now c.args.h c.file_of-g.result.now c.file_of-g.ensures c.requires.home_there

pub aid_bytes-requires : goal.aid_bytes-requires
aid_bytes-requires c =
    look.import_ends c.file_of-g.result.now (c.args.k - 1) c.in_ok-i.i
    (look.there_reads c.args.f.now c.args.s.now c.args.h c.file_of-g.result.now c.file_of-g.ensures c.requires.home_there)
    (subst (ImportPlaced c.file_of-g.result.now (c.args.k - 1)) c.in_ok-i.was c.import_place.ensures)

pub by_aid-requires : goal.by_aid-requires
by_aid-requires c =
    c.requires.indexed.0

pub returns : goal.returns
returns c =
    look.numbered_suc c.args.f.now c.args.s.now c.args.h c.args.k c.by_aid.result
    c.if-k-eq0.false
    (look.numbered_at c.args.f.now c.args.s.now c.args.h c.file_of-g.result.now (c.args.k - 1) c.in_ok-i.i
    c.aid_bytes.result.now c.file_of-g.ensures
    (subst (ImportPlaced c.file_of-g.result.now (c.args.k - 1)) c.in_ok-i.was c.import_place.ensures)
    c.aid_bytes.ensures c.args.end c.requires.indexed.0.files c.requires.indexed.1 c.by_aid.result c.by_aid.ensures)

pub returns-in_err-i : goal.returns-in_err-i
returns-in_err-i c =
    rw c.from_residual.ensures (look.numbered_suc c.args.f.now c.args.s.now c.args.h c.args.k None c.if-k-eq0.false
    (look.numbered_none c.args.f.now c.args.s.now c.args.h c.file_of-g.result.now (c.args.k - 1) c.file_of-g.ensures
    (subst (ImportPlaced c.file_of-g.result.now (c.args.k - 1)) c.in_err-i.was c.import_place.ensures)))
