-- `running::visited::parents_in` meets its contract: the count behind the kind. Assumes nothing.
use Rattle.classes.proofs.Records as records
use Rattle.running.specs.Walk.{visit_home}
use Rattle.running.proofs.Visits as visits
use Rattle.running.proofs.visited.parents_in.Goals as goal

pub record_of-c-requires : goal.record_of-c-requires
record_of-c-requires c = c.requires

pub bounds-c-1 : goal.bounds-c-1
bounds-c-1 c =
    let f = c.args.f.now in
    let s = c.args.s.now in
    let v = c.args.v in
    records.record_inside f s (visit_home v) v.number c.record_of-c.result.now c.record_of-c.ensures (visits.visit_class f s v c.requires.there)

pub returns : goal.returns
returns c =
    let f = c.args.f.now in
    let s = c.args.s.now in
    let v = c.args.v in (
      records.count_is f s (visit_home v) v.number c.record_of-c.result.now c.record_of-c.ensures c.wide.result c.wide.ensures.0,
      records.count_few f s (visit_home v) v.number c.record_of-c.result.now c.record_of-c.ensures c.wide.result c.wide.ensures.0 (visits.visit_class f s v c.requires.there),
    )
