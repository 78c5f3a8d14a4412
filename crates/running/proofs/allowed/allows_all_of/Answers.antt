-- `running::allowed::allows_all_of` meets its contract: the two policies, each over the domains of its own file, and a row of these files. Assumes nothing.
use Rattle.files.specs.Say.{Readable}
use Rattle.files.specs.Say as say
use Rattle.running.proofs.Allows as allows
use Rattle.running.proofs.Turns as turns
use Rattle.running.proofs.allowed.allows_all_of.Goals as goal
use Rattle.running.proofs.allowed.allows_all_of.Goals.{After-file_of-b}

-- the first method and its file, and the second
first_there : (k : After-file_of-b) → say.MethodThere k.file_of-a.result.now k.args.x.place
first_there k =
    let a = k.args in
    allows.method_there a.f.now a.s.now a.x.home a.x.place k.file_of-a.result.now k.file_of-a.ensures k.requires.both_there.0 k.requires.both_there.1 k.requires.both_there.2 k.requires.both_there.5 k.requires.both_there.6

first-file : (k : After-file_of-b) → Readable k.file_of-a.result.now
first-file k =
    let a = k.args in
    allows.method_file a.f.now a.s.now a.x.home a.x.place k.file_of-a.result.now k.file_of-a.ensures k.requires.both_there.0 k.requires.both_there.1 k.requires.both_there.2 k.requires.both_there.5 k.requires.both_there.6 k.requires.both_there.3

second_there : (k : After-file_of-b) → say.MethodThere k.file_of-b.result.now k.args.y.place
second_there k =
    let a = k.args in
    allows.method_there a.f.now a.s.now a.y.home a.y.place k.file_of-b.result.now k.file_of-b.ensures k.requires.both_there.0 k.requires.both_there.1 k.requires.both_there.2 k.requires.both_there.7 k.requires.both_there.8

second-file : (k : After-file_of-b) → Readable k.file_of-b.result.now
second-file k =
    let a = k.args in
    allows.method_file a.f.now a.s.now a.y.home a.y.place k.file_of-b.result.now k.file_of-b.ensures k.requires.both_there.0 k.requires.both_there.1 k.requires.both_there.2 k.requires.both_there.7 k.requires.both_there.8 k.requires.both_there.3

pub file_of-a-requires : goal.file_of-a-requires
file_of-a-requires c =
    let a = c.args in
    (allows.both_bounds a.f.now a.s.now a.d a.x a.y c.requires.both_there).0

pub file_of-b-requires : goal.file_of-b-requires
file_of-b-requires c =
    let a = c.args in
    (allows.both_bounds a.f.now a.s.now a.d a.x a.y c.requires.both_there).1

pub domains_at-requires : goal.domains_at-requires
domains_at-requires c = first-file c

pub policy_of-requires : goal.policy_of-requires
policy_of-requires c = first_there (goal.at.policy_of-requires c).After-file_of-b

pub domains_at-requires-2 : goal.domains_at-requires-2
domains_at-requires-2 c = second-file (goal.at.domains_at-requires-2 c).After-file_of-b

pub policy_of-requires-2 : goal.policy_of-requires-2
policy_of-requires-2 c = second_there (goal.at.policy_of-requires-2 c).After-file_of-b

pub domain_of-own-requires : goal.domain_of-own-requires
domain_of-own-requires c =
    let a = c.args in
    (allows.both_domains a.f.now a.s.now a.d a.x a.y c.requires.both_there).0

pub domain_of-other-requires : goal.domain_of-other-requires
domain_of-other-requires c =
    let a = c.args in
    (allows.both_domains a.f.now a.s.now a.d a.x a.y c.requires.both_there).1

pub admits_in_turn-requires : goal.admits_in_turn-requires
admits_in_turn-requires c =
    let a = c.args in
    let over =
    allows.policy_over a.f.now a.s.now a.x.home a.x.place c.file_of-a.result.now c.file_of-a.ensures c.requires.both_there.0 c.requires.both_there.1 c.requires.both_there.2 c.requires.both_there.5 c.requires.both_there.6 c.requires.both_there.3
    c.domains_at.result c.policy_of.result c.domains_at.ensures c.policy_of.ensures
    in
    let beside =
    allows.policy_over a.f.now a.s.now a.y.home a.y.place c.file_of-b.result.now c.file_of-b.ensures c.requires.both_there.0 c.requires.both_there.1 c.requires.both_there.2 c.requires.both_there.7 c.requires.both_there.8 c.requires.both_there.3
    c.domains_at-2.result c.policy_of-2.result c.domains_at-2.ensures c.policy_of-2.ensures
    in
    let row =
    turns.row_true a.f.now a.s.now a.d a.x a.y c.file_of-a.result.now c.file_of-b.result.now c.file_of-a.ensures c.file_of-b.ensures c.domain_of-own.result.now
    c.domain_of-other.result.now c.domain_of-own.ensures c.domain_of-other.ensures c.domains_at.result c.domains_at-2.result c.domains_at.ensures c.domains_at-2.ensures c.requires.both_there a.row.now c.requires.row_for
    in
    record { policy_over = over; policy_over_2 = beside; row_true = row }

pub returns : goal.returns
returns c =
    let a = c.args in record {
      allows_all_of = allows.allows_is a.f.now a.s.now a.d a.x a.y c.file_of-a.result.now c.file_of-b.result.now c.file_of-a.ensures c.file_of-b.ensures c.domain_of-own.result.now
          c.domain_of-other.result.now c.domain_of-own.ensures c.domain_of-other.ensures (record { domains = c.domains_at.result; policy = c.policy_of.result })
          (record { domains = c.domains_at-2.result; policy = c.policy_of-2.result }) c.domains_at.ensures c.policy_of.ensures c.domains_at-2.ensures c.policy_of-2.ensures c.admits_in_turn.result c.admits_in_turn.ensures.admits_all_of;
      row_for_2 = turns.row_for a.f.now a.s.now a.d a.x a.y c.file_of-a.result.now c.file_of-b.result.now c.file_of-a.ensures c.file_of-b.ensures c.domain_of-own.result.now
          c.domain_of-other.result.now c.domain_of-own.ensures c.domain_of-other.ensures c.domains_at.result c.domains_at-2.result c.domains_at.ensures c.domains_at-2.ensures _ c.admits_in_turn.ensures.row_true_2;
    }
