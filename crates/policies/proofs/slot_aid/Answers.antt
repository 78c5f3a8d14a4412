-- `policies::slot_aid` meets its contract: FE stands for the file's domain, another slot for an AID that is a part of the file. Assumes nothing.
use Rattle.policies.proofs.Rules as rules
use Rattle.policies.proofs.slot_aid.Goals as goal
use Rattle.policies.proofs.slot_aid.Goals.{After-nth_aid, In-Some-2, Start}

pub returns-then-k-eq32 : goal.returns-then-k-eq32
returns-then-k-eq32 c = let a = c.args in rules.slot_own_is a.own.now a.k c.if-k-eq32.true

pub nth_aid-requires : goal.nth_aid-requires
nth_aid-requires c = rules.has_aids c.requires

pub enum_known-a : goal.enum_known-a
enum_known-a c = c.in-Some.in-Some-own.keys1

pub aid_bytes-requires : goal.aid_bytes-requires
aid_bytes-requires c =
    rules.nth_there c.args.k c.nth_aid.ensures c.in-Some.is c.requires

pub enum_told-1 : goal.enum_told-1
enum_told-1 c = c.in-None.in-None-own.keys2

pub returns-in-Some : goal.returns-in-Some
returns-in-Some c =
    let a = c.args in
    rules.slot_nth a.k c.nth_aid.ensures a.own.now c.if-k-eq32.false c.in-Some.is c.aid_bytes.ensures

pub returns-in-None : goal.returns-in-None
returns-in-None c =
    let a = c.args in
    rules.slot_missing a.k c.nth_aid.ensures a.own.now a.own.now c.if-k-eq32.false c.in-None.is
