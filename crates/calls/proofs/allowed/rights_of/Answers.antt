-- `calls::allowed::rights_of` meets its contract: the policy of the method, over the domains of its file. Assumes nothing.
use Rattle.homes.proofs.Lookups.{there_bounds}
use Rattle.calls.proofs.Rights as rights
use Rattle.calls.proofs.allowed.rights_of.Goals as goal

pub file_of-g-requires : goal.file_of-g-requires
file_of-g-requires c = there_bounds _ _ _ (rights.stands_home c.requires)

pub domains_at-requires : goal.domains_at-requires
domains_at-requires c = rights.stands_reads _ c.file_of-g.ensures c.requires

pub policy_of-requires : goal.policy_of-requires
policy_of-requires c = rights.stands_method _ c.file_of-g.ensures c.requires

pub returns : goal.returns
returns c = rights.rights_at _ c.file_of-g.ensures _ _ c.domains_at.ensures c.policy_of.ensures
