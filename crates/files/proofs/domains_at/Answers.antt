-- `files::domains_at` meets its contract: the domains follow the package AID. Assumes nothing.
use Rattle.files.proofs.Walks as walks
use Rattle.files.proofs.domains_at.Goals as goal

pub after_aid-requires : goal.after_aid-requires
after_aid-requires c = walks.file_aid c.requires

pub returns : goal.returns
returns c = walks.file_domains c.after_aid.ensures
