-- `files::imports_at` meets its contract: the imports follow the domains. Assumes nothing.
use Rattle.files.proofs.Walks as walks
use Rattle.files.proofs.imports_at.Goals as goal

pub domains_at-requires : goal.domains_at-requires
domains_at-requires c = c.requires

pub after_aids-requires : goal.after_aids-requires
after_aids-requires c = walks.domains_there c.domains_at.ensures c.requires

pub returns : goal.returns
returns c = walks.file_imports c.domains_at.ensures c.after_aids.ensures
