-- `files::references_at` meets its contract: the references follow the imports. Assumes nothing.
use Rattle.files.proofs.Walks as walks
use Rattle.files.proofs.references_at.Goals as goal

pub imports_at-requires : goal.imports_at-requires
imports_at-requires c = c.requires

pub after_aids-requires : goal.after_aids-requires
after_aids-requires c = walks.imports_there c.imports_at.ensures c.requires

pub returns : goal.returns
returns c = walks.file_references c.imports_at.ensures c.after_aids.ensures
