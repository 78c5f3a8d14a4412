-- `files::classes_at` meets its contract: the classes follow the references. Assumes nothing.
use Rattle.files.proofs.Walks as walks
use Rattle.files.proofs.classes_at.Goals as goal

pub references_at-requires : goal.references_at-requires
references_at-requires c = c.requires

pub after_references-requires : goal.after_references-requires
after_references-requires c = walks.references_there c.references_at.ensures c.requires

pub returns : goal.returns
returns c = walks.file_classes c.references_at.ensures c.after_references.ensures
