-- `files::after_class` meets its contract: a class ends where its methods do. Assumes nothing.
use Rattle.files.proofs.Steps as steps
use Rattle.files.proofs.after_class.Goals as goal

pub methods_of-requires : goal.methods_of-requires
methods_of-requires c = c.requires

pub after_methods-requires : goal.after_methods-requires
after_methods-requires c = steps.methods_there c.methods_of.ensures c.requires

pub returns : goal.returns
returns c = steps.class_next c.methods_of.ensures c.after_methods.ensures
