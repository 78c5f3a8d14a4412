-- `files::class_place` meets its contract: the class with that number in the list of classes. Assumes nothing.
use Rattle.files.proofs.Walks as walks
use Rattle.files.proofs.class_place.Goals as goal

pub classes_at-requires : goal.classes_at-requires
classes_at-requires c = c.requires

pub nth_class-requires : goal.nth_class-requires
nth_class-requires c = walks.classes_there c.classes_at.ensures c.requires

pub returns : goal.returns
returns c = walks.file_class c.nth_class.result c.classes_at.ensures c.nth_class.ensures
