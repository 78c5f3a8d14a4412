-- `search::declared_in` meets its contract: the method is looked for in the record of the class. Assumes nothing.
use mathlib.Core.Path.{subst}
use Rattle.files.specs.Say.{DeclaredPlaced}
use Rattle.classes.proofs.Places.{there_bounds, class_there}
use Rattle.search.proofs.Standing as standing
use Rattle.search.proofs.declared_in.Goals as goal

pub file_of-g-requires : goal.file_of-g-requires
file_of-g-requires c = there_bounds _ _ _ _ c.requires.class_there.0

pub find_method-requires : goal.find_method-requires
find_method-requires c = class_there _ _ _ _ _ _ c.file_of-g.ensures c.place_of-class.ensures.record_at c.requires.class_there.0

pub returns : goal.returns
returns c =
    let f = c.args.f.now in
    let s = c.args.s.now in
    let found = subst (DeclaredPlaced c.file_of-g.result.now c.place_of-class.result c.args.name) c.in_ok-method.was
    c.find_method.ensures in
    record { declared_here = standing.declared_at_lem f s c.args.c c.args.name c.place_of-class.result c.place_of-class.ensures.record_at _ c.file_of-g.ensures _ found; slots_true_2 = c.place_of-class.ensures.slots_true_2 }

pub returns-in_err-method : goal.returns-in_err-method
returns-in_err-method c =
    let f = c.args.f.now in
    let s = c.args.s.now in
    let found = subst (DeclaredPlaced c.file_of-g.result.now c.place_of-class.result c.args.name) c.in_err-method.was c.find_method.ensures in
    record { declared_here = rw c.from_residual.ensures (standing.declared_none f s c.args.c c.args.name c.place_of-class.result c.place_of-class.ensures.record_at _ c.file_of-g.ensures found); slots_true_2 = c.place_of-class.ensures.slots_true_2 }
