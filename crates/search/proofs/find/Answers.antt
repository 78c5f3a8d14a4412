-- `search::find` meets its contract: the declaration of the class that is meant, or none. Assumes nothing.
use Rattle.fields.specs.Told.{told}
use Rattle.std.specs.Prelude.{Option as Optional}
use Rattle.classes.specs.declared.ClassSpot.{ClassSpot}
use mathlib.Core.Path.{subst}
use Rattle.search.specs.Walk.{sought_spot, searched, MeantIs}
use Rattle.search.proofs.Standing as standing
use Rattle.search.proofs.Chain as chain
use Rattle.search.proofs.find.Goals as goal

pub class_meant-requires : goal.class_meant-requires
class_meant-requires c =
    record { sought_from = (record { there = c.requires.sought_there.0; small = c.requires.sought_there.1; indexed = c.requires.indexed.0 }, c.requires.indexed.1); slots_true = c.requires.slots_true }

pub declared_in-requires : goal.declared_in-requires
declared_in-requires c =
    let f = c.args.f.now in
    let s = c.args.s.now in
    let x = c.args.x in
    let m = subst (λ (o : Optional ClassSpot). MeantIs f s x.end (sought_spot x) x.name searched (told o)) c.in_ok-c.was c.class_meant.ensures.meant_is in
    record { class_there = (standing.spot_class f s x.end _ (chain.meant_there f s x.end (sought_spot x) _ x.name searched m c.requires.sought_there.0), c.requires.sought_there.1); slots_true = c.class_meant.ensures.slots_true_2 }

pub returns : goal.returns
returns c =
    let f = c.args.f.now in
    let s = c.args.s.now in
    let x = c.args.x in
    let m = subst (λ (o : Optional ClassSpot). MeantIs f s x.end (sought_spot x) x.name searched (told o))
    c.in_ok-c.was c.class_meant.ensures.meant_is in
    record { search_is = chain.declared_meant f s x.end (sought_spot x) x.name _ c.declared_in.result m c.declared_in.ensures.declared_here; slots_true_2 = c.declared_in.ensures.slots_true_2 }

pub returns-in_err-c : goal.returns-in_err-c
returns-in_err-c c =
    let f = c.args.f.now in
    let s = c.args.s.now in
    let x = c.args.x in
    record { search_is = rw c.from_residual.ensures (subst (λ (o : Optional ClassSpot). MeantIs f s x.end (sought_spot x) x.name searched (told o)) c.in_err-c.was c.class_meant.ensures.meant_is); slots_true_2 = c.class_meant.ensures.slots_true_2 }
