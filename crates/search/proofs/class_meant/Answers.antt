-- `search::class_meant` meets its contract: first the chain, then the interfaces of its members. Assumes nothing.
use Rattle.fields.specs.Told.{told}
use Rattle.std.specs.Prelude.{Option as Optional}
use Rattle.classes.specs.declared.ClassSpot.{ClassSpot}
use mathlib.Core.Path.{subst}
use Rattle.search.specs.Walk.{sought_spot, along_up, itself, MeantIs}
use Rattle.search.proofs.Chain as chain
use Rattle.search.proofs.class_meant.Goals as goal

pub chain_declares-requires : goal.chain_declares-requires
chain_declares-requires c = record { sought_from = c.requires.sought_from.0; slots_true = c.requires.slots_true }

pub interfaces_declare-requires : goal.interfaces_declare-requires
interfaces_declare-requires c = record { sought_from = c.requires.sought_from; slots_true = c.chain_declares.ensures.slots_true_2 }

pub returns-in-Some : goal.returns-in-Some
returns-in-Some c =
    let f = c.args.f.now in
    let s = c.args.s.now in
    let x = c.args.x in
    let m = subst (λ (o : Optional ClassSpot). MeantIs f s x.end (sought_spot x) x.name (along_up itself) (told o)) c.in-Some.is c.chain_declares.ensures.meant_is in
    record { meant_is = chain.searched_chain f s x.end (sought_spot x) x.name _ m; slots_true_2 = c.chain_declares.ensures.slots_true_2 }

pub returns-in-None : goal.returns-in-None
returns-in-None c =
    let f = c.args.f.now in
    let s = c.args.s.now in
    let x = c.args.x in
    let m = subst (λ (o : Optional ClassSpot). MeantIs f s x.end (sought_spot x) x.name (along_up itself) (told o))
    c.in-None.is
    c.chain_declares.ensures.meant_is in
    record { meant_is = chain.searched_above f s x.end (sought_spot x) x.name m (told c.interfaces_declare.result) c.interfaces_declare.ensures.meant_is; slots_true_2 = c.interfaces_declare.ensures.slots_true_2 }
