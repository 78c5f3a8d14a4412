-- `running::allowed::method_beside` meets its contract: of a static method nothing is asked, nor of one that allows nothing. Assumes nothing.
use mathlib.Core.Path.{subst}
use Rattle.files.specs.Say.{StaticIs}
use Rattle.files.specs.Say as say
use Rattle.running.proofs.Allows as allows
use Rattle.running.proofs.allowed.method_beside.Goals as goal
use Rattle.running.proofs.allowed.method_beside.Goals.{After-file_of-g}

-- the method there
here : (k : After-file_of-g) → say.MethodThere k.file_of-g.result.now k.args.at
here k =
    let a = k.args in
    allows.here_method a.f.now a.s.now a.w.end a.w.own a.h a.at k.file_of-g.result.now k.file_of-g.ensures k.requires.method_there

pub file_of-g-requires : goal.file_of-g-requires
file_of-g-requires c =
    let a = c.args in
    allows.method_bounds a.f.now a.s.now a.w.end a.w.own a.h a.at c.requires.method_there

pub is_static-requires : goal.is_static-requires
is_static-requires c = here c

pub returns-then-is_static : goal.returns-then-is_static
returns-then-is_static c =
    let a = c.args in
    allows.method_static a.f.now a.s.now a.w.end a.w.own a.h a.at c.file_of-g.result.now c.file_of-g.ensures
    (subst (StaticIs c.file_of-g.result.now a.at) c.if-is_static.true c.is_static.ensures)

pub policy_of-requires : goal.policy_of-requires
policy_of-requires c = here (goal.at.policy_of-requires c).After-file_of-g

pub bounds-g-policy_of : goal.bounds-g-policy_of
bounds-g-policy_of c =
    let a = c.args in
    allows.policy_inside a.f.now a.s.now a.w.end a.w.own a.h a.at c.file_of-g.result.now c.file_of-g.ensures c.requires.method_there
    c.policy_of.result c.policy_of.ensures

pub returns-then-wide-eq0 : goal.returns-then-wide-eq0
returns-then-wide-eq0 c =
    let a = c.args in
    allows.method_nothing a.f.now a.s.now a.w.end a.w.own a.h a.at c.file_of-g.result.now c.file_of-g.ensures c.policy_of.result
    c.policy_of.ensures c.wide.result c.wide.ensures.0 c.if-wide-eq0.true

pub name_of-requires : goal.name_of-requires
name_of-requires c = here (goal.at.name_of-requires c).After-file_of-g

pub running_method-requires : goal.running_method-requires
running_method-requires c =
    let a = c.args in
    record { running_there = allows.method_running a.f.now a.s.now a.w.end a.w.own a.h a.at c.requires.method_there; names_is = c.requires.names_is }

pub returns : goal.returns
returns c =
    let a = c.args in
    let instance = subst (StaticIs c.file_of-g.result.now a.at) c.if-is_static.false c.is_static.ensures in
    allows.beside_is a.f.now a.s.now a.w.end a.w.own a.h a.at c.file_of-g.result.now c.file_of-g.ensures instance c.name_of.result c.name_of.ensures
    c.running_method.result c.running_method.ensures
