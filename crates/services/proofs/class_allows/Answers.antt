-- `services::class_allows` meets its contract: the method's policy stands over the file's domains. Assumes nothing.
use Rattle.std.specs.Prelude.{Some, None}
use mathlib.Core.Path.{refl}
use Rattle.services.proofs.Allows as allows
use Rattle.services.proofs.class_allows.Goals as goal

pub find_method-requires : goal.find_method-requires
find_method-requires c =
    allows.class_there c.args.g.now c.args.c c.requires

pub returns-in_err-m : goal.returns-in_err-m
returns-in_err-m c =
    let a = c.args in
    rw c.from_residual.ensures (allows.class_none a.g.now a.own.now a.c a.name None a.domain.now c.in_err-m.ensures refl)

pub domains_at-requires : goal.domains_at-requires
domains_at-requires c =
    allows.class_reads c.args.g.now c.args.c c.requires

pub policy_of-requires : goal.policy_of-requires
policy_of-requires c =
    allows.method_there c.args.g.now c.args.c c.args.name (Some c.in_ok-m.m) c.in_ok-m.m c.in_ok-m.ensures refl c.requires

pub admits-requires : goal.admits-requires
admits-requires c =
    allows.policy_over c.args.g.now c.args.c c.args.name (Some c.in_ok-m.m) c.in_ok-m.m c.in_ok-m.ensures refl c.domains_at.result
    c.policy_of.result c.domains_at.ensures c.policy_of.ensures c.requires

pub returns : goal.returns
returns c =
    let a = c.args in
    allows.class_says a.g.now a.c a.name (Some c.in_ok-m.m) c.in_ok-m.m c.in_ok-m.ensures refl c.domains_at.result a.own.now
    c.policy_of.result c.admits.result a.domain.now c.domains_at.ensures c.policy_of.ensures c.admits.ensures
