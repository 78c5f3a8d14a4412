-- `chains::gathered::add_method` meets its contract: a static method changes nothing, another one is entered. Assumes nothing.
use mathlib.Core.Logic.{inl, inr}
use Rattle.files.specs.Say as files
use Rattle.chains.proofs.Gathering as gathering
use mathlib.Core.Path.{refl, subst}
use mathlib.Core.Bool.{Bool}
use native.Mathlib.Omega.{arith}
use Rattle.chains.proofs.gathered.add_method.Goals as goal

pub returns-then-is_static : goal.returns-then-is_static
returns-then-is_static c =
    let a = c.args in
    inl (subst (λ (b : Bool). files.StaticIs a.g.now a.m b) c.if-is_static.true c.is_static.ensures, refl, refl)

pub overflow_add-base : goal.overflow_add-base
overflow_add-base c =
    let a = c.args in
    omega (arith, gathering.place_fits a.g.now a.t.now a.base a.m c.requires.method_here.1 c.requires.method_here.0)

pub enter-requires : goal.enter-requires
enter-requires c =
    let a = c.args in
    record {
      sorted = c.requires.sorted.0;
      e_in_bounds = (
        c.requires.sorted.1,
        gathering.named_held a.g.now a.t.now a.base a.m c.requires.method_here.1 c.requires.method_here.0,
        gathering.place_fits a.g.now
            a.t.now a.base a.m c.requires.method_here.1 c.requires.method_here.0,
      );
    }

pub returns : goal.returns
returns c =
    let a = c.args in
    inr (subst (λ (b : Bool). files.StaticIs a.g.now a.m b) c.if-is_static.false c.is_static.ensures, c.enter.ensures)
