-- `chains::running_method` meets its contract: an own class declares the name, or a stored one, or none does. Assumes nothing.
use Rattle.chains.specs.Names.{Hit}
use Rattle.chains.proofs.Running as running
use Prim.Native.Nat.{ℕ}
use mathlib.Core.Path.{sym, subst}
use native.Mathlib.Omega.{arith}
use Rattle.chains.proofs.running_method.Goals as goal

pub find-requires : goal.find-requires
find-requires c =
    let a = c.args in
    running.own_sorted a.f.now a.s.now a.names.now a.v c.requires.names_is

pub bounds-names-i : goal.bounds-names-i
bounds-names-i c =
    let a = c.args in
    omega (arith, c.in-Some.ensures.high, (running.own_sorted a.f.now a.s.now a.names.now a.v c.requires.names_is).size)

pub if_runs-requires : goal.if_runs-requires
if_runs-requires c =
    let a = c.args in
    record {
      hit_there = (
        a.v.end,
        a.v.own,
        a.name,
        c.requires.running_there,
        (subst (λ (q : ℕ). Hit a.f.now a.s.now a.names.now 16 a.v.end a.v.own q a.name)
            (sym c.from.ensures) (running.own_hit a.f.now a.s.now a.names.now a.v c.requires.names_is a.name c.in-Some.i c.in-Some.ensures)),
      );
      i_le_most_links = (omega arith, running.names_size a.f.now a.s.now a.names.now a.v c.requires.names_is);
    }

pub returns-in-Some : goal.returns-in-Some
returns-in-Some c =
    let a = c.args in
    c.if_runs.ensures a.v.end a.v.own a.name c.requires.running_there (subst
    (λ (q : ℕ). Hit a.f.now a.s.now a.names.now 16 a.v.end a.v.own q a.name) (sym c.from.ensures)
    (running.own_hit a.f.now a.s.now a.names.now a.v c.requires.names_is a.name c.in-Some.i c.in-Some.ensures))

pub find-requires-in-None : goal.find-requires-in-None
find-requires-in-None c =
    let a = c.args in
    running.stored_sorted a.f.now a.s.now a.names.now a.v c.requires.names_is

pub bounds-names-j : goal.bounds-names-j
bounds-names-j c =
    let a = c.args in
    omega (arith, c.in-Some-find.ensures.high, (running.stored_sorted a.f.now a.s.now a.names.now a.v c.requires.names_is).size)

pub if_runs-requires-in-Some-find : goal.if_runs-requires-in-Some-find
if_runs-requires-in-Some-find c =
    let a = c.args in
    record {
      hit_there = (
        a.v.end,
        a.v.own,
        a.name,
        c.requires.running_there,
        (subst (λ (q : ℕ). Hit a.f.now a.s.now a.names.now 0 a.v.end a.v.own q a.name)
            (sym c.from-in-Some-find.ensures) (running.stored_hit a.f.now a.s.now a.names.now a.v c.requires.names_is a.name
            c.in-None.ensures c.in-Some-find.j c.in-Some-find.ensures)),
      );
      i_le_most_links = (omega arith, running.names_size a.f.now a.s.now a.names.now a.v c.requires.names_is);
    }

pub returns-in-Some-find : goal.returns-in-Some-find
returns-in-Some-find c =
    let a = c.args in
    c.if_runs-in-Some-find.ensures a.v.end a.v.own a.name c.requires.running_there (subst
    (λ (q : ℕ). Hit a.f.now a.s.now a.names.now 0 a.v.end a.v.own q a.name) (sym c.from-in-Some-find.ensures)
    (running.stored_hit a.f.now a.s.now a.names.now a.v c.requires.names_is a.name c.in-None.ensures c.in-Some-find.j c.in-Some-find.ensures))

pub returns-in-None-find : goal.returns-in-None-find
returns-in-None-find c =
    let a = c.args in
    running.none_declares a.f.now a.s.now a.names.now a.v c.requires.names_is a.name c.in-None.ensures c.in-None-find.ensures
