-- `store::entry_at` tells the first entry by its bytes. Assumes nothing.
use Rattle.store.proofs.Find as found
use Prim.Native.Nat.{◌+◌, ◌≤◌}
use native.Mathlib.Omega.{arith}
use lib.ListN.{length, get_or}
use Rattle.rules.specs.Code.{u2_at}
use Rattle.store.proofs.entry_at.Goals as goal
use Rattle.store.proofs.entry_at.Goals.{After-u2_at, Else-at-end, Else-s-at-ne2}

-- the entry ends inside the store, and so does a package's domain
inside : (k : Else-at-end) →
    let a = k.args in
    a.at + 3 + u2_at a.s.now (a.at + 1) ≤ length a.s.now
inside k = found.part_in _ _ _ k.if-at-end.false k.requires

domain-inside : (k : Else-s-at-ne2) →
    let a = k.args in
    (a.at + 4 ≤ length a.s.now) × (a.at + 4 + get_or a.s.now (a.at + 3) 0 ≤ length a.s.now)
domain-inside k = found.part_loaded _ _ _ k.if-at-end.false k.if-s-at-ne2.false k.requires

pub returns-then-at-end : goal.returns-then-at-end
returns-then-at-end c = found.part_end _ _ _ c.if-at-end.true

pub overflow_add-next : goal.overflow_add-next
overflow_add-next c = omega (arith, inside c)

pub overflow_add-at : goal.overflow_add-at
overflow_add-at c = omega (arith, inside c)

pub u2_at-requires : goal.u2_at-requires
u2_at-requires c = omega (arith, inside c)

pub overflow_add-next-2 : goal.overflow_add-next-2
overflow_add-next-2 c = omega (arith, inside (goal.at.overflow_add-next-2 c).Else-at-end, c.u2_at.ensures.0)

pub bounds-s-at : goal.bounds-s-at
bounds-s-at c = omega (arith, inside (goal.at.bounds-s-at c).Else-at-end)

pub overflow_add-result : goal.overflow_add-result
overflow_add-result c = omega (arith, inside (goal.at.overflow_add-result c).Else-at-end)

pub returns-then-s-at-ne2 : goal.returns-then-s-at-ne2
returns-then-s-at-ne2 c =
    found.part_domain _ _ _ c.if-at-end.false _ c.u2_at.ensures.0 c.if-s-at-ne2.true

pub overflow_add-result-2 : goal.overflow_add-result-2
overflow_add-result-2 c = omega (arith, domain-inside c)

pub overflow_add-result-3 : goal.overflow_add-result-3
overflow_add-result-3 c = omega (arith, domain-inside c)

pub overflow_add-at-2 : goal.overflow_add-at-2
overflow_add-at-2 c = omega (arith, domain-inside c)

pub bounds-s-at-2 : goal.bounds-s-at-2
bounds-s-at-2 c = omega (arith, domain-inside (goal.at.bounds-s-at-2 c).Else-s-at-ne2)

pub overflow_add-result-4 : goal.overflow_add-result-4
overflow_add-result-4 c = omega (arith, domain-inside (goal.at.overflow_add-result-4 c).Else-s-at-ne2, c.wide.ensures.0)

pub returns : goal.returns
returns c =
    found.part_package _ _ _ c.if-at-end.false _ c.u2_at.ensures.0 _ c.wide.ensures.0 c.if-s-at-ne2.false
