-- `domains::domains_ok` takes one entry a turn: those passed have accepted domains, and the table has theirs. Assumes nothing.
use Prim.Native.Nat.{ℕ}
use native.Mathlib.Omega.{arith}
use mathlib.Core.Path.{refl, sym, subst}
use lib.ListN.{length-set, set}
use Rattle.domains.specs.Domains.{DomainsIs, EntrySays}
use Rattle.rules.specs.Store.{domain, loaded}
use Rattle.store.proofs.Find.{part_told, none_told}
use Rattle.store.specs.Entries.{part, kind_at}
use Rattle.domains.proofs.Phase as phase
use Rattle.domains.proofs.Keys as keys
use Rattle.domains.proofs.domains_ok.Goals as goal

pub bounds-table-0 : goal.bounds-table-0
bounds-table-0 c =
    keys.table_room c.args.s.now c.args.end c.args.table.now c.requires.stand_from c.requires.s_len_bound.1

pub loop-part-init : goal.loop-part-init
loop-part-init c =
    let s = c.args.s.now in
    let table = c.args.table.now in
    let at = sym c.first_entry-at.ensures in (
      subst (phase.Passing s c.args.end) at (phase.passing_start s c.args.end),
      subst (λ (i : ℕ). DomainsIs s i (set table 0 0)) at (keys.domains_zero s c.args.end table c.requires.stand_from c.requires.s_len_bound.1),
      refl,
    )

pub entry_at-requires : goal.entry_at-requires
entry_at-requires c =
    phase.passing_from c.args.s.now c.args.end c.loop-part.at c.loop-part.invariant.0 c.requires.stand_from

pub domain_ok-requires : goal.domain_ok-requires
domain_ok-requires c =
    let first = phase.domain_first c.args.s.now c.args.end c.loop-part.at c.loop-part.invariant.0 c.in-Domain.from c.in-Domain.next
    (part_told c.in-Some.is c.in-Domain.is c.entry_at.ensures) c.requires.stand_from in
    record { domains_is = c.loop-part.invariant.1; entry_at = (first.0, first.1); s_len_bound = c.requires.s_len_bound.0 }

pub shape_of-table-then-not-domain_ok : goal.shape_of-table-then-not-domain_ok
shape_of-table-then-not-domain_ok c =
    omega (
      arith,
      c.loop-part.invariant.2,
      length-set c.args.table.now 0 0,
      c.domain_ok.auto,
    )

pub returns-then-not-domain_ok : goal.returns-then-not-domain_ok
returns-then-not-domain_ok c =
    phase.domain_bad c.args.s.now c.args.end c.loop-part.at c.loop-part.invariant.0 c.in-Domain.from c.in-Domain.next
    (part_told c.in-Some.is c.in-Domain.is c.entry_at.ensures)
    (subst (EntrySays c.args.s.now c.loop-part.at (domain (kind_at c.args.s.now c.loop-part.at)
    (part c.args.s.now c.in-Domain.from c.in-Domain.next)))
    (c.if-not-domain_ok.true) c.domain_ok.ensures.entry_says)

pub loop-part-smaller-in-Domain : goal.loop-part-smaller-in-Domain
loop-part-smaller-in-Domain c =
    let first = phase.domain_first c.args.s.now c.args.end c.loop-part.at c.loop-part.invariant.0 c.in-Domain.from c.in-Domain.next
    (part_told c.in-Some.is c.in-Domain.is c.entry_at.ensures) c.requires.stand_from in
    omega (arith, first.2, first.3)

pub loop-part-preserved-in-Domain : goal.loop-part-preserved-in-Domain
loop-part-preserved-in-Domain c = (
  phase.domain_on c.args.s.now c.args.end c.loop-part.at c.loop-part.invariant.0 c.in-Domain.from c.in-Domain.next
      (part_told c.in-Some.is c.in-Domain.is c.entry_at.ensures)
      (subst (EntrySays c.args.s.now c.loop-part.at (domain (kind_at c.args.s.now c.loop-part.at)
      (part c.args.s.now c.in-Domain.from c.in-Domain.next)))
      (c.if-not-domain_ok.false) c.domain_ok.ensures.entry_says),
  c.domain_ok.ensures.domains_is_2 (c.if-not-domain_ok.false),
  omega (arith, c.loop-part.invariant.2, c.domain_ok.auto),
)

pub package_ok-requires : goal.package_ok-requires
package_ok-requires c =
    let first = phase.package_first c.args.s.now c.args.end c.loop-part.at c.loop-part.invariant.0 c.in-Package.from c.in-Package.file
    c.in-Package.next (part_told c.in-Some.is c.in-Package.is c.entry_at.ensures) c.requires.stand_from in
    record { domains_is = c.loop-part.invariant.1; from_le_file = (first.1, first.2, first.0.to) }

pub shape_of-table-then-not-package_ok : goal.shape_of-table-then-not-package_ok
shape_of-table-then-not-package_ok c =
    omega (arith, c.loop-part.invariant.2, length-set c.args.table.now 0 0)

pub returns-then-not-package_ok : goal.returns-then-not-package_ok
returns-then-not-package_ok c =
    phase.package_bad c.args.s.now c.args.end c.loop-part.at c.loop-part.invariant.0 c.in-Package.from c.in-Package.file
    c.in-Package.next (part_told c.in-Some.is c.in-Package.is c.entry_at.ensures)
    (subst (EntrySays c.args.s.now c.loop-part.at (loaded (part c.args.s.now c.in-Package.from c.in-Package.file)
    (part c.args.s.now c.in-Package.file c.in-Package.next)))
    (c.if-not-package_ok.true) c.package_ok.ensures)

pub loop-part-smaller : goal.loop-part-smaller
loop-part-smaller c =
    let first = phase.package_first c.args.s.now c.args.end c.loop-part.at c.loop-part.invariant.0 c.in-Package.from c.in-Package.file
    c.in-Package.next (part_told c.in-Some.is c.in-Package.is c.entry_at.ensures) c.requires.stand_from in
    omega (arith, first.3, first.4)

pub loop-part-preserved : goal.loop-part-preserved
loop-part-preserved c =
    let first = phase.package_first c.args.s.now c.args.end c.loop-part.at c.loop-part.invariant.0 c.in-Package.from c.in-Package.file
    c.in-Package.next (part_told c.in-Some.is c.in-Package.is c.entry_at.ensures) c.requires.stand_from in (
      phase.package_on c.args.s.now c.args.end c.loop-part.at c.loop-part.invariant.0 c.in-Package.from c.in-Package.file
          c.in-Package.next (part_told c.in-Some.is c.in-Package.is c.entry_at.ensures)
          (subst (EntrySays c.args.s.now c.loop-part.at (loaded (part c.args.s.now c.in-Package.from c.in-Package.file)
          (part c.args.s.now c.in-Package.file c.in-Package.next)))
          (c.if-not-package_ok.false) c.package_ok.ensures),
      keys.domains_package c.args.s.now c.loop-part.at c.in-Package.next
          (part c.args.s.now c.in-Package.from c.in-Package.file)
          (part c.args.s.now c.in-Package.file c.in-Package.next) c.loop-part.table c.loop-part.invariant.1 first.0,
      c.loop-part.invariant.2,
    )

pub shape_of-table : goal.shape_of-table
shape_of-table c =
    omega (arith, c.loop-part.invariant.2, length-set c.args.table.now 0 0)

pub returns : goal.returns
returns c =
    phase.all_done c.args.s.now c.args.end c.loop-part.at c.loop-part.invariant.0
    (none_told c.in_default.is c.entry_at.ensures)
