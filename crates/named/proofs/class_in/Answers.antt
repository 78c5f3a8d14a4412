-- `named::class_in` meets its contract. Assumes nothing.
use native.Mathlib.Omega.{arith}
use mathlib.Core.Path.{subst}
use Rattle.homes.specs.declared.Home.{Home}
use Rattle.homes.specs.Homes.{ClassPlaced}
use Rattle.homes.proofs.Lookups.{there_bounds, there_reads, class_placed_lem}
use Rattle.named.proofs.Numbers as numbers
use Rattle.named.proofs.class_in.Goals as goal
use Rattle.named.proofs.class_in.Goals.{After-class_at, After-file_of-g, After-home_at, Start}

pub home_at-requires : goal.home_at-requires
home_at-requires c =
    let a = c.args in
    (c.requires.judged.1.size, numbers.number_placed_lem a.f.now a.s.now a.end a.places.now c.requires.judged.1 a.p c.requires.package_there.0 c.requires.judged.0)

pub file_of-g-requires : goal.file_of-g-requires
file_of-g-requires c =
    let a = c.args in
    there_bounds a.f.now a.s.now c.home_at.result (numbers.number_at a.f.now a.s.now a.end a.places.now c.requires.judged.1 a.p
    c.home_at.result c.home_at.ensures c.requires.package_there.0 c.requires.judged.0)

pub overflow_mul-p : goal.overflow_mul-p
overflow_mul-p c =
    let a = c.args in
    omega (arith, (numbers.number_few a.f.now a.s.now a.end a.p c.requires.judged.0 c.requires.package_there.0))

pub class_at-requires : goal.class_at-requires
class_at-requires c =
    let a = c.args in (
      there_reads a.f.now a.s.now c.home_at.result c.file_of-g.result.now c.file_of-g.ensures
          (numbers.number_at a.f.now a.s.now a.end a.places.now c.requires.judged.1 a.p c.home_at.result c.home_at.ensures c.requires.package_there.0
          c.requires.judged.0),
      numbers.row_of a.f.now a.s.now a.end a.places.now a.rows.now a.p c.home_at.result
          c.file_of-g.result.now c.home_at.ensures c.file_of-g.ensures
          (numbers.number_few a.f.now a.s.now a.end a.p c.requires.judged.0 c.requires.package_there.0) c.requires.package_there.1,
    )

pub returns : goal.returns
returns c =
    let a = c.args in record {
      class_placed = subst (λ (h : Home). ClassPlaced a.f.now a.s.now h a.c c.class_at.result) c.home_at.ensures
          (class_placed_lem a.f.now a.s.now c.home_at.result c.file_of-g.result.now c.file_of-g.ensures a.c c.class_at.result
          c.class_at.ensures.class_placed);
      rows_true = numbers.rows_written a.f.now a.s.now a.end a.places.now a.rows.now c.class_at.new.rows a.p
          c.class_at.auto.rows c.requires.package_there.1 (numbers.row_back a.f.now a.s.now a.end a.places.now c.class_at.new.rows a.p
          c.home_at.result c.file_of-g.result.now c.home_at.ensures c.file_of-g.ensures c.class_at.ensures.row_true.0) c.class_at.ensures.row_true.1;
    }
