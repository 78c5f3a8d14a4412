-- `chains::gathered::gather` meets its contract: the names of the classes so far are in the table, and what follows them is left. Assumes nothing.
use Rattle.chains.specs.Names.{text_of, Gathers}
use Rattle.rules.specs.Bytes.{Bytes}
use Rattle.chains.proofs.Collecting as collecting
use Rattle.chains.proofs.Collected as collected
use Prim.Native.Nat.{ℕ, ◌≤◌}
use mathlib.Core.Path.{sym, subst}
use native.Mathlib.Omega.{arith}
use Rattle.chains.proofs.gathered.gather.Goals as goal

pub loop-i-init : goal.loop-i-init
loop-i-init c =
    let a = c.args in
    subst (λ (i : ℕ). (i ≤ a.last) × collecting.Collecting a.f.now a.s.now a.names.now a.names.now a.h a.n a.last a.a i
    a.a) (sym c.first_link-i.ensures) (
      collected.first_inside a.f.now a.s.now a.names.now a.h a.n a.last c.requires.part_there.1
          c.requires.part_there.2,
      collected.collecting_start a.f.now a.s.now a.names.now a.h a.n a.last a.a c.requires.part_there.0 c.requires.last_bound.1
          (omega (arith, c.requires.last_bound.2)),
    )

pub link_home-g-requires : goal.link_home-g-requires
link_home-g-requires c = (
  omega (arith, c.loop-i-test.true, c.requires.last_bound.0, (collected.first_small c.args.h)),
  omega
      (arith, c.loop-i.invariant.1.size, c.requires.last_bound.1, c.requires.last_bound.2),
)

pub link_place-c-requires : goal.link_place-c-requires
link_place-c-requires c = (
  omega (arith, c.loop-i-test.true, c.requires.last_bound.0, (collected.first_small c.args.h)),
  omega
      (arith, c.loop-i.invariant.1.size, c.requires.last_bound.1, c.requires.last_bound.2),
)

pub file_of-requires : goal.file_of-requires
file_of-requires c =
    let a = c.args in
    collected.collect_bounds a.f.now a.s.now a.names.now a.h a.n a.last a.a c.loop-i.names c.loop-i.i c.loop-i.to c.loop-i.invariant.1
    c.requires.last_bound.0 c.requires.last_bound.1 c.loop-i-test.true c.link_home-g.result c.link_place-c.result c.link_home-g.ensures c.link_place-c.ensures
    c.requires.part_there.1 c.requires.part_there.2

pub gather_class-to-requires : goal.gather_class-to-requires
gather_class-to-requires c =
    let a = c.args in
    record {
      record_there = (
        collected.collect_record a.f.now a.s.now a.names.now a.h a.n a.last a.a c.loop-i.names c.loop-i.i c.loop-i.to c.loop-i.invariant.1
            c.requires.last_bound.0 c.requires.last_bound.1 c.loop-i-test.true c.link_home-g.result c.link_place-c.result c.link_home-g.ensures c.link_place-c.ensures c.requires.part_there.1
            c.requires.part_there.2 c.file_of.result.now c.file_of.ensures,
        collected.collect_held a.f.now a.s.now a.names.now a.h a.n a.last
            a.a c.loop-i.names c.loop-i.i c.loop-i.to c.loop-i.invariant.1 c.requires.last_bound.0 c.requires.last_bound.1 c.loop-i-test.true c.link_home-g.result c.link_place-c.result
            c.link_home-g.ensures c.link_place-c.ensures c.requires.part_there.1 c.requires.part_there.2 c.requires.f_len_bound.0 c.requires.f_len_bound.1 c.file_of.result.now
            c.text_of.result.now c.file_of.ensures (collected.collect_text a.f.now a.s.now a.names.now a.h a.n a.last
            a.a c.loop-i.names c.loop-i.i c.loop-i.to c.loop-i.invariant.1 c.requires.last_bound.0 c.requires.last_bound.1 c.loop-i-test.true c.link_home-g.result c.link_place-c.result
            c.link_home-g.ensures c.link_place-c.ensures c.requires.part_there.1 c.requires.part_there.2 c.text_of.result.now c.text_of.ensures),
      );
      sorted = (
        collected.collect_sorted a.f.now a.s.now a.names.now a.h a.n a.last a.a c.loop-i.names c.loop-i.i c.loop-i.to
            c.loop-i.invariant.1 c.requires.last_bound.0 c.requires.last_bound.1 c.loop-i-test.true c.link_home-g.result c.link_place-c.result c.link_home-g.ensures
            c.link_place-c.ensures c.requires.part_there.1 c.requires.part_there.2 c.text_of.result.now
            (collected.collect_text a.f.now a.s.now a.names.now a.h a.n a.last a.a c.loop-i.names c.loop-i.i c.loop-i.to
            c.loop-i.invariant.1 c.requires.last_bound.0 c.requires.last_bound.1 c.loop-i-test.true c.link_home-g.result c.link_place-c.result c.link_home-g.ensures
            c.link_place-c.ensures c.requires.part_there.1 c.requires.part_there.2 c.text_of.result.now c.text_of.ensures),
        omega
            (arith, c.loop-i.invariant.1.size, c.loop-i.invariant.1.end, c.loop-i.invariant.1.start, c.loop-i-test.true, c.requires.last_bound.2),
      );
    }

pub loop-i-preserved : goal.loop-i-preserved
loop-i-preserved c =
    let a = c.args in (
      omega (arith, c.loop-i-test.true),
      collected.collecting_step a.f.now a.s.now a.names.now a.h a.n a.last a.a c.loop-i.names
          c.loop-i.i c.loop-i.to c.loop-i.invariant.1 c.requires.last_bound.0 c.requires.last_bound.1 c.loop-i-test.true c.link_home-g.result c.link_place-c.result c.link_home-g.ensures
          c.link_place-c.ensures c.requires.part_there.1 c.requires.part_there.2 c.gather_class-to.new.names c.gather_class-to.result
          (subst (λ (b : Bytes). Gathers b (text_of a.f.now a.s.now c.link_home-g.result) c.loop-i.names c.gather_class-to.new.names
          c.link_place-c.result c.link_home-g.result.from a.a c.loop-i.to c.gather_class-to.result) c.file_of.ensures
          (subst (λ (b : Bytes). Gathers c.file_of.result.now b c.loop-i.names c.gather_class-to.new.names c.link_place-c.result
          c.link_home-g.result.from a.a c.loop-i.to c.gather_class-to.result)
          (collected.collect_text a.f.now a.s.now a.names.now a.h a.n a.last a.a c.loop-i.names c.loop-i.i c.loop-i.to
          c.loop-i.invariant.1 c.requires.last_bound.0 c.requires.last_bound.1 c.loop-i-test.true c.link_home-g.result c.link_place-c.result c.link_home-g.ensures
          c.link_place-c.ensures c.requires.part_there.1 c.requires.part_there.2 c.text_of.result.now c.text_of.ensures) c.gather_class-to.ensures)),
    )

pub shape_of-names : goal.shape_of-names
shape_of-names c = c.loop-i.invariant.1.size

pub returns : goal.returns
returns c =
    let a = c.args in
    collected.collecting_end a.f.now a.s.now a.names.now a.h a.n a.last a.a c.loop-i.names c.loop-i.i
    c.loop-i.to c.loop-i.invariant.1 c.loop-i-test.false c.loop-i.invariant.0 c.requires.last_bound.1
