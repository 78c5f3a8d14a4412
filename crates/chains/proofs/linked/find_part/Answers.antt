-- `chains::linked::find_part` meets its contract: the classes so far are written, and the next one is known to have room. Assumes nothing.
use Rattle.std.specs.Prelude.{None}
use Rattle.std.specs.Prelude.{Option as Optional}
use Rattle.classes.specs.declared.ClassSpot.{ClassSpot}
use native.Mathlib.Omega.{arith}
use Prim.Native.Nat.{ℕ, ◌+◌}
use mathlib.Core.Path.{sym, subst}
use Rattle.classes.specs.Say.{Kind0ParentIs, FoundNearer}
use Rattle.chains.specs.Chain.{most_links, PartIs}
use Rattle.chains.specs.Names.{first_link}
use Rattle.chains.proofs.Parts as parts
use Rattle.chains.proofs.Collected.{first_small}
use Rattle.chains.proofs.linked.find_part.Goals as goal

pub loop-i-init : goal.loop-i-init
loop-i-init c =
    let f = c.args.f.now in
    let s = c.args.s.now in
    let end = c.args.end in
    let start = c.args.c in
    let first = first_link start.home in
    let l = c.args.names.now in (
      subst (λ (k : ℕ). parts.Finding f s end l l start first k start.home start.number) (sym c.first_link-i.ensures)
          (parts.finding_start f s end l start first c.requires.part_room),
      c.requires.names_start_in_bounds.1,
      omega arith,
    )

pub place_of-at-requires : goal.place_of-at-requires
place_of-at-requires c =
    let f = c.args.f.now in
    let s = c.args.s.now in
    let end = c.args.end in
    let start = c.args.c in
    let first = first_link start.home in
    let there = parts.room_there f s end c.loop-i.i (first + most_links) c.loop-i.x.home c.loop-i.x.number c.loop-i.invariant.0.room in
    record { class_there = (there, c.requires.f_len_bound.1); slots_true = c.loop-i.invariant.1 }

pub set_link-requires : goal.set_link-requires
set_link-requires c =
    let f = c.args.f.now in
    let s = c.args.s.now in
    let end = c.args.end in
    let start = c.args.c in
    let first = first_link start.home in
    let small = first_small start.home in
    let inside = parts.finding_inside f s end c.args.names.now start first c.loop-i.names c.loop-i.i c.loop-i.x.home c.loop-i.x.number c.loop-i.invariant.0 small
    c.requires.names_start_in_bounds.0 in
    let size = parts.finding_size f s end c.args.names.now start first c.loop-i.names c.loop-i.i c.loop-i.x.home c.loop-i.x.number c.loop-i.invariant.0 small
    c.requires.names_start_in_bounds.0 in record { i_lt_all_links = (inside, size); from_bound = parts.link_fits f s end c.loop-i.i (first + most_links) c.loop-i.x.home c.loop-i.x.number c.loop-i.invariant.0.room c.requires.f_len_bound.0 c.requires.f_len_bound.1 c.place_of-at.result c.place_of-at.ensures.record_at }

pub kind0_parent-n-requires : goal.kind0_parent-n-requires
kind0_parent-n-requires c =
    let f = c.args.f.now in
    let s = c.args.s.now in
    let end = c.args.end in
    let start = c.args.c in
    let first = first_link start.home in
    let there = parts.room_there f s end c.loop-i.i (first + most_links) c.loop-i.x.home c.loop-i.x.number c.loop-i.invariant.0.room in
    let below = parts.room_below f s end c.loop-i.i (first + most_links) c.loop-i.x.home c.loop-i.x.number c.loop-i.invariant.0.room in
    record { class_there = (there, c.requires.f_len_bound.1); indexed = (c.requires.f_len_bound.2, below); slots_true = c.place_of-at.ensures.slots_true_2 }

pub shape_of-names-then-x-d : goal.shape_of-names-then-x-d
shape_of-names-then-x-d c =
    let f = c.args.f.now in
    let s = c.args.s.now in
    let end = c.args.end in
    let start = c.args.c in
    let first = first_link start.home in
    let small = first_small start.home in
    parts.written_size f s end c.args.names.now start first c.loop-i.names c.loop-i.i c.loop-i.x.home c.loop-i.x.number c.loop-i.invariant.0 small
    c.requires.names_start_in_bounds.0 c.place_of-at.result c.place_of-at.ensures.record_at c.set_link.new.names c.set_link.ensures

pub shape_of-slots-then-x-d : goal.shape_of-slots-then-x-d
shape_of-slots-then-x-d c =
    omega (arith, c.loop-i.invariant.2)

pub returns-then-x-d : goal.returns-then-x-d
returns-then-x-d c =
    let f = c.args.f.now in
    let s = c.args.s.now in
    let end = c.args.end in
    let start = c.args.c in
    let first = first_link start.home in
    let small = first_small start.home in
    let parent = subst (λ (o : Optional ClassSpot). Kind0ParentIs f s c.loop-i.x.home c.loop-i.x.number o × FoundNearer c.loop-i.x.home o) c.in-Some.is
    (c.kind0_parent-n.ensures.kind0parent_is.0, c.kind0_parent-n.ensures.kind0parent_is.1) in
    let leaves = parts.finding_leaves f s end c.args.names.now start first c.loop-i.names c.loop-i.i c.loop-i.x.home c.loop-i.x.number c.loop-i.invariant.0 small
    c.requires.names_start_in_bounds.0 c.place_of-at.result c.place_of-at.ensures.record_at c.set_link.new.names c.set_link.ensures c.in-Some.d parent.0 parent.1 c.if-x-d.true in
    record { part_is = leaves; slots_true = c.kind0_parent-n.ensures.slots_true_2 }

pub loop-i-preserved : goal.loop-i-preserved
loop-i-preserved c =
    let f = c.args.f.now in
    let s = c.args.s.now in
    let end = c.args.end in
    let start = c.args.c in
    let first = first_link start.home in
    let small = first_small start.home in
    let parent = subst (λ (o : Optional ClassSpot). Kind0ParentIs f s c.loop-i.x.home c.loop-i.x.number o × FoundNearer c.loop-i.x.home o) c.in-Some.is
    (c.kind0_parent-n.ensures.kind0parent_is.0, c.kind0_parent-n.ensures.kind0parent_is.1) in
    let more = parts.finding_more f s end c.args.names.now start first c.loop-i.names c.loop-i.i c.loop-i.x.home c.loop-i.x.number c.loop-i.invariant.0 small
    c.requires.names_start_in_bounds.0 c.place_of-at.result c.place_of-at.ensures.record_at c.set_link.new.names c.set_link.ensures c.in-Some.d parent.0 parent.1 c.if-x-d.false in
    (more, c.kind0_parent-n.ensures.slots_true_2, omega (arith, c.loop-i.invariant.2, c.place_of-at.auto.slots, c.kind0_parent-n.auto.slots))

pub shape_of-names-in-None : goal.shape_of-names-in-None
shape_of-names-in-None c =
    let f = c.args.f.now in
    let s = c.args.s.now in
    let end = c.args.end in
    let start = c.args.c in
    let first = first_link start.home in
    let small = first_small start.home in
    parts.written_size f s end c.args.names.now start first c.loop-i.names c.loop-i.i c.loop-i.x.home c.loop-i.x.number c.loop-i.invariant.0 small
    c.requires.names_start_in_bounds.0 c.place_of-at.result c.place_of-at.ensures.record_at c.set_link.new.names c.set_link.ensures

pub shape_of-slots-in-None : goal.shape_of-slots-in-None
shape_of-slots-in-None c =
    omega (arith, c.loop-i.invariant.2)

pub returns-in-None : goal.returns-in-None
returns-in-None c =
    let f = c.args.f.now in
    let s = c.args.s.now in
    let end = c.args.end in
    let start = c.args.c in
    let first = first_link start.home in
    let small = first_small start.home in
    let none = subst (Kind0ParentIs f s c.loop-i.x.home c.loop-i.x.number) c.in-None.is c.kind0_parent-n.ensures.kind0parent_is.0 in
    let last = parts.finding_last f s end c.args.names.now start first c.loop-i.names c.loop-i.i c.loop-i.x.home c.loop-i.x.number c.loop-i.invariant.0 small
    c.requires.names_start_in_bounds.0 c.place_of-at.result c.place_of-at.ensures.record_at c.set_link.new.names c.set_link.ensures None none (tt {0}) in record { part_is = subst (PartIs f s c.args.names.now c.set_link.new.names start first (c.loop-i.i + 1)) (sym c.in-None.is) last; slots_true = c.kind0_parent-n.ensures.slots_true_2 }

pub shape_of-names : goal.shape_of-names
shape_of-names c = c.loop-i.invariant.0.size

pub shape_of-slots : goal.shape_of-slots
shape_of-slots c = c.loop-i.invariant.2

pub returns : goal.returns
returns c =
    let f = c.args.f.now in
    let s = c.args.s.now in
    let end = c.args.end in
    let start = c.args.c in
    let first = first_link start.home in
    let small = first_small start.home in
    let inside = parts.finding_inside f s end c.args.names.now start first c.loop-i.names c.loop-i.i c.loop-i.x.home c.loop-i.x.number c.loop-i.invariant.0 small
    c.requires.names_start_in_bounds.0 in
    absurd (omega (arith, inside, c.loop-i-test.false))
