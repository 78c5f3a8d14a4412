-- `chains::stored_names` meets its contract: the names kept are those of this class, or its chain is found and gathered. Assumes nothing.
use native.Mathlib.Omega.{arith}
use mathlib.Core.Path.{◌≡◌}
use Rattle.std.proofs.Common.{rules}
use Rattle.chains.proofs.Keeping as keeping
use Rattle.chains.proofs.stored_names.Goals as goal

pub returns-then-n-kept : goal.returns-then-n-kept
returns-then-n-kept c =
    let f = c.args.f.now in
    let s = c.args.s.now in
    let d = c.args.d in
    let kept = c.args.kept in
    let same : d.home ≡ kept.home = search rules in
    record { kept_for = keeping.stored_kept f s c.args.names.now kept d c.requires.kept.0 c.requires.part_room.1 (same, c.if-n-kept.true); slots_true = c.requires.indexed.1 }

pub find_part-stop-requires : goal.find_part-stop-requires
find_part-stop-requires c =
    let f = c.args.f.now in
    let s = c.args.s.now in
    let d = c.args.d in
    let kept = c.args.kept in
    let links = keeping.stored_room f s kept.end d c.requires.part_room.1 c.requires.part_room.0 in
    record { part_room = links; names_start_in_bounds = (omega (arith, c.requires.kept.1.size), c.requires.indexed.1); f_len_bound = (c.requires.kept.1.file, c.requires.kept.1.store, c.requires.indexed.0) }

pub gather-requires : goal.gather-requires
gather-requires c =
    let f = c.args.f.now in
    let s = c.args.s.now in
    let d = c.args.d in
    let kept = c.args.kept in
    let there = keeping.stored_there f s kept.end d c.requires.part_room.1 c.requires.part_room.0 c.args.names.now c.find_part-stop.new.names c.find_part-stop.result.link
    c.find_part-stop.result.next c.find_part-stop.ensures.part_is in
    let fits = keeping.stored_fits f s kept.end d c.requires.part_room.1 c.requires.part_room.0 c.args.names.now c.find_part-stop.new.names c.find_part-stop.result.link
    c.find_part-stop.result.next c.find_part-stop.ensures.part_is c.requires.kept.1 in
    record { part_there = there; last_bound = fits; f_len_bound = (c.requires.kept.1.file, c.requires.kept.1.store) }

pub shape_of-names : goal.shape_of-names
shape_of-names c =
    omega (arith, c.find_part-stop.ensures.part_is.size, c.gather.ensures.size)

pub returns : goal.returns
returns c =
    let f = c.args.f.now in
    let s = c.args.s.now in
    let d = c.args.d in
    let kept = c.args.kept in
    let new = keeping.stored_new f s kept.end d c.requires.part_room.1 c.requires.part_room.0 c.args.names.now c.find_part-stop.new.names c.find_part-stop.result.link
    c.find_part-stop.result.next c.find_part-stop.ensures.part_is c.gather.new.names c.gather.result c.gather.ensures in
    record { kept_for = new; slots_true = c.find_part-stop.ensures.slots_true }
