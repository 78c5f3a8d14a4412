-- `chains::find_names` meets its contract: the own part is found, the stored names are kept or made, then the own names follow. Assumes nothing.
use native.Mathlib.Omega.{arith}
use mathlib.Core.Path.{refl}
use Rattle.classes.specs.declared.ClassSpot.{ClassSpot}
use Rattle.chains.proofs.Finding as finding
use Rattle.chains.proofs.find_names.Goals as goal

pub find_part-stop-requires : goal.find_part-stop-requires
find_part-stop-requires c =
    let f = c.args.f.now in
    let s = c.args.s.now in
    let kept = c.args.kept in
    let links = finding.find_room f s kept.end c.args.b c.requires.running_there c.own_home-h.result c.own_home-h.ensures in
    record { part_room = links; names_start_in_bounds = (omega (arith, c.requires.kept.1.size), c.requires.indexed.1); f_len_bound = (c.requires.kept.1.file, c.requires.kept.1.store, c.requires.indexed.0) }

pub stored_names-to-requires : goal.stored_names-to-requires
stored_names-to-requires c =
    let f = c.args.f.now in
    let s = c.args.s.now in
    let kept = c.args.kept in
    let need = finding.next_need f s kept.end c.args.b c.requires.running_there c.own_home-h.result c.own_home-h.ensures c.args.names.now c.find_part-stop.new.names c.find_part-stop.result.link
    c.find_part-stop.result.next c.find_part-stop.ensures.part_is c.in-Some.d c.in-Some.is in
    let behind = finding.next_stored f s kept.end c.args.b c.requires.running_there c.own_home-h.result c.own_home-h.ensures c.args.names.now c.find_part-stop.new.names c.find_part-stop.result.link
    c.find_part-stop.result.next c.find_part-stop.ensures.part_is c.in-Some.d c.in-Some.is in
    let keep = finding.kept_after f s kept.end c.args.b c.requires.running_there c.own_home-h.result c.own_home-h.ensures c.args.names.now c.find_part-stop.new.names c.find_part-stop.result.link
    c.find_part-stop.result.next c.find_part-stop.ensures.part_is kept c.requires.kept.0 in
    let room = finding.room_after f s c.args.names.now c.find_part-stop.new.names c.find_part-stop.ensures.part_is.size c.requires.kept.1 in
    record { part_room = (need, behind); kept = (keep, room); indexed = (c.requires.indexed.0, c.find_part-stop.ensures.slots_true) }

pub gather-all-requires : goal.gather-all-requires
gather-all-requires c =
    let f = c.args.f.now in
    let s = c.args.s.now in
    let kept = c.args.kept in
    let there = finding.own_part_there f s kept.end c.args.b c.requires.running_there c.own_home-h.result c.own_home-h.ensures c.args.names.now c.find_part-stop.new.names c.find_part-stop.result.link
    c.find_part-stop.result.next c.find_part-stop.ensures.part_is c.stored_names-to.new.names c.stored_names-to.result c.stored_names-to.ensures.kept_for.2 c.stored_names-to.ensures.kept_for.1 in
    let fits = finding.fits_stored f s kept.end c.args.b c.requires.running_there c.own_home-h.result c.own_home-h.ensures c.args.names.now c.find_part-stop.new.names c.find_part-stop.result.link
    c.find_part-stop.result.next c.find_part-stop.ensures.part_is c.stored_names-to.new.names c.stored_names-to.result c.stored_names-to.ensures.kept_for.2 c.stored_names-to.ensures.kept_for.1 c.in-Some.d c.in-Some.is
    c.stored_names-to.ensures.kept_for.0 c.requires.kept.1 in
    record { part_there = there; last_bound = fits; f_len_bound = (c.requires.kept.1.file, c.requires.kept.1.store) }

pub gather-all-requires-in-None : goal.gather-all-requires-in-None
gather-all-requires-in-None c =
    let f = c.args.f.now in
    let s = c.args.s.now in
    let kept = c.args.kept in
    let there = finding.own_part_there f s kept.end c.args.b c.requires.running_there c.own_home-h.result c.own_home-h.ensures c.args.names.now c.find_part-stop.new.names c.find_part-stop.result.link
    c.find_part-stop.result.next c.find_part-stop.ensures.part_is c.find_part-stop.new.names 128 refl (λ k u v. refl) in
    let fits = finding.fits_alone f s kept.end c.args.b c.requires.running_there c.own_home-h.result c.own_home-h.ensures c.args.names.now c.find_part-stop.new.names c.find_part-stop.result.link
    c.find_part-stop.result.next c.find_part-stop.ensures.part_is c.find_part-stop.new.names 128 refl (λ k u v. refl) c.in-None.is refl c.requires.kept.1 in
    record { part_there = there; last_bound = fits; f_len_bound = (c.requires.kept.1.file, c.requires.kept.1.store) }

pub shape_of-names-in-Some : goal.shape_of-names-in-Some
shape_of-names-in-Some c =
    omega (arith, c.find_part-stop.ensures.part_is.size, c.stored_names-to.ensures.kept_for.2, c.gather-all.ensures.size)

pub returns-in-Some : goal.returns-in-Some
returns-in-Some c =
    let f = c.args.f.now in
    let s = c.args.s.now in
    let kept = c.args.kept in
    let is = finding.names_stored f s kept.end c.args.b c.requires.running_there c.own_home-h.result c.own_home-h.ensures c.args.names.now c.find_part-stop.new.names c.find_part-stop.result.link
    c.find_part-stop.result.next c.find_part-stop.ensures.part_is c.stored_names-to.new.names c.stored_names-to.result c.stored_names-to.ensures.kept_for.2 c.stored_names-to.ensures.kept_for.1 c.in-Some.d c.in-Some.is
    c.stored_names-to.ensures.kept_for.0 c.gather-all.new.names c.gather-all.result c.gather-all.ensures in
    let keep = finding.names_kept f s kept.end c.args.b c.requires.running_there c.own_home-h.result c.own_home-h.ensures c.args.names.now c.find_part-stop.new.names c.find_part-stop.result.link
    c.find_part-stop.result.next c.find_part-stop.ensures.part_is c.stored_names-to.new.names c.stored_names-to.result c.stored_names-to.ensures.kept_for.2 c.stored_names-to.ensures.kept_for.1 c.in-Some.d c.in-Some.is
    c.stored_names-to.ensures.kept_for.0 c.gather-all.new.names c.gather-all.result c.gather-all.ensures in
    let first = finding.names_first f s kept.end c.args.b c.requires.running_there c.own_home-h.result c.own_home-h.ensures c.args.names.now c.find_part-stop.new.names c.find_part-stop.result.link
    c.find_part-stop.result.next c.find_part-stop.ensures.part_is c.stored_names-to.new.names c.stored_names-to.result c.stored_names-to.ensures.kept_for.2 c.stored_names-to.ensures.kept_for.1 c.in-Some.d c.in-Some.is
    c.stored_names-to.ensures.kept_for.0 c.gather-all.new.names c.gather-all.result c.gather-all.ensures in
    let told = finding.names_told f s c.gather-all.new.names kept.end c.args.b c.stored_names-to.result c.gather-all.result c.in-Some.d c.names_of.result c.names_of.ensures is keep first in
    record { end_value = told.0; kept_2 = told.1; slots_true = c.stored_names-to.ensures.slots_true }

pub shape_of-names-in-None : goal.shape_of-names-in-None
shape_of-names-in-None c =
    omega (arith, c.find_part-stop.ensures.part_is.size, c.gather-all-in-None.ensures.size)

pub returns-in-None : goal.returns-in-None
returns-in-None c =
    let f = c.args.f.now in
    let s = c.args.s.now in
    let kept = c.args.kept in
    let is = finding.names_alone f s kept.end c.args.b c.requires.running_there c.own_home-h.result c.own_home-h.ensures c.args.names.now c.find_part-stop.new.names c.find_part-stop.result.link
    c.find_part-stop.result.next c.find_part-stop.ensures.part_is c.find_part-stop.new.names 128 refl (λ k u v. refl) c.in-None.is refl c.gather-all-in-None.new.names c.gather-all-in-None.result c.gather-all-in-None.ensures in
    let keep = finding.alone_kept f s kept.end c.args.b c.requires.running_there c.own_home-h.result c.own_home-h.ensures c.args.names.now c.find_part-stop.new.names c.find_part-stop.result.link
    c.find_part-stop.result.next c.find_part-stop.ensures.part_is c.find_part-stop.new.names 128 refl (λ k u v. refl) c.in-None.is refl c.gather-all-in-None.new.names c.gather-all-in-None.result in
    let first = finding.alone_first f s kept.end c.args.b c.requires.running_there c.own_home-h.result c.own_home-h.ensures c.args.names.now c.find_part-stop.new.names c.find_part-stop.result.link
    c.find_part-stop.result.next c.find_part-stop.ensures.part_is c.find_part-stop.new.names 128 refl (λ k u v. refl) c.in-None.is refl c.gather-all-in-None.result in
    let x : ClassSpot = record { home = c.own_home-h.result; number = c.args.b } in
    let told = finding.names_told f s c.gather-all-in-None.new.names kept.end c.args.b 128 c.gather-all-in-None.result x c.names_of-in-None.result c.names_of-in-None.ensures is keep first in
    record { end_value = told.0; kept_2 = told.1; slots_true = c.find_part-stop.ensures.slots_true }
