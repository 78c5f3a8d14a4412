-- `running::visited::record_of` meets its contract: the part of the file from the record on. Assumes nothing.
use Prim.Native.Nat.{◌≤◌}
use native.Mathlib.Omega.{arith}
use mathlib.Core.Path.{sym, ◌∙◌, ap, subst}
use lib.ListN.{length}
use Rattle.homes.specs.Homes.{file_of}
use Rattle.homes.specs.declared.Home.{Home}
use Rattle.homes.proofs.Lookups.{rest_is}
use Rattle.running.proofs.Visits as visits
use Rattle.running.proofs.visited.record_of.Goals as goal

pub file_of-g-requires : goal.file_of-g-requires
file_of-g-requires c =
    let f = c.args.f.now in
    let s = c.args.s.now in
    let v = c.args.v in
    subst (λ (h : Home). (h.from ≤ h.to) × (h.to ≤ length s)) (sym c.home_of.ensures) (visits.visit_bounds f s v c.requires.there)

pub slice_bounds-result-count : goal.slice_bounds-result-count
slice_bounds-result-count c =
    let f = c.args.f.now in
    let s = c.args.s.now in
    let v = c.args.v in
    let e = c.file_of-g.ensures ∙ ap (file_of f s) c.home_of.ensures in
    omega (arith, visits.record_inside f s v c.requires c.file_of-g.result.now e)

pub slice_bounds-result-start : goal.slice_bounds-result-start
slice_bounds-result-start c =
    let f = c.args.f.now in
    let s = c.args.s.now in
    let v = c.args.v in
    let e = c.file_of-g.ensures ∙ ap (file_of f s) c.home_of.ensures in
    omega (arith, visits.record_inside f s v c.requires c.file_of-g.result.now e)

pub returns : goal.returns
returns c =
    let f = c.args.f.now in
    let s = c.args.s.now in
    let v = c.args.v in
    let e = c.file_of-g.ensures ∙ ap (file_of f s) c.home_of.ensures in
    visits.record_part f s v c.requires c.file_of-g.result.now e _ (rest_is c.file_of-g.result.now v.place)
