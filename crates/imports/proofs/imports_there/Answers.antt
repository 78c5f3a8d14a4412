-- `imports::imports_there` meets its contract: the loop keeps the places of the imports passed. Assumes nothing.
use Rattle.std.specs.Prelude.{Some}
use Prim.Native.Nat.{◌<◌}
use native.Mathlib.Omega.{arith}
use mathlib.Core.Path.{◌≡◌, subst}
use lib.ListN.{get_or}
use Rattle.files.specs.Say.{ImportsAt}
use Rattle.imports.specs.Say.{ImportHomeIs}
use Rattle.imports.proofs.Table as table
use Rattle.imports.proofs.Imports as imports
use Rattle.imports.proofs.imports_there.Goals as goal
use Rattle.imports.proofs.imports_there.Goals.{After-import_home, After-imports_at-at, At-loop-k, In-Some, In-Some-1, In-Some-2, In-loop-k, Start}

-- the list of imports stands where it was found, and the import of a turn is one of it
there : (k : At-loop-k) → ImportsAt k.args.f.now k.imports_at-at.result
there k = k.imports_at-at.ensures

counted : (k : After-import_home) → k.loop-k.k < get_or k.args.f.now k.imports_at-at.result 0
counted k = omega (arith, k.wide-k-end.ensures.0, k.loop-k-test.true)

few : (k : After-import_home) → k.loop-k.k < 15
few k =
    omega (arith, counted k, imports.imports_few k.args.f.now k.args.s.now k.args.end k.imports_at-at.result (there (goal.at.After-import_home k).At-loop-k) k.requires.setting_there.0)

-- the home of the import of a turn
home : (k : In-Some) →
    let a = k.args in
    ImportHomeIs a.f.now a.s.now a.end k.loop-k.k (Some k.in-Some.h)
home k =
    let a = k.args in
    subst (ImportHomeIs a.f.now a.s.now a.end k.loop-k.k) k.in-Some.is k.import_home.ensures

pub imports_at-at-requires : goal.imports_at-at-requires
imports_at-at-requires c = imports.setting_reads _ _ _ c.requires.setting_there.0

pub bounds-f-at : goal.bounds-f-at
bounds-f-at c =
    imports.imports_inside c.args.f.now c.args.s.now c.args.end c.imports_at-at.result c.imports_at-at.ensures c.requires.setting_there.0

pub loop-k-init : goal.loop-k-init
loop-k-init c =
    table.filled_start _ _ _ _ c.requires.places_len.0 c.requires.places_len.1

pub import_home-requires : goal.import_home-requires
import_home-requires c =
    record { import_there = (c.requires.setting_there.0, there (goal.at.import_home-requires c).At-loop-k); index_is = c.requires.index_is }

pub overflow_cast-places : goal.overflow_cast-places
overflow_cast-places c =
    omega (arith, table.place_small _ _ _ c.loop-k.k c.imports_at-at.result c.in-Some.h c.requires.setting_there.0 (there (goal.at.overflow_cast-places c).At-loop-k) (counted (goal.at.overflow_cast-places c).After-import_home) (home (goal.at.overflow_cast-places c).In-Some) c.requires.setting_there.1)

pub offset_bounds-places-k : goal.offset_bounds-places-k
offset_bounds-places-k c = omega (arith, few (goal.at.offset_bounds-places-k c).After-import_home)

pub bounds-places-k : goal.bounds-places-k
bounds-places-k c =
    omega (arith, few (goal.at.bounds-places-k c).After-import_home, c.loop-k.invariant.size)

pub loop-k-preserved : goal.loop-k-preserved
loop-k-preserved c =
    table.filled_more _ _ _ c.loop-k.k c.loop-k.places c.in-Some.h c.loop-k.invariant (few (goal.at.loop-k-preserved c).After-import_home) (home (goal.at.loop-k-preserved c).In-Some)

pub returns-in_default : goal.returns-in_default
returns-in_default c =
    let a = c.args in
    let gone = subst (ImportHomeIs a.f.now a.s.now a.end c.loop-k.k) c.in_default.is c.import_home.ensures in
    let no = table.missing _ _ _ c.loop-k.k c.imports_at-at.result (there (goal.at.returns-in_default c).At-loop-k) (counted (goal.at.returns-in_default c).After-import_home) gone in
    record { imports_is = no; import_places = table.no_places _ _ _ c.loop-k.places c.loop-k.invariant.size no }

pub returns : goal.returns
returns c =
    let all : c.loop-k.k ≡ get_or c.args.f.now c.imports_at-at.result 0 = omega
    (arith, c.wide-k-end.ensures.0, c.loop-k-test.false) in record { imports_is = table.all_there _ _ _ c.loop-k.k c.imports_at-at.result c.loop-k.places (there (goal.at.returns c).At-loop-k) all c.loop-k.invariant; import_places = table.places_found _ _ _ c.loop-k.k c.imports_at-at.result c.loop-k.places (there (goal.at.returns c).At-loop-k) all c.loop-k.invariant }
