-- `references::found_from` meets its contract: the declaration that the search finds Assumes nothing.
use mathlib.Core.Path.{subst}
use Rattle.files.specs.Say.{ClassThere}
use Rattle.homes.specs.Homes.{HomeThere}
use Rattle.homes.proofs.Lookups.{there_bounds}
use Rattle.search.specs.Search.{SoughtThere, SearchIs}
use Rattle.std.specs.Prelude.{Option as Optional}
use Rattle.search.specs.declared.Declaration.{Declaration}
use Rattle.references.specs.Setting.{imports_of}
use Rattle.references.proofs.Lookups as look
use Rattle.references.proofs.found_from.Goals as goal
use Rattle.references.proofs.found_from.Goals.{After-file_of-g, Start}

-- the class's package lies at its home
there : (b : Start) → HomeThere b.args.f.now b.args.s.now b.args.x.home
there b = let z = b.requires.judged.1 b.requires.judged.0.0 b.requires.judged.0.1 b.requires.judged.0.2 in (b.args.x.end, b.requires.judged.0.0, b.requires.judged.0.1, imports_of b.requires.judged.0.2, z.pack, z.lies)

-- its record stands in the file
stands : (k : After-file_of-g) → ClassThere k.file_of-g.result.now k.args.r.place
stands k = look.record_there k.args.x k.args.r k.requires.judged.1 _ k.file_of-g.ensures k.requires.judged.0

-- r is what the search tells
abbrev Found : After-file_of-g → Optional Declaration → Type 0
Found k r = let a = k.args in SearchIs a.f.now a.s.now a.x r

pub file_of-g-requires : goal.file_of-g-requires
file_of-g-requires c = there_bounds _ _ _ (there (goal.at.file_of-g-requires c).Start)

pub is_interface-kind0-requires : goal.is_interface-kind0-requires
is_interface-kind0-requires c = stands c

pub find-requires : goal.find-requires
find-requires c =
    let z = c.requires.judged.1 c.requires.judged.0.0 c.requires.judged.0.1 c.requires.judged.0.2 in
    let class : SoughtThere c.args.f.now c.args.s.now c.args.x =
    record { entries = c.requires.judged.0.0; self = c.requires.judged.0.1; asked = c.requires.judged.0.2.judged; pack = z.pack; home = z.lies; class = z.known; is = z.is } in
    record { sought_there = (class, c.requires.lent.small); indexed = (c.requires.lent.indexed, c.requires.lent.room); slots_true = c.requires.slots_true }

pub returns : goal.returns
returns c =
    let found = subst (Found (goal.at.returns c).After-file_of-g) c.in_ok-d.was c.find.ensures.search_is in
    record { meant_is = look.above_meant c.args.x c.args.r c.requires.judged.1 _ c.file_of-g.ensures _ c.is_interface-kind0.ensures _ _ _ found; slots_true_2 = c.find.ensures.slots_true_2 }

pub returns-in_err-d : goal.returns-in_err-d
returns-in_err-d c =
    let none = subst (Found (goal.at.returns-in_err-d c).After-file_of-g) c.in_err-d.was c.find.ensures.search_is in
    record { meant_is = rw c.from_residual.ensures (look.none_meant c.args.x c.args.r c.requires.judged.1 _ c.file_of-g.ensures _ c.is_interface-kind0.ensures none); slots_true_2 = c.find.ensures.slots_true_2 }
