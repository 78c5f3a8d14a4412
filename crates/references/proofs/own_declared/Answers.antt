-- `references::own_declared` meets its contract: the class's own declaration, where it has one. Assumes nothing.
use Rattle.std.specs.Prelude.{ℕ}
use Rattle.std.specs.Prelude.{Option as Optional}
use mathlib.Core.Path.{subst}
use Rattle.files.specs.Say.{ClassThere, DeclaredPlaced}
use Rattle.homes.specs.Homes.{HomeThere}
use Rattle.homes.proofs.Lookups.{there_bounds}
use Rattle.references.specs.Setting.{imports_of}
use Rattle.references.proofs.Lookups as look
use Rattle.references.proofs.own_declared.Goals as goal
use Rattle.references.proofs.own_declared.Goals.{After-file_of-g, Start}

-- the class's package lies at its home
there : (b : Start) → HomeThere b.args.f.now b.args.s.now b.args.x.home
there b = let z = b.requires.1 b.requires.0.0 b.requires.0.1 b.requires.0.2 in (b.args.x.end, b.requires.0.0, b.requires.0.1, imports_of b.requires.0.2, z.pack, z.lies)

-- its record stands in the file
stands : (k : After-file_of-g) → ClassThere k.file_of-g.result.now k.args.r.place
stands k = look.record_there k.args.x k.args.r k.requires.1 _ k.file_of-g.ensures k.requires.0

-- r is the place of its own declaration
abbrev Own : After-file_of-g → Optional ℕ → Type 0
Own k r = let a = k.args in DeclaredPlaced k.file_of-g.result.now a.r.place a.x.name r

pub file_of-g-requires : goal.file_of-g-requires
file_of-g-requires c = there_bounds _ _ _ (there (goal.at.file_of-g-requires c).Start)

pub find_method-requires : goal.find_method-requires
find_method-requires c = stands c

pub is_interface-requires : goal.is_interface-requires
is_interface-requires c = stands (goal.at.is_interface-requires c).After-file_of-g

pub returns-in-Some : goal.returns-in-Some
returns-in-Some c =
    let method = subst (Own (goal.at.returns-in-Some c).After-file_of-g) c.in-Some.is c.find_method.ensures in
    look.own_meant c.args.x c.args.r c.requires.1 _ c.file_of-g.ensures _ c.is_interface.ensures _ method
