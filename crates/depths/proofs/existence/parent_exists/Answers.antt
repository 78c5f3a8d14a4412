-- `depths::existence::parent_exists` meets its contract: by the package number, by the class found, and by its number. Assumes nothing.
use Rattle.std.specs.Prelude.{ℕ}
use Rattle.std.specs.Prelude.{Option as Optional}
use mathlib.Core.Path.{refl, subst}
use mathlib.Core.Bool.{true, false}
use lib.Dec.{ltb}
use borrow.Author.Tests.{eq-eqb, ne_eqb}
use Rattle.homes.specs.Homes.{ClassPlaced}
use Rattle.named.specs.Named.{home_of, PackageThere}
use Rattle.depths.proofs.Exist as exist
use Rattle.depths.proofs.existence.parent_exists.Goals as goal
use Rattle.depths.proofs.existence.parent_exists.Goals.{After-class_in, Else-o-p}

-- the package number is one of the file's
there : (k : Else-o-p) → PackageThere k.args.f.now k.args.p
there k = exist.imports_there _ _ _ k.requires.import_count.0 k.if-o-p.false

-- the place where the class was looked for
abbrev Placed : After-class_in → Optional ℕ → Type 0
Placed k =
    let a = k.args in
    ClassPlaced a.f.now a.s.now (home_of a.s.now a.o.end a.places.now a.p) a.c

pub returns-then-o-p : goal.returns-then-o-p
returns-then-o-p c = record { exists_is = exist.exists_beyond _ _ _ _ _ _ _ c.requires.import_count.0 c.if-o-p.true; rows_true = c.requires.import_count.1 }

pub class_in-requires : goal.class_in-requires
class_in-requires c = record { judged = c.requires.judged; package_there = (there (goal.at.class_in-requires c).Else-o-p, c.requires.import_count.1) }

pub returns-then-p-ne0 : goal.returns-then-p-ne0
returns-then-p-ne0 c =
    record {
      exists_is = exist.exists_at _ _ _ _ _ _ _ c.requires.judged.1 (there (goal.at.returns-then-p-ne0 c).Else-o-p) _ (subst (Placed (goal.at.returns-then-p-ne0 c).After-class_in) c.in-Some.is c.class_in.ensures.class_placed) false true
          (ne_eqb c.args.p 0 c.if-p-ne0.true) refl;
      rows_true = c.class_in.ensures.rows_true;
    }

pub returns-else-p-ne0 : goal.returns-else-p-ne0
returns-else-p-ne0 c =
    let a = c.args in record {
      exists_is = exist.exists_at _ _ _ _ _ _ _ c.requires.judged.1 (there (goal.at.returns-else-p-ne0 c).Else-o-p) _ (subst (Placed (goal.at.returns-else-p-ne0 c).After-class_in) c.in-Some.is c.class_in.ensures.class_placed) true
          (ltb a.c a.o.number) (eq-eqb a.p 0 c.if-p-ne0.false) refl;
      rows_true = c.class_in.ensures.rows_true;
    }

pub returns-in-None : goal.returns-in-None
returns-in-None c =
    let none = subst (Placed (goal.at.returns-in-None c).After-class_in) c.in-None.is c.class_in.ensures.class_placed in
    record { exists_is = exist.exists_not _ _ _ _ _ _ _ c.requires.judged.1 (there (goal.at.returns-in-None c).Else-o-p) none; rows_true = c.class_in.ensures.rows_true }
