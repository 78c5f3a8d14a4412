-- `references::class_named` meets its contract: the package by the place of its import, the class by the slot of the package. Assumes nothing.
use Rattle.std.specs.Prelude.{ℕ, Some}
use Rattle.std.specs.Prelude.{Option as Optional}
use mathlib.Core.Path.{sym, subst}
use Rattle.homes.specs.Homes.{own_home, HomeThere, NumberedIs, ClassPlaced}
use Rattle.homes.specs.declared.Home.{Home}
use Rattle.homes.proofs.Imported.{places_stand, numbered_placed}
use Rattle.references.specs.Setting.{imports_of}
use Rattle.references.proofs.Lookups as look
use Rattle.references.proofs.class_named.Goals as goal
use Rattle.references.proofs.class_named.Goals.{After-placed, In_ok-home, Start}

-- r is the home of the package
abbrev Numbered : Start → Optional Home → Type 0
Numbered b r = NumberedIs b.args.f.now b.args.s.now (own_home b.args.end) b.args.p r

numbered : (k : After-placed) → Numbered (goal.at.After-placed k).Start k.placed.result
numbered k =
    let a = k.args in
    subst (Numbered (goal.at.After-placed k).Start) (sym k.placed.ensures) (numbered_placed a.f.now a.s.now a.end a.places.now k.requires.judged.1 a.p)

-- the home found
abbrev home : In_ok-home → Home
home k = k.in_ok-home.home

at_home : (k : In_ok-home) → Numbered (goal.at.In_ok-home k).Start (Some (home k))
at_home k = subst (Numbered (goal.at.In_ok-home k).Start) k.in_ok-home.was (numbered (goal.at.In_ok-home k).After-placed)

there : (k : In_ok-home) → let a = k.args in HomeThere a.f.now a.s.now (home k)
there k = look.numbered_there k.args.p (home k) (at_home k) k.requires.judged.0

-- r is the place of the class's record
abbrev Placed : In_ok-home → Optional ℕ → Type 0
Placed k r = let a = k.args in ClassPlaced a.f.now a.s.now (home k) a.c r

pub placed-requires : goal.placed-requires
placed-requires c =
    let a = c.args in
    (c.requires.judged.1.size, places_stand a.f.now a.s.now a.end a.places.now c.requires.judged.1 c.requires.judged.0.0 c.requires.judged.0.1 (imports_of c.requires.judged.0.2))

pub slot_for-k-requires : goal.slot_for-k-requires
slot_for-k-requires c = c.requires.slots_true.size

pub class_in-requires : goal.class_in-requires
class_in-requires c =
    record { home_there = (there (goal.at.class_in-requires c).In_ok-home, c.slot_for-k.ensures); small_home = look.there_small (home (goal.at.class_in-requires c).In_ok-home) (there (goal.at.class_in-requires c).In_ok-home) c.requires.judged.2; slots_true = c.requires.slots_true }

pub returns : goal.returns
returns c =
    let a = c.args in
    let placed = subst (Placed (goal.at.returns c).In_ok-home) c.in_ok-place.was c.class_in.ensures.class_placed in
    record { class_is = look.class_found_lem a.p a.c (home (goal.at.returns c).In_ok-home) c.in_ok-place.place (at_home (goal.at.returns c).In_ok-home) placed; slots_true_2 = c.class_in.ensures.slots_true_2 }

pub returns-in_err-place : goal.returns-in_err-place
returns-in_err-place c =
    let a = c.args in
    let none = subst (Placed (goal.at.returns-in_err-place c).In_ok-home) c.in_err-place.was c.class_in.ensures.class_placed in
    record { class_is = rw c.from_residual-in_err-place.ensures (look.class_missing a.p a.c (home (goal.at.returns-in_err-place c).In_ok-home) (at_home (goal.at.returns-in_err-place c).In_ok-home) none); slots_true_2 = c.class_in.ensures.slots_true_2 }

pub returns-in_err-home : goal.returns-in_err-home
returns-in_err-home c =
    let none = subst (Numbered (goal.at.returns-in_err-home c).Start) c.in_err-home.was (numbered (goal.at.returns-in_err-home c).After-placed) in
    record { class_is = rw c.from_residual.ensures (look.numbered_none c.args.p c.args.c none); slots_true_2 = c.requires.slots_true }
