-- A class that is there: the places of its home fit two bytes, and its record is a part of the file there. Assumes nothing.
use Rattle.std.specs.Prelude.{Some}
use Prim.Native.Nat.{ℕ, ◌≤◌}
use native.Mathlib.Omega.{arith}
use mathlib.Core.Path.{◌≡◌, ◌∙◌, ap}
use lib.ListN.{length, drop}
use Rattle.rules.specs.Bytes.{Bytes}
use Rattle.rules.specs.Store.{first_entry}
use Rattle.store.proofs.Stand.{entries_to}
use Rattle.homes.specs.Homes.{file_of, RecordIs}
use Rattle.homes.specs.declared.Home.{Home}
use Rattle.homes.proofs.Homes.{home_bounds, home_below}
use Rattle.classes.specs.Say.{ClassThere, RecordAt}
use Rattle.classes.proofs.Places.{class_there}
use Rattle.slots.specs.Slots.{SmallHome}

module _ (f s : Bytes) (h : Home) (n : ℕ) (t : ClassThere f s h n) where
  pub class_small : length s ≤ 65535 → SmallHome h
  class_small z =
      let c = t.1 in
      let g = c.asked.parents.imported.setting in
      let w = home_bounds f s t.0 c.entries c.self h c.pack c.home in
      let e = (entries_to s (first_entry s) c.entries t.0 g.stand).1 in
      let l = home_below f s t.0 c.entries c.self g h c.pack c.home in
      record { from = omega (arith, w.0, w.1); to = omega (arith, w.1); before = omega (arith, l, e) }

  -- its record at place i of the file g
  module _ (g : Bytes) (e : g ≡ file_of f s h) (i : ℕ) (p : RecordAt f s h n i) where
    pub record_inside : i ≤ length g
    record_inside = let y = (class_there f s h n g i e p t).2.2 in y.from

    pub record_part : (r : Bytes) → r ≡ drop i g → RecordIs f s h n r
    record_part r z end es self m x o = (Some i, p end es self m x o, z ∙ ap (drop i) e)
