-- Where the homes of a class and of its kind-0 parent lie to each other. Assumes nothing.
use Rattle.std.specs.Prelude.{Some}
use Prim.Native.Nat.{ℕ, ◌≤◌, ◌<◌}
use native.Mathlib.Omega.{arith}
use mathlib.Core.Path.{◌≡◌, refl}
use mathlib.Core.List.{List}
use mathlib.Core.Logic.{inl, inr}
use Rattle.rules.specs.Bytes.{Bytes}
use Rattle.rules.specs.Store.{Entry, first_entry}
use Rattle.rules.specs.Classes.{Installed}
use Rattle.store.proofs.Stand.{entry_apart}
use Rattle.homes.specs.Homes.{Setting, HomeIs}
use Rattle.homes.specs.Homes as homes
use Rattle.homes.specs.declared.Home.{Home}
use Rattle.homes.proofs.Homes.{home_below}
use Rattle.classes.specs.Say.{Judged, ClassIn, Nearer, Kind0ParentIs}
use Rattle.classes.specs.declared.ClassSpot.{ClassSpot}

-- of two homes one of which is the nearer: they are one, or that one's file lies before the other's in the store, or the other is that of the file being judged
pub data Apart (h g : Home) : Type 0 where
  same : g ≡ h → Apart h g
  earlier : 0 < g.from → g.to ≤ h.from → Apart h g
  enters : h.from ≡ 0 → 0 < g.from → Apart h g

module _ (f s : Bytes) (end : ℕ) (es : List Entry) (self : Installed) (j : Setting f s end es self) where
  homes_apart : (h g : Home) (x y : Installed) → HomeIs f s end es self h x → HomeIs f s end es self g y → Nearer h g → Apart h g
  homes_apart h g x y o u (inl z) = same z
  homes_apart _ _ _ _ homes.own homes.own (inr z) = same refl
  homes_apart _ g _ y homes.own (homes.stored u) (inr z) = enters refl (omega (arith, u.inside))
  homes_apart h _ x _ (homes.stored t) homes.own (inr z) = absurd (omega (arith, home_below f s end es self j h x (homes.stored t)))
  homes_apart h g x y (homes.stored t) (homes.stored u) (inr z) =
      let a = entry_apart s (first_entry s) u.pre t.pre g.before h.before g.to _ u.stand u.entry t.stand z in
      earlier (omega (arith, u.inside)) (omega (arith, t.inside))

-- a class and its kind-0 parent
pub parent_apart : (f s : Bytes) (end : ℕ) (h : Home) (n : ℕ) (d : ClassSpot) → ClassIn (Judged f s end) f s end h n → Kind0ParentIs f s h n
    (Some d) → Nearer h d.home → Apart h d.home
parent_apart f s end h n d c q z =
    let u = q end c.entries c.self c.asked c.pack c.home c.class c.is in
    homes_apart f s end c.entries c.self c.asked.parents.imported.setting h d.home c.pack u.0 c.home u.1 z
