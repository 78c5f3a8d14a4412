-- The homes of the own file's imports, entered into slot 0 one by one by their places. Assumes nothing.
use Rattle.std.specs.Prelude.{Some}
use Prim.Native.Nat.{ℕ, suc, zero, ◌+◌, ◌-◌, ◌*◌, ◌≤◌, ◌<◌}
use native.Mathlib.Omega.{arith}
use mathlib.Core.Path.{◌≡◌, refl, sym, ◌∙◌, subst}
use mathlib.Core.List.{List}
use lib.ListN.{length, get_or}
use Rattle.rules.specs.Bytes.{Bytes}
use Rattle.homes.specs.Homes.{own_home, home_of, PackageFrom, NumberedIs}
use Rattle.homes.specs.Found.{home_numbered, ImportPlaces}
use Rattle.homes.specs.declared.Home.{Home}
use Rattle.homes.proofs.Places.{home_by}
use Rattle.homes.proofs.Imported.{numbered_placed, placed_at}
use Rattle.slots.specs.Slots.{with_home, slot_home, SmallHome, SlotsTrue, SlotFor}
use Rattle.slots.proofs.Imports.{import_kept, same_slot}

-- the slots are true of every file whose imports have these places, and slot 0 is that of the own file
abbrev pub Entered : Bytes → ℕ → List ℕ → List ℕ → Type 0
Entered s end places t = (f : Bytes) → ImportPlaces f s end places → SlotsTrue f s t × (slot_home t 0 ≡ own_home end)

-- its places fit two bytes
pub package_small : (s : Bytes) (p : ℕ) → PackageFrom s p → length s ≤ 65535 → SmallHome (home_of s p)
package_small s p t z =
    let b = home_by s p t.0 t.1 t.2 t.3 in
    record {
      from = omega (arith, b.order, b.to, t.3.to);
      to = omega (arith, b.to, t.3.to);
      before = omega (arith, b.inside, b.order, b.to, t.3.to);
    }

module _ (s : Bytes) (end : ℕ) (places : List ℕ) where
  pub entered_start : (t u : List ℕ) (h : Home) → ((f s : Bytes) → SlotsTrue f s t) → h ≡ own_home end → SlotFor t u h 0 → Entered s end places u
  entered_start t u h q e r f i = (r.true f s (q f s), r.home ∙ e)

  -- the next import
  pub entered_more : (t : List ℕ) (p : ℕ) (h : Home) → (p ≡ 0 → ⊥) → p < 16 → (get_or places (p - 1) 0 ≡ 0 → ⊥) → h ≡ home_of s (get_or places (p - 1) 0) →
      Entered s end places t → Entered s end places (with_home t (32 + 3 * p) h)
  entered_more t zero h n l m e q = absurd (n refl)
  entered_more t (suc p) h n l m e q = λ f i.
      let told = q f i in
      let told_at : Some h ≡ home_numbered s end places (suc p) = placed_at s end places (suc p) h n m e in
      let own : NumberedIs f s (own_home end) (suc p) (Some h) =
      subst (NumberedIs f s (own_home end) (suc p)) (sym told_at) (numbered_placed f s end places i (suc p)) in
      let here = subst (λ (g : Home). NumberedIs f s g (suc p) (Some h)) (sym told.1) own in
      (import_kept f s t 0 p (omega arith) (omega arith) told.0 h here, same_slot f s t 0 p (omega arith) (omega arith) told.0 h here ∙ told.1)
