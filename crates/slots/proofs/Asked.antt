-- What is asked of a slot: class places and imports; slots of zeros know nothing. Assumes nothing.
use Rattle.std.specs.Prelude.{Some}
use Prim.Native.Nat.{ℕ, zero, suc, ◌+◌, ◌*◌, ◌≤◌, ◌<◌}
use native.Mathlib.Omega.{arith}
use mathlib.Core.Path.{◌≡◌, refl, sym, ◌∙◌, ap, subst}
use mathlib.Core.List.{List}
use lib.ListN.{length, get_or}
use Rattle.rules.specs.Bytes.{Bytes}
use Rattle.homes.specs.Homes.{file_of, HomeThere, NumberedIs}
use Rattle.homes.specs.declared.Home.{Home}
use Rattle.homes.proofs.Homes.{home_bounds}
use Rattle.named.specs.Named.{RowTrue, Beside}
use Rattle.slots.specs.Slots.{slot_count, slot_length, slots_length, with_home, slot_home, import_home, SmallHome, SlotsTrue}
use Rattle.slots.proofs.Slots.{slots_filled}
use Rattle.slots.proofs.Imports.{import_kept}

module _ (f s : Bytes) (t : List ℕ) (h : Home) (k : ℕ) (q : SlotsTrue f s t) (b : k < slot_count) (e : slot_home t k ≡ h) where
  -- the class places of the package at home h
  pub slot_row : (g : Bytes) → g ≡ file_of f s h → RowTrue g t (slot_length * k)
  slot_row g z = subst (λ (x : Bytes). RowTrue x t (slot_length * k)) (ap (file_of f s) e ∙ sym z) (q.slot k b).places

  pub row_kept : (g : Bytes) → g ≡ file_of f s h → (u : List ℕ) → length u ≡ length t → RowTrue g u (slot_length * k) → Beside t u (slot_length * k) →
      SlotsTrue f s u
  row_kept g z u y r w = slots_filled f s t u k b y w (subst (λ (x : Bytes). RowTrue x u (slot_length * k)) (z ∙ ap (file_of f s) (sym e)) r) q

  -- the home of an import that is known
  pub import_told : (p : ℕ) → (p ≡ 0 → ⊥) → p ≤ 15 → (x : Home) → x ≡ import_home t k p → (x.to ≡ 0 → ⊥) → NumberedIs f s h p (Some x)
  import_told zero n l x z m = absurd (n refl)
  import_told (suc p) n l x z m =
      subst (λ (a : Home). NumberedIs f s a (suc p) (Some x)) e
      (subst (λ (a : Home). NumberedIs f s (slot_home t k) (suc p) (Some a)) (sym z) ((q.slot k b).imports p l (λ w. m (ap (λ (a : Home). a.to) z ∙ w))))

  -- one that was found is written
  pub import_put : (p : ℕ) → (p ≡ 0 → ⊥) → p ≤ 15 → (g : Home) → NumberedIs f s h p (Some g) → SlotsTrue f s (with_home t (slot_length * k + 32 + 3 * p) g)
  import_put zero n l g m = absurd (n refl)
  import_put (suc p) n l g m = import_kept f s t k p b l q g (subst (λ (a : Home). NumberedIs f s a (suc p) (Some g)) (sym e) m)

-- its places fit two bytes
pub import_small : (f s : Bytes) (h : Home) (p : ℕ) → (p ≡ 0 → ⊥) → HomeThere f s h → length s ≤ 65535 → SmallHome h → (g : Home) → NumberedIs f s h p
    (Some g) → SmallHome g
import_small f s h zero n t z y g m = absurd (n refl)
import_small f s h (suc p) n t z y g m =
    let u = m t.0 t.1 t.2 t.3 t.4 t.5 in
    let w = home_bounds f s t.0 t.1 t.2 g u.0 u.2 in
    record { from = omega (arith, w.0, w.1); to = omega (arith, w.1); before = omega (arith, u.3, y.before) }

-- slots of zeros know nothing
pub slots_none : (f s : Bytes) (t : List ℕ) → slots_length ≤ length t → ((j : ℕ) → j < slots_length → get_or t j 0 ≡ 0) → SlotsTrue f s t
slots_none f s t z e = record {
  size = z;
  slot = λ k b. record {
    places = record { room = omega arith; told = λ c l n. absurd (omega (arith, e (slot_length * k + c) (omega arith))) };
    imports = λ p l n. absurd (n (e (slot_length * k + 32 + 3 * suc p + 1) (omega arith)));
  };
}
