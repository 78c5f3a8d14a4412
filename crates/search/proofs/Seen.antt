-- The bits of classes seen: where one is set there is nothing to be found from the class on. Assumes nothing.
use Prim.Native.Nat.{ℕ, ◌+◌, ◌*◌, ◌/◌, ◌≤◌, ◌<◌}
use native.Mathlib.Omega.{arith}
use mathlib.Core.Path.{◌≡◌, sym, ◌∙◌, subst}
use mathlib.Core.Bool.{true, false, ◌||◌}
use mathlib.Core.Logic.{◌⊎◌, inl, inr}
use mathlib.Core.List.{List}
use mathlib.Core.Option.{none, some}
use lib.Dec.{eqb}
use lib.ListN.{length}
use borrow.Author.Tests.{ne_eqb}
use Rattle.rules.specs.Bytes.{Bytes, at}
use Rattle.rules.specs.Package.{Class}
use Rattle.rules.specs.Store.{Entry, first_entry, store_limits}
use Rattle.rules.specs.Classes.{Installed, installed}
use Rattle.rules.proofs.Lists.{same_or_not}
use Rattle.bits.specs.Bits.{bit_at, with_bit}
use Rattle.store.proofs.Stand.{entries_to}
use Rattle.homes.specs.Homes.{HomeIs}
use Rattle.homes.specs.declared.Home.{Home}
use Rattle.classes.specs.Say.{Judged}
use Rattle.classes.specs.Keys.{key, seen_length}
use Rattle.classes.specs.declared.ClassSpot.{ClassSpot}
use Rattle.classes.proofs.Keys.{key_small, key_one}
use Rattle.search.specs.Walk.{SpotThere, whole, MeantIs, SeenNone}

-- no class was seen
pub seen_none : (f s : Bytes) (end n : ℕ) (seen : Bytes) → seen_length s ≤ length seen → ((j : ℕ) → j / 8 < end * 3 / 88 + 5 → bit_at seen j ≡ false) →
    SeenNone f s end n seen
seen_none f s end n seen z w = record {
  room = z;
  hold = λ c e es self j x o k q.
      let i = key_small f s end es self j.parents.imported.setting c.home x o c.number k q in
      absurd (true_false (sym e ∙ w (key c.home c.number) (omega (arith, i))));
}
  where
    true_false : true ≡ false → ⊥
    true_false e = let y : ◌≡◌ {A = ℕ} 0 1 = cc in omega arith

module _ (f s : Bytes) (end : ℕ) (c : ClassSpot) (t : SpotThere f s end c) where
  key_low : key c.home c.number ≤ end * 3 / 11 + 31
  key_low = key_small f s end t.entries t.self t.asked.parents.imported.setting c.home t.pack t.home c.number t.class t.is

  -- the entries end inside the store
  pub end_inside : end ≤ length s
  end_inside = (entries_to s (first_entry s) t.entries end t.asked.parents.imported.setting.stand).1

  pub key_inside : (l : ℕ) → seen_length s ≤ l → key c.home c.number / 8 < l
  key_inside l z = omega (arith, key_low, end_inside)

  -- one more
  pub seen_more : (n : ℕ) (seen : Bytes) → SeenNone f s end n seen → MeantIs f s end c n whole none → (new : Bytes) → length new ≡ length seen → (b : ℕ) →
      b ≡ key c.home c.number → ((j : ℕ) → bit_at new j ≡ with_bit (bit_at seen) b j) → SeenNone f s end n new
  unfolding with_bit
  seen_more n seen m p new z b eb w = record {
    room = omega (arith, m.room);
    hold = λ d e es self j x o k q. hold d (sym (w (key d.home d.number)) ∙ e) es self j x o k q (same_or_not (key d.home d.number) b);
  }
    where
      hold : (d : ClassSpot) → (eqb (key d.home d.number) b || bit_at seen (key d.home d.number)) ≡ true → (es : List Entry) (self : Installed) →
          Judged f s end es self → (x : Installed) → HomeIs f s end es self d.home x → (k : Class) → at x.pack.classes d.number ≡ some k →
          (key d.home d.number ≡ b) ⊎ (key d.home d.number ≡ b → ⊥) →
          whole (installed (store_limits s) es) (store_limits s).depth n (record { home = x; number = d.number }) ≡ none
      hold d e es self j x o k q (inr v) =
          let u : eqb (key d.home d.number) b ≡ false = ne_eqb (key d.home d.number) b v in
          m.hold d (rw u at e) es self j x o k q
      hold d e es self j x o k q (inl v) =
          let y = key_one f s end es t.entries self t.self j.parents.imported.setting t.asked.parents.imported.setting d.home c.home x
          t.pack o t.home d.number c.number k t.class q t.is (v ∙ eb) in
          subst (λ (i : ℕ). whole (installed (store_limits s) es) (store_limits s).depth n (record { home = x; number = i }) ≡ none) (sym y.1)
          (p es self j x (subst (λ (a : Home). HomeIs f s end es self a x) y.0 o) k (subst (λ (i : ℕ). at x.pack.classes i ≡ some k) y.1 q))
