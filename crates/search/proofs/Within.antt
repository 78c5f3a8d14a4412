-- Every class at hand has a depth within the limit: an own class by question 14, a stored one by soundness. Assumes nothing.
use Prim.Native.Nat.{ℕ, suc, ◌≤◌}
use mathlib.Core.Path.{◌≡◌, refl, sym, subst}
use mathlib.Core.List.{List, ◌∷◌, ◌++◌, Memᴰ}
use mathlib.Core.Option.{some}
use lib.Dec.{leb→le}
use Rattle.rules.specs.Bytes.{Bytes, at}
use Rattle.rules.specs.Package.{Class}
use Rattle.rules.specs.Store.{Entry, loaded, store_limits, store_opening}
use Rattle.rules.specs.Classes.{Installed, installed_by, installed, depth_up_to}
use Rattle.rules.specs.Questions.{depth_within}
use Rattle.rules.specs.Operations.{sound_entries}
use Rattle.rules.proofs.Tests.{all_from_zero}
use Rattle.rules.proofs.Bounds.{flat_mem}
use Rattle.rules.proofs.Asked.{parents_yes}
use Rattle.rules.proofs.Sound.{Sane, sound_sane}
use Rattle.store.specs.Entries.{part}
use Rattle.homes.specs.Homes.{Stored, HomeIs}
use Rattle.homes.specs.Homes as homes
use Rattle.homes.specs.declared.Home.{Home}
use Rattle.classes.specs.Say.{Judged}
use Rattle.classes.proofs.Places.{own_depth}

module _ (f s : Bytes) (end : ℕ) (es : List Entry) (self : Installed) (j : Judged f s end es self) where
  -- the package of an entry is among those installed
  stored_installed : (h : Home) (x : Installed) → Stored s es h x → Memᴰ x (installed (store_limits s) es)
  stored_installed h x t =
      let e : Entry = loaded x.domain (part s h.from h.to) in
      let one : Memᴰ x (installed_by (store_limits s) e) = rw t.reads (mathlib.Core.List.Memᴰ.head refl) in
      subst (λ (zs : List Entry). Memᴰ x (installed (store_limits s) zs)) (sym t.are)
      (flat_mem (installed_by (store_limits s)) e x (t.pre ++ e ∷ t.post) (mathlib.Core.List.Memᴰ.append_right t.pre (mathlib.Core.List.Memᴰ.head refl)) one)

  sane : Sane (store_limits s) (installed (store_limits s) es)
  unfolding sound_entries
  sane = let g = j.parents.imported.setting in sound_sane (store_opening s) g.size es g.sound

  pub class_depth : (h : Home) (x : Installed) → HomeIs f s end es self h x → (n : ℕ) (k : Class) → at x.pack.classes n ≡ some k →
      depth_up_to (installed (store_limits s) es) (suc (store_limits s).depth) (record { home = x; number = n }) ≤ (store_limits s).depth
  class_depth _ _ homes.own n k e = own_depth f s end n es self j k e
  class_depth h x (homes.stored t) n k e =
      let y = parents_yes (store_limits s) (installed (store_limits s) es) x (sane.each x (stored_installed h x t)).q14 in
      leb→le (depth_up_to (installed (store_limits s) es) (suc (store_limits s).depth) (record { home = x; number = n })) (store_limits s).depth
      (all_from_zero (λ i k. depth_within (store_limits s) (installed (store_limits s) es) x i) x.pack.classes n k y.depths e)
