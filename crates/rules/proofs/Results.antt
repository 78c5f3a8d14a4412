-- The results besides number and bytes: a refused load's figure is 0, an accepted one's the depth of its deepest own class, a refused
-- query says no. Assumes nothing.
use Prim.Native.Nat.{ℕ, zero, suc, ◌≤◌}
use native.Mathlib.Omega.{arith}
use mathlib.Core.Path.{◌≡◌, refl, sym, ◌∙◌, subst}
use mathlib.Core.Bool.{false}
use mathlib.Core.List.{List}
use mathlib.Core.Option.{some, some-injective}
use lib.ListN.{length}
use Rattle.rules.specs.Bytes.{Bytes, Aid}
use Rattle.rules.specs.Package.{Package, read_file}
use Rattle.rules.specs.Store.{store_opening, store_limits}
use Rattle.rules.specs.Classes.{Installed, installed}
use Rattle.rules.specs.Questions.{q1_size}
use Rattle.rules.specs.Operations.{sound, entries, load, if_done, number, deepest, own_deepest, depth_figure, query_number, query_yes}
use Rattle.rules.specs.Unbounded.{Deepest}
use Rattle.rules.proofs.Asked.{first_yes, LoadYes, load_yes, parents_yes, deepest_limit}
use Rattle.rules.proofs.Depths.{deepest_is, deepest_one}

pub if_refused : {A : Type 0} (k : ℕ) (a b : A) → (k ≡ 0 → ⊥) → if_done k a b ≡ b
if_refused zero a b h = absurd (h refl)
if_refused (suc k) a b h = refl

module _ (s : Bytes) (d : Aid) (f : Bytes) where
  -- a refused load's figure
  pub figure_refused : (number s (load d f) ≡ 0 → ⊥) → depth_figure s d f ≡ 0
  unfolding depth_figure
  figure_refused h = if_refused (number s (load d f)) _ 0 h

  -- an accepted load's file reads, and all its questions are answered yes
  accepted_yes : number s (load d f) ≡ 0 → (p : Package) × LoadYes (store_opening s) (length s) (entries s) d f p
  unfolding number
  accepted_yes z =
      let a = first_yes 1 (q1_size s) _ tt z in
      let b = first_yes 2 (sound s) _ tt a.1 in
      load_yes (store_opening s) (length s) (entries s) d f b.1

  -- its figure is the depth of the deepest own class
  pub figure_deepest : number s (load d f) ≡ 0 → (p : Package) × (read_file (store_limits s) f ≡ some p)
      × Deepest (installed (store_limits s) (entries s)) (record { domain = d; pack = p }) (depth_figure s d f)
  unfolding depth_figure deepest
  figure_deepest z =
      let y = accepted_yes z in
      let is : List Installed = installed (store_limits s) (entries s) in
      let self : Installed = record { domain = d; pack = y.0 } in
      (y.0, y.1.q11, rw (z, y.1.q11) (deepest_is (store_limits s) is self (parents_yes (store_limits s) is self y.1.inside.q14).depths))

  -- and no other number is
  pub figure_exactly : (p : Package) → number s (load d f) ≡ 0 → read_file (store_limits s) f ≡ some p → (n : ℕ) →
      (n ≡ depth_figure s d f → Deepest (installed (store_limits s) (entries s)) (record { domain = d; pack = p }) n)
      × (Deepest (installed (store_limits s) (entries s)) (record { domain = d; pack = p }) n → n ≡ depth_figure s d f)
  figure_exactly p z r n =
      let y = figure_deepest z in
      let q : y.0 ≡ p = some-injective _ _ (sym y.1 ∙ r) in
      let is : List Installed = installed (store_limits s) (entries s) in
      let here = subst (λ (x : Package). Deepest is (record { domain = d; pack = x }) (depth_figure s d f)) q y.2 in
      (λ e. subst (Deepest is (record { domain = d; pack = p })) (sym e) here, λ h. deepest_one is (record { domain = d; pack = p }) n _ h here)

  -- no figure is above the store's limit
  pub figure_within : depth_figure s d f ≤ (store_limits s).depth
  unfolding depth_figure
  figure_within = go (number s (load d f)) refl
    where
      go : (n : ℕ) → number s (load d f) ≡ n → if_done n (own_deepest s d f) 0 ≤ (store_limits s).depth
      go zero e = let y = accepted_yes e in rw y.1.q11 (deepest_limit (store_opening s) (length s) (entries s) d f y.0 y.1)
      go (suc n) e = omega arith

-- a refused query
pub refused_query : (s : Bytes) (d a : Aid) (c n : ℕ) → (query_number s d a c n ≡ 0 → ⊥) → query_yes s d a c n ≡ false
unfolding query_yes
refused_query s d a c n h = if_refused (query_number s d a c n) _ false h
