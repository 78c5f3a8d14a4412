-- Gathering the methods of a part of a chain: start, turn and end of the loop over its links. Assumes nothing.
use Prim.Native.Nat.{ℕ, ◌+◌, ◌-◌, ◌*◌, ◌≤◌, ◌<◌}
use native.Mathlib.Omega.{arith}
use mathlib.Core.Path.{◌≡◌, sym, ◌∙◌, ap, subst}
use mathlib.Core.Bool.{false}
use mathlib.Core.List.{List}
use mathlib.Core.Logic.{inl, inr, ⊎_elim}
use lib.Dec.{eqb}
use lib.ListN.{length}
use borrow.Author.Tests.{ne_eqb}
use Rattle.std.specs.Prelude.{Option as Optional}
use Rattle.classes.specs.declared.ClassSpot.{ClassSpot}
use Rattle.rules.specs.Bytes.{Bytes}
use Rattle.store.specs.Entries.{part}
use Rattle.store.proofs.Parts.{part_length}
use Rattle.homes.specs.Homes.{file_of}
use Rattle.homes.specs.declared.Home.{Home}
use Rattle.classes.specs.Say.{ClassThere}
use Rattle.methods.specs.Table.{name_at, Has, Nameless, Sorted}
use Rattle.methods.proofs.Search.{less_or}
use Rattle.chains.specs.Say.{runs_at, FirstIs}
use Rattle.chains.specs.Chain.{most_links, link_home, Steps, Part, Same}
use Rattle.chains.specs.Names.{text_of, first_link, HomeFor, Above}
use Rattle.chains.specs.declared.MethodSpot.{MethodSpot}

-- the class at link i: its home is that of the first link which does not lie behind its file
pub record Reach (l : List ℕ) (first i : ℕ) (h : Home) : Type 0 where
  pub link : ℕ
  pub low : first ≤ link
  pub high : link ≤ i
  pub is : link_home l link ≡ h
  pub near : (j : ℕ) → first ≤ j → j < link → (0 < h.from) × (h.to ≤ (link_home l j).from)
  pub under : (j : ℕ) → first ≤ j → j < i + 1 → h.from ≤ (link_home l j).from

-- what is left of a part, the names so far ending at e: its classes from number i on, or nothing
pub data Left (f s : Bytes) (l m : List ℕ) (h : Home) (n : ℕ) (stop : Optional ClassSpot) (top a : ℕ) : ℕ → ℕ → Type 0 where
  classes_left : {i e : ℕ} (hc : Home) (nc : ℕ) → Part f s l hc nc i top stop → Reach l (first_link h) i hc → text_of f s hc ≡ text_of f s h → ClassThere f s
      hc nc →
      ((x : ℕ) → Nameless (text_of f s h) m a e x → (r : Optional MethodSpot) → FirstIs f s hc nc x r → FirstIs f s h n x r) → Left f s l m h n stop top a i e
  over : {i e : ℕ} → i ≡ top → ((x : ℕ) → Nameless (text_of f s h) m a e x → (r : Optional MethodSpot) → Above f s stop x r → FirstIs f s h n x r) → Left f s l m h n
      stop top a i e

pub record State (f s : Bytes) (l m : List ℕ) (h : Home) (n : ℕ) (stop : Optional ClassSpot) (top a i e : ℕ) : Type 0 where
  pub hit : (q : ℕ) → Has m a e q → (g : Home) × HomeFor l (first_link h) q g × FirstIs f s h n (name_at (text_of f s h) q) (runs_at g (q - g.from))
  pub left : Left f s l m h n stop top a i e

pub record Collecting (f s : Bytes) (l m : List ℕ) (h : Home) (n top a i e : ℕ) : Type 0 where
  pub size : length m ≡ length l
  pub below : Same l m 0 a
  pub start : first_link h ≤ i
  pub end : e ≤ a + 64 * (i - first_link h)
  pub sorted : Sorted (text_of f s h) m a e
  pub state : (stop : Optional ClassSpot) → Part f s l h n (first_link h) top stop → State f s l m h n stop top a i e

module _ (f s : Bytes) where
  -- both homes are that of the file being judged, or both lie in the store
  pub text_steps : (h g : Home) → g.from ≤ g.to → Steps h g → text_of f s g ≡ text_of f s h
  text_steps h g b (inl e) = ap (text_of f s) e
  text_steps h g b (inr u) =
      let one : eqb g.from 0 ≡ false = ne_eqb g.from 0 (λ z. omega (arith, u.0)) in
      let two : eqb h.from 0 ≡ false = ne_eqb h.from 0 (λ z. omega (arith, u.0, u.1)) in
      rw (one, two)

  pub reach_steps : (l : List ℕ) (first i : ℕ) (h g : Home) → first ≤ i → link_home l (i + 1) ≡ g → h.from ≤ h.to → g.from ≤ g.to → Reach l first i h →
      Steps h g → Reach l first (i + 1) g
  reach_steps l first i h g low e b o r (inl z) = record {
    link = r.link;
    low = r.low;
    high = omega (arith, r.high);
    is = r.is ∙ sym z;
    near = λ j u v. subst (λ (x : Home). (0 < x.from) × (x.to ≤ (link_home l j).from)) (sym z) (r.near j u v);
    under = λ j u v. ⊎_elim (λ w. subst (λ (x : Home). x.from ≤ (link_home l j).from) (sym z) (r.under j u w)) (λ w. here j v w) (less_or j (i + 1));
  }
    where
      here : (j : ℕ) → j < i + 1 + 1 → i + 1 ≤ j → g.from ≤ (link_home l j).from
      here j v w = let y : j ≡ i + 1 = omega arith in let x : (link_home l j).from ≡ g.from = ap (λ (k : ℕ). (link_home l k).from) y ∙ ap
          (λ (a : Home). a.from) e in omega arith
  reach_steps l first i h g low e b o r (inr z) = record {
    link = i + 1;
    low = omega arith;
    high = omega arith;
    is = e;
    near = λ j u v. (z.0, omega (arith, z.1, r.under j u v));
    under = λ j u v. ⊎_elim (λ w. omega (arith, o, z.1, r.under j u w)) (λ w. here j v w) (less_or j (i + 1));
  }
    where
      here : (j : ℕ) → j < i + 1 + 1 → i + 1 ≤ j → g.from ≤ (link_home l j).from
      here j v w = let y : j ≡ i + 1 = omega arith in let x : (link_home l j).from ≡ g.from = ap (λ (k : ℕ). (link_home l k).from) y ∙ ap
          (λ (a : Home). a.from) e in omega arith

  -- a place of a file has the home of the file
  pub home_for : (l : List ℕ) (first i : ℕ) (h : Home) → (h.from ≤ h.to) × (h.to ≤ length s) → i < first + most_links → Reach l first i h → (x : ℕ) →
      x < length (file_of f s h) → HomeFor l first (h.from + x) h
  home_for l first i h b small r x less = record {
    link = r.link;
    from = r.low;
    small = omega (arith, r.high);
    is = r.is;
    inside = omega arith;
    behind = λ j u v. behind j (r.near j u v);
  }
    where
      behind : (j : ℕ) → (0 < h.from) × (h.to ≤ (link_home l j).from) → h.from + x < (link_home l j).from
      behind j w =
          let z : eqb h.from 0 ≡ false = ne_eqb h.from 0 (λ y. omega (arith, w.0)) in
          let y : x < length (part s h.from h.to) = rw z at less in
          omega (arith, w.1, y, part_length s h.from h.to b.1)
