-- A list of questions and its number: which numbers it can be, and what it says of the answers. Assumes nothing.
use Prim.Native.Nat.{ℕ, ◌<◌}
use native.Mathlib.Omega.{arith}
use mathlib.Core.Path.{◌≡◌, refl, ap}
use mathlib.Core.Bool.{Bool, true, false, ◌&&◌, ◌||◌}
use mathlib.Core.List.{List, [], ◌∷◌}
use lib.Dec.{T, ltb, eqb, ltb→lt, eqb→eq}
use Rattle.rules.specs.Bytes.{pick, any, all}
use Rattle.rules.specs.Operations.{Question, first_no}
use Rattle.rules.proofs.Tests.{and_l, and_r, of_true}
use Rattle.rules.specs.Demands.{with_done, all_yes, FirstNo}

-- each question's number is one of these, none of which is 0
abbrev pub numberedBy : List ℕ → List Question → Bool
numberedBy ns qs = all (λ q. any (eqb q.0) ns) qs

abbrev pub positive : List ℕ → Bool
positive ns = all (ltb 0) ns

listed-positive : (k : ℕ) (ns : List ℕ) → T (positive ns) → T (any (eqb k) ns) → 0 < k
listed-positive k [] p h = absurd h
listed-positive k (n ∷ ns) p h = go (eqb k n) refl h (listed-positive k ns (and_r (ltb 0 n) (positive ns) p))
  where
    go : (b : Bool) → eqb k n ≡ b → T (b || any (eqb k) ns) → (T (any (eqb k) ns) → 0 < k) → 0 < k
    go true e t rec = let z : k ≡ n = eqb→eq k n (of_true e) in omega (arith, ltb→lt 0 n (and_l (ltb 0 n) (positive ns) p))
    go false e t rec = rec t

module _ (ns : List ℕ) where
  -- the number of the first no is one of the numbers, or 0
  pub first-listed : (qs : List Question) → T (numberedBy ns qs) → T (any (eqb (first_no qs)) (with_done ns))
  first-listed [] h = tt
  first-listed (q ∷ qs) h = go q.1 (and_l (any (eqb q.0) ns) (numberedBy ns qs) h) (first-listed qs (and_r (any (eqb q.0) ns) (numberedBy ns qs) h))
    where
      or_r : (a b : Bool) → T b → T (a || b)
      or_r true b t = tt
      or_r false b t = t

      go : (b : Bool) → T (any (eqb q.0) ns) → T (any (eqb (first_no qs)) (with_done ns)) → T (any (eqb (pick b (first_no qs) q.0)) (with_done ns))
      go true a r = r
      go false a r = or_r (eqb q.0 0) (any (eqb q.0) ns) a

  -- it is 0 only where all are answered yes
  pub zero-yes : (qs : List Question) → T (positive ns) → T (numberedBy ns qs) → first_no qs ≡ 0 → T (all_yes qs)
  zero-yes [] p n e = tt
  zero-yes (q ∷ qs) p n e = go q.1 e (zero-yes qs p (and_r (any (eqb q.0) ns) (numberedBy ns qs) n))
    where
      go : (b : Bool) → pick b (first_no qs) q.0 ≡ 0 → (first_no qs ≡ 0 → T (all_yes qs)) → T (b && all_yes qs)
      go true z rec = rec z
      go false z rec = absurd (omega (arith, listed-positive q.0 ns p (and_l (any (eqb q.0) ns) (numberedBy ns qs) n)))

-- and it is 0 there
pub yes-zero : (qs : List Question) → T (all_yes qs) → first_no qs ≡ 0
yes-zero [] h = refl
yes-zero (q ∷ qs) h = go q.1 h (yes-zero qs)
  where
    go : (b : Bool) → T (b && all_yes qs) → (T (all_yes qs) → first_no qs ≡ 0) → pick b (first_no qs) q.0 ≡ 0
    go true t rec = rec t
    go false t rec = absurd t

-- the first no
pub first-no : (qs : List Question) → (first_no qs ≡ 0 → ⊥) → FirstNo (first_no qs) qs
first-no [] h = absurd (h refl)
first-no (q ∷ qs) h = go q.1 refl h (first-no qs)
  where
    go : (b : Bool) → q.1 ≡ b → (pick b (first_no qs) q.0 ≡ 0 → ⊥) → ((first_no qs ≡ 0 → ⊥) → FirstNo (first_no qs) qs) →
        FirstNo (pick b (first_no qs) q.0) (q ∷ qs)
    go true e h rec =
        let r = rec h in
        record { before = q ∷ r.before; behind = r.behind; are = ap (λ (l : List Question). q ∷ l) r.are; yes = rw e r.yes }
    go false e h rec = record { before = []; behind = qs; are = ap (λ (b : Bool). (q.0, b) ∷ qs) e; yes = tt }
