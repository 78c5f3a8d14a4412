-- The characters before the first of a kind, and the parts between them. Assumes nothing.
use Prim.Native.Nat.{ℕ, suc, ◌+◌, ◌≤◌, ◌<◌}
use native.Mathlib.Omega.{arith}
use mathlib.Core.Path.{◌≡◌, refl, ap}
use mathlib.Core.Bool.{Bool, true, false}
use mathlib.Core.List.{List, [], ◌∷◌}
use lib.Dec.{eqb}
use lib.ListN.{length, take, drop}
use borrow.Author.Tests.{eq-eqb, ne_eqb}
use Rattle.rules.specs.Bytes.{Bytes, pick}
use Rattle.lines.specs.Line.{before, parts, on_first}

-- there are no more of them than characters
pub before_bound : (b : ℕ) (cs : Bytes) → length (before b cs) ≤ length cs
before_bound b [] = omega arith
before_bound b (c ∷ cs) = go (eqb c b) (before_bound b cs)
  where
    go : (t : Bool) → length (before b cs) ≤ length cs → length (pick t [] (c ∷ before b cs)) ≤ suc (length cs)
    go true h = omega arith
    go false h = omega arith

-- where there is no b, the one part is all
pub parts_whole : (b : ℕ) (cs : Bytes) → length (before b cs) ≡ length cs → parts b cs ≡ cs ∷ []
parts_whole b [] e = refl
parts_whole b (c ∷ cs) e = go (eqb c b) (parts_whole b cs) e
  where
    go : (t : Bool) → (length (before b cs) ≡ length cs → parts b cs ≡ cs ∷ []) → length (pick t [] (c ∷ before b cs)) ≡ suc (length cs) → pick t
        ([] ∷ parts b cs) (on_first c (parts b cs)) ≡ (c ∷ cs) ∷ []
    go true rec h = absurd (omega arith)
    go false rec h = rw (rec (omega arith))

-- where there is one, the part before it and those after it
pub parts_next : (b : ℕ) (cs : Bytes) → length (before b cs) < length cs → parts b cs ≡ before b cs ∷ parts b (drop (suc (length (before b cs))) cs)
parts_next b [] h = absurd (omega arith)
parts_next b (c ∷ cs) h = go (eqb c b) (parts_next b cs) h
  where
    go : (t : Bool) → (length (before b cs) < length cs → parts b cs ≡ before b cs ∷ parts b (drop (suc (length (before b cs))) cs)) → length
        (pick t [] (c ∷ before b cs)) < suc (length cs) → pick t ([] ∷ parts b cs) (on_first c (parts b cs)) ≡ pick t [] (c ∷ before b cs) ∷ parts b
        (drop (suc (length (pick t [] (c ∷ before b cs)))) (c ∷ cs))
    go true rec k = refl
    go false rec k = rw (rec (omega arith))

-- the first part is what stands before the first b
pub parts_first : (b : ℕ) (cs : Bytes) → (ws : List Bytes) × (parts b cs ≡ before b cs ∷ ws)
parts_first b [] = ([], refl)
parts_first b (c ∷ cs) = go (eqb c b) (parts_first b cs)
  where
    go : (t : Bool) → (ws : List Bytes) × (parts b cs ≡ before b cs ∷ ws)
        → (ws : List Bytes) × (pick t ([] ∷ parts b cs) (on_first c (parts b cs)) ≡ pick t [] (c ∷ before b cs) ∷ ws)
    go true r = (parts b cs, refl)
    go false r = (r.0, rw r.1)

-- they are the first characters
pub before_take : (b : ℕ) (cs : Bytes) → before b cs ≡ take (length (before b cs)) cs
before_take b [] = refl
before_take b (c ∷ cs) = go (eqb c b) (before_take b cs)
  where
    go : (t : Bool) → before b cs ≡ take (length (before b cs)) cs → pick t [] (c ∷ before b cs) ≡ take (length (pick t [] (c ∷ before b cs))) (c ∷ cs)
    go true rec = refl
    go false rec = ap (λ (x : Bytes). c ∷ x) rec

-- a b ends them
pub before_stop : (b c : ℕ) (cs : Bytes) → c ≡ b → length (before b (c ∷ cs)) ≡ 0
before_stop b c cs e = rw (eq-eqb c b e)

-- a character that is not b adds one
pub before_step : (b c : ℕ) (cs : Bytes) → (c ≡ b → ⊥) → length (before b (c ∷ cs)) ≡ length (before b cs) + 1
before_step b c cs e = rw (ne_eqb c b e) (omega arith)
