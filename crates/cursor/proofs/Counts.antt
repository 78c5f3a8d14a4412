-- Counted lists at places: the start, a turn and the end of a loop over any reader. Assumes nothing.
use Prim.Native.Nat.{ℕ, zero, suc, ◌≤◌, ◌<◌}
use native.Mathlib.Omega.{arith}
use mathlib.Core.Path.{◌≡◌, refl, sym, ◌∙◌, ap, subst}
use mathlib.Core.Bool.{Bool, true, false}
use mathlib.Core.List.{List, [], ◌∷◌}
use mathlib.Core.Option.{Option, none, some, some-injective}
use lib.Dec.{leb}
use lib.ListN.{length, drop}
use borrow.Author.Tests.{le-leb, lt-leb}
use Rattle.rules.specs.Bytes.{Bytes, Reader, ◌>>=◌, ret, when, many, counted}
use Rattle.rules.proofs.Tests.{none_some, and_then_is}
use Rattle.cursor.specs.Says.{Says, says, Stops, stops, itself}
use Rattle.cursor.proofs.Steps.{Leads, said, stop_none, stopped, value_of, then_none, then_leads, when_leads, when_none, made_leads}

-- a loop over a list that `whole` reads at place i: `left` values are still to be read at place c
module _ {A : Type 0} (r : Reader A) {s : Bytes} where
  -- the start: all of them are left
  pub loop_start : (n left : ℕ) {c : ℕ} → left ≡ n → Leads (many n r) (many left r) s c c
  loop_start n left {c} e o p = subst (λ (m : ℕ). Stops (many m r) s c o) e p

  -- no more values
  pub none_left : (left c : ℕ) → left ≤ 0 → c ≤ length s → Stops (many left r) s c (some c)
  none_left zero c h k = stops refl k
  none_left (suc n) c h k = absurd (omega arith)

  -- the next one does not read
  pub next_none : (left c : ℕ) → 0 < left → Stops r s c none → Stops (many left r) s c none
  next_none zero c h p = absurd (omega arith)
  next_none (suc n) c h p = then_none (λ x. many n r >>= λ xs. ret (x ∷ xs)) p

  -- the next one reads: the rest decides
  pub next_leads : (left rest c d : ℕ) → left ≡ suc rest → Stops r s c (some d) → Leads (many left r) (many rest r) s c d
  next_leads left rest c d e p o q =
      let x = value_of p in
      let all : Stops (many (suc rest) r) s c o =
      then_leads (λ y. many rest r >>= λ ys. ret (y ∷ ys)) x.1 o (made_leads (many rest r) (λ ys. x.0 ∷ ys) o q) in
      subst (λ (m : ℕ). Stops (many m r) s c o) (sym e) all

  module _ {B : Type 0} {whole : Reader B} {i c : ℕ} (left : ℕ) (leads : Leads whole (many left r) s i c) where
    -- a turn
    pub loop_next : {d : ℕ} (rest : ℕ) → left ≡ suc rest → Stops r s c (some d) → Leads whole (many rest r) s i d
    loop_next {d} rest e p o q = leads o (next_leads left rest c d e p o q)

    -- a turn that fails
    pub loop_none : 0 < left → Stops r s c none → Stops whole s i none
    loop_none h p = leads none (next_none left c h p)

    -- the end
    pub loop_done : left ≤ 0 → c ≤ length s → Stops whole s i (some c)
    loop_done h k = leads (some c) (none_left left c h k)

-- so many values are so many
pub many_length : {A : Type 0} (r : Reader A) (n : ℕ) (bs : Bytes) (xs : List A) (rest : Bytes) → many n r bs ≡ some (xs, rest) → length xs ≡ n
many_length {A} r zero bs xs rest e =
    let z : ◌≡◌ {A = List A × Bytes} ([], bs) (xs, rest) = some-injective _ _ e in
    ap (λ (x : List A × Bytes). length x.0) (sym z)
many_length {A} r (suc n) bs xs rest e =
    let x = and_then_is (r bs) (λ x. (many n r >>= λ xs. ret (x.0 ∷ xs)) x.1) (xs, rest) e in
    let y = and_then_is (many n r x.0.1) (λ y. ret (x.0.0 ∷ y.0) y.1) (xs, rest) x.2 in
    done x.0.0 y.0.0 y.0.1 (many_length r n x.0.1 y.0.0 y.0.1 y.1) y.2
  where
    done : (a : A) (ys : List A) (r' : Bytes) → length ys ≡ n → ◌≡◌ {A = Option (List A × Bytes)} (some (a ∷ ys, r')) (some (xs, rest)) → length xs ≡ suc n
    done a ys r' h q =
        let z : ◌≡◌ {A = List A × Bytes} (a ∷ ys, r') (xs, rest) = some-injective _ _ q in
        ap (λ (x : List A × Bytes). length x.0) (sym z) ∙ ap suc h

-- a count, read by `count`, and that many values
abbrev list : {A : Type 0} → ℕ → Reader A → ℕ → Reader (List A)
list most r n = when (leb n most) (many n r)

module _ {A : Type 0} (most : ℕ) (r : Reader A) {count : Reader ℕ} {s : Bytes} {i : ℕ} where
  -- the count does not read
  pub count_none : Says itself count s i none → Stops (counted most count r) s i none
  count_none h = then_none (list most r) (stop_none h)

  module _ {n j : ℕ} (h : Says itself count s i (some (n, j))) where
    -- the count is too great
    pub count_many : most < n → Stops (counted most count r) s i none
    count_many k = then_leads (list most r) h none (when_none (many n r) (lt-leb n most k))

    -- the values decide
    pub count_leads : n ≤ most → Leads (counted most count r) (many n r) s i j
    count_leads k o p = then_leads (list most r) h o (when_leads (many n r) (le-leb n most k) o p)

    -- the count is the list's length
    pub count_says : {e : ℕ} → Stops (counted most count r) s i (some e) → Says length (counted most count r) s i (some (n, e))
    count_says {e} p = let x = stopped p in says x.1 (sized x.0 (drop e s) x.1) x.2
      where
        sized : (xs : List A) (rest : Bytes) → counted most count r (drop i s) ≡ some (xs, rest) → length xs ≡ n
        sized xs rest q =
            let x = said h in
            let q' : list most r n (drop j s) ≡ some (xs, rest) = rw (x.1, x.2) at q in
            many_length r n (drop j s) xs rest (inner (leb n most) q')
          where
            inner : (b : Bool) → when b (many n r) (drop j s) ≡ some (xs, rest) → many n r (drop j s) ≡ some (xs, rest)
            inner true q = q
            inner false q = absurd (none_some q)
