-- Readers one after the other, at places: what is told of the parts is told of the whole. Assumes nothing.
use Prim.Native.Nat.{ℕ, ◌≤◌}
use mathlib.Core.Path.{◌≡◌, refl}
use mathlib.Core.Bool.{Bool, true, false}
use mathlib.Core.Option.{Option, none, some}
use lib.ListN.{length, drop}
use Rattle.rules.specs.Bytes.{Bytes, Reader, ◌>>=◌, ret, when}
use Rattle.rules.proofs.Tests.{of_true}
use Rattle.cursor.specs.Says.{Says, says, says_none, Stops, stops, stops_none, itself}

-- whatever r' says at place j, r says at place i
abbrev pub Leads : {A B : Type 0} → Reader A → Reader B → Bytes → ℕ → ℕ → Type 0
Leads r r' s i j = (o : Option ℕ) → Stops r' s j o → Stops r s i o

-- what is told with a value
module _ {A B : Type 0} {f : A → B} {r : Reader A} {s : Bytes} {i : ℕ} where
  pub said : {b : B} {j : ℕ} → Says f r s i (some (b, j)) → (a : A) × (r (drop i s) ≡ some (a, drop j s)) × (f a ≡ b) × (j ≤ length s)
  said (says {a} e v h) = (a, e, v, h)

  pub said_inside : {b : B} {j : ℕ} → Says f r s i (some (b, j)) → j ≤ length s
  said_inside (says e v h) = h

  pub stop_of : {b : B} {j : ℕ} → Says f r s i (some (b, j)) → Stops r s i (some j)
  stop_of (says e v h) = stops e h

  pub stop_none : Says f r s i none → Stops r s i none
  stop_none (says_none e) = stops_none e

  pub none_said : Stops r s i none → Says f r s i none
  none_said (stops_none e) = says_none e

-- what is told without
module _ {A : Type 0} {r : Reader A} {s : Bytes} {i : ℕ} where
  pub stopped : {j : ℕ} → Stops r s i (some j) → (a : A) × (r (drop i s) ≡ some (a, drop j s)) × (j ≤ length s)
  stopped (stops {a} e h) = (a, e, h)

  pub value_of : {j : ℕ} → Stops r s i (some j) → (a : A) × Says itself r s i (some (a, j))
  value_of (stops {a} e h) = (a, says e refl h)

  pub stopped_none : Stops r s i none → r (drop i s) ≡ none
  stopped_none (stops_none e) = e

  pub stopped_inside : {j : ℕ} → Stops r s i (some j) → j ≤ length s
  stopped_inside (stops e h) = h

-- one reader and then another
module _ {A B : Type 0} {r : Reader A} (k : A → Reader B) {s : Bytes} {i : ℕ} where
  pub then_none : Stops r s i none → Stops (r >>= k) s i none
  then_none (stops_none e) = stops_none (rw e)

  -- with the value told
  pub then_leads : {j : ℕ} {a : A} → Says itself r s i (some (a, j)) → Leads (r >>= k) (k a) s i j
  then_leads h (some m) (stops {a = b} p l) = let x = said h in stops {a = b} {j = m} (rw (x.1, x.2) p) l
  then_leads h none (stops_none p) = let x = said h in stops_none (rw (x.1, x.2) p)

  -- with a value of which f is told
  pub then_told : {C : Type 0} {f : A → C} {c : C} {j : ℕ} → Says f r s i (some (c, j)) → (o : Option ℕ) → ((a : A) → f a ≡ c → Stops (k a) s j o) → Stops
      (r >>= k) s i o
  then_told (says {a} e v h) o p = then_leads (says e refl h) o (p a v)

  -- with whatever value
  pub then_any : {j : ℕ} → Stops r s i (some j) → (o : Option ℕ) → ((a : A) → Stops (k a) s j o) → Stops (r >>= k) s i o
  then_any h o p = let x = value_of h in then_leads x.1 o (p x.0)

-- what is made of a value reads no byte
pub made_leads : {A B : Type 0} (r : Reader A) (g : A → B) {s : Bytes} {i : ℕ} → Leads (r >>= λ a. ret (g a)) r s i i
made_leads r g none (stops_none e) = stops_none (rw e)
made_leads r g (some j) (stops {a = a} e h) = stops {a = g a} {j = j} (rw e) h

-- tests
module _ {A : Type 0} (r : Reader A) {s : Bytes} {i : ℕ} where
  pub when_leads : {b : Bool} → b ≡ true → Leads (when b r) r s i i
  when_leads {b = true} e none (stops_none p) = stops_none p
  when_leads {b = true} e (some j) (stops p h) = stops p h
  when_leads {b = false} e o p = absurd (of_true e)

  pub when_none : {b : Bool} → b ≡ false → Stops (when b r) s i none
  when_none e = stops_none (rw e)
