-- An AID that one of a policy's indexes means is a domain whose number is one of them, or the own domain. Assumes nothing.
use Prim.Native.Nat.{ℕ, zero, suc, ◌+◌, ◌-◌, ◌≤◌, ◌<◌}
use native.Mathlib.Omega.{arith}
use native.Mathlib.Decide.{dec_le}
use native.Mathlib.Numerals.{add-one}
use mathlib.Core.Path.{◌≡◌, refl, sym, ◌∙◌, ap}
use mathlib.Core.Bool.{Bool, true, false, ◌&&◌, ◌||◌}
use mathlib.Core.List.{List, [], ◌∷◌, map}
use mathlib.Core.Logic.{inl, inr}
use lib.Dec.{eqb}
use lib.ListN.{length, take, drop, get_or}
use lib.Seq.{drop-cons}
use borrow.Author.Tests.{eq-eqb, ne_eqb}
use Rattle.std.specs.List.{list_any, list_all}
use Rattle.std.proofs.lemmas.List.{drop_more, drop_all}
use Rattle.rules.specs.Bytes.{Bytes, Aid, any, all, many}
use Rattle.rules.specs.Package.{most_domains, own_index, Item, item}
use Rattle.rules.specs.Classes.{item_means}
use Rattle.places.specs.Reads.{Reads}
use Rattle.places.proofs.Inverse.{reads_left, reads_done}
use Rattle.places.proofs.Steady.{steady_item}
use Rattle.places.proofs.Parts.{item_part}
use Rattle.policies.specs.Numbers.{any_from}

-- the library's test of a list is the definitions' own
pub list_any_is : {A : Type 0} (p : A → Bool) (xs : List A) → list_any p xs ≡ any p xs
list_any_is p [] = refl
list_any_is p (x ∷ xs) = ap (λ b. p x || b) (list_any_is p xs)

pub list_all_is : {A : Type 0} (p : A → Bool) (xs : List A) → list_all p xs ≡ all p xs
list_all_is p [] = refl
list_all_is p (x ∷ xs) = ap (λ b. p x && b) (list_all_is p xs)

-- numbers that are not met
any_without : (q : Aid → Bool) (ds : List Aid) (m : ℕ) → any_from (λ k d. q d && false) m ds ≡ false
any_without q [] m = refl
any_without q (d ∷ ds) m = rw (any_without q ds (suc m)) (go (q d))
  where
    go : (b : Bool) → ((b && false) || false) ≡ false
    go true = refl
    go false = refl

module _ (q : Aid → Bool) (r : ℕ → Bool) (b : ℕ) where
  any_past : (ds : List Aid) (m : ℕ) → b < m → any_from (λ k d. q d && (eqb k b || r k)) m ds ≡ any_from (λ k d. q d && r k) m ds
  any_past [] m h = refl
  any_past (d ∷ ds) m h =
      let e : eqb m b ≡ false = ne_eqb m b (λ z. omega arith) in
      rw (e, any_past ds (suc m) (omega arith))

  any_before : (ds : List Aid) (m : ℕ) → m + length ds ≤ b → any_from (λ k d. q d && (eqb k b || r k)) m ds ≡ any_from (λ k d. q d && r k) m ds
  any_before [] m h = refl
  any_before (d ∷ ds) m h =
      let e : eqb m b ≡ false = ne_eqb m b (λ z. omega arith) in
      rw (e, any_before ds (suc m) (omega arith))

  -- one number more: the element with that number passes, or one of the others does
  any_split : (ds : List Aid) (m : ℕ) → m ≤ b → b < m + length ds →
      any_from (λ k d. q d && (eqb k b || r k)) m ds ≡ (q (get_or ds (b - m) []) || any_from (λ k d. q d && r k) m ds)
  any_split [] m h k = absurd (omega arith)
  any_split (d ∷ ds) m h k = elim (dec_le b m) [
    | yes g ↦
        let z : b - m ≡ 0 = omega arith in
        let e : eqb m b ≡ true = eq-eqb m b (omega arith) in
        rw (z, e, any_past ds (suc m) (omega arith)) (here (q d) (r m) (any_from (λ k d. q d && r k) (suc m) ds))
    | no g ↦
        let z : b - m ≡ suc (b - suc m) = omega arith in
        let e : eqb m b ≡ false = ne_eqb m b (λ z. omega arith) in
        rw (z, e, any_split ds (suc m) (omega arith) (omega arith)) (later (q d && r m) (q (get_or ds (b - suc m) [])) (any_from (λ k d. q d && r k) (suc m) ds))
  ]
    where
      here : (a c e : Bool) → ((a && true) || e) ≡ (a || ((a && c) || e))
      here true c e = refl
      here false c e = refl

      later : (a c e : Bool) → (a || (c || e)) ≡ (c || (a || e))
      later true true e = refl
      later true false e = refl
      later false c e = refl

-- one byte more
pub take_more : (s : Bytes) (i n : ℕ) → 0 < n → i < length s → take n (drop i s) ≡ get_or s i 0 ∷ take (n - 1) (drop (i + 1) s)
take_more s i zero h k = absurd (omega arith)
take_more s i (suc n) h k = let z : suc n - 1 ≡ n = omega arith in rw (z, add-one, drop-cons s i 0 k)

-- a test of all, of the elements from number k on
module _ (xs : List ℕ) (p : ℕ → Bool) (k : ℕ) where
  pub all_fails : k < length xs → p (get_or xs k 0) ≡ false → all p (drop k xs) ≡ false
  all_fails h e = rw (drop_more xs k 0 h, e)

  pub all_passes : k < length xs → p (get_or xs k 0) ≡ true → all p (drop k xs) ≡ all p (drop (k + 1) xs)
  all_passes h e = rw (drop_more xs k 0 h, e)

  pub all_end : length xs ≤ k → all p (drop k xs) ≡ true
  all_end h = rw (drop_all k xs h)

-- an AID more, by its index or by FE
domain_more : (x a y : Bool) → (x || (a || y)) ≡ ((x || a) || y)
domain_more true a y = refl
domain_more false a y = refl

own_more : (x a b : Bool) → (x || (a || (x && b))) ≡ (a || (x && true))
own_more true true b = refl
own_more true false b = refl
own_more false a b = refl

-- of the AIDs that the indexes mean in domain e one passes: of the domains one passes whose number is an index, or e does and FE is an index
pub any_indexed : (q : Aid → Bool) (ds : List Aid) (e : Aid) (s : Bytes) (n i : ℕ) (xs : List Item) (j : ℕ) → length ds ≤ most_domains →
    Reads (many n (item ds)) s i xs j →
    any q (map (item_means e) xs) ≡ (any_from (λ k d. q d && any (eqb k) (take n (drop i s))) 0 ds || (q e && any (eqb own_index) (take n (drop i s))))
any_indexed q ds e s zero i xs j few p =
    let z = reads_done (item ds) 0 s i xs j (omega arith) p in
    let w : (any_from (λ k d. q d && false) 0 ds || (q e && false)) ≡ false = rw (any_without q ds 0) (go (q e)) in
    ap (λ (ys : List Item). any q (map (item_means e) ys)) z.0 ∙ sym w
  where
    go : (b : Bool) → (b && false) ≡ false
    go true = refl
    go false = refl
any_indexed q ds e s (suc n) i xs j few p =
    let z = reads_left (item ds) (steady_item ds) (suc n) s i xs j (omega arith) p in
    let t = item_part ds s i z.one z.place z.reads in
    let c : suc n - 1 ≡ n = omega arith in
    let h = any_indexed q ds e s n z.place z.others j few (rw c at z.rest) in
    let b = get_or s i 0 in
    let ks = take n (drop z.place s) in
    let rest = any_from (λ k d. q d && any (eqb k) ks) 0 ds in
    let w : take (suc n) (drop i s) ≡ b ∷ ks = take_more s i (suc n) (omega arith) t.inside ∙ rw (c, t.next) in
    ap (λ (ys : List Item). any q (map (item_means e) ys)) (sym z.are) ∙ rw (w, ← t.stands, h) (elim t.index [
      | inl own ↦
          let x = any_before q (λ k. any (eqb k) ks) b ds 0 (omega (arith, own)) in
          rw (x, eq-eqb b own_index own, eq-eqb own_index b (sym own)) (own_more (q e) rest (any (eqb own_index) ks))
      | inr other ↦
          let y : b - 0 ≡ b = omega arith in
          let x = rw y at (any_split q (λ k. any (eqb k) ks) b ds 0 (omega arith) (omega (arith, other.1))) in
          rw (x, ne_eqb b own_index other.0, ne_eqb own_index b (λ v. other.0 (sym v)))
          (domain_more (q (get_or ds b [])) rest (q e && any (eqb own_index) ks))
    ])
