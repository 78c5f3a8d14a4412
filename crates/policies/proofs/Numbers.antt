-- The number of an AID in a list: two AIDs, one of them of the list, have one number exactly where they are the same. Assumes nothing.
use Prim.Native.Nat.{ℕ, zero, suc, ◌+◌, ◌-◌, ◌≤◌, ◌<◌}
use native.Mathlib.Omega.{arith}
use mathlib.Core.Path.{◌≡◌, refl, sym, ◌∙◌, ap, subst}
use mathlib.Core.Bool.{Bool, true, false}
use mathlib.Core.List.Memᴰ
use mathlib.Core.List.{List, [], ◌∷◌, ◌++◌, Memᴰ}
use lib.Dec.{T, eqb}
use lib.ListN.{length, get_or}
use borrow.Author.Tests.{eq-eqb, ne_eqb}
use Rattle.rules.specs.Bytes.{Bytes, Aid, pick, same, u1, aid, counted}
use Rattle.rules.specs.Package.{most_domains}
use Rattle.rules.proofs.Tests.{is_true, of_true, same_eq, same_refl}
use Rattle.places.specs.Reads.{Reads, EndsAt}
use Rattle.places.proofs.Inverse.{reads_counted, reads_u1}
use Rattle.places.proofs.Steady.{steady_u1, steady_aid}
use Rattle.places.proofs.Track.{track_front, track_more, track_done, many_length}
use Rattle.files.specs.Say.{Aids, AidIs}
use Rattle.files.proofs.Loops.{AidLoop, aids_start}
use Rattle.policies.specs.Numbers.{number_in, DomainsThere, NumberIs}

-- the number of an element is below the length
below_length : (a : Aid) (xs : List Aid) → Memᴰ a xs → number_in xs a < length xs
below_length a xs (Memᴰ.head {x = y} {xs = ys} e) = let t : same a y ≡ true = is_true (same a y) (rw e (same_refl y)) in rw t (omega arith)
below_length a xs (Memᴰ.tail {x = y} {xs = ys} m) = go (same a y) (below_length a ys m)
  where
    go : (b : Bool) → number_in ys a < length ys → pick b 0 (suc (number_in ys a)) < suc (length ys)
    go true h = omega arith
    go false h = omega arith

pub number_in_lem : (xs : List Aid) (a : Aid) → Memᴰ a xs → number_in xs a < length xs
number_in_lem xs a = below_length a xs

-- what has a number below the length stands there
pub number_found : (xs : List Aid) (a : Aid) → number_in xs a < length xs → a ≡ get_or xs (number_in xs a) []
number_found [] a h = absurd (omega arith)
number_found (x ∷ xs) a h = go (same a x) refl h (number_found xs a)
  where
    go : (b : Bool) → same a x ≡ b → pick b 0 (suc (number_in xs a)) < suc (length xs) → (number_in xs a < length xs → a ≡ get_or xs (number_in xs a) []) →
        a ≡ get_or (x ∷ xs) (pick b 0 (suc (number_in xs a))) []
    go true e h r = same_eq a x (of_true e)
    go false e h r = r (omega arith)

-- one number exactly where they are the same: one of them is of the list
same_number : (xs : List Aid) (a b : Aid) → (number_in xs b ≡ number_in xs a → (number_in xs a < length xs) × (number_in xs b < length xs)) →
    eqb (number_in xs b) (number_in xs a) ≡ same a b
same_number xs a b m = go (same a b) refl
  where
    go : (t : Bool) → same a b ≡ t → eqb (number_in xs b) (number_in xs a) ≡ t
    go true e = eq-eqb _ _ (ap (number_in xs) (sym (same_eq a b (of_true e))))
    go false e = ne_eqb _ _ λ q.
        let h = m q in
        let w : a ≡ b = number_found xs a h.0 ∙ ap (λ (n : ℕ). get_or xs n []) (sym q) ∙ sym (number_found xs b h.1) in
        let t : T (same a b) = subst (λ (x : Aid). T (same a x)) w (same_refl a) in rw e at t

pub numbers_same : (xs : List Aid) (a b : Aid) → Memᴰ a xs → eqb (number_in xs b) (number_in xs a) ≡ same a b
numbers_same xs a b m = same_number xs a b λ q. let h = number_in_lem xs a m in (h, omega arith)

pub numbers_same_of : (xs : List Aid) (a b : Aid) → Memᴰ b xs → eqb (number_in xs b) (number_in xs a) ≡ same a b
numbers_same_of xs a b m = same_number xs a b λ q. let h = number_in_lem xs b m in (omega arith, h)

-- no number is above the length
pub number_most : (xs : List Aid) (a : Aid) → number_in xs a ≤ length xs
number_most [] a = omega arith
number_most (x ∷ xs) a = go (same a x) (number_most xs a)
  where
    go : (b : Bool) → number_in xs a ≤ length xs → pick b 0 (suc (number_in xs a)) ≤ suc (length xs)
    go true h = omega arith
    go false h = omega arith

-- the elements of the list that numbers are of
pub domain_in : (ds : List Aid) (d : Aid) (k : ℕ) → k < length ds → Memᴰ (get_or ds k []) (ds ++ d ∷ [])
domain_in ds d k h = Memᴰ.append_left (d ∷ []) (mem ds k h)
  where
    mem : (xs : List Aid) (k : ℕ) → k < length xs → Memᴰ (get_or xs k []) xs
    mem [] k h = absurd (omega arith)
    mem (x ∷ xs) zero h = Memᴰ.head refl
    mem (x ∷ xs) (suc k) h = Memᴰ.tail (mem xs k (omega arith))

pub loading_in : (ds : List Aid) (d : Aid) → Memᴰ d (ds ++ d ∷ [])
loading_in ds d = Memᴰ.append_right ds (Memᴰ.head refl)

-- lists of domains
module _ {s : Bytes} {u : ℕ} where
  pub domains_aids : DomainsThere s u → Aids s u
  domains_aids e = (most_domains, e)

  pub domains_few : DomainsThere s u → get_or s u 0 ≤ most_domains
  domains_few e =
      let c = reads_counted most_domains u1 aid steady_u1 s u e.0 e.1 e.2 in
      let n = reads_u1 s u c.number c.place c.count in omega (arith, n.byte, c.small)

  pub domains_length : (ds : List Aid) (j : ℕ) → Reads (counted most_domains u1 aid) s u ds j → length ds ≤ most_domains
  domains_length ds j p =
      let c = reads_counted most_domains u1 aid steady_u1 s u ds j p in
      omega (arith, c.small, many_length aid steady_aid c.number s c.place ds j c.list)

-- the loop that looks for x: k of the domains at u are passed and are not x
abbrev pub NumberLoop : Bytes → ℕ → Aid → Aid → ℕ → ℕ → ℕ → Type 0
NumberLoop f u d x k left c = AidLoop (λ ds. number_in (ds ++ d ∷ []) x) (λ ys. number_in (ys ++ d ∷ []) x + k) f u left c

pub number_start : {f : Bytes} {u n : ℕ} (d x : Aid) → n ≡ get_or f u 0 → NumberLoop f u d x 0 n (u + 1)
number_start d x h most ds j p = let z = aids_start {f = λ ds. number_in (ds ++ d ∷ []) x} h most ds j p in (z.0, z.1, z.2 ∙ omega arith)

module _ {f : Bytes} {u : ℕ} (d x : Aid) (k : ℕ) {left c : ℕ} (t : NumberLoop f u d x k left c) where
  pub number_hit : 0 < left → AidIs f c x true → NumberIs f u d x k
  number_hit h q ds j rd =
      let z =
      track_front aid steady_aid f (counted most_domains u1 aid) u (λ ds. number_in (ds ++ d ∷ []) x) (λ ys. number_in (ys ++ d ∷ []) x + k) left c
      (t most_domains) h ds j rd
      in
      let a : same x z.one ≡ true = sym (q z.one z.place z.reads) in
      sym (z.value ∙ rw a (omega arith))

  pub number_miss : {e : ℕ} → 0 < left → AidIs f c x false → EndsAt aid f c e → NumberLoop f u d x (k + 1) (left - 1) e
  number_miss {e} h q n most =
      track_more aid steady_aid f (counted most u1 aid) u (λ ds. number_in (ds ++ d ∷ []) x) (λ ys. number_in (ys ++ d ∷ []) x + k) left c (t most)
      (λ ys. number_in (ys ++ d ∷ []) x + (k + 1)) e h n
      λ a m p ys. let b : same x a ≡ false = sym (q a m p) in rw b (omega arith)

  -- none of the domains is x: the loading domain, or none of all
  pub number_behind : left ≤ 0 → (b : Bool) → same x d ≡ b → NumberIs f u d x (pick b k (k + 1))
  number_behind h b e ds j rd =
      let z =
      track_done aid steady_aid f (counted most_domains u1 aid) u (λ ds. number_in (ds ++ d ∷ []) x) (λ ys. number_in (ys ++ d ∷ []) x + k) left c
      (t most_domains) h ds j rd
      in
      sym (z.1 ∙ rw e (go b))
    where
      go : (b : Bool) → pick b 0 1 + k ≡ pick b k (k + 1)
      go true = omega arith
      go false = omega arith
