-- Readers put together: what a reader reads at a place, from what its parts read there. Assumes nothing.
use Prim.Native.Nat.{ℕ, suc, ◌+◌, ◌≤◌, ◌<◌}
use native.Mathlib.Omega.{arith}
use mathlib.Core.Path.{◌≡◌, refl, ◌∙◌, ap}
use mathlib.Core.Bool.{Bool, true, false}
use mathlib.Core.List.{List, [], ◌∷◌}
use mathlib.Core.Option.{Option, none, some}
use lib.Dec.{T, leb, le→leb}
use lib.ListN.{length, take, drop, get_or, length-drop, drop_of_length-le}
use lib.Seq.{drop-drop}
use Rattle.rules.specs.Bytes.{Bytes, pick, ◌and_then◌, Reader, ◌>>=◌, ret, when, u1, u2, span, many, counted, at_end, exactly}
use Rattle.rules.specs.Code.{u2_at}
use Rattle.rules.proofs.Tests.{is_true}
use Rattle.places.specs.Reads.{Reads}
use Rattle.places.proofs.Steady.{u1_some, u2_some}

pub ret_reads : {A : Type 0} (a : A) (s : Bytes) (i : ℕ) → i ≤ length s → Reads (ret a) s i a i
ret_reads a s i h = record { is = refl; from = h; to = h }

module _ {A B : Type 0} (r : Reader A) (k : A → Reader B) where
  pub bind_reads : (s : Bytes) (i : ℕ) (a : A) (m : ℕ) (b : B) (j : ℕ) → Reads r s i a m → Reads (k a) s m b j → Reads (r >>= k) s i b j
  bind_reads s i a m b j p q = record { is = ap (λ (o : Option (A × Bytes)). o and_then λ x. k x.0 x.1) p.is ∙ q.is; from = p.from; to = q.to }

pub when_reads : {A : Type 0} (b : Bool) (r : Reader A) (s : Bytes) (i : ℕ) (a : A) (j : ℕ) → T b → Reads r s i a j → Reads (when b r) s i a j
when_reads true r s i a j h p = record { is = p.is; from = p.from; to = p.to }
when_reads false r s i a j h p = absurd h

pub u1_reads : (s : Bytes) (i : ℕ) → i < length s → Reads u1 s i (get_or s i 0) (i + 1)
u1_reads s i h = record { is = u1_some s i h; from = omega arith; to = omega arith }

pub u2_reads : (s : Bytes) (i : ℕ) → i + 1 < length s → Reads u2 s i (u2_at s i) (i + 2)
u2_reads s i h = record { is = u2_some s i h; from = omega arith; to = omega arith }

pub span_reads : (n : ℕ) (s : Bytes) (i : ℕ) → i + n ≤ length s → Reads (span n) s i (take n (drop i s)) (i + n)
span_reads n s i h =
    let k : n ≤ length (drop i s) = omega (arith, length-drop i s) in
    let t : leb n (length (drop i s)) ≡ true = is_true (leb n (length (drop i s))) (le→leb n (length (drop i s)) k) in
    record {
      is = ap (λ (b : Bool). pick b (some (take n (drop i s), drop n (drop i s))) none) t ∙ ap (λ (z : Bytes). some (take n (drop i s), z))
          (drop-drop n i s);
      from = omega arith;
      to = h;
    }

-- lists
module _ {A : Type 0} (r : Reader A) (s : Bytes) where
  pub none_reads : (i : ℕ) → i ≤ length s → Reads (many 0 r) s i [] i
  none_reads i h = ret_reads [] s i h

  pub more_reads : (n i : ℕ) (x : A) (m : ℕ) (xs : List A) (j : ℕ) → Reads r s i x m → Reads (many n r) s m xs j → Reads (many (suc n) r) s i (x ∷ xs) j
  more_reads n i x m xs j p q =
      bind_reads r (λ x. many n r >>= λ xs. ret (x ∷ xs)) s i x m (x ∷ xs) j p
      (bind_reads (many n r) (λ xs. ret (x ∷ xs)) s m xs j (x ∷ xs) j q (ret_reads (x ∷ xs) s j q.to))

  pub counted_reads : (most : ℕ) (c : Reader ℕ) (i n m : ℕ) (xs : List A) (j : ℕ) → Reads c s i n m → n ≤ most → Reads (many n r) s m xs j → Reads
      (counted most c r) s i xs j
  counted_reads most c i n m xs j p h q =
      bind_reads c (λ n. when (leb n most) (many n r)) s i n m xs j p (when_reads (leb n most) (many n r) s m xs j (le→leb n most h) q)

-- the whole of the bytes
pub exactly_reads : {A : Type 0} (r : Reader A) (s : Bytes) (i : ℕ) (a : A) → Reads r s i a (length s) → exactly r (drop i s) ≡ some a
exactly_reads {A} r s i a p =
    let e : drop (length s) s ≡ [] = drop_of_length-le s {i = length s} (omega arith) in
    ap (λ (o : Option (A × Bytes)). o and_then λ x. at_end x.0 x.1) p.is ∙ ap (at_end a) e
