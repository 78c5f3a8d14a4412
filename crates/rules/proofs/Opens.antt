-- The opening of a buffer of bytes: what is read is what stands there, and its limits lie in their ranges. Assumes nothing.
use Prim.Native.Nat.{ℕ, ◌*◌, ◌+◌, ◌≤◌}
use native.Mathlib.Omega.{arith}
use mathlib.Core.Path.{◌≡◌, refl, sym, ◌∙◌, ap, subst, subst⁻¹}
use mathlib.Core.Bool.{Bool, true, false}
use mathlib.Core.List.{List, [], ◌∷◌, ◌++◌}
use mathlib.Core.Option.{Option, none, some, some-injective}
use lib.Dec.{T, ltb, ltb→lt}
use lib.ListN.{length, take, drop, length-drop, take-append-drop}
use lib.Seq.{drop-drop}
use Rattle.rules.specs.Bytes.{Bytes, all, value_or, same, high, low}
use Rattle.rules.specs.Limits.{Limits, standard, limits_range}
use Rattle.rules.specs.Store.{Opening, version1, version2, opening_range, Entry, store_version, store_mark, limits_bytes, opening_length, limits, second_opening, opening_of, entries_behind, entries_of, store_opening}
use Rattle.rules.proofs.Tests.{and_l, and_r, of_true, none_some, and_then_is, same_eq}
use Rattle.rules.proofs.Lists.{pick_some, all_append}

-- a byte is below 256
abbrev pub is_byte : ℕ → Bool
is_byte b = ltb b 256

-- the first so many bytes and the others
pub bytes_parts : (k : ℕ) (s : Bytes) → T (all is_byte s) → T (all is_byte (take k s)) × T (all is_byte (drop k s))
bytes_parts k s h = all_append is_byte (take k s) (drop k s) (subst⁻¹ (λ (r : Bytes). T (all is_byte r)) (take-append-drop k s) h)

-- a buffer's opening: its mark, and its limits behind used
pub record Opens (s : Bytes) (v : Opening) : Type 0 where
  pub marked : take 5 s ≡ store_mark (store_version v)
  pub limited : drop 7 s ≡ limits_bytes v ++ drop (opening_length v) s

-- the limits that are read
limits_are : (bs : Bytes) (x : Limits × Bytes) → T (all is_byte bs) → limits bs ≡ some x → bs ≡ limits_bytes (version2 x.0) ++ x.1
limits_are [] x h e = absurd (none_some e)
limits_are (d ∷ []) x h e = absurd (none_some e)
limits_are (d ∷ p ∷ []) x h e = absurd (none_some e)
limits_are (d ∷ p ∷ u ∷ []) x h e = absurd (none_some e)
limits_are (d ∷ p ∷ u ∷ l ∷ bs) x h e =
    let z : (record { depth = d; parents = p; code = u * 256 + l }, bs) ≡ x = some-injective _ _ e in
    let small = ltb→lt l 256 (and_l (is_byte l) _ (and_r (is_byte u) _ (and_r (is_byte p) _ (and_r (is_byte d) _ h)))) in
    let hi : high (u * 256 + l) ≡ u = omega arith in
    let lo : low (u * 256 + l) ≡ l = omega arith in
    rw (← z) (rw (hi, lo))

-- how an opening is read: by the mark of version 1, or by that of version 2 and the limits behind used
pub data OpenedAs (s : Bytes) : Opening → Type 0 where
  first : T (same (take 5 s) (store_mark 1)) → OpenedAs s version1
  second : {l : Limits} (rest : Bytes) → T (same (take 5 s) (store_mark 2)) → limits (drop 7 s) ≡ some (l, rest) → T (limits_range l) → OpenedAs s (version2 l)

pub opened_as : (s : Bytes) (v : Opening) → opening_of s ≡ some v → OpenedAs s v
unfolding opening_of
opened_as s v r = go (same (take 5 s) (store_mark 1)) refl (same (take 5 s) (store_mark 2)) refl
  where
    of_second : T (same (take 5 s) (store_mark 2)) → second_opening (drop 7 s) ≡ some v → OpenedAs s v
    of_second m e =
        let x = and_then_is (limits (drop 7 s)) _ v e in
        let p = pick_some (limits_range x.0.0) (some (version2 x.0.0)) v x.2 in
        subst (OpenedAs s) (some-injective _ _ p.1) (second x.0.1 m x.1 p.0)

    go : (p : Bool) → same (take 5 s) (store_mark 1) ≡ p → (q : Bool) → same (take 5 s) (store_mark 2) ≡ q → OpenedAs s v
    go true p q q' = subst (OpenedAs s) (some-injective _ _ (rw p at r)) (first (of_true p))
    go false p true q = of_second (of_true q) (rw (p, q) at r)
    go false p false q = absurd (none_some (rw (p, q) at r))

-- the opening that is read is the buffer's
pub opens : (s : Bytes) (v : Opening) → T (all is_byte s) → opening_of s ≡ some v → Opens s v
opens s v h r = go v (opened_as s v r)
  where
    go : (v : Opening) → OpenedAs s v → Opens s v
    go version1 (first m) = record { marked = same_eq _ _ m; limited = refl }
    go (version2 l) (second rest m x q) =
        let b = limits_are (drop 7 s) (l, rest) (bytes_parts 7 s h).1 x in
        let d : drop 11 s ≡ rest = sym (drop-drop 4 7 s) ∙ ap (drop 4) b in
        record { marked = same_eq _ _ m; limited = b ∙ ap (λ (z : Bytes). limits_bytes (version2 l) ++ z) (sym d) }

-- its limits lie in their ranges
pub opening_range_lem : (s : Bytes) (v : Opening) → opening_of s ≡ some v → T (opening_range v)
unfolding standard limits_range
opening_range_lem s v r = go v (opened_as s v r)
  where
    go : (v : Opening) → OpenedAs s v → T (opening_range v)
    go version1 (first m) = tt
    go (version2 l) (second rest m x q) = q

-- and the buffer has its bytes, where it has those of the used field
pub opening_fits : (s : Bytes) (v : Opening) → opening_of s ≡ some v → 7 ≤ length s → opening_length v ≤ length s
opening_fits s v r h = go v (opened_as s v r)
  where
    long : (bs : Bytes) (x : Limits × Bytes) → limits bs ≡ some x → 4 ≤ length bs
    long [] x e = absurd (none_some e)
    long (a ∷ []) x e = absurd (none_some e)
    long (a ∷ b ∷ []) x e = absurd (none_some e)
    long (a ∷ b ∷ c ∷ []) x e = absurd (none_some e)
    long (a ∷ b ∷ c ∷ d ∷ bs) x e = omega arith

    go : (v : Opening) → OpenedAs s v → opening_length v ≤ length s
    go version1 (first m) = h
    go (version2 l) (second rest m x q) = omega (arith, long (drop 7 s) (l, rest) x, length-drop 7 s)

-- the opening of a store that is read is the store's
pub opening_is : (s : Bytes) (v : Opening) → opening_of s ≡ some v → store_opening s ≡ v
unfolding store_opening
opening_is s v e = rw e

-- a buffer that holds entries has an opening
pub entries_opened : (s : Bytes) (es : List Entry) → entries_of s ≡ some es → opening_of s ≡ some (store_opening s)
unfolding entries_of store_opening
entries_opened s es r =
    let x = and_then_is (opening_of s) (λ (v : Opening). entries_behind v s) es r in
    x.1 ∙ ap (λ (o : Option Opening). some (value_or o version1)) (sym x.1)

-- the limits of any store lie in their ranges
pub store_range : (s : Bytes) → T (opening_range (store_opening s))
unfolding store_opening standard limits_range
store_range s = go (opening_of s) refl
  where
    go : (o : Option Opening) → opening_of s ≡ o → T (opening_range (value_or o version1))
    go none e = tt
    go (some v) e = opening_range_lem s v e
