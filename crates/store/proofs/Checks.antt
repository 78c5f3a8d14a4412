-- What each test of the layout says: mark and version, zeros, kind and body, the entries up to a place. Assumes nothing.
use Prim.Native.Nat.{ℕ, zero, suc, max, ◌+◌, ◌-◌, ◌≤◌, ◌<◌}
use native.Mathlib.Omega.{arith}
use mathlib.Core.Path.{◌≡◌, refl, sym, ◌∙◌, ap, ap₂, subst}
use mathlib.Core.Bool.{Bool, true, false, ◌&&◌}
use mathlib.Core.List.{List, [], ◌∷◌, ◌++◌}
use mathlib.Core.Option.{some}
use lib.Dec.{leb, eqb}
use lib.ListN.{length, take, drop, get_or, length-drop, drop_of_length-le}
use lib.Seq.{length-take-le}
use borrow.Author.Tests.{ne_eqb}
use Rattle.rules.specs.Bytes.{Bytes, Aid, all, is_some, same}
use Rattle.rules.specs.Code.{u2_at}
use Rattle.rules.specs.Store.{DomainKind, full, without_int, Entry, domain, domain_byte, entry_of, store_mark, is_zero}
use Rattle.rules.proofs.Tests.{of_true}
use Rattle.rules.proofs.Lists.{some_is}
use Rattle.store.specs.Entries.{part, kind_of, kind_at, Entries, over, StandFrom, is_without_int}
use Rattle.store.specs.Answers.{NextSays}
use Rattle.std.specs.Prelude.{Some, None}
use Rattle.store.proofs.Parts.{drop_one}
use Rattle.store.proofs.Stand.{entry_by, by_entry, entry_later, entries_to, entries_more, entries_split, entries_front}

and_false : (a b : Bool) → b ≡ false → (a && b) ≡ false
and_false true b e = e
and_false false b e = refl

-- too few bytes for the mark
pub mark_short : (s : Bytes) (n : ℕ) → length s < 5 → same (take 5 s) (store_mark n) ≡ false
mark_short [] n h = refl
mark_short (a ∷ []) n h = and_false (eqb a 0x42) false refl
mark_short (a ∷ b ∷ []) n h = and_false (eqb a 0x42) _ (and_false (eqb b 0x43) false refl)
mark_short (a ∷ b ∷ c ∷ []) n h = and_false (eqb a 0x42) _ (and_false (eqb b 0x43) _ (and_false (eqb c 0x53) false refl))
mark_short (a ∷ b ∷ c ∷ d ∷ []) n h =
    and_false (eqb a 0x42) _ (and_false (eqb b 0x43) _ (and_false (eqb c 0x53) _ (and_false (eqb d 0) false refl)))
mark_short (a ∷ b ∷ c ∷ d ∷ e ∷ s) n h = absurd (omega arith)

pub and_true : (b : Bool) → (b && true) ≡ b
and_true true = refl
and_true false = refl

-- the greater of two bytes is zero where both are
zero_greater : (a b : ℕ) → eqb (max a b) 0 ≡ (eqb a 0 && eqb b 0)
zero_greater zero zero = refl
zero_greater zero (suc b) = ne_eqb (max 0 (suc b)) 0 (λ e. omega (arith, e)) ∙ sym (ne_eqb (suc b) 0 (λ e. omega (arith, e)))
zero_greater (suc a) b =
    ne_eqb (max (suc a) b) 0 (λ e. omega (arith, e)) ∙ ap (λ (x : Bool). x && eqb b 0) (sym (ne_eqb (suc a) 0 (λ e. omega (arith, e))))

-- zeros from a place on, with the greatest byte passed
pub zero_more : (s : Bytes) (i g : ℕ) → i < length s → (eqb g 0 && all is_zero (drop i s)) ≡ (eqb (max g (get_or s i 0)) 0 && all is_zero (drop (i + 1) s))
zero_more s i g h =
    ap (λ (t : Bytes). eqb g 0 && all is_zero t) (drop_one s i h) ∙ and_joined (eqb g 0) (eqb (get_or s i 0) 0) (all is_zero (drop (i + 1) s))
    ∙ ap (λ (b : Bool). b && all is_zero (drop (i + 1) s)) (sym (zero_greater g (get_or s i 0)))
  where
    and_joined : (a b c : Bool) → (a && (b && c)) ≡ ((a && b) && c)
    and_joined true b c = refl
    and_joined false b c = refl

pub zero_end : (s : Bytes) (i g : ℕ) → length s ≤ i → (eqb g 0 && all is_zero (drop i s)) ≡ eqb g 0
zero_end s i g h = ap (λ (t : Bytes). eqb g 0 && all is_zero t) (drop_of_length-le s {i = i} h) ∙ and_true (eqb g 0)

-- kind and body
pub body_domain : (n : ℕ) (b : Bytes) (k : DomainKind) → n ≡ domain_byte k → true ≡ is_some (entry_of n b)
body_domain n b full e = rw e
body_domain n b without_int e = rw e

pub body_other : (k : ℕ) (b : Bytes) → (k ≡ 1 → ⊥) → (k ≡ 3 → ⊥) → (k ≡ 2 → ⊥) → false ≡ is_some (entry_of k b)
body_other k b e f g = rw (ne_eqb k 1 e, ne_eqb k 2 g, ne_eqb k 3 f)

pub body_nil : (k : ℕ) (s : Bytes) (n : ℕ) → (k ≡ 2) → n ≡ 0 → false ≡ is_some (entry_of k (take n s))
body_nil k s n e h = rw (e, h)

-- a kind-2 body reads where the domain's length lies inside
loaded_reads : (m : ℕ) (b : Bytes) → is_some (entry_of 2 (m ∷ b)) ≡ leb m (length b)
loaded_reads m b = go (leb m (length b)) refl
  where
    go : (t : Bool) → leb m (length b) ≡ t → is_some (entry_of 2 (m ∷ b)) ≡ t
    go true e = rw e
    go false e = rw e

pub body_loaded : (s : Bytes) (at n m : ℕ) → at + 3 + n ≤ length s → get_or s at 0 ≡ 2 → (n ≡ 0 → ⊥) → m ≡ get_or s (at + 3) 0 → leb m (n - 1) ≡ is_some
    (entry_of (get_or s at 0) (take n (drop (at + 3) s)))
body_loaded s at n m h k z e =
    let p : n ≡ suc (n - 1) = omega arith in
    let l : at + 3 < length s = omega arith in
    let b : take n (drop (at + 3) s) ≡ get_or s (at + 3) 0 ∷ take (n - 1) (drop (at + 3 + 1) s) = ap₂ take p (drop_one s (at + 3) l) in
    let q : length (take (n - 1) (drop (at + 3 + 1) s)) ≡ n - 1 = length-take-le (n - 1) (drop (at + 3 + 1) s) (omega (arith, length-drop (at + 3 + 1) s)) in
    sym (ap₂ (λ (x : ℕ) (y : Bytes). is_some (entry_of x y)) k b ∙ loaded_reads (get_or s (at + 3) 0) (take (n - 1) (drop (at + 3 + 1) s)) ∙ ap₂ leb (sym e) q)

-- the place behind an entry
part_of : (s : Bytes) (i n : ℕ) → part s i (i + n) ≡ take n (drop i s)
part_of s i n = let m : i + n - i ≡ n = omega arith in rw m

pub next_short : (s : Bytes) (i k : ℕ) → k - i < 3 → i ≤ k → NextSays s i k None
next_short s i k h g e j t l = omega (arith, entry_later s i e j t)

module _ (s : Bytes) (i k n : ℕ) (h : n ≡ u2_at s (i + 1)) (g : k ≤ length s) where
  pub next_long : k - i - 3 < n → NextSays s i k None
  next_long m e j t l = omega (arith, (entry_by s i e j t).next)

  pub next_body : i + 3 ≤ k → n ≤ k - i - 3 → is_some (entry_of (get_or s i 0) (take n (drop (i + 3) s))) ≡ true → NextSays s i k (Some (i + 3 + n))
  next_body l m b =
      let x = some_is (entry_of (get_or s i 0) (take n (drop (i + 3) s))) (of_true b) in (
        x.0,
        by_entry s i x.0 (i + 3 + n) (record {
          next = ap (λ (v : ℕ). i + 3 + v) (sym h);
          to = omega arith;
          is = ap (entry_of (get_or s i 0))
              (part_of s (i + 3) n) ∙ x.1;
        }),
        omega arith,
      )

  pub next_other : is_some (entry_of (get_or s i 0) (take n (drop (i + 3) s))) ≡ false → NextSays s i k None
  next_other b e j t l =
      let y = entry_by s i e j t in
      let z : j ≡ i + 3 + n = sym y.next ∙ ap (λ (v : ℕ). i + 3 + v) (sym h) in
      let w : entry_of (get_or s i 0) (take n (drop (i + 3) s)) ≡ some e = ap (entry_of (get_or s i 0)) (sym (ap (part s (i + 3)) z ∙ part_of s (i + 3) n)) ∙ y.is in
      let v : ◌≡◌ {A = Bool} true false = sym (ap is_some w) ∙ b in
      let u : ◌≡◌ {A = ℕ} 0 1 = cc in omega arith

-- entries up to a place: a step, the end, and where none can follow
pub fill_start : (s : Bytes) (at : ℕ) → at ≤ length s → StandFrom s at at
fill_start s at h = ([], over h)

pub fill_more : (s : Bytes) (at i j k : ℕ) → StandFrom s at i → NextSays s i k (Some j) → StandFrom s at j × (i < j) × (j ≤ k)
fill_more s at i j k f t = (((f.0 ++ t.0 ∷ []), entries_more s at f.0 i t.0 j f.1 t.1), omega (arith, entry_later s i t.0 j t.1), t.2)

pub fill_never : (s : Bytes) (at i k : ℕ) → i < k → StandFrom s at i → NextSays s i k None → (es : List Entry) → Entries s at es k → ⊥
fill_never s at i k l f h es r =
    let x = entries_split s at es f.0 i k (omega arith) f.1 r in
    let y = entries_front s i x.rest k l x.stand in
    h y.one y.place y.stands (entries_to s y.place y.others k y.rest).0

pub fill_done : (s : Bytes) (at i k : ℕ) → i ≡ k → StandFrom s at i → StandFrom s at k
fill_done s at i k e f = subst (λ (n : ℕ). StandFrom s at n) e f

-- a test does not both fail and pass
pub not_both : (b : Bool) → b ≡ false → b ≡ true → ⊥
not_both b e f = let z : ◌≡◌ {A = ℕ} 0 1 = cc in omega arith

-- the kind of a domain by its byte
pub other_kind : (s : Bytes) (i : ℕ) (a b : Aid) → (get_or s i 0 ≡ 3 → ⊥) → false ≡ is_without_int a (domain (kind_at s i) b)
unfolding kind_of
other_kind s i a b h = rw (ne_eqb (get_or s i 0) 3 h) refl

pub third_kind : (s : Bytes) (i : ℕ) (a b : Aid) → get_or s i 0 ≡ 3 → same a b ≡ is_without_int a (domain (kind_at s i) b)
unfolding kind_of
third_kind s i a b h = rw h refl
