-- What a reader leaves is a part of what was there, and what fields say at a place. Assumes nothing.
use Prim.Native.Nat.{ℕ, zero, suc, ◌+◌, ◌-◌, ◌*◌, ◌≤◌, ◌<◌}
use native.Mathlib.Omega.{arith}
use native.Mathlib.Numerals.{add-one, add-two}
use mathlib.Core.Path.{◌≡◌, refl, sym, ◌∙◌, ap}
use mathlib.Core.Bool.{Bool, true, false, ◌&&◌}
use mathlib.Core.List.{List, [], ◌∷◌, ◌++◌}
use mathlib.Core.Option.{Option, none, some, some-injective}
use lib.Dec.{leb, ltb, eqb, leb→le}
use lib.ListN.{length, take, drop, get_or, length-drop, drop_of_length-le}
use lib.Seq.{drop-drop, drop-cons}
use Rattle.rules.specs.Bytes.{Bytes, Aid, pick, all, ◌and_then◌, within, aid_length, Reader, ◌>>=◌, ret, when, u1, u2, span, many, aid, counted}
use Rattle.rules.specs.Code.{u2_at, Handler}
use Rattle.rules.specs.Package.{Limits, Edition, edition1, edition2, Format, most_allowed, most_methods, most_handlers, listed, own_domain, Policy, every, only, ClassNumber, Method, class_number, reference, own_index, item, items, policy, code_if, handler, handlers_if, bit, spare_zero, method_of, method, class_of, class}
use Rattle.rules.proofs.Tests.{none_some, and_then_is}
use Rattle.rules.proofs.Lists.{and_then_cong, pick_some}

-- fields at a place
pub u1_none : (s : Bytes) (i : ℕ) → length s ≤ i → u1 (drop i s) ≡ none
u1_none s i h = rw (drop_of_length-le s h)

pub u1_some : (s : Bytes) (i : ℕ) → i < length s → u1 (drop i s) ≡ some (get_or s i 0, drop (i + 1) s)
u1_some s i h = rw (add-one, drop-cons s i 0 h)

pub u2_none : (s : Bytes) (i : ℕ) → length s ≤ i → u2 (drop i s) ≡ none
u2_none s i h = rw (drop_of_length-le s h)

pub u2_short : (s : Bytes) (i : ℕ) → i < length s → length s ≤ i + 1 → u2 (drop i s) ≡ none
u2_short s i h k =
    let k' : length s ≤ suc i = omega arith in
    let e : drop i s ≡ get_or s i 0 ∷ [] = drop-cons s i 0 h ∙ ap (λ (t : Bytes). get_or s i 0 ∷ t) (drop_of_length-le s k') in
    rw e

pub u2_some : (s : Bytes) (i : ℕ) → i + 1 < length s → u2 (drop i s) ≡ some (u2_at s i, drop (i + 2) s)
u2_some s i h =
    let h₀ : i < length s = omega arith in
    let h₁ : suc i < length s = omega arith in
    rw (add-one, add-two, drop-cons s i 0 h₀, drop-cons s (suc i) 0 h₁)

-- one more at the end of a list that is read
pub and_then_assoc : {A B C : Type 0} (o : Option A) (f : A → Option B) (g : B → Option C) → ((o and_then f) and_then g) ≡ (o and_then λ a. f a and_then g)
and_then_assoc none f g = refl
and_then_assoc (some a) f g = refl

module _ {A : Type 0} (r : Reader A) where
  -- a value before those read
  abbrev pub in_front : A → List A × Bytes → Option (List A × Bytes)
  in_front a y = some (a ∷ y.0, y.1)

  -- a value behind those read
  abbrev pub behind : List A → A × Bytes → Option (List A × Bytes)
  behind xs y = some (xs ++ y.0 ∷ [], y.1)

  pub many_snoc : (n : ℕ) (bs : Bytes) → many (suc n) r bs ≡ (many n r bs and_then λ x. r x.1 and_then behind x.0)
  many_snoc zero bs = refl
  many_snoc (suc n) bs =
      let last : List A × Bytes → Option (List A × Bytes) = λ x. r x.1 and_then behind x.0 in
      and_then_cong (r bs) _ _ (λ x e.
      ap (λ (o : Option (List A × Bytes)). o and_then in_front x.0) (many_snoc n x.1) ∙ and_then_assoc (many n r x.1) last (in_front x.0)
      ∙ and_then_cong (many n r x.1) _ _ (λ y e'. and_then_assoc (r y.1) (behind y.0) (in_front x.0)) ∙ sym
      (and_then_assoc (many n r x.1) (in_front x.0) last))
      ∙ sym (and_then_assoc (r bs) (λ x. many n r x.1 and_then in_front x.0) last)

pub all_snoc : {A : Type 0} (p : A → Bool) (xs : List A) (x : A) → all p (xs ++ x ∷ []) ≡ (all p xs && p x)
all_snoc p [] x = go (p x)
  where
    go : (b : Bool) → (b && true) ≡ b
    go true = refl
    go false = refl
all_snoc p (y ∷ ys) x = rw (all_snoc p ys x) (go (p y))
  where
    go : (b : Bool) → (b && (all p ys && p x)) ≡ (b && all p ys && p x)
    go true = refl
    go false = refl

-- what is left is a part of what was there
pub record Left (bs rest : Bytes) : Type 0 where
  pub taken : ℕ
  pub within : taken ≤ length bs
  pub is : rest ≡ drop taken bs

-- whatever a reader reads, it leaves a part of what was there
abbrev pub Steady : {A : Type 0} → Reader A → Type 0
Steady {A} r = (bs : Bytes) (x : A × Bytes) → r bs ≡ some x → Left bs x.1

pub left_trans : {a b c : Bytes} → Left a b → Left b c → Left a c
left_trans {a} {b} {c} p q =
    let l : length b ≡ length a - p.taken = ap length p.is ∙ length-drop p.taken a in
    record {
      taken = p.taken + q.taken;
      within = omega (arith, l, p.within, q.within);
      is = q.is ∙ ap (drop q.taken) p.is ∙ drop-drop
          q.taken p.taken a;
    }

pub steady_bind : {A B : Type 0} (r : Reader A) (k : A → Reader B) → Steady r → ((a : A) → Steady (k a)) → Steady (r >>= k)
steady_bind r k s t bs x e = let y = and_then_is (r bs) _ x e in left_trans (s bs y.0 y.1) (t y.0.0 y.0.1 x y.2)

pub steady_ret : {A : Type 0} (a : A) → Steady (ret a)
steady_ret a bs x e = let z : bs ≡ x.1 = ap (λ (t : _ × Bytes). t.1) (some-injective _ _ e) in record { taken = 0; within = omega arith; is = sym z }

pub steady_u1 : Steady u1
steady_u1 [] x e = absurd (none_some e)
steady_u1 (b ∷ bs) x e = let z : bs ≡ x.1 = ap (λ (t : ℕ × Bytes). t.1) (some-injective _ _ e) in record
    { taken = 1; within = omega arith; is = sym z }

pub steady_span : (n : ℕ) → Steady (span n)
steady_span n bs x e =
    let p = pick_some (leb n (length bs)) (some (take n bs, drop n bs)) x e in
    let z : drop n bs ≡ x.1 = ap (λ (t : Bytes × Bytes). t.1) (some-injective _ _ p.1) in
    record { taken = n; within = leb→le n (length bs) p.0; is = sym z }

pub steady_when : {A : Type 0} (b : Bool) (r : Reader A) → Steady r → Steady (when b r)
steady_when true r s = s
steady_when false r s = λ bs x e. absurd (none_some e)

pub steady_pick : {A : Type 0} (b : Bool) (r q : Reader A) → Steady r → Steady q → Steady {A = A} (pick b r q)
steady_pick true r q s t = s
steady_pick false r q s t = t

pub steady_many : {A : Type 0} (n : ℕ) (r : Reader A) → Steady r → Steady (many n r)
steady_many zero r s = steady_ret []
steady_many (suc n) r s = steady_bind r _ s (λ x. steady_bind (many n r) _ (steady_many n r s) (λ xs. steady_ret (x ∷ xs)))

pub steady_counted : {A : Type 0} (most : ℕ) (c : Reader ℕ) (r : Reader A) → Steady c → Steady r → Steady (counted most c r)
steady_counted most c r sc sr = steady_bind c (λ n. when (leb n most) (many n r)) sc (λ n. steady_when (leb n most) (many n r) (steady_many n r sr))

-- the formats of the package file
pub steady_u2 : Steady u2
steady_u2 = steady_bind u1 (λ h. u1 >>= λ l. ret (h * 256 + l)) steady_u1
    (λ h. steady_bind u1 (λ l. ret (h * 256 + l)) steady_u1 (λ l. steady_ret (h * 256 + l)))

pub steady_aid : Steady aid
steady_aid = steady_bind u1 (λ n. when (aid_length n) (span n)) steady_u1 (λ n. steady_when (aid_length n) (span n) (steady_span n))

pub steady_number : Steady class_number
unfolding class_number
steady_number = steady_bind u1 _ steady_u1 (λ p. steady_bind u1 _ steady_u1 (λ c. steady_ret _))

pub steady_reference : Steady reference
unfolding reference
steady_reference = steady_bind class_number _ steady_number (λ p. steady_bind u2 _ steady_u2 (λ n. steady_ret _))

pub steady_item : (ds : List Aid) → Steady (item ds)
unfolding item
steady_item ds = steady_bind u1 _ steady_u1 (λ i. steady_pick (eqb i own_index) (ret own_domain) (when (ltb i (length ds)) (ret (listed (get_or ds i []))))
    (steady_ret _) (steady_when (ltb i (length ds)) (ret (listed (get_or ds i []))) (steady_ret _)))

steady_items : (ds : List Aid) (n : ℕ) → Steady (items ds n)
unfolding items
steady_items ds n = steady_when (leb n most_allowed) (many n (item ds) >>= λ xs. ret (only xs))
    (steady_bind (many n (item ds)) _ (steady_many n (item ds) (steady_item ds)) (λ xs. steady_ret _))

pub steady_policy : (ds : List Aid) → Steady (policy ds)
unfolding policy
steady_policy ds = steady_bind u1 (λ n. pick (eqb n 0xFF) (ret every) (items ds n)) steady_u1
    (λ n. steady_pick (eqb n 0xFF) (ret every) (items ds n) (steady_ret every) (steady_items ds n))

pub steady_code : (l : Limits) (b : Bool) → Steady (code_if l b)
unfolding code_if
steady_code l false = steady_ret []
steady_code l true = steady_bind u2 _ steady_u2 (λ n. steady_when (within 1 l.code n) (span n) (steady_span n))

pub steady_handler : Steady handler
unfolding handler
steady_handler = steady_bind u2 _ steady_u2 (λ s. steady_bind u2 _ steady_u2 (λ e. steady_bind u2 _ steady_u2 (λ t. steady_ret _)))

pub steady_handlers : (e : Edition) (b : Bool) → Steady (handlers_if e b)
unfolding handlers_if
steady_handlers e false = steady_ret []
steady_handlers edition1 true = steady_ret []
steady_handlers edition2 true = steady_counted most_handlers u1 handler steady_u1 steady_handler

pub steady_method : (t : Format) (ds : List Aid) → Steady (method t ds)
unfolding method
steady_method t ds =
    let codes : ℕ → Reader Bytes = λ b. code_if t.limits (bit 0x40 b) in
    let guards : ℕ → Reader (List Handler) = λ b. handlers_if t.edition (bit 0x40 b) in
    let whole : ℕ → ℕ → Policy → Reader Method = λ b n p. codes b >>= λ c. guards b >>= λ hs. ret (method_of b n p c hs) in
    let body : ℕ → Reader Method = λ b. u2 >>= λ n. policy ds >>= λ p. whole b n p in
    steady_bind u1 (λ b. when (spare_zero b) (body b)) steady_u1 (λ b. steady_when (spare_zero b) (body b)
    (steady_bind u2 (λ n. policy ds >>= λ p. whole b n p) steady_u2 (λ n.
    steady_bind (policy ds) (λ p. whole b n p) (steady_policy ds) (λ p.
    steady_bind (codes b) (λ c. guards b >>= λ hs. ret (method_of b n p c hs)) (steady_code t.limits (bit 0x40 b)) (λ c.
    steady_bind (guards b) (λ hs. ret (method_of b n p c hs)) (steady_handlers t.edition (bit 0x40 b)) (λ hs. steady_ret (method_of b n p c hs)))))))

pub steady_class : (t : Format) (ds : List Aid) → Steady (class t ds)
unfolding class
steady_class t ds =
    let most = t.limits.parents in
    let parents : Reader (List ClassNumber) = counted most u1 class_number in
    let methods : Reader (List Method) = counted most_methods u1 (method t ds) in
    steady_bind u1 (λ k. when (leb k 1) (parents >>= λ ps. methods >>= λ ms. ret (class_of k ps ms))) steady_u1 (λ k.
    steady_when (leb k 1) (parents >>= λ ps. methods >>= λ ms. ret (class_of k ps ms))
    (steady_bind parents (λ ps. methods >>= λ ms. ret (class_of k ps ms)) (steady_counted most u1 class_number steady_u1 steady_number) (λ ps.
    steady_bind methods (λ ms. ret (class_of k ps ms)) (steady_counted most_methods u1 (method t ds) steady_u1 (steady_method t ds))
    (λ ms. steady_ret (class_of k ps ms)))))
