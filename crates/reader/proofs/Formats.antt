-- Policies, codes, handlers, methods and classes at places: what is told of the parts is told of the whole. Assumes nothing.
use Prim.Native.Nat.{ℕ, ◌+◌, ◌*◌, ◌≤◌, ◌<◌}
use native.Mathlib.Omega.{arith}
use native.Mathlib.Decide.{dec_le}
use mathlib.Core.Path.{◌≡◌, refl, sym, ◌∙◌, ap, subst}
use mathlib.Core.Bool.{Bool, true, false, ◌||◌}
use mathlib.Core.List.{List, []}
use mathlib.Core.Option.{Option, none, some}
use lib.Dec.{leb, ltb, eqb}
use lib.ListN.{length, get_or, replicate, length-replicate}
use borrow.Author.Tests.{le-leb, lt-leb, eq-eqb, ne_eqb}
use Rattle.rules.specs.Bytes.{Bytes, Aid, pick, within, Reader, ◌>>=◌, ret, when, u1, u2, span, many, counted}
use Rattle.rules.specs.Package.{Limits, Edition, edition1, edition2, Format, Item, listed, own_domain, Policy, every, only, ClassNumber, Method, Class, most_methods, most_allowed, most_handlers, class_number, reference, own_index, item, items, policy, code_if, handler, handlers_if, bit, spare_zero, method_of, method, class_of, class}
use Rattle.rules.proofs.Tests.{none_some}
use Rattle.places.proofs.Inverse.{reads_same}
use Rattle.cursor.specs.Says.{Says, Stops, stops, stops_none, itself}
use Rattle.cursor.proofs.Steps.{Leads, said_inside, stopped_inside, stop_none, then_none, then_leads, then_any, made_leads, when_leads, when_none}
use Rattle.cursor.proofs.Fields.{span_stops, span_ends}
use Rattle.cursor.proofs.Widths.{Wide, wide_u1, wide_u2, wide_made, wide_then, wide_reads, wide_ends}
use Rattle.reader.specs.Answers.{StopsFor}

-- parents, references and handlers have one width each
pub wide_number : (s : Bytes) → Wide class_number s 2
unfolding class_number
wide_number s = wide_then (λ p. u1 >>= λ c. ret (record { pack = p; class = c })) (wide_u1 s) (λ p. wide_made (λ c. record { pack = p; class = c }) (wide_u1 s))

pub wide_reference : (s : Bytes) → Wide reference s 4
unfolding reference
wide_reference s = wide_then (λ c. u2 >>= λ n. ret (record { class = c; name = n })) (wide_number s)
    (λ c. wide_made (λ n. record { class = c; name = n }) (wide_u2 s))

pub wide_handler : (s : Bytes) → Wide handler s 6
unfolding handler
wide_handler s = wide_then (λ a. u2 >>= λ e. u2 >>= λ t. ret (record { start = a; end = e; target = t })) (wide_u2 s)
    (λ a. wide_then (λ e. u2 >>= λ t. ret (record { start = a; end = e; target = t })) (wide_u2 s)
    (λ e. wide_made (λ t. record { start = a; end = e; target = t }) (wide_u2 s)))

-- a reader stops at one place, or nowhere
stops_same : {A : Type 0} {r : Reader A} {s : Bytes} {i : ℕ} {o o' : Option ℕ} → i ≤ length s → Stops r s i o → Stops r s i o' → o ≡ o'
stops_same {r = r} {s} {i} h (stops {a} {j} e k) (stops {a = b} {j = m} e' k') =
    ap some (reads_same r s i a b j m (record { is = e; from = h; to = k }) (record { is = e'; from = h; to = k' })).1
stops_same h (stops e k) (stops_none e') = absurd (none_some (sym e' ∙ e))
stops_same h (stops_none e) (stops e' k) = absurd (none_some (sym e ∙ e'))
stops_same h (stops_none e) (stops_none e') = refl

-- so many values of one width are read over as their bytes
pub wide_span : {A : Type 0} {r : Reader A} {s : Bytes} {w : ℕ} → Wide r s w → (n i : ℕ) → i ≤ length s → Leads (many n r) (span (w * n)) s i i
wide_span {r = r} {s} {w} wide n i h o p = elim (dec_le (i + w * n) (length s)) [
  | yes k ↦ subst (Stops (many n r) s i) (stops_same h (span_stops (w * n) s i k) p) (wide_reads wide n i k)
  | no k ↦
      let none_there : Stops (span (w * n)) s i none = stops_none (span_ends (w * n) s i (omega arith)) in
      subst (Stops (many n r) s i) (stops_same h none_there p) (wide_ends wide n i h (omega arith))
]

-- FE, or an index below the domain count
module _ (ds : List Aid) where
  -- the item that an index stands for
  abbrev chosen : ℕ → Reader Item
  chosen n = pick (eqb n own_index) (ret own_domain) (when (ltb n (length ds)) (ret (listed (get_or ds n []))))

  module _ {s : Bytes} {i : ℕ} where
    pub item_none : Says itself u1 s i none → Stops (item ds) s i none
    unfolding item
    item_none h = then_none chosen (stop_none h)

    module _ {n j : ℕ} (h : Says itself u1 s i (some (n, j))) where
      pub item_bad : {m : ℕ} → length ds ≡ m → (eqb n own_index || ltb n m) ≡ false → Stops (item ds) s i none
      unfolding item
      item_bad k e = then_leads chosen h none (refused (eqb n own_index) (ltb n (length ds)) (rw k e))
        where
          refused : (b c : Bool) → (b || c) ≡ false → Stops (pick b (ret own_domain) (when c (ret (listed (get_or ds n []))))) s j none
          refused true c e = let z : ◌≡◌ {A = ℕ} 0 1 = cc in absurd (omega arith)
          refused false c e = when_none (ret (listed (get_or ds n []))) e

      pub item_stops : {m : ℕ} → length ds ≡ m → (eqb n own_index || ltb n m) ≡ true → Stops (item ds) s i (some j)
      unfolding item
      item_stops k e = then_leads chosen h (some j) (taken (eqb n own_index) (ltb n (length ds)) (rw k e))
        where
          taken : (b c : Bool) → (b || c) ≡ true → Stops (pick b (ret own_domain) (when c (ret (listed (get_or ds n []))))) s j (some j)
          taken true c e = stops refl (said_inside h)
          taken false c e = when_leads (ret (listed (get_or ds n []))) e (some j) (stops refl (said_inside h))

-- a policy
module _ (ds : List Aid) where
  -- what a count stands for
  abbrev counts : ℕ → Reader Policy
  counts n = pick (eqb n 0xFF) (ret every) (items ds n)

  module _ {s : Bytes} {i : ℕ} where
    pub policy_none : Says itself u1 s i none → Stops (policy ds) s i none
    unfolding policy
    policy_none h = then_none counts (stop_none h)

    module _ {n j : ℕ} (h : Says itself u1 s i (some (n, j))) where
      pub policy_every : n ≡ 0xFF → Stops (policy ds) s i (some j)
      unfolding policy
      policy_every e = then_leads counts h (some j) (rw (eq-eqb n 0xFF e) (stops refl (said_inside h)))

      pub policy_many : (n ≡ 0xFF → ⊥) → most_allowed < n → Stops (policy ds) s i none
      unfolding policy items
      policy_many e k = then_leads counts h none (rw (ne_eqb n 0xFF e) (when_none (many n (item ds) >>= λ xs. ret (only xs))
          (lt-leb n most_allowed k)))

      pub policy_leads : (n ≡ 0xFF → ⊥) → n ≤ most_allowed → Leads (policy ds) (many n (item ds)) s i j
      unfolding policy items
      policy_leads e k o p =
          let q = made_leads (many n (item ds)) (λ xs. only xs) o p in
          then_leads counts h o (rw (ne_eqb n 0xFF e) (when_leads (many n (item ds) >>= λ xs. ret (only xs)) (le-leb n most_allowed k) o q))

-- a code, if there is one
module _ (l : Limits) where
  -- a code of so many bytes
  abbrev sizes : ℕ → Reader Bytes
  sizes n = when (within 1 l.code n) (span n)

  module _ {s : Bytes} {i : ℕ} where
    pub code_absent : i ≤ length s → Stops (code_if l false) s i (some i)
    unfolding code_if
    code_absent h = stops refl h

    pub code_none : Says itself u2 s i none → Stops (code_if l true) s i none
    unfolding code_if
    code_none h = then_none sizes (stop_none h)

    module _ {n j : ℕ} (h : Says itself u2 s i (some (n, j))) where
      pub code_empty : n < 1 → Stops (code_if l true) s i none
      unfolding code_if
      code_empty k = let t : within 1 l.code n ≡ false = rw (lt-leb 1 n k) in then_leads sizes h none (when_none (span n) t)

      pub code_long : 1 ≤ n → l.code < n → Stops (code_if l true) s i none
      unfolding code_if
      code_long k m = let t : within 1 l.code n ≡ false = rw (le-leb 1 n k, lt-leb n l.code m) in then_leads sizes h none (when_none (span n) t)

      pub code_leads : 1 ≤ n → n ≤ l.code → Leads (code_if l true) (span n) s i j
      unfolding code_if
      code_leads k m o p = let t : within 1 l.code n ≡ true = rw (le-leb 1 n k, le-leb n l.code m) in then_leads sizes h o (when_leads (span n) t o p)

-- the handlers of a code: none where there is no code or in the first edition, else a counted list
module _ {s : Bytes} {i : ℕ} {b : Bool} where
  pub handlers_absent : (e : Edition) → b ≡ false → i ≤ length s → Stops (handlers_if e b) s i (some i)
  unfolding handlers_if
  handlers_absent e z h = rw z (stops refl h)

  pub handlers_first : {e : Edition} → b ≡ true → e ≡ edition1 → i ≤ length s → Stops (handlers_if e b) s i (some i)
  unfolding handlers_if
  handlers_first z k h = rw (z, k) (stops refl h)

  pub handlers_lead : {e : Edition} → b ≡ true → e ≡ edition2 → Leads (handlers_if e b) (counted most_handlers u1 handler) s i i
  unfolding handlers_if
  handlers_lead z k o p = rw (z, k) p

-- a method
module _ (t : Format) (ds : List Aid) where
  -- what follows the code, the policy, the name and the bitfield
  abbrev after_code : ℕ → ℕ → Policy → Bytes → Reader Method
  after_code b n p c = handlers_if t.edition (bit 0x40 b) >>= λ hs. ret (method_of b n p c hs)

  abbrev after_policy : ℕ → ℕ → Policy → Reader Method
  after_policy b n p = code_if t.limits (bit 0x40 b) >>= λ c. after_code b n p c

  abbrev after_name : ℕ → ℕ → Reader Method
  after_name b n = policy ds >>= λ p. after_policy b n p

  abbrev after_bits : ℕ → Reader Method
  after_bits b = when (spare_zero b) (u2 >>= λ n. after_name b n)

  module _ {s : Bytes} {i : ℕ} where
    pub method_none : Says itself u1 s i none → Stops (method t ds) s i none
    unfolding method
    method_none h = then_none after_bits (stop_none h)

    module _ {b j : ℕ} (h : Says itself u1 s i (some (b, j))) where
      pub method_spare : spare_zero b ≡ false → Stops (method t ds) s i none
      unfolding method
      method_spare z = then_leads after_bits h none (when_none (u2 >>= λ n. after_name b n) z)

      bits_lead : spare_zero b ≡ true → Leads (method t ds) (u2 >>= λ n. after_name b n) s i j
      unfolding method
      bits_lead z o p = then_leads after_bits h o (when_leads (u2 >>= λ n. after_name b n) z o p)

      pub method_name_none : spare_zero b ≡ true → Says itself u2 s j none → Stops (method t ds) s i none
      method_name_none z p = bits_lead z none (then_none (after_name b) (stop_none p))

      module _ {n m : ℕ} (z : spare_zero b ≡ true) (name : Says itself u2 s j (some (n, m))) where
        pub method_policy_none : Stops (policy ds) s m none → Stops (method t ds) s i none
        method_policy_none p = bits_lead z none (then_leads (after_name b) name none (then_none (after_policy b n) p))

        module _ {e : ℕ} (allowed : Stops (policy ds) s m (some e)) where
          policy_ends : (o : Option ℕ) → ((p : Policy) → Stops (after_policy b n p) s e o) → Stops (method t ds) s i o
          policy_ends o q = bits_lead z o (then_leads (after_name b) name o (then_any (after_policy b n) allowed o q))

          pub method_code_none : Stops (code_if t.limits (bit 0x40 b)) s e none → Stops (method t ds) s i none
          method_code_none q = policy_ends none (λ p. then_none (after_code b n p) q)

          pub method_leads : {k : ℕ} → Stops (code_if t.limits (bit 0x40 b)) s e (some k) →
              Leads (method t ds) (handlers_if t.edition (bit 0x40 b)) s i k
          method_leads code o q = policy_ends o (λ p. then_any (after_code b n p) code o
              (λ c. made_leads (handlers_if t.edition (bit 0x40 b)) (method_of b n p c) o q))

-- a class
module _ (t : Format) (ds : List Aid) where
  -- what follows the parents and the kind; a class of a kind
  abbrev after_parents : ℕ → List ClassNumber → Reader Class
  after_parents k ps = counted most_methods u1 (method t ds) >>= λ ms. ret (class_of k ps ms)

  abbrev after_kind : ℕ → Reader Class
  after_kind k = counted t.limits.parents u1 class_number >>= λ ps. after_parents k ps

  abbrev of_kind : ℕ → Reader Class
  of_kind k = when (leb k 1) (after_kind k)

  module _ {s : Bytes} {i : ℕ} where
    pub class_none : Says itself u1 s i none → Stops (class t ds) s i none
    unfolding class
    class_none h = then_none of_kind (stop_none h)

    module _ {k j : ℕ} (h : Says itself u1 s i (some (k, j))) where
      pub class_kind : 1 < k → Stops (class t ds) s i none
      unfolding class
      class_kind z = then_leads of_kind h none (when_none (after_kind k) (lt-leb k 1 z))

      kind_leads : k ≤ 1 → Leads (class t ds) (after_kind k) s i j
      unfolding class
      kind_leads z o p = then_leads of_kind h o (when_leads (after_kind k) (le-leb k 1 z) o p)

      pub class_parents_none : k ≤ 1 → Stops (counted t.limits.parents u1 class_number) s j none → Stops (class t ds) s i none
      class_parents_none z p = kind_leads z none (then_none (after_parents k) p)

      pub class_leads : {m : ℕ} → k ≤ 1 → Stops (counted t.limits.parents u1 class_number) s j (some m) →
          Leads (class t ds) (counted most_methods u1 (method t ds)) s i m
      class_leads z p o q = kind_leads z o (then_any (after_parents k) p o (λ ps. made_leads (counted most_methods u1 (method t ds)) (class_of k ps) o q))

-- what is told for every list of so many domains is inside the file
pub inside_any : {A : Type 0} {r : List Aid → Reader A} {s : Bytes} {i j : ℕ} (n : ℕ) → StopsFor n r s i (some j) → j ≤ length s
inside_any n h = stopped_inside (h (replicate n []) (length-replicate n []))
