-- Questions 18 and 19 of the calls of a file, asked for one group of references after the other. Assumes nothing.
use Prim.Native.Nat.{ℕ, ◌+◌, ◌<◌, ◌≤◌}
use native.Mathlib.Omega.{arith}
use mathlib.Core.Path.{◌≡◌, refl, sym, ◌∙◌, ap, ap₂}
use mathlib.Core.Bool.{Bool, true, false, ◌&&◌, ◌||◌, not}
use mathlib.Core.List.{List, [], ◌∷◌}
use lib.Dec.{leb, ltb}
use borrow.Author.Tests.{lt-ltb, le-ltb, le-leb, ltb-true, ltb-false}
use Rattle.rules.specs.Bytes.{Bytes, Aid, all}
use Rattle.rules.specs.Code.{Call, calls_of}
use Rattle.rules.specs.Package.{Method, Class}
use Rattle.rules.specs.Operations.{first_no}
use Rattle.refusals.specs.Order.{first_of, rank}
use Rattle.refusals.proofs.Order.{first_zero}
use Rattle.references.specs.Kept.{kept_count, in_group}
use Rattle.references.specs.declared.Group.{Group}
use Rattle.calls.specs.Maps.{group_from}
use Rattle.calls.specs.Calls.{asking, with_group, every_call, call_names, call_allows, class_names, class_allows, FileCallsAre}

-- a test that every element passes
pub all_yes : {A : Type 0} (p : A → Bool) → ((x : A) → p x ≡ true) → (xs : List A) → all p xs ≡ true
all_yes p h [] = refl
all_yes p h (x ∷ xs) = rw (h x) (all_yes p h xs)

-- two tests of a list, and both at once
all_both : {A : Type 0} (p q r : A → Bool) → ((x : A) → (p x && q x) ≡ r x) → (xs : List A) → (all p xs && all q xs) ≡ all r xs
all_both p q r h [] = refl
all_both p q r h (x ∷ xs) = shuffle (p x) (all p xs) (q x) (all q xs) ∙ ap₂ (λ (a b : Bool). a && b) (h x) (all_both p q r h xs)
  where
    shuffle : (a b c d : Bool) → ((a && b) && (c && d)) ≡ ((a && c) && (b && d))
    shuffle false b c d = refl
    shuffle true false false d = refl
    shuffle true false true d = refl
    shuffle true true c d = refl

-- the first no of two questions of some, and of others
unfoldable pub pair : Bool → Bool → ℕ
pair p q = first_no ((18, p) ∷ (19, q) ∷ [])

first_both : (p q x y : Bool) → first_of (pair p q) (pair x y) ≡ pair (p && x) (q && y)
unfolding pair first_of rank
first_both true true true true = refl
first_both true true true false = refl
first_both true true false true = refl
first_both true true false false = refl
first_both true false true true = refl
first_both true false true false = refl
first_both true false false true = refl
first_both true false false false = refl
first_both false true true true = refl
first_both false true true false = refl
first_both false true false true = refl
first_both false true false false = refl
first_both false false true true = refl
first_both false false true false = refl
first_both false false false true = refl
first_both false false false false = refl

-- a question of those calls of a method that are asked
abbrev of_asked : (Call → Bool) → (Call → Bool) → Call → Bool
of_asked w p c = not (w c) || p c

abbrev method_asked : (Method → Call → Bool) → (Call → Bool) → Method → Bool
method_asked p z m = all (of_asked z (p m)) (calls_of m.code)

-- calls of which the ones or the others are asked
module _ (w v u : Call → Bool) (h : (c : Call) → u c ≡ (w c || v c)) where
  asked_both : (p : Call → Bool) (c : Call) → (of_asked w p c && of_asked v p c) ≡ of_asked u p c
  asked_both p c = go (w c) (v c) (p c) ∙ ap (λ (b : Bool). not b || p c) (sym (h c))
    where
      go : (a b x : Bool) → ((not a || x) && (not b || x)) ≡ (not (a || b) || x)
      go true true true = refl
      go true true false = refl
      go true false true = refl
      go true false false = refl
      go false true x = refl
      go false false x = refl

  -- their questions, of the methods of a class
  class_both : (p : Method → Call → Bool) (k : Class) → (all (method_asked p w) k.methods && all (method_asked p v) k.methods)
      ≡ all (method_asked p u) k.methods
  class_both p k =
      all_both (method_asked p w) (method_asked p v) (method_asked p u)
      (λ m. all_both (of_asked w (p m)) (of_asked v (p m)) (of_asked u (p m)) (asked_both (p m)) (calls_of m.code)) k.methods

  pub calls_both : {f s : Bytes} {end : ℕ} {d : Aid} {n m : ℕ} → FileCallsAre f s end d (asking w) n → FileCallsAre f s end d (asking v) m →
      FileCallsAre f s end d (asking u) (first_of n m)
  unfolding pair
  calls_both {n = n} {m} x y a =
      let ks = a.self.pack.classes in
      let names = all_both (class_names a (asking w)) (class_names a (asking v)) (class_names a (asking u)) (class_both (λ z. call_names a)) ks in
      let allows = all_both (class_allows a (asking w)) (class_allows a (asking v)) (class_allows a (asking u)) (class_both (call_allows a)) ks in
      let first = first_both (all (class_names a (asking w)) ks) (all (class_allows a (asking w)) ks) (all (class_names a (asking v)) ks)
      (all (class_allows a (asking v)) ks) in
      ap₂ first_of (x a) (y a) ∙ first ∙ ap₂ pair names allows

-- the calls that are asked with the groups before reference n of a file of `count` references
abbrev pub asked_to : ℕ → ℕ → Call → Bool
asked_to count n c = ltb c.index n || (leb count c.index && ltb 0 n)

or_true : (b : Bool) → (b || true) ≡ true
or_true true = refl
or_true false = refl

or_false : (b : Bool) → (b || false) ≡ b
or_false true = refl
or_false false = refl

-- calls are asked before, or with the next group
asked_on : (g : Group) (n : ℕ) (c : Call) → asked_to g.count (n + kept_count) c ≡ (asked_to g.count n c || in_group (group_from g n) c.index)
asked_on g n c =
    ap (λ (b : Bool). ltb i (n + kept_count) || (leb g.count i && b)) (lt-ltb 0 (n + kept_count) (omega arith))
    ∙ go (ltb i n) (leb g.count i) (ltb 0 n) (leb n i) (ltb i (n + kept_count))
    (λ e. lt-ltb i (n + kept_count) (omega (arith, ltb-true i n e))) (λ e. le-leb n i (ltb-false i n e))
  where
    i : ℕ
    i = c.index

    go : (below past some from to : Bool) → (below ≡ true → to ≡ true) → (below ≡ false → from ≡ true) →
        (to || (past && true)) ≡ ((below || (past && some)) || (past || (from && to)))
    go below true some from to p q = or_true to ∙ sym (or_true (below || some))
    go true false some from to p q = or_false to ∙ p refl
    go false false some from to p q = or_false to ∙ ap (λ (b : Bool). b && to) (sym (q refl))

-- before the first group none is asked
none_asked : (w : Call → Bool) → ((c : Call) → w c ≡ false) → {f s : Bytes} {end : ℕ} {d : Aid} → FileCallsAre f s end d (asking w) 0
none_asked w h a =
    let yes_of : (p : Method → Call → Bool) (k : Class) → all (method_asked p w) k.methods ≡ true = λ p k.
    all_yes (method_asked p w) (λ m. all_yes (of_asked w (p m)) (λ c. ap (λ (b : Bool). not b || p m c) (h c)) (calls_of m.code)) k.methods in
    let ks = a.self.pack.classes in
    let names = all_yes (class_names a (asking w)) (yes_of (λ z. call_names a)) ks in
    let allows = all_yes (class_allows a (asking w)) (yes_of (call_allows a)) ks in
    rw (names, allows)

module _ {f s : Bytes} {end : ℕ} {d : Aid} (count : ℕ) where
  pub groups_begin : FileCallsAre f s end d (asking (asked_to count 0)) 0
  groups_begin = none_asked (asked_to count 0) (λ c. rw (le-ltb c.index 0 (omega arith)) (and_no (leb count c.index)))
    where
      and_no : (b : Bool) → (b && false) ≡ false
      and_no true = refl
      and_no false = refl

  -- after the last group all are
  pub groups_end : (n m : ℕ) → 0 < n → count ≤ n → FileCallsAre f s end d (asking (asked_to count n)) m → FileCallsAre f s end d every_call m
  groups_end n m h l x =
      let rest = none_asked (λ c. false) (λ c. refl) in
      rw (first_zero m) at (calls_both (asked_to count n) (λ c. false) (λ c. true) (λ c. sym (or_false (asked_to count n c) ∙ every c)) x rest)
    where
      every : (c : Call) → asked_to count n c ≡ true
      every c = go (ltb c.index n) refl
        where
          go : (b : Bool) → ltb c.index n ≡ b → (b || (leb count c.index && ltb 0 n)) ≡ true
          go true e = refl
          go false e = rw (le-leb count c.index (omega (arith, ltb-false c.index n e)), lt-ltb 0 n h)

-- a group
pub groups_on : {f s : Bytes} {end : ℕ} {d : Aid} (g : Group) (n m k : ℕ) → FileCallsAre f s end d (asking (asked_to g.count n)) m →
    FileCallsAre f s end d (with_group (group_from g n)) k → FileCallsAre f s end d (asking (asked_to g.count (n + kept_count))) (first_of m k)
groups_on g n m k x y = calls_both (asked_to g.count n) (λ c. in_group (group_from g n) c.index) (asked_to g.count (n + kept_count)) (asked_on g n) x y
