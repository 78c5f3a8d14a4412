-- In a sound store an AID is at most one domain's, of either kind, and packages of kind-3 domains keep to the subset. Assumes nothing.
use Prim.Native.Nat.{ℕ, zero, suc}
use native.Mathlib.Omega.{arith}
use mathlib.Core.Path.{◌≡◌, refl, sym, ◌∙◌, ap, subst}
use mathlib.Core.Bool.{Bool, true, false}
use mathlib.Core.Logic.{inl, inr}
use mathlib.Core.List.Memᴰ
use mathlib.Core.List.{List, [], ◌∷◌, ◌++◌, append_assoc, Memᴰ}
use mathlib.Core.Option.{some, some-injective}
use lib.Dec.{T, eqb→eq, T_not, not_T}
use lib.ListN.{length}
use Rattle.rules.specs.Bytes.{Bytes, Aid, pick, any, at, same}
use Rattle.rules.specs.Package.{Package, read_file}
use Rattle.rules.specs.Store.{Opening, opening_limits, DomainKind, full, without_int, Entry, domain, loaded}
use Rattle.rules.specs.Questions.{domain_of, domains, q4_new, q5_created}
use Rattle.rules.specs.Operations.{accepted, accepted_all, sound_entries, Operation, is_domain, without, fresh_number}
use Rattle.rules.specs.Ledger.{ledger_after}
use Rattle.rules.specs.Barred.{WithoutInt}
use Rattle.rules.proofs.Tests.{and_l, and_r, of_true, none_some, any_mem, mem_any, same_eq, same_refl, flat_mem_is}
use Rattle.rules.proofs.Lists.{at_mem}
use Rattle.rules.proofs.Bounds.{flat_mem}
use Rattle.rules.proofs.Asked.{create_yes, load_yes}
use Rattle.rules.proofs.Less.{of_false}
use Rattle.rules.proofs.Whole.{fresh_sound}
use Rattle.rules.proofs.Subset.{subset_asked}

-- an AID is a created domain's exactly where an entry of either kind has it
pub created_entry : (es : List Entry) (a : Aid) → T (any (same a) (domains es)) → (k : DomainKind) × Memᴰ (domain k a) es
created_entry es a h =
    let r = mem_any (same a) (domains es) h in
    let x = flat_mem_is domain_of es r.0 r.1 in
    go x.0 x.1 (subst (λ (b : Aid). Memᴰ b (domain_of x.0)) (sym (same_eq a r.0 r.2)) x.2)
  where
    go : (x : Entry) → Memᴰ x es → Memᴰ a (domain_of x) → (k : DomainKind) × Memᴰ (domain k a) es
    go (domain k b) m n = (k, subst (λ (c : Aid). Memᴰ (domain k c) es) (sym (Memᴰ.eq_of_singleton n)) m)
    go (loaded d f) m n = elim n [ ]

pub entry_created : (es : List Entry) (k : DomainKind) (a : Aid) → Memᴰ (domain k a) es → T (any (same a) (domains es))
entry_created es k a m = any_mem (same a) (same_refl a) (flat_mem domain_of (domain k a) a es m (Memᴰ.head refl))

mem_at : (x : Entry) (es : List Entry) → Memᴰ x es → (i : ℕ) × (at es i ≡ some x)
mem_at x es (Memᴰ.head e) = (0, ap some (sym e))
mem_at x es (Memᴰ.tail {xs = xs} m) = let r = mem_at x xs m in (suc r.0, r.1)

module _ (v : Opening) (n : ℕ) where
  -- a domain among the later entries is new to the earlier ones
  later_new : (k h : DomainKind) (a : Aid) (pre rest : List Entry) → T (accepted_all v n pre rest) → Memᴰ (domain k a) rest →
      Memᴰ (domain h a) pre → ⊥
  unfolding q4_new
  later_new k h a pre rest t (Memᴰ.head {x = x} {xs = xs} e) m =
      let y : T (accepted v n pre (domain k a)) = subst (λ (z : Entry). T (accepted v n pre z)) (sym e) (and_l (accepted v n pre x) _ t) in
      T_not (any (same a) (domains pre)) (create_yes v n pre k a (eqb→eq _ 0 y)).q4 (entry_created pre h a m)
  later_new k h a pre rest t (Memᴰ.tail {x = x} {xs = xs} l) m =
      later_new k h a (pre ++ x ∷ []) xs (and_r (accepted v n pre x) _ t) l (Memᴰ.append_left (x ∷ []) m)

  -- an entry's AID is no later domain's
  first_only : (pre : List Entry) (x : Entry) (rest : List Entry) → T (accepted_all v n pre (x ∷ rest)) → (k h : DomainKind) (a : Aid) →
      domain k a ≡ x → Memᴰ (domain h a) rest → ⊥
  first_only pre x rest t k h a e m =
      later_new h k a (pre ++ x ∷ []) rest (and_r (accepted v n pre x) _ t) m (Memᴰ.append_right pre (Memᴰ.head e))

  -- one domain for an AID
  once : (pre rest : List Entry) → T (accepted_all v n pre rest) → (i j : ℕ) (k h : DomainKind) (a : Aid) →
      at rest i ≡ some (domain k a) → at rest j ≡ some (domain h a) → i ≡ j
  once pre [] t i j k h a p q = absurd (none_some p)
  once pre (x ∷ rest) t zero zero k h a p q = refl
  once pre (x ∷ rest) t zero (suc j) k h a p q =
      absurd (first_only pre x rest t k h a (sym (some-injective _ _ p)) (at_mem rest j (domain h a) q))
  once pre (x ∷ rest) t (suc i) zero k h a p q =
      absurd (first_only pre x rest t h k a (sym (some-injective _ _ q)) (at_mem rest i (domain k a) p))
  once pre (x ∷ rest) t (suc i) (suc j) k h a p q = ap suc (once (pre ++ x ∷ []) rest (and_r (accepted v n pre x) _ t) i j k h a p q)

  -- an entry was accepted over earlier ones
  accepted_there : (x : Entry) (pre rest : List Entry) → T (accepted_all v n pre rest) → Memᴰ x rest →
      (es : List Entry) × T (accepted v n es x) × ((y : Entry) → Memᴰ y es → Memᴰ y (pre ++ rest))
  accepted_there x pre rest t (Memᴰ.head {x = z} {xs = zs} e) =
      (pre, subst (λ (y : Entry). T (accepted v n pre y)) (sym e) (and_l (accepted v n pre z) _ t), λ y m. Memᴰ.append_left (z ∷ zs) m)
  accepted_there x pre rest t (Memᴰ.tail {x = z} {xs = zs} l) =
      let r = accepted_there x (pre ++ z ∷ []) zs (and_r (accepted v n pre z) _ t) l in
      (r.0, r.1, λ y m. subst (Memᴰ y) (append_assoc pre (z ∷ []) zs) (r.2 y m))

  -- after the deletion of a domain none has its AID
  gone : (pre es : List Entry) → T (accepted_all v n pre es) → (h : DomainKind) (a : Aid) → Memᴰ (domain h a) (without (is_domain a) es) → ⊥
  gone pre [] t h a m = elim m [ ]
  gone pre (x ∷ es) t h a m = go (is_domain a x) refl m (gone (pre ++ x ∷ []) es (and_r (accepted v n pre x) _ t) h a)
    where
      named : (x : Entry) → T (is_domain a x) → (k : DomainKind) × (domain k a ≡ x)
      named (domain k b) y = (k, ap (domain k) (same_eq a b y))
      named (loaded d f) y = absurd y

      go : (b : Bool) → is_domain a x ≡ b → Memᴰ (domain h a) (pick b es (x ∷ without (is_domain a) es)) →
          (Memᴰ (domain h a) (without (is_domain a) es) → ⊥) → ⊥
      go true e m rec = let k = named x (of_true e) in first_only pre x es t k.0 h a k.1 m
      go false e m rec = elim (Memᴰ.cases_cons m) [
        | inl z ↦ of_false e (subst (λ (y : Entry). T (is_domain a y)) z (same_refl a))
        | inr l ↦ rec l
      ]

module _ (v : Opening) (n : ℕ) (es : List Entry) (sound : T (sound_entries v n es)) where
  pub one_domain : (i j : ℕ) (k h : DomainKind) (a : Aid) → at es i ≡ some (domain k a) → at es j ≡ some (domain h a) → i ≡ j
  unfolding sound_entries
  one_domain = once v n [] es sound

  one_kind : (k h : DomainKind) (a : Aid) → Memᴰ (domain k a) es → Memᴰ (domain h a) es → k ≡ h
  one_kind k h a p q =
      let i = mem_at (domain k a) es p in
      let j = mem_at (domain h a) es q in
      let e : i.0 ≡ j.0 = one_domain i.0 j.0 k h a i.1 j.1 in
      kinds_same (some-injective _ _ (sym i.1 ∙ ap (at es) e ∙ j.1))
    where
      kinds_same : domain k a ≡ domain h a → k ≡ h
      kinds_same e = cc

  -- kinds 1 and 3 share no AID
  pub kinds_apart : (a : Aid) → Memᴰ (domain full a) es → Memᴰ (domain without_int a) es → ⊥
  kinds_apart a p q = let e : full ≡ without_int = one_kind full without_int a p q in let z : ◌≡◌ {A = ℕ} 0 1 = ap code e in omega (arith, z)
    where
      code : DomainKind → ℕ
      code full = 0
      code without_int = 1

  -- a package of a kind-3 domain keeps to the subset
  pub kept_without : (d : Aid) (f : Bytes) (p : Package) → Memᴰ (loaded d f) es → Memᴰ (domain without_int d) es →
      read_file (opening_limits v) f ≡ some p → WithoutInt p
  unfolding sound_entries q5_created
  kept_without d f p m w r =
      let x = accepted_there v n (loaded d f) [] es sound m in
      let y = load_yes v n x.0 d f (eqb→eq _ 0 x.1) in
      let c = created_entry x.0 d y.1.q5 in
      let k : c.0 ≡ without_int = one_kind c.0 without_int d (x.2 (domain c.0 d) c.1) w in
      let e : y.0 ≡ p = some-injective _ _ (sym y.1.q11 ∙ r) in
      subst WithoutInt e (subset_asked y.0 y.1.inside.q16 x.0 d y.1.q26 (subst (λ (h : DomainKind). Memᴰ (domain h d) x.0) k c.1))

  -- a domain that is deleted is new to both creations
  pub deleted_new : (a : Aid) → T (q4_new (without (is_domain a) es) a)
  unfolding sound_entries q4_new
  deleted_new a = not_T (any (same a) (domains (without (is_domain a) es)))
      (λ t. let c = created_entry (without (is_domain a) es) a t in gone v n [] es sound c.0 a c.1)

-- so of the ledger after any list of calls on a fresh store
pub ledger_without : (s : Bytes) (v : Opening) → fresh_number s v ≡ 0 → (os : List Operation) (d : Aid) (f : Bytes) (p : Package) →
    Memᴰ (loaded d f) (ledger_after v (length s) [] os) → Memᴰ (domain without_int d) (ledger_after v (length s) [] os) →
    read_file (opening_limits v) f ≡ some p → WithoutInt p
ledger_without s v z os = kept_without v (length s) (ledger_after v (length s) [] os) (fresh_sound s v z os)
