-- The code of a method and the handlers behind it, by their bytes: where each stands, and where the method ends. Assumes nothing.
use Prim.Native.Nat.{ℕ, ◌+◌, ◌-◌, ◌*◌, ◌/◌, ◌%◌, ◌≤◌, ◌<◌}
use native.Mathlib.Omega.{arith}
use mathlib.Core.Path.{◌≡◌, sym, ◌∙◌, ap, subst}
use mathlib.Core.Bool.{Bool, true, false}
use mathlib.Core.List.{List, []}
use lib.ListN.{length, take, drop, get_or}
use borrow.Author.Tests.{eq-eqb, ne_eqb}
use Rattle.rules.specs.Bytes.{Bytes, Aid}
use Rattle.rules.specs.Code.{u2_at}
use Rattle.rules.specs.Package.{Limits, Edition, edition1, edition2, format_of, edition_of, Method, code_if, handlers_if, bit, method}
use Rattle.places.specs.Reads.{Reads}
use Rattle.places.specs.Parts.{CodePart, HandlersPart}
use Rattle.places.proofs.Parts.{code_none, code_part, method_part}
use Rattle.places.proofs.Handlers.{handlers_none, handlers_first, handlers_part}
use Rattle.files.proofs.Steps.{policy_long}
use Rattle.files.specs.Say.{AfterPolicy, MethodThere, AfterMethod, OfMethod, CodeIs}

-- by its bitfield b a method is implemented or not
module _ {s : Bytes} {i b : ℕ} (w : b ≡ get_or s i 0) where
  pub unimplemented : (b / 64 % 2 ≡ 1 → ⊥) → OfMethod s i λ l ds m. m.implemented ≡ false
  unimplemented h l ds m j p = sym (method_part (format_of l s) ds s i m j p).implemented ∙ ap (bit 0x40) (sym w) ∙ ne_eqb (b / 64 % 2) 1 h

  is_implemented : b / 64 % 2 ≡ 1 → OfMethod s i λ l ds m. m.implemented ≡ true
  is_implemented h l ds m j p = sym (method_part (format_of l s) ds s i m j p).implemented ∙ ap (bit 0x40) (sym w) ∙ eq-eqb (b / 64 % 2) 1 h

-- the code of a method: b is its bitfield, its policy ends at d
module _ {s : Bytes} {i b d : ℕ} (w : b ≡ get_or s i 0) (e : AfterPolicy s (i + 3) d) where
  module _ (h : b / 64 % 2 ≡ 1 → ⊥) where
    bare : (l : Limits) (ds : List Aid) (m : Method) (j : ℕ) → Reads (method (format_of l s) ds) s i m j → ([] ≡ m.code) × (d ≡ j)
    bare l ds m j p =
        let t = method_part (format_of l s) ds s i m j p in
        let f = unimplemented w h l ds m j p in
        let c = code_none l s t.middle m.code t.behind (subst (λ (b : Bool). Reads (code_if l b) s t.middle m.code t.behind) f t.code) in
        let g = handlers_none (edition_of s) s t.behind m.handlers j
        (subst (λ (b : Bool). Reads (handlers_if (edition_of s) b) s t.behind m.handlers j) f t.handlers) in
        (c.0, e ds m.policy t.middle t.policy ∙ c.1 ∙ g.1)

    pub bare_next : AfterMethod s i d
    bare_next l ds m j p = (bare l ds m j p).1

    pub bare_in : MethodThere s i → d ≤ length s
    bare_in x = let k = bare x.0 x.1 x.2.0 x.2.1 x.2.2 in omega (arith, k.1, x.2.2.to)

    pub bare_code : CodeIs s i (take (d - d) (drop d s))
    bare_code l ds m j p = let k : d - d ≡ 0 = omega arith in rw k (bare l ds m j p).0

  module _ (h : b / 64 % 2 ≡ 1) where
    -- the code stands at d
    code_at : (l : Limits) (ds : List Aid) (m : Method) (j : ℕ) → Reads (method (format_of l s) ds) s i m j →
        (c : ℕ) × CodePart l s d m.code c × Reads (handlers_if (edition_of s) true) s c m.handlers j
    code_at l ds m j p =
        let t = method_part (format_of l s) ds s i m j p in
        let f = is_implemented w h l ds m j p in
        let n : d ≡ t.middle = e ds m.policy t.middle t.policy in
        let c = code_part l s t.middle m.code t.behind (subst (λ (b : Bool). Reads (code_if l b) s t.middle m.code t.behind) f t.code) in
        (t.behind, rw n c, subst (λ (b : Bool). Reads (handlers_if (edition_of s) b) s t.behind m.handlers j) f t.handlers)

    pub code_in : MethodThere s i → (d + 1 < length s) × (d + 2 + u2_at s d ≤ length s)
    code_in x = let k = code_at x.0 x.1 x.2.0 x.2.1 x.2.2 in (k.1.inside, omega (arith, k.1.next, k.1.to))

    -- the file has a version: the policy takes a byte or more, the code length two
    pub code_far : MethodThere s i → 4 < length s
    code_far x =
        let t = method_part (format_of x.0 s) x.1 s i x.2.0 x.2.1 x.2.2 in
        let n = policy_long x.1 s (i + 3) x.2.0.policy t.middle t.policy in
        omega (arith, n, e x.1 x.2.0.policy t.middle t.policy, (code_in x).0)

    pub code_is : {n : ℕ} → n ≡ u2_at s d → CodeIs s i (take (d + 2 + n - (d + 2)) (drop (d + 2) s))
    code_is {n} q l ds m j p = let k : d + 2 + n - (d + 2) ≡ u2_at s d = omega arith in rw k (code_at l ds m j p).1.bytes

    -- in the first edition the method ends with it
    pub code_next : edition_of s ≡ edition1 → AfterMethod s i (d + 2 + u2_at s d)
    code_next q l ds m j p =
        let k = code_at l ds m j p in
        let g = handlers_first true s k.0 m.handlers j
        (subst (λ (o : Edition). Reads (handlers_if o true) s k.0 m.handlers j) q k.2) in
        k.1.next ∙ g.1

    -- in the second the handlers follow
    module _ (q : edition_of s ≡ edition2) where
      pub guards_at : (l : Limits) (ds : List Aid) (m : Method) (j : ℕ) → Reads (method (format_of l s) ds) s i m j →
          HandlersPart s (d + 2 + u2_at s d) m.handlers j
      guards_at l ds m j p =
          let k = code_at l ds m j p in
          let r = subst (λ (o : Edition). Reads (handlers_if o true) s k.0 m.handlers j) q k.2 in
          rw k.1.next (handlers_part s k.0 m.handlers j r)

      pub guards_in : MethodThere s i → (d + 2 + u2_at s d < length s) × (d + 2 + u2_at s d + 1 + 6 * get_or s (d + 2 + u2_at s d) 0 ≤ length s)
      guards_in x =
          let k = guards_at x.0 x.1 x.2.0 x.2.1 x.2.2 in
          (k.inside, omega (arith, k.next, k.to))

      pub guards_next : AfterMethod s i (d + 2 + u2_at s d + 1 + 6 * get_or s (d + 2 + u2_at s d) 0)
      guards_next l ds m j p = (guards_at l ds m j p).next
