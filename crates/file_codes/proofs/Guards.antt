-- The bytes of a method's handlers: those that follow their count, or none. Assumes nothing.
use Prim.Native.Nat.{ℕ, zero, suc, ◌+◌, ◌-◌, ◌*◌, ◌/◌, ◌%◌, ◌≤◌, ◌<◌}
use native.Mathlib.Omega.{arith}
use mathlib.Core.Path.{◌≡◌, refl, ◌∙◌, ap, ap₂, subst}
use mathlib.Core.Bool.{Bool}
use lib.ListN.{length, take, drop, get_or, length-take, length-drop}
use lib.Seq.{get_or-take, get_or-drop}
use Rattle.rules.specs.Bytes.{Bytes}
use Rattle.rules.specs.Code.{u2_at}
use Rattle.rules.specs.Package.{Edition, edition1, edition2, format_of, edition_of, handlers_if}
use Rattle.places.specs.Reads.{Reads}
use Rattle.places.specs.Parts.{handlers_at, handlers_in}
use Rattle.places.proofs.Parts.{method_part}
use Rattle.places.proofs.Handlers.{handlers_none, handlers_first}
use Rattle.files.specs.Say.{AfterPolicy}
use Rattle.files.proofs.Guards.{unimplemented, guards_at}
use Rattle.file_codes.specs.Codes.{HandlersAre}

-- handlers in a part of the bytes are those in the bytes
handlers_within : (s : Bytes) (o k m i : ℕ) → i + 6 * m ≤ k → handlers_at m (take k (drop o s)) i ≡ handlers_at m s (o + i)
unfolding handlers_at
handlers_within s o k zero i h = refl
handlers_within s o k (suc m) i h =
    let byte : (j : ℕ) → j < k → get_or (take k (drop o s)) j 0 ≡ get_or s (o + j) 0 = λ j q. get_or-take k (drop o s) j 0 q ∙ get_or-drop o s j 0 in
    let field : (j : ℕ) → j + 1 < k → u2_at (take k (drop o s)) j ≡ u2_at s (o + j) = λ j q.
    let next : o + (j + 1) ≡ o + j + 1 = omega arith in
    ap₂ (λ (x y : ℕ). x * 256 + y) (byte j (omega arith)) (byte (j + 1) q ∙ ap (λ (x : ℕ). get_or s x 0) next) in
    let a = field i (omega arith) in
    let b = field (i + 2) (omega arith) in
    let c = field (i + 4) (omega arith) in
    let b' : o + (i + 2) ≡ o + i + 2 = omega arith in
    let c' : o + (i + 4) ≡ o + i + 4 = omega arith in
    let rest : handlers_at m (take k (drop o s)) (i + 6) ≡ handlers_at m s (o + i + 6) =
    handlers_within s o k m (i + 6) (omega arith) ∙ ap (handlers_at m s) (let e : o + (i + 6) ≡ o + i + 6 = omega arith in e) in
    rw (a, b, c, b', c', rest)

-- a part of six bytes for each
handlers_cut : (s : Bytes) (o n : ℕ) → o + 6 * n ≤ length s → handlers_in (take (6 * n) (drop o s)) ≡ handlers_at n s o
handlers_cut s o n h =
    let part = take (6 * n) (drop o s) in
    let long : length part ≡ 6 * n = length-take (6 * n) (drop o s) ∙ omega (arith, length-drop o s) in
    let count : length part / 6 ≡ n = omega (arith, long) in
    let from : o + 0 ≡ o = omega arith in
    ap (λ (m : ℕ). handlers_at m part 0) count ∙ handlers_within s o (6 * n) n 0 (omega arith) ∙ ap (handlers_at n s) from

-- without code there are no handlers, nor in the first edition
pub bare_guards : {s : Bytes} {i b : ℕ} → b ≡ get_or s i 0 → (b / 64 % 2 ≡ 1 → ⊥) → (k : ℕ) → HandlersAre s i (take (k - k) (drop k s))
unfolding handlers_at
bare_guards {s} {i} w h k l ds m j p =
    let t = method_part (format_of l s) ds s i m j p in
    let r = subst (λ (b : Bool). Reads (handlers_if (edition_of s) b) s t.behind m.handlers j) (unimplemented w h l ds m j p) t.handlers in
    let z : k - k ≡ 0 = omega arith in
    rw z (handlers_none (edition_of s) s t.behind m.handlers j r).0

pub first_guards : {s : Bytes} {i : ℕ} → edition_of s ≡ edition1 → (k : ℕ) → HandlersAre s i (take (k - k) (drop k s))
unfolding handlers_at
first_guards {s} {i} q k l ds m j p =
    let t = method_part (format_of l s) ds s i m j p in
    let r = subst (λ (o : Edition). Reads (handlers_if o m.implemented) s t.behind m.handlers j) q t.handlers in
    let z : k - k ≡ 0 = omega arith in
    rw z (handlers_first m.implemented s t.behind m.handlers j r).0

-- else those that follow the count: b is the method's bitfield, its policy ends at d, its code at c
module _ {s : Bytes} {i b d : ℕ} (w : b ≡ get_or s i 0) (e : AfterPolicy s (i + 3) d) (h : b / 64 % 2 ≡ 1) (q : edition_of s ≡ edition2) where
  pub guards_are : {c : ℕ} {r : Bytes} → c ≡ d + 2 + u2_at s d → r ≡ take (6 * get_or s c 0) (drop (c + 1) s) → HandlersAre s i r
  guards_are {c} {r} g k l ds m j p =
      let t = guards_at w e h q l ds m j p in
      let o : get_or s c 0 ≡ get_or s (d + 2 + u2_at s d) 0 = rw g in
      let few : c + 1 + 6 * get_or s c 0 ≤ length s = omega (arith, t.next, t.to, g, o) in
      rw (k, handlers_cut s (c + 1) (get_or s c 0) few, g) t.are
