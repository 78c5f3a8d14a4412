-- What the stores of an entry appended leave: the layout of the entries and that one behind the same opening. Assumes nothing.
use Prim.Native.Nat.{ℕ, ◌+◌, ◌-◌, ◌≤◌}
use native.Mathlib.Omega.{arith}
use mathlib.Core.Path.{◌≡◌, refl, sym, ap, ap₂, ◌∙◌, subst}
use mathlib.Core.List.{List, [], ◌∷◌, ◌++◌, append-nil}
use mathlib.Core.Option.{some-injective}
use lib.ListN.{length, set, length-append, length-replicate, replicate-append-replicate}
use lib.Seq.{paste, length-paste}
use borrow.Author.Tests.{leb-true}
use Rattle.rules.specs.Bytes.{Bytes, Aid, high, low}
use Rattle.rules.specs.Store.{Opening, DomainKind, domain_byte, Entry, domain, loaded, body, entry_bytes, entries_bytes, limits_bytes, used, write, store_opening}
use Rattle.rules.specs.Questions.{q21_fits}
use Rattle.rules.proofs.Lists.{flat_append}
use Rattle.rules.proofs.Limits.{first_entry_lem}
use Rattle.writing.specs.Changes.{Room, Appended}
use Rattle.store.proofs.Fits.{loaded_length}
use Rattle.writing.proofs.Paste.{set_one, paste_over, paste_join}
use Rattle.writing.proofs.Layouts.{zeros, two, up_to, up_to_length, around, layout_of, used_anew}

-- an entry behind the others
pub appended : (s : Bytes) (v : Opening) (es : List Entry) (e : Entry) (w : Bytes) → s ≡ write v (length s) es → used v es + length w ≤ length s →
    w ≡ entry_bytes e → paste (paste s (used v es) w (length w)) 5 (two (used v es + length w)) 2 ≡ write v (length s) (es ++ e ∷ [])
appended s v es e w h room q =
    let u : ℕ = used v es in
    let n : ℕ = length w in
    let m : ℕ = length s - (used v es + length w) in
    let p : Bytes = up_to v (used v es) es in
    let lp : length (up_to v (used v es) es) ≡ used v es = up_to_length v (used v es) es in
    let k : length s - used v es ≡ length w + (length s - (used v es + length w)) = omega arith in
    let s₀ : s ≡ p ++ (zeros n ++ zeros m) = around s v (length s) es es [] h (sym (append-nil es)) ∙ ap (λ (t : Bytes). p ++ t)
    (ap zeros k ∙ sym (replicate-append-replicate n m 0)) in
    let s₁ : paste s u w n ≡ p ++ (w ++ zeros m) = ap (λ (t : Bytes). paste t u w n) s₀ ∙ paste_over p (zeros n) (zeros m) w u lp (length-replicate n 0) in
    let en : entries_bytes es ++ w ≡ entries_bytes (es ++ e ∷ []) =
    (ap (λ (t : Bytes). entries_bytes es ++ t) (q ∙ sym (append-nil (entry_bytes e))) ∙ sym (flat_append entry_bytes es (e ∷ []))) in
    let us : u + n ≡ used v (es ++ e ∷ []) = omega (arith, ap length en, length-append (entries_bytes es) w) in
    ap (λ (t : Bytes). paste t 5 (two (u + n)) 2) s₁
    ∙ used_anew v u (u + n) ((limits_bytes v ++ entries_bytes es) ++ (w ++ zeros m))
    ∙ layout_of v (length s) (u + n) (es ++ e ∷ []) (entries_bytes es) w us en

-- what the writers require, by lengths
pub record RoomBy (s : Bytes) (u n : ℕ) : Type 0 where
  pub from : 7 ≤ u
  pub to : u + (3 + n) ≤ length s
  pub small : length s ≤ 65535

room_by : {s : Bytes} {u : ℕ} {e : Entry} → Room s u e → RoomBy s u (length (body e))
unfolding q21_fits
room_by {s} {u} {e} r =
    let h = leb-true (used (store_opening s) r.laid.0 + length (entry_bytes e)) (length s) r.fits in
    record { from = omega (arith, first_entry_lem s, r.laid.2); to = omega (arith, r.laid.2); small = r.small }

pub domain_room : {s : Bytes} {u : ℕ} {k : DomainKind} {a : Aid} → Room s u (domain k a) → RoomBy s u (length a)
domain_room r = room_by r

pub package_room : {s : Bytes} {u : ℕ} {d f : Bytes} → Room s u (loaded d f) → RoomBy s u (1 + length d + length f)
package_room {s} {u} {d} {f} r = subst (RoomBy s u) (loaded_length d f) (room_by r)

-- an entry appended, for whatever entries the buffer reads as
pub appended_is : (s t : Bytes) (u : ℕ) (e : Entry) (w : Bytes) (n : ℕ) → Room s u e → w ≡ entry_bytes e → length w ≡ n → t ≡ paste (paste s u w n) 5
    (two (u + n)) 2 → Appended s t e
appended_is s t u e w n r q l h es reads =
    let z : r.laid.0 ≡ es = some-injective _ _ (sym r.laid.1.reads ∙ reads) in
    let b = room_by r in
    let v : Opening = store_opening s in
    let m : used v r.laid.0 ≡ u = sym r.laid.2 in
    let k : length w ≡ 3 + length (body e) = omega (arith, ap length q) in
    h
    ∙ ap₂ (λ (x y : ℕ). paste (paste s x w y) 5 (two (x + y)) 2) (sym m) (sym l)
    ∙ appended s v r.laid.0 e w r.laid.1.bytes (omega (arith, b.to)) q
    ∙ ap (λ (x : List Entry). write v (length s) (x ++ e ∷ [])) z

-- a domain appended: kind and length, the AID, the used field
pub domain_appended : (s s₁ s₂ t : Bytes) (u n : ℕ) (k : DomainKind) (a : Aid) → Room s u (domain k a) → domain_byte k ≡ n →
    s₁ ≡ paste s u (n ∷ two (length a)) 3 → s₂ ≡ paste s₁ (u + 3) a (length a) → t ≡ paste s₂ 5 (two (u + 3 + length a)) 2 → Appended s t (domain k a)
domain_appended s s₁ s₂ t u n k a r e e₁ e₂ e₃ =
    let b = room_by r in
    let h₃ : Bytes = n ∷ two (length a) in
    let q₂ : s₂ ≡ paste s u (h₃ ++ a) (3 + length a) = e₂ ∙ ap (λ (x : Bytes). paste x (u + 3) a (length a)) e₁ ∙ paste_join s u h₃ a 3 (length a)
    (omega (arith, b.to)) refl refl in
    let v : u + 3 + length a ≡ u + (3 + length a) = omega arith in
    let l : length (h₃ ++ a) ≡ 3 + length a = omega arith in
    let w : h₃ ++ a ≡ entry_bytes (domain k a) = ap (λ (m : ℕ). m ∷ two (length a) ++ a) (sym e) in
    appended_is s t u (domain k a) (h₃ ++ a) (3 + length a) r w l (e₃ ∙ ap₂ (λ (x : Bytes) (m : ℕ). paste x 5 (two m) 2) q₂ v)

-- a package appended: kind and length, the domain's length, the domain, the file, the used field
pub package_appended : (s s₁ s₂ s₃ t : Bytes) (u : ℕ) (d f : Bytes) → Room s u (loaded d f) →
    s₁ ≡ paste s u (2 ∷ two (1 + length d + length f)) 3 → s₂ ≡ paste (set s₁ (u + 3) (length d)) (u + 4) d (length d) → s₃ ≡ paste s₂ (u + 4 + length d)
    f (length f) → t ≡ paste s₃ 5 (two (u + 3 + (1 + length d + length f))) 2 → Appended s t (loaded d f)
package_appended s s₁ s₂ s₃ t u d f r e₁ e₂ e₃ e₄ =
    let b = package_room r in
    let l = loaded_length d f in
    let h₃ : Bytes = 2 ∷ two (1 + length d + length f) in
    let h₄ : Bytes = h₃ ++ length d ∷ [] in
    let to : u ≤ length s = omega (arith, b.to) in
    let l₁ : length s₁ ≡ length s = ap length e₁ ∙ length-paste s u h₃ 3 (omega (arith, b.to)) (omega arith) in
    let q₁ : set s₁ (u + 3) (length d) ≡ paste s u h₄ 4 =
    (set_one s₁ (u + 3) (length d) (omega (arith, b.to)) ∙ ap (λ (x : Bytes). paste x (u + 3) (length d ∷ []) 1) e₁ ∙ paste_join s u h₃ (length d ∷ []) 3
    1 to refl refl) in
    let q₂ : s₂ ≡ paste s u (h₄ ++ d) (4 + length d) = e₂ ∙ ap (λ (x : Bytes). paste x (u + 4) d (length d)) q₁ ∙ paste_join s u h₄ d 4 (length d) to refl
    refl in
    let m : u + 4 + length d ≡ u + (4 + length d) = omega arith in
    let lh : length (h₄ ++ d) ≡ 4 + length d = omega arith in
    let q₃ : s₃ ≡ paste s u ((h₄ ++ d) ++ f) (4 + length d + length f) =
    (e₃ ∙ ap₂ (λ (x : Bytes) (k : ℕ). paste x k f (length f)) q₂ m ∙ paste_join s u (h₄ ++ d) f (4 + length d) (length f) to lh refl) in
    let v : u + 3 + (1 + length d + length f) ≡ u + (4 + length d + length f) = omega arith in
    let w : (h₄ ++ d) ++ f ≡ entry_bytes (loaded d f) = ap (λ (k : ℕ). 2 ∷ high k ∷ low k ∷ length d ∷ (d ++ f)) (sym l) in
    let lw : length ((h₄ ++ d) ++ f) ≡ 4 + length d + length f = omega (arith, length-append d f) in
    appended_is s t u (loaded d f) ((h₄ ++ d) ++ f) (4 + length d + length f) r w lw (e₄ ∙ ap₂ (λ (x : Bytes) (k : ℕ). paste x 5 (two k) 2) q₃ v)
