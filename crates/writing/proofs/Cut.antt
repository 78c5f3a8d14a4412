-- What the stores of an entry cut out leave: the layout of the other entries behind the same opening. Assumes nothing.
use Prim.Native.Nat.{ℕ, ◌+◌, ◌-◌, ◌≤◌}
use native.Mathlib.Omega.{arith}
use mathlib.Core.Path.{◌≡◌, refl, sym, ap, ap₂, ◌∙◌, subst}
use mathlib.Core.List.{List, ◌∷◌, ◌++◌, append_assoc}
use mathlib.Core.Option.{some-injective}
use lib.ListN.{length, take, drop, replicate, length-append, length-replicate, length-drop, take-append-drop, replicate-append-replicate}
use lib.Seq.{paste, take_at, drop_at, length-take-le}
use Rattle.rules.specs.Bytes.{Bytes}
use Rattle.rules.specs.Store.{Opening, Entry, entry_bytes, entries_bytes, limits_bytes, opening_length, used, write, store_opening, first_entry}
use Rattle.rules.proofs.Lists.{flat_append}
use Rattle.rules.proofs.Limits.{first_entry_lem}
use Rattle.store.specs.Entries.{Entries}
use Rattle.writing.specs.Changes.{CutAt, CutOut}
use Rattle.store.proofs.Stand.{entry_next, entries_to, entries_next}
use Rattle.store.proofs.Walk.{found_at}
use Rattle.writing.proofs.Paste.{paste_over, paste_take}
use Rattle.writing.proofs.Layouts.{zeros, two, up_to, up_to_length, around, layout_of, used_anew}

-- an entry in the middle
used_split : (v : Opening) (before : List Entry) (e : Entry) (after : List Entry) →
    used v (before ++ e ∷ after) ≡ opening_length v + length (entries_bytes before) + length (entry_bytes e) + length (entries_bytes after)
used_split v before e after =
    omega (
      arith,
      ap length (flat_append entry_bytes before (e ∷ after)),
      length-append (entries_bytes before) (entries_bytes (e ∷ after)),
      length-append
          (entry_bytes e) (entries_bytes after),
    )

-- the later entries moved up, the freed end zeroed, the used field written
pub cut_out : (s : Bytes) (v : Opening) (es before : List Entry) (e : Entry) (after : List Entry) (i j k : ℕ) → s ≡ write v (length s) es →
    es ≡ before ++ e ∷ after → used v es ≤ length s → i ≡ opening_length v + length (entries_bytes before) → j ≡ i + length (entry_bytes e) → k ≡ j - i →
    paste (paste (paste s i (drop j s) (used v es - j)) (used v es - k) (zeros k) k) 5 (two (used v es - k)) 2 ≡ write v (length s) (before ++ after)
cut_out s v es before e after i j k h q fits pi pj pk =
    let u : ℕ = used v es in
    let p : Bytes = up_to v (used v es) before in
    let c : Bytes = entries_bytes after in
    let z : Bytes = zeros (length s - used v es) in
    let b : Bytes = entry_bytes e in
    let us : used v es ≡ j + length (entries_bytes after) = omega (arith, ap (used v) q, used_split v before e after) in
    let lp : length (up_to v (used v es) before) ≡ i = up_to_length v (used v es) before ∙ sym pi in
    let lb : length (entry_bytes e) ≡ k = omega arith in
    let lc : length (b ++ c) ≡ k + length c = length-append b c ∙ ap (λ (n : ℕ). n + length c) lb in
    let m : Bytes = take (length c) (b ++ c) in
    let t : Bytes = drop (length c) (b ++ c) in
    let lm : length m ≡ length c = length-take-le (length c) (b ++ c) (omega arith) in
    let lt : length t ≡ k = omega (arith, length-drop (length c) (b ++ c)) in
    let s₀ : s ≡ p ++ ((b ++ c) ++ z) = around s v (length s) es before (e ∷ after) h q in
    let rest : drop j s ≡ c ++ z =
    (ap (drop j) (s₀ ∙ ap (λ (x : Bytes). p ++ x) (append_assoc b c z) ∙ sym (append_assoc p b (c ++ z)))
    ∙ drop_at (p ++ b) (c ++ z) j (omega (arith, length-append p b))) in
    let n : u - j ≡ length c = omega arith in
    let w : take (u - j) (drop j s) ≡ c = ap₂ take n rest ∙ take_at c z (length c) refl in
    let s₁ : paste s i (drop j s) (u - j) ≡ (p ++ c) ++ (t ++ z) =
    (paste_take s i (drop j s) (u - j) c w (sym n)
    ∙ ap (λ (x : Bytes). paste x i c (length c)) (s₀ ∙ ap (λ (x : Bytes). p ++ (x ++ z)) (sym (take-append-drop (length c) (b ++ c))) ∙ ap
    (λ (x : Bytes). p ++ x) (append_assoc m t z))
    ∙ paste_over p m (t ++ z) c i lp lm
    ∙ sym (append_assoc p c (t ++ z))) in
    let lz : length (zeros k) ≡ k = length-replicate k 0 in
    let s₂ : paste (paste s i (drop j s) (u - j)) (u - k) (zeros k) k ≡ (p ++ c) ++ (zeros k ++ z) =
    (ap (λ (x : Bytes). paste x (u - k) (zeros k) k) s₁
    ∙ ap (paste ((p ++ c) ++ (t ++ z)) (u - k) (zeros k)) (sym lz)
    ∙ paste_over (p ++ c) t z (zeros k) (u - k) (omega (arith, length-append p c)) (lt ∙ sym lz)) in
    let en : entries_bytes before ++ c ≡ entries_bytes (before ++ after) = sym (flat_append entry_bytes before after) in
    let un : u - k ≡ used v (before ++ after) = omega (arith, ap length en, length-append (entries_bytes before) c) in
    let zn : k + (length s - used v es) ≡ length s - (used v es - k) = omega arith in
    let zz : zeros k ++ z ≡ zeros (length s - (u - k)) = replicate-append-replicate k (length s - u) 0 ∙ ap zeros zn in
    ap (λ (x : Bytes). paste x 5 (two (u - k)) 2) (s₂ ∙ ap (λ (x : Bytes). (p ++ c) ++ x) zz ∙ append_assoc p c (zeros (length s - (u - k))))
    ∙ used_anew v u (u - k) ((limits_bytes v ++ entries_bytes before) ++ (c ++ zeros (length s - (u - k))))
    ∙ layout_of v (length s) (u - k) (before ++ after) (entries_bytes before) c un en

-- the places of an entry that is cut out
pub record CutBy (u i j n : ℕ) : Type 0 where
  pub from : 7 ≤ i
  pub entry : i + 3 ≤ j
  pub to : j ≤ u
  pub inside : u ≤ n
  pub small : n ≤ 65535

pub cut_by : {s : Bytes} {u i j : ℕ} → CutAt s u i j → CutBy u i j (length s)
cut_by {s} {u} {i} {j} c =
    let x = c.laid.1.stand in
    let end : ℕ = used (store_opening s) c.laid.0 in
    let f = found_at c.test s (first_entry s) c.laid.0 end i j x c.place in
    let a = entries_to s (first_entry s) f.before i f.earlier in
    let b = entries_to s j f.after end f.later in
    record {
      from = omega (arith, first_entry_lem s, a.0);
      entry = omega (arith, entry_next s i f.one j f.stands);
      to = omega (arith, c.laid.2, b.0);
      inside = omega
          (arith, c.laid.2, b.1);
      small = c.small;
    }

pub cut_is : (s t : Bytes) (u i j k : ℕ) → CutAt s u i j → k ≡ j - i → t ≡ paste (paste (paste s i (drop j s) (u - j)) (u - k) (replicate k 0) k) 5
    (two (u - k)) 2 → CutOut s t i j
cut_is s t u i j k c n h es q reads place =
    let z : c.laid.0 ≡ es = some-injective _ _ (sym c.laid.1.reads ∙ reads) in
    let v : Opening = store_opening s in
    let m : u ≡ used v es = c.laid.2 ∙ ap (used v) z in
    let r : Entries s (first_entry s) es (used v es) = subst (λ (x : List Entry). Entries s (first_entry s) x (used v x)) z c.laid.1.stand in
    let f = found_at q s (first_entry s) es (used v es) i j r place in
    let b : s ≡ write v (length s) es = c.laid.1.bytes ∙ ap (write v (length s)) z in
    h
    ∙ ap (λ (x : ℕ). paste (paste (paste s i (drop j s) (x - j)) (x - k) (replicate k 0) k) 5 (two (x - k)) 2) m
    ∙ cut_out s v es f.before f.one f.after i j k b f.are (entries_to s (first_entry s) es (used v es) r).1
    (sym (entries_next s (first_entry s) f.before i f.earlier)) (sym (entry_next s i f.one j f.stands)) n
    ∙ ap (write v (length s)) (sym f.left)
