-- Opening bytes, headings, whole domain entries and file bytes of a sound store together are its used field. Assumes nothing.
use Prim.Native.Nat.{ℕ, zero, suc, ◌+◌, ◌-◌, ◌*◌, ◌≤◌}
use native.Mathlib.Omega.{arith}
use mathlib.Core.Path.{◌≡◌, refl, sym, ◌∙◌, ap}
use mathlib.Core.List.{List, [], ◌∷◌, ◌++◌}
use mathlib.Core.Option.{some, some-injective}
use lib.Dec.{T, leb, leb→le}
use lib.ListN.{length, drop, get_or, length-append, length-drop}
use lib.Seq.{get_or-drop}
use Rattle.rules.specs.Bytes.{Bytes, all, u2, span}
use Rattle.rules.specs.Code.{u2_at}
use Rattle.rules.specs.Store.{Opening, Entry, domain, loaded, body, entry_bytes, entries_bytes, opening_length, used, entry_of, entry, entries_in, is_zero, up_to_used, entries_behind, entries_of, store_opening, store_limits}
use Rattle.rules.specs.Operations.{sound, entries}
use Rattle.rules.proofs.Tests.{none_some, and_then_is}
use Rattle.rules.proofs.Lists.{pick_some}
use Rattle.rules.proofs.Opens.{entries_opened}
use Rattle.rules.proofs.Back.{span_is, entry_is}
use Rattle.inventory_rules.specs.Inventory.{headings, domain_bytes, file_bytes, totals_of}
use Rattle.inventory_rules.proofs.Held.{sound_entries_lem}

-- what an entry is read from is as long as its bytes
entry_long : (bs : Bytes) (x : Entry × Bytes) → entry bs ≡ some x → length (entry_bytes x.0) + length x.1 ≡ length bs
entry_long [] x r = absurd (none_some r)
entry_long (t ∷ []) x r = absurd (none_some r)
entry_long (t ∷ u ∷ []) x r = absurd (none_some r)
entry_long (t ∷ u ∷ l ∷ bs) x r =
    let s = and_then_is (span (u * 256 + l) bs) _ x r in
    let p = span_is (u * 256 + l) bs s.0 s.1 in
    let e = and_then_is (entry_of t s.0.0) _ x s.2 in
    let i = entry_is t s.0.0 e.0 e.1 in
    long e.0 s.0.0 s.0.1 p.0 i.1 (some-injective _ _ e.2)
  where
    long : (e : Entry) (b y : Bytes) → b ++ y ≡ bs → body e ≡ b → (e, y) ≡ x → length (entry_bytes x.0) + length x.1 ≡ length (t ∷ u ∷ l ∷ bs)
    long e b y j q z = rw (← z) (omega (arith, ap length j, ap length q, length-append b y))

-- so are entries back to back
entries_long : (k : ℕ) (bs : Bytes) (es : List Entry) → entries_in k bs ≡ some es → length (entries_bytes es) ≡ length bs
entries_long zero [] es r = let z : [] ≡ es = some-injective _ _ r in rw (← z)
entries_long zero (b ∷ bs) es r = absurd (none_some r)
entries_long (suc k) [] es r = let z : [] ≡ es = some-injective _ _ r in rw (← z)
entries_long (suc k) (b ∷ bs) es r =
    let x = and_then_is (entry (b ∷ bs)) _ es r in
    let f = and_then_is (entries_in k x.0.1) _ es x.2 in
    long x.0.0 x.0.1 f.0 (entry_long (b ∷ bs) x.0 x.1) (entries_long k x.0.1 f.0 f.1) (some-injective _ _ f.2)
  where
    long : (e : Entry) (y : Bytes) (fs : List Entry) → length (entry_bytes e) + length y ≡ length (b ∷ bs) → length (entries_bytes fs) ≡ length y → e ∷ fs ≡ es →
        length (entries_bytes es) ≡ length (b ∷ bs)
    long e y fs p q z = rw (← z) (omega (arith, p, q, length-append (entry_bytes e) (entries_bytes fs)))

-- entries that are read up to used end there, and lie in the bytes
used_long : (least u : ℕ) (bs : Bytes) (es : List Entry) → up_to_used least u bs ≡ some es →
    (u ≡ least + length (entries_bytes es)) × (length (entries_bytes es) ≤ length bs)
used_long least u bs es r =
    let w = pick_some (leb least u) _ es r in
    let c = and_then_is (span (u - least) bs) _ es w.1 in
    let y = pick_some (all is_zero c.0.1) _ es c.2 in
    let x = span_is (u - least) bs c.0 c.1 in
    let n = entries_long (length c.0.0) c.0.0 es y.1 in
    (omega (arith, leb→le least u w.0, x.1, n), omega (arith, ap length x.0, length-append c.0.0 c.0.1, n))

-- the used field, read as two bytes
field_is : (d : Bytes) (x : ℕ × Bytes) → u2 d ≡ some x → x.0 ≡ get_or d 0 0 * 256 + get_or d 1 0
field_is [] x e = absurd (none_some e)
field_is (a ∷ []) x e = absurd (none_some e)
field_is (a ∷ b ∷ bs) x e = ap (λ (y : ℕ × Bytes). y.0) (sym (some-injective _ _ e))

field_used : (s : Bytes) (v : Opening) (es : List Entry) → entries_behind v s ≡ some es → (u2_at s 5 ≡ used v es) × (length (entries_bytes es) ≤ length s)
field_used s v es r =
    let x = and_then_is (u2 (drop 5 s)) _ es r in
    let at : x.0.0 ≡ u2_at s 5 = field_is (drop 5 s) x.0 x.1 ∙ rw (get_or-drop 5 s 0 0, get_or-drop 5 s 1 0) in
    let u = used_long (opening_length v) x.0.0 (drop (opening_length v) s) es x.2 in
    (sym at ∙ u.0, omega (arith, u.1, length-drop (opening_length v) s))

-- the bytes of the entries, by what they are
pub entries_sum : (es : List Entry) → length (entries_bytes es) ≡ headings es + (domain_bytes es + file_bytes es)
entries_sum [] = refl
entries_sum (domain k a ∷ es) = let r = entries_sum es in simp length-append (omega arith)
entries_sum (loaded d f ∷ es) = let r = entries_sum es in simp length-append (omega arith)

-- the used field of a buffer that holds entries, and their bytes
field_entries : (s : Bytes) (es : List Entry) → entries_of s ≡ some es → (u2_at s 5 ≡ used (store_opening s) es) × (length (entries_bytes es) ≤ length s)
unfolding entries_of
field_entries s es e = field_used s (store_opening s) es (rw (entries_opened s es e) at e)

module _ (s : Bytes) (h : T (sound s)) where
  pub used_adds : u2_at s 5 ≡
      opening_length (store_opening s) + (headings (entries s) + (domain_bytes (entries s) + (totals_of (store_limits s) (entries s)).bytes))
  used_adds = (field_entries s (entries s) (sound_entries_lem s h).0).0 ∙ ap (λ (n : ℕ). opening_length (store_opening s) + n) (entries_sum (entries s))

  pub entries_fit : length (entries_bytes (entries s)) ≤ length s
  entries_fit = (field_entries s (entries s) (sound_entries_lem s h).0).1
