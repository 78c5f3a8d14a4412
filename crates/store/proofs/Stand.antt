-- Entries at their places: what an entry's bytes are, that places and entries determine each other. Assumes nothing.
use Prim.Native.Nat.{ℕ, ◌+◌, ◌-◌, ◌≤◌, ◌<◌}
use native.Mathlib.Omega.{arith}
use native.Mathlib.Decide.{dec_le}
use mathlib.Core.Path.{◌≡◌, refl, sym, ◌∙◌, ap, ap₂, subst}
use mathlib.Core.Bool.{Bool, true, false}
use mathlib.Core.List.{List, [], ◌∷◌, ◌++◌}
use mathlib.Core.Option.{Option, some, some-injective}
use lib.Dec.{eqb, eqb→eq}
use lib.ListN.{length, drop, get_or, length-append, drop_of_length-le}
use Rattle.rules.specs.Bytes.{Bytes, ◌and_then◌, span}
use Rattle.rules.specs.Code.{u2_at}
use Rattle.rules.specs.Store.{DomainKind, full, without_int, Entry, domain, loaded, domain_byte, entry_bytes, entries_bytes, loaded_body, entry_of, entry}
use Rattle.rules.proofs.Tests.{none_some, and_then_is, of_true}
use Rattle.rules.proofs.Back.{entry_is}
use Rattle.store.specs.Entries.{part, kind_of, kind_at, EntryAt, Entries, over, more}
use Rattle.store.proofs.Parts.{drop_one, part_cons, part_nil, part_length, span_drop, drop_span, span_part, drop_same}

-- an entry by its bytes: kind, body length and body
pub record EntryBy (s : Bytes) (i : ℕ) (e : Entry) (j : ℕ) : Type 0 where
  pub next : i + 3 + u2_at s (i + 1) ≡ j
  pub to : j ≤ length s
  pub is : entry_of (get_or s i 0) (part s (i + 3) j) ≡ some e

-- the entry of a kind and a body, with what follows it
abbrev entry_then : ℕ → Bytes × Bytes → Option (Entry × Bytes)
entry_then kind x = entry_of kind x.0 and_then λ e. some (e, x.1)

-- the bytes at a place, kind and length apart
heading : (s : Bytes) (i : ℕ) → i + 2 < length s → drop i s ≡ get_or s i 0 ∷ get_or s (i + 1) 0 ∷ get_or s (i + 1 + 1) 0 ∷ drop (i + 3) s
heading s i h =
    let a : i < length s = omega arith in
    let b : i + 1 < length s = omega arith in
    let c : i + 1 + 1 < length s = omega arith in
    let d : i + 1 + 1 + 1 ≡ i + 3 = omega arith in
    rw (drop_one s i a, drop_one s (i + 1) b, drop_one s (i + 1 + 1) c, d)

-- where the entry at a place ends, whichever it is
abbrev pub next_of : Bytes → ℕ → ℕ
next_of s i = i + 3 + u2_at s (i + 1)

-- an entry that reads is there by its bytes, and what follows it starts where it ends
pub entry_reads : (s : Bytes) (i : ℕ) (e : Entry) (r : Bytes) → entry (drop i s) ≡ some (e, r) → EntryBy s i e (next_of s i) × (drop (next_of s i) s ≡ r)
entry_reads s i e r t = elim (dec_le (length s) i) [
  | yes g ↦ absurd (none_some (rw (drop_of_length-le s {i = i} g) at t))
  | no g ↦ elim (dec_le (length s) (i + 1)) [
    | yes g₁ ↦
        let a : i < length s = omega arith in
        absurd (none_some (rw (drop_one s i a, drop_of_length-le s {i = i + 1} g₁) at t))
    | no g₁ ↦ elim (dec_le (length s) (i + 1 + 1)) [
      | yes g₂ ↦
          let a : i < length s = omega arith in
          let b : i + 1 < length s = omega arith in
          absurd (none_some (rw (drop_one s i a, drop_one s (i + 1) b, drop_of_length-le s {i = i + 1 + 1} g₂) at t))
      | no g₂ ↦ let h : i + 2 < length s = omega arith in step (omega arith) (rw (heading s i h) at t)
    ]
  ]
]
  where
    done : (b r₁ : Bytes) (e₁ : Entry) → next_of s i ≤ length s → part s (i + 3) (next_of s i) ≡ b → drop (next_of s i) s ≡ r₁ → entry_of (get_or s i 0) b ≡
        some e₁ → ◌≡◌ {A = Entry × Bytes} (e₁, r₁) (e, r) → EntryBy s i e (next_of s i) × (drop (next_of s i) s ≡ r)
    done b r₁ e₁ h p d q z = (
      record { next = refl; to = h; is = ap (entry_of (get_or s i 0)) p ∙ q ∙ ap some (ap (λ (x : Entry × Bytes). x.0) z) },
      d ∙ ap (λ (x : Entry × Bytes). x.1) z,
    )

    step : i + 3 ≤ length s → (span (u2_at s (i + 1)) (drop (i + 3) s) and_then entry_then (get_or s i 0)) ≡ some (e, r) → EntryBy s i e (next_of s i) ×
        (drop (next_of s i) s ≡ r)
    step h q =
        let x = and_then_is (span (u2_at s (i + 1)) (drop (i + 3) s)) (entry_then (get_or s i 0)) (e, r) q in
        let y = and_then_is (entry_of (get_or s i 0) x.0.0) (λ v. some (v, x.0.1)) (e, r) x.2 in
        let p = span_drop s (i + 3) (u2_at s (i + 1)) x.0 h x.1 in
        done x.0.0 x.0.1 y.0 p.0 p.1 p.2 y.1 (some-injective _ _ y.2)

pub entry_by : (s : Bytes) (i : ℕ) (e : Entry) (j : ℕ) → EntryAt s i e j → EntryBy s i e j
entry_by s i e j t =
    let r = entry_reads s i e (drop j s) t.is in
    let k : next_of s i ≡ j = drop_same s (next_of s i) j r.0.to t.to r.1 in
    subst (λ (n : ℕ). EntryBy s i e n) k r.0

-- and the other way
pub by_entry : (s : Bytes) (i : ℕ) (e : Entry) (j : ℕ) → EntryBy s i e j → EntryAt s i e j
by_entry s i e j t = record { is = rw (heading s i h) (rw (n, drop_span s (i + 3) j k t.to, t.is)); to = t.to }
  where
    h : i + 2 < length s
    h = omega (arith, t.next, t.to)

    k : i + 3 ≤ j
    k = omega (arith, t.next)

    n : u2_at s (i + 1) ≡ j - (i + 3)
    n = omega (arith, t.next)

-- a loaded entry: where its domain and its file stand
pub record LoadedBy (s : Bytes) (i : ℕ) (e : Entry) (j : ℕ) : Type 0 where
  pub kind : get_or s i 0 ≡ 2
  pub length : i + 4 ≤ j
  pub inside : i + 4 + get_or s (i + 3) 0 ≤ j
  pub is : e ≡ loaded (part s (i + 4) (i + 4 + get_or s (i + 3) 0)) (part s (i + 4 + get_or s (i + 3) 0) j)

-- a domain's entry: its kind byte, and its AID behind the length
pub record DomainBy (s : Bytes) (i : ℕ) (e : Entry) (j : ℕ) : Type 0 where
  pub kind : get_or s i 0 ≡ domain_byte (kind_at s i)
  pub is : e ≡ domain (kind_at s i) (part s (i + 3) j)

-- an entry's kind
pub data KindBy (s : Bytes) (i : ℕ) (e : Entry) (j : ℕ) : Type 0 where
  domain_by : DomainBy s i e j → KindBy s i e j
  loaded_by : LoadedBy s i e j → KindBy s i e j

-- no kind of domains has the byte of a package
pub not_loaded : (k : DomainKind) → domain_byte k ≡ 2 → ⊥
not_loaded full e = omega arith
not_loaded without_int e = omega arith

-- the kind byte of each kind of domains stands for it
pub kind_back : (k : DomainKind) → kind_of (domain_byte k) ≡ k
unfolding kind_of
kind_back full = refl
kind_back without_int = refl

pub kind_by : (s : Bytes) (i : ℕ) (e : Entry) (j : ℕ) → EntryBy s i e j → KindBy s i e j
kind_by s i e j t = go (eqb (get_or s i 0) 1) refl (eqb (get_or s i 0) 2) refl (eqb (get_or s i 0) 3) refl t.is
  where
    second : get_or s i 0 ≡ 2 → loaded_body (part s (i + 3) j) ≡ some e → KindBy s i e j
    second k q = elim (dec_le j (i + 3)) [
      | yes g ↦ absurd (none_some (rw (part_nil s (i + 3) j g) at q))
      | no g ↦
          let l : i + 3 < j = omega arith in
          let d : i + 3 + 1 ≡ i + 4 = omega arith in
          let r : (span (get_or s (i + 3) 0) (part s (i + 4) j) and_then λ x. some (loaded x.0 x.1)) ≡ some e = rw (part_cons s (i + 3) j l t.to, d)
          at q in
          let x = and_then_is (span (get_or s (i + 3) 0) (part s (i + 4) j)) _ e r in
          let p = span_part s (i + 4) j (get_or s (i + 3) 0) x.0 (omega arith) t.to x.1 in
          loaded_by (record { kind = k; length = omega arith; inside = p.0; is = sym (some-injective _ _ x.2) ∙ ap₂ loaded (sym p.1) (sym p.2) })
    ]

    -- the entry of a domain whose kind has this byte
    of_domain : (k : DomainKind) → get_or s i 0 ≡ domain_byte k → domain k (part s (i + 3) j) ≡ e → KindBy s i e j
    of_domain k b q =
        let z : kind_at s i ≡ k = ap kind_of b ∙ kind_back k in
        domain_by (record { kind = b ∙ ap domain_byte (sym z); is = sym q ∙ ap (λ (x : DomainKind). domain x (part s (i + 3) j)) (sym z) })

    go : (b : Bool) → eqb (get_or s i 0) 1 ≡ b → (c : Bool) → eqb (get_or s i 0) 2 ≡ c → (d : Bool) → eqb (get_or s i 0) 3 ≡ d →
        entry_of (get_or s i 0) (part s (i + 3) j) ≡ some e → KindBy s i e j
    go true b c c' d d' q = of_domain full (eqb→eq (get_or s i 0) 1 (of_true b)) (some-injective _ _ (rw b at q))
    go false b true c d d' q = second (eqb→eq (get_or s i 0) 2 (of_true c)) (rw (b, c) at q)
    go false b false c true d q = of_domain without_int (eqb→eq (get_or s i 0) 3 (of_true d)) (some-injective _ _ (rw (b, c, d) at q))
    go false b false c false d q = absurd (none_some (rw (b, c, d) at q))

-- places
pub entry_next : (s : Bytes) (i : ℕ) (e : Entry) (j : ℕ) → EntryAt s i e j → i + length (entry_bytes e) ≡ j
entry_next s i e j t =
    let b = entry_by s i e j t in
    let l = ap length (entry_is (get_or s i 0) (part s (i + 3) j) e b.is).1 ∙ part_length s (i + 3) j b.to in
    omega (arith, b.next)

pub entry_later : (s : Bytes) (i : ℕ) (e : Entry) (j : ℕ) → EntryAt s i e j → i + 3 ≤ j
entry_later s i e j t = omega (arith, entry_next s i e j t)

pub entries_to : (s : Bytes) (i : ℕ) (es : List Entry) (k : ℕ) → Entries s i es k → (i ≤ k) × (k ≤ length s)
entries_to s i _ _ (over h) = (omega arith, h)
entries_to s i _ k (more {j = j} {e = e} {es = es} t r) = let a = entry_later s i e j t in let b = entries_to s j es k r in (omega arith, b.1)

pub entries_next : (s : Bytes) (i : ℕ) (es : List Entry) (k : ℕ) → Entries s i es k → i + length (entries_bytes es) ≡ k
entries_next s i _ _ (over h) = omega arith
entries_next s i _ k (more {j = j} {e = e} {es = es} t r) =
    omega (arith, entry_next s i e j t, entries_next s j es k r, length-append (entry_bytes e) (entries_bytes es))

-- the entry at a place is one, and it ends at one place
pub entry_one : (s : Bytes) (i : ℕ) (e f : Entry) (j k : ℕ) → EntryAt s i e j → EntryAt s i f k → (e ≡ f) × (j ≡ k)
entry_one s i e f j k t u =
    let z : ◌≡◌ {A = Entry × Bytes} (e, drop j s) (f, drop k s) = some-injective _ _ (sym t.is ∙ u.is) in
    (ap (λ (x : Entry × Bytes). x.0) z, drop_same s j k t.to u.to (ap (λ (x : Entry × Bytes). x.1) z))

-- the first entry and the others
pub record Front (s : Bytes) (i : ℕ) (es : List Entry) (k : ℕ) : Type 0 where
  pub one : Entry
  pub others : List Entry
  pub place : ℕ
  pub stands : EntryAt s i one place
  pub rest : Entries s place others k
  pub are : es ≡ one ∷ others

pub entries_front : (s : Bytes) (i : ℕ) (es : List Entry) (k : ℕ) → i < k → Entries s i es k → Front s i es k
entries_front s i _ _ h (over g) = absurd (omega arith)
entries_front s i _ k h (more {j = j} {e = e} {es = es} t r) = record { one = e; others = es; place = j; stands = t; rest = r; are = refl }

pub entries_over : (s : Bytes) (i : ℕ) (es : List Entry) (k : ℕ) → k ≤ i → Entries s i es k → es ≡ []
entries_over s i _ _ h (over g) = refl
entries_over s i _ k h (more {j = j} {e = e} {es = es} t r) = let a = entry_later s i e j t in let b = entries_to s j es k r in absurd (omega arith)

-- entries that end at the same place are the same
pub entries_one : (s : Bytes) (i : ℕ) (es fs : List Entry) (k : ℕ) → Entries s i es k → Entries s i fs k → es ≡ fs
entries_one s i _ fs _ (over h) r = sym (entries_over s i fs i (omega arith) r)
entries_one s i _ fs k (more {j = j} {e = e} {es = es} t r) u =
    let a = entry_later s i e j t in
    let b = entries_to s j es k r in
    let f = entries_front s i fs k (omega arith) u in
    let o = entry_one s i e f.one j f.place t f.stands in
    let q = entries_one s j es f.others k r (subst (λ (n : ℕ). Entries s n f.others k) (sym o.1) f.rest) in
    ap₂ (λ (x : Entry) (l : List Entry). x ∷ l) o.0 q ∙ sym f.are

-- entries one behind the other
pub entries_append : (s : Bytes) (i : ℕ) (es fs : List Entry) (j k : ℕ) → Entries s i es j → Entries s j fs k → Entries s i (es ++ fs) k
entries_append s i _ fs _ k (over h) u = u
entries_append s i _ fs j k (more {j = m} {e = e} {es = es} t r) u = more t (entries_append s m es fs j k r u)

-- one entry more
pub entries_more : (s : Bytes) (i : ℕ) (es : List Entry) (j : ℕ) (e : Entry) (k : ℕ) → Entries s i es j → EntryAt s j e k → Entries s i (es ++ e ∷ []) k
entries_more s i es j e k r t = entries_append s i es (e ∷ []) j k r (more t (over t.to))

-- entries up to an earlier place are the first ones of those up to a later place
pub record Split (s : Bytes) (es passed : List Entry) (j k : ℕ) : Type 0 where
  pub rest : List Entry
  pub are : es ≡ passed ++ rest
  pub stand : Entries s j rest k

pub entries_split : (s : Bytes) (i : ℕ) (es passed : List Entry) (j k : ℕ) → j ≤ k → Entries s i passed j → Entries s i es k → Split s es passed j k
entries_split s i es _ _ k h (over g) u = record { rest = es; are = refl; stand = u }
entries_split s i es _ j k h (more {j = m} {e = e} {es = ps} t r) u =
    let a = entry_later s i e m t in
    let b = entries_to s m ps j r in
    let f = entries_front s i es k (omega arith) u in
    let o = entry_one s i e f.one m f.place t f.stands in
    let q = entries_split s m f.others ps j k h r (subst (λ (n : ℕ). Entries s n f.others k) (sym o.1) f.rest) in
    record { rest = q.rest; are = f.are ∙ ap₂ (λ (x : Entry) (l : List Entry). x ∷ l) (sym o.0) q.are; stand = q.stand }

-- an entry that starts before another ends before it
pub entry_apart : (s : Bytes) (b : ℕ) (ps qs : List Entry) (i j k : ℕ) (e : Entry) → Entries s b ps i → EntryAt s i e k → Entries s b qs j → i < j → k ≤ j
entry_apart s b ps qs i j k e p t q h =
    let r = entries_split s b qs ps i j (omega arith) p q in
    let f = entries_front s i r.rest j h r.stand in
    let o = entry_one s i e f.one k f.place t f.stands in
    omega (arith, o.1, (entries_to s f.place f.others j f.rest).0)
