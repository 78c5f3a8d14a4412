-- A domain's entry in the table: its AID, what entering it says, what looking for it says. Assumes nothing.
use Prim.Native.Nat.{ℕ, ◌+◌, ◌-◌, ◌*◌, ◌≤◌, ◌<◌}
use native.Mathlib.Omega.{arith}
use mathlib.Core.Path.{◌≡◌, refl, sym, ◌∙◌, ap, ap₂}
use mathlib.Core.Bool.{Bool, true, false, ◌&&◌, ◌||◌, not}
use mathlib.Core.List.{List, [], ◌∷◌}
use mathlib.Core.Option.{some, some-injective}
use lib.Dec.{leb, leb→le}
use lib.ListN.{length, get_or, set, length-set}
use lib.Seq.{get_or-set_same}
use borrow.Author.Tests.{le-leb, lt-leb}
use Rattle.std.specs.Prelude.{Some, None}
use Rattle.rules.specs.Bytes.{Bytes, Aid, any, same, aid_length}
use Rattle.rules.specs.Store.{DomainKind, Entry, domain, loaded, first_entry, store_limits}
use Rattle.rules.specs.Questions.{q3_lengths, q4_new, q5_created, keeps_subset}
use Rattle.rules.specs.Operations.{is_domain}
use Rattle.rules.proofs.Tests.{none_some, and_l, and_r, of_true, is_true, same_eq, same_refl}
use Rattle.rules.proofs.Limits.{first_entry_lem}
use Rattle.store.specs.Entries.{part, kind_at, EntryAt, Entries, StandFrom}
use Rattle.store.proofs.Parts.{part_length}
use Rattle.store.proofs.Stand.{EntryBy, KindBy, domain_by, loaded_by, not_loaded, entry_by, kind_by, entry_later, entries_to}
use Rattle.store.proofs.Walk.{place_any}
use Rattle.store.proofs.Asked.{created_place}
use Rattle.sorted.specs.Sorted.{key_place, key_at, Keyed, count, Sorted, Found, Entered}
use Rattle.sorted.proofs.Table.{key_place_domain, key_part}
use Rattle.index.proofs.Tables.{table_start, table_other, table_more, found_none, found_any}
use Rattle.domains.proofs.Strict.{found_full, found_strict}
use Rattle.domains.specs.Domains.{reads_without_int, domain_key, DomainsIs, EntrySays}

-- the test of a domain's AID finds the domains that have it
is_key : (a : Aid) (e : Entry) → is_domain a e ≡ true → domain_key e ≡ some a
is_key a (domain k b) h = ap some (sym (same_eq a b (of_true h)))
is_key a (loaded d f) h = let z : ◌≡◌ {A = ℕ} 0 1 = cc in absurd (omega arith)

key_is : (a : Aid) (e : Entry) → domain_key e ≡ some a → is_domain a e ≡ true
key_is a (domain k b) h = ap (same a) (some-injective _ _ h) ∙ is_true (same a a) (same_refl a)
key_is a (loaded d f) h = absurd (none_some h)

-- 5 by the test
created_any : (es : List Entry) (a : Aid) → q5_created es a ≡ any (is_domain a) es
created_any es a = created_place 0 es a ∙ place_any (is_domain a) 0 es

-- 3 of one AID
pub one_length : (a : Aid) → q3_lengths (a ∷ []) ≡ aid_length (length a)
unfolding q3_lengths
one_length a = and_true (aid_length (length a))
  where
    and_true : (b : Bool) → (b && true) ≡ b
    and_true true = refl
    and_true false = refl

-- 4 is the contrary of 5
new_not : (es : List Entry) (a : Aid) → q4_new es a ≡ not (q5_created es a)
unfolding q4_new q5_created
new_not es a = refl

-- an AID's range
pub in_range : (n : ℕ) → aid_length n ≡ true → (5 ≤ n) × (n ≤ 16)
in_range n h = (leb→le 5 n (and_l (leb 5 n) (leb n 16) (of_true h)), leb→le n 16 (and_r (leb 5 n) (leb n 16) (of_true h)))

pub range_low : (n : ℕ) → n < 5 → false ≡ aid_length n
range_low n h = rw (lt-leb 5 n h) refl

pub range_high : (n : ℕ) → 5 ≤ n → leb n 16 ≡ aid_length n
range_high n h = rw (le-leb 5 n h) refl

-- a domain's entry by its bytes
module _ (s : Bytes) (at next : ℕ) {k : DomainKind} (a : Aid) (t : EntryAt s at (domain k a) next) where
  by : EntryBy s at (domain k a) next
  by = entry_by s at (domain k a) next t

  -- kind and AID
  pub domain_by_lem : (get_or s at 0 ≡ 2 → ⊥) × (a ≡ part s (at + 3) next)
  domain_by_lem = go (kind_by s at (domain k a) next by)
    where
      go : KindBy s at (domain k a) next → (get_or s at 0 ≡ 2 → ⊥) × (a ≡ part s (at + 3) next)
      go (domain_by x) = (λ h. not_loaded (kind_at s at) (sym x.kind ∙ h), let e = x.is in cc)
      go (loaded_by x) = let e = x.is in let z : ◌≡◌ {A = ℕ} 0 1 = cc in absurd (omega arith)

  pub domain_long : length a ≡ next - (at + 3)
  domain_long = ap length domain_by_lem.1 ∙ part_length s (at + 3) next t.to

  module _ (h : aid_length (length a) ≡ true) where
    range : (5 ≤ length a) × (length a ≤ 16)
    range = in_range (length a) h

    low : get_or s (at + 2) 0 ≡ next - (at + 3)
    low = let e : at + 1 + 1 ≡ at + 2 = omega arith in omega (arith, by.next, domain_long, range.1, ap (λ (i : ℕ). get_or s i 0) e)

    place : key_place s at ≡ at + 2
    place = key_place_domain s at domain_by_lem.0

    -- the AID that it is sorted by
    pub domain_key_lem : key_at s at ≡ a
    domain_key_lem =
        let e : at + 2 + 1 ≡ at + 3 = omega arith in
        let f : at + 2 + 1 + (next - (at + 3)) ≡ next = omega (arith, entry_later s at (domain k a) next t) in
        sym (key_part s at (at + 2) (next - (at + 3)) (sym place) (sym low)) ∙ ap₂ (part s) e f ∙ sym domain_by_lem.1

    pub domain_keyed : (first_entry s) ≤ at → Keyed s at
    domain_keyed g = record {
      real = omega (arith, (first_entry_lem s).0);
      head = omega (arith, domain_long, range.0, t.to);
      whole = omega (arith, place, ap (λ (i : ℕ). get_or s i 0) place, low, domain_long, range.0, t.to);
    }

    pub domain_room : at + 8 ≤ next
    domain_room = omega (arith, domain_long, range.0)

module _ (s : Bytes) (at : ℕ) (l : List ℕ) (d : DomainsIs s at l) where
  -- looking for an AID
  found_created : (a : Aid) (q : ℕ) → Found s l a (Some q) → (pre : List Entry) → Entries s (first_entry s) pre at → q5_created pre a ≡ true
  found_created a q w pre r = created_any pre a ∙ found_any domain_key s at l d.table a (is_domain a) (key_is a) q w.0 w.1 pre r

  none_created : (a : Aid) → Found s l a None → (pre : List Entry) → Entries s (first_entry s) pre at → q5_created pre a ≡ false
  none_created a w pre r = created_any pre a ∙ found_none domain_key s at l d.table a (is_domain a) (is_key a) w pre r

  behind : (first_entry s) ≤ at
  behind = (entries_to s (first_entry s) d.table.behind.0 at d.table.behind.1).0

  -- entering a domain
  module _ (next : ℕ) {k : DomainKind} (a : Aid) (t : EntryAt s at (domain k a) next) (h : aid_length (length a) ≡ true) where
    enter_keyed : Keyed s at
    enter_keyed = domain_keyed s at next a t h behind

    enter_room : (count l + 1 < length l) × (count l + 1 ≤ length s)
    enter_room = (omega (arith, domain_room s at next a t h, d.room, d.few, t.to, (first_entry_lem s).0), omega (arith, domain_room s at next a t h, d.few, t.to))

    -- it may be entered
    pub enter_ready : length s ≤ 65535 → (Sorted s l × Keyed s at × (at < 65536)) × ((count l + 1 < length l) × (count l < 65535))
    enter_ready g = ((d.table.sorted, enter_keyed, omega (arith, domain_room s at next a t h, t.to)), (enter_room.0, omega (arith, enter_room.1)))

    key : key_at s at ≡ a
    key = domain_key_lem s at next a t h

    -- 3 and 4
    pub enter_says : (m : List ℕ) (b : Bool) → Entered s l m at b → EntrySays s at (domain k a) b
    enter_says m true n pre r =
        let e = created_any pre a ∙ found_none domain_key s at l d.table a (is_domain a) (is_key a) (λ p x z. n.alone p x (z ∙ sym key)) pre r in
        sym (ap₂ (λ (x y : Bool). x && y) (one_length a ∙ h) (new_not pre a ∙ ap not e))
    enter_says m false n pre r =
        let e = created_any pre a ∙ found_any domain_key s at l d.table a (is_domain a) (key_is a) n.1 n.2 (n.3 ∙ key) pre r in
        sym (ap₂ (λ (x y : Bool). x && y) (one_length a ∙ h) (new_not pre a ∙ ap not e))

    pub enter_table : (m : List ℕ) (b : Bool) → Entered s l m at b → b ≡ true → DomainsIs s next m
    enter_table m true n e = record {
      table = table_more domain_key s at next (domain k a) l d.table t m (ap some (sym key)) n;
      room = omega (arith, d.room, n.size);
      few = omega (arith, d.few, n.more, domain_room s at next a t h);
    }
    enter_table m false n e = let z : ◌≡◌ {A = ℕ} 0 1 = cc in absurd (omega arith)

  -- 3 of a domain
  pub short_says : (k : DomainKind) (a : Aid) → aid_length (length a) ≡ false → EntrySays s at (domain k a) false
  short_says k a h pre r = sym (ap (λ (x : Bool). x && q4_new pre a) (one_length a ∙ h))

  -- a place that is found lies inside the store
  pub found_inside : (a : Aid) (q : ℕ) → Found s l a (Some q) → q < length s
  found_inside a q w =
      let x = d.table.only q w.0 in
      omega (arith, x.stood.stands.to, entry_later s q x.one x.next x.stood.stands)

  -- 3 and 5 of a package's domain, and 26 where it is of kind 3
  pub short_package : (a : Aid) (f : Bytes) → aid_length (length a) ≡ false → EntrySays s at (loaded a f) false
  short_package a f h pre r =
      sym (ap (λ (x : Bool). x && (q5_created pre a && (not (keeps_subset pre a) || reads_without_int (store_limits s) f))) (one_length a ∙ h))

  module _ (a : Aid) (f : Bytes) (h : aid_length (length a) ≡ true) where
    pub package_missing : Found s l a None → EntrySays s at (loaded a f) false
    package_missing w pre r = sym (ap₂ (λ (x y : Bool). x && (y && (not (keeps_subset pre a) || reads_without_int (store_limits s) f)))
        (one_length a ∙ h) (none_created a w pre r))

    module _ (q : ℕ) (w : Found s l a (Some q)) where
      -- found: the answer to 26
      package_says : (b c : Bool) → ((pre : List Entry) → Entries s (first_entry s) pre at → keeps_subset pre a ≡ b) →
          (not b || reads_without_int (store_limits s) f) ≡ c → EntrySays s at (loaded a f) c
      package_says b c k e pre r =
          sym (ap₂ (λ (x y : Bool). x && (y && (not (keeps_subset pre a) || reads_without_int (store_limits s) f))) (one_length a ∙ h)
          (found_created a q w pre r) ∙ ap (λ (x : Bool). not x || reads_without_int (store_limits s) f) (k pre r) ∙ e)

      pub package_full : (get_or s q 0 ≡ 3 → ⊥) → EntrySays s at (loaded a f) true
      package_full n = package_says false true (λ pre r. found_full s at l d.table a q w n pre r) refl

      pub package_kept : get_or s q 0 ≡ 3 → (c : Bool) → c ≡ reads_without_int (store_limits s) f → EntrySays s at (loaded a f) c
      package_kept n c e = package_says true c (λ pre r. found_strict s at l d.table a q w n pre r) (sym e)

-- the table before the first entry
pub domains_start : (s : Bytes) (l : List ℕ) → first_entry s ≤ length s → length s ≤ 8 * length l → count l ≡ 0 → DomainsIs s (first_entry s) l
domains_start s l h g e = record { table = table_start domain_key s l h (omega (arith, (first_entry_lem s).0)) e; room = g; few = omega arith }

-- the first number of a table set to 0
module _ (s : Bytes) (end : ℕ) (l : List ℕ) (t : StandFrom s (first_entry s) end) (g : length s ≤ 8 * length l) where
  pub table_room : 0 < length l
  table_room = let b = entries_to s (first_entry s) t.0 end t.1 in omega (arith, b.0, b.1, (first_entry_lem s).0)

  pub domains_zero : DomainsIs s (first_entry s) (set l 0 0)
  domains_zero =
      let b = entries_to s (first_entry s) t.0 end t.1 in
      domains_start s (set l 0 0) (omega (arith, b.0, b.1)) (omega (arith, length-set l 0 0)) (get_or-set_same l 0 0 0 table_room)

-- and behind a package's entry
pub domains_package : (s : Bytes) (at next : ℕ) (d f : Bytes) (l : List ℕ) → DomainsIs s at l → EntryAt s at (loaded d f) next → DomainsIs s next l
domains_package s at next d f l x t = record {
  table = table_other domain_key s at next (loaded d f) l x.table t refl;
  room = x.room;
  few = omega (arith, x.few, entry_later s at (loaded d f) next t);
}
