-- The tables of a store: how large they must be, that zeros are those of no entries, and what a load by them says. Assumes nothing.
use Prim.Native.Nat.{ℕ, ◌+◌, ◌*◌, ◌/◌, ◌≤◌}
use native.Mathlib.Omega.{arith}
use mathlib.Core.Path.{◌≡◌, refl, sym, ap, subst}
use mathlib.Core.Bool.{Bool, true, false}
use mathlib.Core.List.{List}
use lib.Dec.{leb}
use borrow.Author.Tests.{le-leb}
use lib.ListN.{length, replicate}
use Rattle.rules.specs.Bytes.{Bytes, Aid, pick}
use Rattle.rules.specs.Store.{first_entry, store_limits}
use Rattle.rules.specs.Operations.{sound_entries}
use Rattle.rules.proofs.Tests.{of_true}
use Rattle.store.specs.Entries.{StandFrom}
use Rattle.store.specs.Sound.{OverSome}
use Rattle.store.proofs.Stand.{entries_to}
use Rattle.index.specs.Index.{IndexIs}
use Rattle.index.proofs.Entering.{index_start}
use Rattle.depths.specs.Depths.{DepthsKept, depths_length}
use Rattle.depths.proofs.Kept.{depths_start}
use Rattle.chains.specs.Names.{names_length}
use Rattle.classes.specs.Keys.{seen_length}
use Rattle.slots.specs.Slots.{slots_length}
use Rattle.homes.specs.Found.{Indexed}
use Rattle.judge.proofs.Entry.{indexed}
use Rattle.judge.specs.Says.{used_at, PackagesSay, LoadSays}
use Rattle.std.specs.Prelude.{Result, Err}
use Rattle.refusals.specs.declared.refusal.Refusal.{Refusal}
use Rattle.refusals.specs.declared.refusal.Refusal.TheVariants as refused
use Rattle.sound.specs.Says.{Room, JudgedSays}
use mathlib.Core.Logic.{inl, inr}
use Rattle.rules.proofs.Limits.{limits_range_lem}

-- the table of depths, by the bits of a depth: three where the depth limit is 8 or less, never more than four
shallow_length : (s : Bytes) → (store_limits s).depth ≤ 8 → depths_length s ≡ length s / 5 * 3 / 8 + 2
shallow_length s h = ap (λ (b : Bool). length s / 5 * pick b 3 4 / 8 + 2) (le-leb (store_limits s).depth 8 h)

deep_length : (s : Bytes) → depths_length s ≤ length s / 5 * 4 / 8 + 2
deep_length s = go (leb (store_limits s).depth 8)
  where
    go : (b : Bool) → length s / 5 * pick b 3 4 / 8 + 2 ≤ length s / 5 * 4 / 8 + 2
    go true = omega arith
    go false = omega arith

-- those of each class of lengths and depth limits
module _ (s : Bytes) where
  pub small_room : (length s ≤ 8192) × ((store_limits s).depth ≤ 8) → Room s 304 616 640 284
  small_room p = record {
    size = omega (arith, p.0);
    index = omega (arith, p.0);
    depths = omega (arith, shallow_length s p.1, p.0);
    names = omega (arith, p.1);
    seen = omega (arith, p.0);
    slots = omega arith;
  }

  pub large_room : (length s ≤ 65535) × ((store_limits s).depth ≤ 8) → Room s 2428 4917 640 2239
  large_room p = record {
    size = p.0;
    index = omega (arith, p.0);
    depths = omega (arith, shallow_length s p.1, p.0);
    names = omega (arith, p.1);
    seen = omega (arith, p.0);
    slots = omega arith;
  }

  pub deep_small_room : length s ≤ 8192 → Room s 304 821 1152 284
  deep_small_room p = record {
    size = omega (arith, p);
    index = omega (arith, p);
    depths = omega (arith, deep_length s, p);
    names = omega (arith, (limits_range_lem s).0);
    seen = omega (arith, p);
    slots = omega arith;
  }

  pub deep_large_room : length s ≤ 65535 → Room s 2428 6556 1152 2239
  deep_large_room p = record {
    size = p;
    index = omega (arith, p);
    depths = omega (arith, deep_length s, p);
    names = omega (arith, (limits_range_lem s).0);
    seen = omega (arith, p);
    slots = omega arith;
  }

-- tables of zeros are those of no entries
pub tables_start : (s : Bytes) (u n m j k : ℕ) → StandFrom s (first_entry s) u → Room s n m j k →
    (IndexIs s (first_entry s) (replicate n 0) × DepthsKept s (first_entry s) (replicate m 0))
    × ((length s ≤ 65535) × ((names_length s ≤ j) × (seen_length s ≤ k) × (slots_length ≤ j)))
tables_start s u n m j k t r =
    let e = entries_to s (first_entry s) t.0 u t.1 in
    ((index_start s n (omega (arith, e.0, e.1)) r.index, depths_start s m r.depths), (r.size, (r.names, r.seen, r.slots)))

-- the packages were answered b
module _ (s : Bytes) (u : ℕ) (b : Bool) (h : PackagesSay s u b) where
  -- no: a load is refused by 2
  pub judged_no : (d : Aid) (f : Bytes) → b ≡ false → JudgedSays s u d f (Err refused.StoreUnsound)
  judged_no d f e = inl (subst (PackagesSay s u) e h, refl)

  module _ (yes : b ≡ true) (end : used_at s ≡ u) where
    -- yes: the entries, which are all entries of the store, are accepted
    pub over_all : StandFrom s (first_entry s) u → (index depths : List ℕ) → (b ≡ true → IndexIs s u index × DepthsKept s u depths) →
        OverSome s (used_at s) × (Indexed s (used_at s) index × DepthsKept s (used_at s) depths)
    unfolding sound_entries
    over_all t index depths k =
        let o : OverSome s u = (t.0, record { stand = t.1; sound = of_true (sym (subst (PackagesSay s u) yes h t.0 t.1)) }) in
        subst (λ (i : ℕ). OverSome s i × (Indexed s i index × DepthsKept s i depths)) (sym end) (o, (indexed s u index o (k yes).0, (k yes).1))

    -- and a load is answered over them
    pub judged_yes : (d : Aid) (f : Bytes) (r : Result ℕ Refusal) → LoadSays s (used_at s) d f r → JudgedSays s u d f r
    judged_yes d f r l = inr (subst (PackagesSay s u) yes h, subst (λ (i : ℕ). LoadSays s i d f r) end l)
