-- The fields of the table of depths: of few bits, inside the table, and wide enough for the depths of an accepted file. Assumes nothing.
use Prim.Native.Nat.{ℕ, suc, ◌+◌, ◌/◌, ◌^◌, ◌≤◌, ◌<◌, zero, ◌*◌}
use native.Mathlib.Omega.{arith}
use native.Mathlib.Decide.{dec_le}
use mathlib.Core.Path.{◌≡◌, ap}
use mathlib.Core.List.{List}
use lib.Dec.{leb→le}
use lib.ListN.{length, get_or, get_or-eq_default}
use borrow.Author.Tests.{le-leb, lt-leb}
use Rattle.rules.specs.Bytes.{Bytes}
use Rattle.rules.specs.Package.{most_classes, Class}
use Rattle.rules.specs.Store.{Entry, store_limits}
use Rattle.rules.specs.Classes.{Installed, installed}
use Rattle.rules.specs.Questions.{own, depth_within}
use Rattle.rules.proofs.Tests.{of_true, all_from_zero}
use Rattle.rules.proofs.Asked.{parents_yes}
use Rattle.rules.proofs.Limits.{limits_range_lem}
use Rattle.homes.specs.Homes.{Parents, own_home}
use Rattle.homes.specs.Homes as homes
use Rattle.named.specs.Named.{Judged, Stands, ClassFrom}
use Rattle.depths.specs.Depths.{ClassIs, OwnDepths, DepthsFit, ParentedIs, depth_of, width_for, depth_width, depths_length}
use Rattle.std.specs.Prelude.{Some}
use Rattle.depths.proofs.Exist.{judged_reads, own_at}
use Rattle.depths.proofs.Parts.{parented_parents}
use Rattle.depths.proofs.Written.{stands_from}
use native.Mathlib.Nat.{mul-le-mul_right}

-- so many bits hold every depth up to the limit
width_holds : (most : ℕ) → most ≤ 16 → most ≤ 2 ^ width_for most
width_holds most h = elim (dec_le most 8) [
  | yes l ↦ rw (le-leb most 8 l) l
  | no l ↦ rw (lt-leb most 8 (omega arith)) h
]

-- and are few
pub width_few : (most : ℕ) → width_for most ≤ 4
width_few most = elim (dec_le most 8) [ yes l ↦ rw (le-leb most 8 l) (omega arith) | no l ↦ rw (lt-leb most 8 (omega arith)) (omega arith) ]

-- a field of so few bits is small
pub field_small : {w r : ℕ} → r < 2 ^ w → w ≤ 4 → r < 16
field_small {w} {r} h l = go w h l
  where
    go : (w : ℕ) → r < 2 ^ w → w ≤ 4 → r < 16
    go zero h l = omega arith
    go (suc zero) h l = omega arith
    go (suc (suc zero)) h l = omega arith
    go (suc (suc (suc zero))) h l = omega arith
    go (suc (suc (suc (suc zero)))) h l = h
    go (suc (suc (suc (suc (suc w))))) h l = absurd (omega arith)

-- the field of a place of the store lies in the table
pub field_room : (s : Bytes) (w : ℕ) {p n : ℕ} → w ≡ depth_width s → p < length s → depths_length s ≤ n → p / 5 * w / 8 + 1 < n
field_room s w {p} {n} e h r =
    let m : p / 5 * depth_width s ≤ length s / 5 * depth_width s = mul-le-mul_right (depth_width s) (omega (arith, h)) in
    let z : p / 5 * w ≡ p / 5 * depth_width s = ap (λ (v : ℕ). p / 5 * v) e in
    omega (arith, z, m, r)

-- the depths of an accepted file's classes are within the limit
pub depths_fit : (f s : Bytes) (end depth : ℕ) (ds : List ℕ) → Judged f s end → ParentedIs f s end (Some depth) → OwnDepths f s end ds →
    length ds ≡ most_classes → DepthsFit (depth_width s) f ds
depths_fit f s end depth ds t p o e = record { size = e; fit = fit }
  where
    es : List Entry
    es = t.0

    self : Installed
    self = t.1

    parents : Parents f s end es self
    parents = parented_parents f s end depth p es self t.2

    fit : (n i : ℕ) → Stands f n i → 0 < get_or f (i + 1) 0 → (1 ≤ get_or ds n 0) × (get_or ds n 0 ≤ 2 ^ depth_width s)
    fit n i q h = (omega (arith, told), omega (arith, told, within, width_holds (store_limits s).depth (limits_range_lem s).0))
      where
        inside : i < length f
        inside = elim (dec_le (length f) i) [
          | yes l ↦ let z : get_or f (i + 1) 0 ≡ 0 = get_or-eq_default f 0 (omega (arith, l)) in absurd (omega (arith, z, h))
          | no l ↦ omega arith
        ]

        from : ClassFrom f n i
        from = record { inside = inside; rest = stands_from f (judged_reads f s end t) n i q }

        class : (k : Class) × ClassIs f s end (own_home end) n es self self k
        class = let y = own_at f s end n i from es self t.2 in (y.0, record { parents = parents; home = homes.own; is = y.1 })

        told : get_or ds n 0 ≡ depth_of s es (own self n)
        told = o n es self self class.0 class.1

        within : depth_of s es (own self n) ≤ (store_limits s).depth
        within =
            let is : List Installed = installed (store_limits s) es in
            let y = (parents_yes (store_limits s) is self (of_true (p es self t.2).0)).depths in
            leb→le _ _ (all_from_zero (λ i k. depth_within (store_limits s) is self i) self.pack.classes n class.0 y class.1.is)
