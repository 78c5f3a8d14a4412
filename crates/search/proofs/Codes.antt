-- Classes told as numbers: a number tells the class that it was made of, and none is 0. Assumes nothing.
use Prim.Native.Nat.{ℕ, zero, suc, ◌*◌, ◌/◌, ◌%◌, ◌+◌, ◌≤◌, ◌<◌}
use native.Mathlib.Omega.{arith}
use mathlib.Core.Path.{◌≡◌, refl}
use mathlib.Core.Option.{some}
use Rattle.classes.specs.Keys.{key}
use Rattle.classes.specs.declared.ClassSpot.{ClassSpot}
use Rattle.slots.specs.Slots.{SmallHome}
use Rattle.search.specs.Walk.{class_code, spot_in, class_in}

-- the class is told again
pub spot_code : (c : ClassSpot) → SmallHome c.home → c.number ≤ 255 → spot_in (class_code c) ≡ c
unfolding spot_in
spot_code c h n =
    let x = class_code c in
    let from : x / 256 / 65536 / 65536 % 65536 ≡ c.home.from = omega (arith, h.from, h.to, h.before, n) in
    let to : x / 256 / 65536 % 65536 ≡ c.home.to = omega (arith, h.from, h.to, h.before, n) in
    let before : x / 256 % 65536 ≡ c.home.before = omega (arith, h.from, h.to, h.before, n) in
    let number : x % 256 ≡ c.number = omega (arith, n) in
    rw (from, to, before, number)

pub code_told : (c : ClassSpot) → 0 < class_code c
code_told c = omega arith

-- the bit of the class told
pub key_in : (x : ℕ) → key (spot_in x).home (spot_in x).number ≡ x / 256 % 65536 * 3 / 11 + x % 256
unfolding spot_in
key_in x = refl

-- a number other than 0 tells a class
pub class_in_lem : (x : ℕ) → (x ≡ 0 → ⊥) → class_in x ≡ some (spot_in x)
class_in_lem zero z = absurd (z refl)
class_in_lem (suc x) z = refl

pub told_not : {x : ℕ} → 0 < x → x ≡ 0 → ⊥
told_not z e = omega (arith, z, e)
