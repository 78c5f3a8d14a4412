-- What is printed, by questions 1 and 2, and that the bytes behind the first 65,536 change nothing. Assumes nothing.
use Prim.Native.Nat.{◌≤◌, ◌<◌}
use native.Mathlib.Omega.{arith}
use mathlib.Core.Path.{◌≡◌, refl, sym, ◌∙◌, ap}
use mathlib.Core.Bool.{Bool, true, false}
use mathlib.Core.List.{[], ◌∷◌}
use borrow.Author.Tests.{leb-true, leb-false, le-leb, lt-leb}
use lib.Dec.{T, leb}
use lib.ListN.{length, take}
use lib.Seq.{take_all, length-take-le}
use Rattle.rules.specs.Bytes.{Bytes}
use Rattle.rules.specs.Store.{store_limits}
use Rattle.rules.specs.Questions.{q1_size}
use Rattle.rules.specs.Operations.{sound, entries}
use Rattle.rules.proofs.Tests.{is_true}
use Rattle.text.specs.Text.{decimal}
use Rattle.inventory_rules.specs.Inventory.{page, inventory}
use Rattle.inventory_rules.proofs.Held.{sound_size}

module _ (s : Bytes) where
  pub printed_1 : q1_size s ≡ false → inventory s ≡ 0x31 ∷ 0x0A ∷ []
  unfolding inventory decimal
  printed_1 e = rw e

  pub printed_2 : q1_size s ≡ true → sound s ≡ false → inventory s ≡ 0x32 ∷ 0x0A ∷ []
  unfolding inventory decimal
  printed_2 e f = rw (e, f)

  pub printed_page : T (sound s) → inventory s ≡ page (store_limits s) (entries s)
  unfolding inventory
  printed_page h = rw (sound_size s h, is_true (sound s) h)

-- more than 65,535 bytes are no store
long_no : (s : Bytes) → 65535 < length s → q1_size s ≡ false
unfolding q1_size
long_no s h = rw (le-leb 64 (length s) (omega arith), lt-leb (length s) 65535 h)

pub printed_long : (s : Bytes) → inventory (take 65536 s) ≡ inventory s
printed_long s = go (leb (length s) 65536) refl
  where
    cut : 65536 ≤ length s → 65535 < length (take 65536 s)
    cut h = omega (arith, length-take-le 65536 s h)

    go : (b : Bool) → leb (length s) 65536 ≡ b → inventory (take 65536 s) ≡ inventory s
    go true e = ap inventory (take_all 65536 s (leb-true (length s) 65536 e))
    go false e =
        let h = leb-false (length s) 65536 e in
        printed_1 (take 65536 s) (long_no (take 65536 s) (cut (omega arith))) ∙ sym (printed_1 s (long_no s (omega arith)))
