-- The page of a store that questions 1 and 2 refuse, and that of a sound one from its lines and totals. Assumes nothing.
use Prim.Native.Nat.{ℕ, ◌+◌, ◌≤◌, ◌<◌}
use native.Mathlib.Omega.{arith}
use mathlib.Core.Path.{◌≡◌, sym, ◌∙◌, ap, ap₂}
use mathlib.Core.List.{[], ◌++◌}
use lib.ListN.{length, take, length-append}
use lib.Seq.{length-take-le}
use Rattle.rules.specs.Bytes.{Bytes}
use Rattle.rules.specs.Store.{store_limits}
use Rattle.rules.specs.Operations.{on_store, entries}
use Rattle.store.specs.Sound.{SoundAt}
use Rattle.store.proofs.Sound.{kept, sound_store}
use Rattle.refusals.specs.declared.refusal.Refusal.{Refusal}
use Rattle.refusals.specs.Refusals.{number_of}
use Rattle.refusals.proofs.Numbers.{some_number}
use Rattle.sound.specs.Says.{Unopened}
use Rattle.text.specs.Text.{decimal}
use Rattle.text.specs.Put.{Put}
use Rattle.text.proofs.Digits.{decimal_few}
use Rattle.inventory_rules.specs.Inventory.{totals_text, page, number_text, inventory}
use Rattle.pages.specs.Says.{most_page, totals, LinesSay}
use Rattle.pages.specs.declared.Listed.{Listed}

-- a store that is refused prints the number
pub refused_page : (s : Bytes) (g : Refusal) → Unopened s g → number_text (number_of g) ≡ inventory s
unfolding inventory
refused_page s g h =
    let e = h [] in
    ap number_text e ∙ sym (kept (on_store s []) (page (store_limits s) (entries s)) (number_text (on_store s [])) (λ z. omega (arith, some_number g, e ∙ z)))

-- a sound one its lines and totals
pub sound_page : (s : Bytes) (u : ℕ) → SoundAt s u → inventory s ≡ page (store_limits s) (entries s)
unfolding inventory
sound_page s u h = let x = sound_store s u h in rw (x.size, x.is)

module _ {s : Bytes} {u : ℕ} {c : Bytes} {x : Listed} (w : LinesSay s u c x) (long : most_page ≤ length c) where
  -- there is room for the last line
  pub totals_room : x.at + length (decimal x.packages) + length (decimal x.bytes) + length (decimal x.methods) + 3 ≤ length c
  totals_room =
      let packages = decimal_few 4 x.packages (omega (arith, w.few.0, w.inside)) in
      let bytes = decimal_few 4 x.bytes (omega (arith, w.few.1, w.inside)) in
      let methods = decimal_few 9 x.methods (omega (arith, w.few.2, w.inside)) in
      omega (arith, packages, bytes, methods, w.room, w.inside, long)

  -- the lines and the last line are the page
  pub page_put : SoundAt s u → {b d : Bytes} {j : ℕ} → length c ≡ length b → Put c x.at (totals_text (totals x.packages x.bytes x.methods)) d j →
      Put b 0 (inventory s) d j
  page_put h {b} {d} {j} same p =
      let last = totals_text (totals x.packages x.bytes x.methods) in
      let whole : take x.at c ++ last ≡ inventory s = ap₂ ◌++◌ w.lines (ap totals_text w.sums) ∙ sym (sound_page s u h) in
      let at = length-take-le x.at c (omega (arith, w.room, w.inside, long)) in
      record {
        text = p.text ∙ whole;
        to = omega (arith, p.to, at, length-append (take x.at c) last, ap length whole);
        kept = p.kept ∙ same;
      }

-- a number has room
pub number_room : (n k : ℕ) → n < 4294967296 → most_page ≤ k → length (decimal n) + 1 ≤ k
number_room n k h long = let few = decimal_few 9 n (omega (arith, h)) in omega (arith, few, long)
