-- The page of a store grown from a fresh one, from the calls and their answers. Assumes nothing.
use Prim.Native.Nat.{ℕ, ◌≤◌}
use mathlib.Core.Path.{◌≡◌, refl, sym, ◌∙◌, ap, ap₂, subst⁻¹}
use mathlib.Core.List.{List, [], ◌++◌, map}
use mathlib.Core.Option.{Option}
use lib.Dec.{T}
use lib.ListN.{length}
use Rattle.rules.specs.Bytes.{Bytes, flat, list_of}
use Rattle.rules.specs.Limits.{Limits}
use Rattle.rules.specs.Store.{Opening, opening_limits, opening_range, Entry, write, store_limits}
use Rattle.rules.specs.Operations.{sound_entries, sound, entries, Operation, number, after, fresh_number, fresh_bytes}
use Rattle.rules.specs.Ledger.{ledger_number, ledger_step, Run, done, next}
use Rattle.rules.proofs.Written.{opening_back, read_write}
use Rattle.rules.proofs.Opens.{opening_is}
use Rattle.rules.proofs.Ledger.{sound_written, ledger_sound, after_written}
use Rattle.rules.proofs.Openings.{fresh_written}
use Rattle.rules.proofs.Whole.{FreshDone, fresh_done}
use Rattle.inventory_rules.specs.Inventory.{lines_of, totals_of, line_text, totals_text, page, inventory}
use Rattle.inventory_rules.specs.Kept.{Load, kept_step, kept, files_of, sums, as_loaded}
use Rattle.inventory_rules.proofs.Loads.{loads_in, lines_loads, totals_loads, loads_step}
use Rattle.inventory_rules.proofs.Printed.{printed_page}

-- a buffer that is written out from sound entries with these packages
pub record Holds (v : Opening) (n : ℕ) (t : Bytes) (xs : List Load) : Type 0 where
  pub es : List Entry
  pub sound : T (sound_entries v n es)
  pub written : t ≡ write v n es
  pub loads : loads_in es ≡ xs

module _ (v : Opening) (ranged : T (opening_range v)) (n : ℕ) (least : 64 ≤ n) (most : n ≤ 65535) where
  -- from a sound ledger on
  run_kept : (es : List Entry) → T (sound_entries v n es) → {s : Bytes} {os : List Operation} {ks : List ℕ} {t : Bytes} → Run s os ks t →
      s ≡ write v n es → Holds v n t (kept (opening_limits v) (loads_in es) os ks)
  unfolding ledger_number
  run_kept es h done e = record { es = es; sound = h; written = e; loads = refl }
  run_kept es h (next {o = o} {os = os} {ks = ks} k-is s-is r) e =
      let l : Limits = opening_limits v in
      let k = k-is ∙ ap (λ (z : Bytes). number z o) e in
      let step = loads_step v n es o ∙ ap (kept_step l (loads_in es) o) (sym k) in
      let i = run_kept (ledger_step v n es o) (ledger_sound v ranged n least most es o h) r
      (s-is ∙ ap (λ (z : Bytes). after z o) e ∙ after_written v ranged n least most es o h) in
      record { es = i.es; sound = i.sound; written = i.written; loads = i.loads ∙ ap (λ (xs : List Load). kept l xs os ks) step }

  -- its entries and limits are read back
  module _ (t : Bytes) (xs : List Load) (g : Holds v n t xs) where
    entries_held : entries t ≡ g.es
    entries_held = ap entries g.written ∙ ap (λ (o : Option (List Entry)). list_of o (λ es. es)) (read_write v ranged n g.es)

    limits_held : store_limits t ≡ opening_limits v
    limits_held = ap store_limits g.written ∙ ap opening_limits (opening_is (write v n g.es) v (opening_back v ranged n g.es))

    sound_held : T (sound t)
    sound_held = subst⁻¹ (λ (z : Bytes). T (sound z)) g.written (sound_written v ranged n least most g.es g.sound)

    -- its totals and its page
    totals_held : totals_of (opening_limits v) (entries t) ≡ sums (opening_limits v) (files_of xs)
    totals_held =
        let l : Limits = opening_limits v in
        ap (totals_of l) entries_held ∙ totals_loads l g.es ∙ ap (λ (ys : List Load). sums l (files_of ys)) g.loads

    page_held : inventory t ≡ flat line_text (lines_of (opening_limits v) (map as_loaded xs)) ++ totals_text (sums (opening_limits v) (files_of xs))
    page_held =
        let l : Limits = opening_limits v in
        let lines = ap (lines_of l) entries_held ∙ lines_loads l g.es ∙ ap (λ (ys : List Load). lines_of l (map as_loaded ys)) g.loads in
        printed_page t sound_held ∙ ap (λ (m : Limits). page m (entries t)) limits_held
        ∙ ap₂ (λ x y. flat line_text x ++ totals_text y) lines totals_held

module _ (s : Bytes) (v : Opening) (z : fresh_number s v ≡ 0) (os : List Operation) (ks : List ℕ) (t : Bytes) (r : Run (fresh_bytes s v) os ks t) where
  known : FreshDone s v
  known = fresh_done s v z

  grown : Holds v (length s) t (kept (opening_limits v) [] os ks)
  unfolding sound_entries
  grown = run_kept v known.ranged (length s) known.least known.most [] tt r (fresh_written s v z)

  pub totals_grown : totals_of (opening_limits v) (entries t) ≡ sums (opening_limits v) (files_of (kept (opening_limits v) [] os ks))
  totals_grown = totals_held v known.ranged (length s) known.least known.most t (kept (opening_limits v) [] os ks) grown

  pub page_grown : inventory t ≡
      flat line_text (lines_of (opening_limits v) (map as_loaded (kept (opening_limits v) [] os ks)))
      ++ totals_text (sums (opening_limits v) (files_of (kept (opening_limits v) [] os ks)))
  page_grown = page_held v known.ranged (length s) known.least known.most t (kept (opening_limits v) [] os ks) grown
