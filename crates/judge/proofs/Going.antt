-- How far the entries of a store were accepted: where a turn begins, one entry further, and the end. Assumes nothing.
use Prim.Native.Nat.{ℕ, ◌≤◌}
use native.Mathlib.Omega.{arith}
use mathlib.Core.Path.{◌≡◌, refl, sym, ◌∙◌, ap, subst⁻¹}
use mathlib.Core.Bool.{Bool, true, false, ◌&&◌}
use mathlib.Core.List.{List, [], ◌∷◌, ◌++◌, append_assoc}
use lib.Dec.{T}
use lib.ListN.{length}
use Rattle.rules.specs.Bytes.{Bytes}
use Rattle.rules.specs.Store.{Entry, first_entry, store_opening}
use Rattle.rules.specs.Operations.{accepted, accepted_all, sound_entries}
use Rattle.rules.proofs.Tests.{and_i, is_true, of_true}
use Rattle.rules.proofs.Step.{accepted_append}
use Rattle.store.specs.Entries.{Entries, FirstIs}
use Rattle.store.specs.Sound.{Over}
use Rattle.store.proofs.Stand.{entries_to, entries_more}

-- of the entries es, those up to place `at` were accepted, and the others stand from there up to `end`
pub record Reached (s : Bytes) (end at : ℕ) (es : List Entry) : Type 0 where
  pub pre : List Entry
  pub rest : List Entry
  pub are : es ≡ pre ++ rest
  pub over : Over s at pre
  pub behind : Entries s at rest end

abbrev pub Going : Bytes → ℕ → ℕ → Type 0
Going s end at = (es : List Entry) → Entries s (first_entry s) es end → Reached s end at es

pub going_start : (s : Bytes) (end : ℕ) → Going s end (first_entry s)
going_start s end es r =
    let t = entries_to s (first_entry s) es end r in
    let h : first_entry s ≤ length s = omega (arith, t.0, t.1) in
    record { pre = []; rest = es; are = refl; over = record { stand = Entries.over h; sound = tt }; behind = r }

module _ (s : Bytes) (end at : ℕ) (es : List Entry) (g : Reached s end at es) where
  -- what the whole list's soundness is, where a turn begins
  whole : sound_entries (store_opening s) (length s) es ≡ accepted_all (store_opening s) (length s) g.pre g.rest
  unfolding sound_entries
  whole =
      ap (accepted_all (store_opening s) (length s) []) g.are ∙ accepted_append (store_opening s) (length s) [] g.pre g.rest
      ∙ ap (λ (b : Bool). b && accepted_all (store_opening s) (length s) g.pre g.rest)
      (is_true (accepted_all (store_opening s) (length s) [] g.pre) g.over.sound)

  -- an entry that is accepted
  pub going_on : (e : Entry) (next : ℕ) → FirstIs s at e next end g.rest → accepted (store_opening s) (length s) g.pre e ≡ true → Reached s end next es
  going_on e next f a = record {
    pre = g.pre ++ e ∷ [];
    rest = f.rest;
    are = g.are ∙ ap (λ (zs : List Entry). g.pre ++ zs) f.are ∙ sym (append_assoc g.pre (e ∷ []) f.rest);
    over = record {
      stand = entries_more s (first_entry s) g.pre at e next g.over.stand f.stands;
      sound = subst⁻¹ T (accepted_append (store_opening s) (length s) [] g.pre (e ∷ []))
          (and_i (accepted_all (store_opening s) (length s) [] g.pre) _ g.over.sound
          (and_i (accepted (store_opening s) (length s) g.pre e) true (of_true a) tt));
    };
    behind = f.after;
  }

  -- one that is not
  pub going_bad : (e : Entry) (next : ℕ) → FirstIs s at e next end g.rest → accepted (store_opening s) (length s) g.pre e ≡ false →
      sound_entries (store_opening s) (length s) es ≡ false
  going_bad e next f a = whole ∙ ap (accepted_all (store_opening s) (length s) g.pre) f.are ∙ ap
      (λ (b : Bool). b && accepted_all (store_opening s) (length s) (g.pre ++ e ∷ []) f.rest) a

  -- the end
  pub going_done : g.rest ≡ [] → sound_entries (store_opening s) (length s) es ≡ true
  going_done e = whole ∙ ap (accepted_all (store_opening s) (length s) g.pre) e
