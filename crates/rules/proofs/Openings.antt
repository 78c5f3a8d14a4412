-- The two fresh calls, and the limits of a sound store by its bytes: the proof of request 12. Assumes nothing.
use Prim.Native.Nat.{ℕ, ◌+◌, ◌*◌, ◌≤◌}
use native.Mathlib.Omega.{arith}
use mathlib.Core.Path.{◌≡◌, refl, sym, ◌∙◌, ap, subst}
use mathlib.Core.Bool.{Bool, ◌&&◌}
use mathlib.Core.Logic.{◌⊎◌, inl, inr}
use mathlib.Core.List.{[], ◌∷◌}
use mathlib.Core.Option.{some, some-injective}
use lib.Dec.{T, leb, le→leb}
use lib.ListN.{length, take, drop, get_or}
use lib.Seq.{get_or-drop}
use Rattle.rules.specs.Bytes.{Bytes, within}
use Rattle.rules.specs.Code.{signed, numbers_from, length_of, length_as, instruction_length, split_from, split, may_end, code_splits, targets_each, switch_targets, targets_at, code_branches, code_handlers, call_at, calls_of}
use Rattle.rules.specs.Limits.{Limits, standard, limits_range, InRange}
use Rattle.rules.specs.Package.{class_number, reference, item, items, policy, code_if, handler, handlers_if, method, class, contents, sized, edition_of, read_file}
use Rattle.rules.specs.Store.{Opening, version1, version2, opening_limits, write, store_mark, limits, opening_of, entries_of, store_opening, store_limits, limits_at}
use Rattle.rules.specs.Questions.{q1_size, q3_lengths, q4_new, q5_created, q10_marked, q11_reads, q12_new, q13_imports, q14_parents, q15_names, q16_splits, q17_targets, q24_handlers, keeps_subset, q26_subset, q18_calls, q19_allowed, q20_running, q21_fits, q30_limits}
use Rattle.rules.specs.Operations.{create_questions, package_questions, load_questions, sound_entries, sound, load, number, deepest, depth_figure, fresh_number, fresh_bytes}
use Rattle.rules.specs.CasesFiles.{D1}
use Rattle.rules.specs.CasesOpening.{limited, series, nine}
use Rattle.rules.proofs.Tests.{and_r, and_i, none_some, same_eq, some_and_is}
use Rattle.rules.proofs.Asked.{yes_first}
use Rattle.rules.proofs.Results.{if_refused}
use Rattle.rules.proofs.Opens.{OpenedAs, first, second, opened_as, entries_opened}
use Rattle.rules.proofs.Limits.{limits_ranged}
use Rattle.rules.proofs.Whole.{fresh_done}

-- limits in their ranges, as a sentence and as a test
range_in : (l : Limits) → T (limits_range l) → InRange l
range_in l h = let r = limits_ranged l h in (r.depth, r.parents, r.code)

within_in : (lo hi n : ℕ) → (lo ≤ n) × (n ≤ hi) → T (within lo hi n)
within_in lo hi n h = and_i (leb lo n) (leb n hi) (le→leb lo n h.0) (le→leb n hi h.1)

in_range : (l : Limits) → InRange l → T (limits_range l)
unfolding limits_range
in_range l h =
    let d : Bool = within 1 16 l.depth in
    let p : Bool = within 1 8 l.parents in
    and_i (d && p) (within 1 32767 l.code) (and_i d p (within_in 1 16 l.depth h.0) (within_in 1 8 l.parents h.1))
    (within_in 1 32767 l.code h.2)

-- a fresh call that is done writes an empty store
pub fresh_written : (s : Bytes) (v : Opening) → fresh_number s v ≡ 0 → fresh_bytes s v ≡ write v (length s) []
unfolding fresh_bytes
fresh_written s v e = rw e

module _ (s : Bytes) (l : Limits) where
  pub fresh_limits_lem : fresh_number s (version2 l) ≡ 0 →
      ((64 ≤ length s) × (length s ≤ 65535)) × InRange l × (fresh_bytes s (version2 l) ≡ write (version2 l) (length s) [])
  fresh_limits_lem e =
      let k = fresh_done s (version2 l) e in
      ((k.least, k.most), range_in l k.ranged, fresh_written s (version2 l) e)

  pub limits_fresh : (64 ≤ length s) × (length s ≤ 65535) → InRange l → fresh_number s (version2 l) ≡ 0
  unfolding fresh_number q1_size q30_limits
  limits_fresh n h =
      yes_first 1 (within 64 65535 (length s)) _ (within_in 64 65535 (length s) n) (yes_first 30 (limits_range l) 0 (in_range l h) refl)

  pub fresh_refused : (fresh_number s (version2 l) ≡ 0 → ⊥) → fresh_bytes s (version2 l) ≡ s
  unfolding fresh_bytes
  fresh_refused h = if_refused (fresh_number s (version2 l)) _ s h

-- the limits that are read, by their bytes
limits_are : (bs : Bytes) (x : Limits × Bytes) → limits bs ≡ some x →
    x.0 ≡ record { depth = get_or bs 0 0; parents = get_or bs 1 0; code = get_or bs 2 0 * 256 + get_or bs 3 0 }
limits_are [] x e = absurd (none_some e)
limits_are (a ∷ []) x e = absurd (none_some e)
limits_are (a ∷ b ∷ []) x e = absurd (none_some e)
limits_are (a ∷ b ∷ c ∷ []) x e = absurd (none_some e)
limits_are (a ∷ b ∷ c ∷ d ∷ bs) x e = ap (λ (y : Limits × Bytes). y.0) (sym (some-injective _ _ e))

-- they are those that are read
limits_here : (s : Bytes) (l : Limits) (rest : Bytes) → limits (drop 7 s) ≡ some (l, rest) → l ≡ limits_at s
limits_here s l rest e = limits_are (drop 7 s) (l, rest) e ∙ rw (get_or-drop 7 s 0 0, get_or-drop 7 s 1 0, get_or-drop 7 s 2 0, get_or-drop 7 s 3 0)

-- the opening of a sound store
sound_opened : (s : Bytes) → T (sound s) → OpenedAs s (store_opening s)
unfolding sound
sound_opened s h =
    let x = some_and_is (entries_of s) (sound_entries (store_opening s) (length s)) (and_r (q1_size s) _ h) in
    opened_as s (store_opening s) (entries_opened s x.0 x.1)

-- its limits
pub limits_told : (s : Bytes) → T (sound s) →
    ((take 5 s ≡ store_mark 1) × (store_limits s ≡ standard)) ⊎ ((take 5 s ≡ store_mark 2) × (store_limits s ≡ limits_at s) × InRange (limits_at s))
limits_told s h = go (store_opening s) (sound_opened s h)
  where
    go : (v : Opening) → OpenedAs s v →
        ((take 5 s ≡ store_mark 1) × (opening_limits v ≡ standard)) ⊎ ((take 5 s ≡ store_mark 2) × (opening_limits v ≡ limits_at s) × InRange (limits_at s))
    go version1 (first m) = inl (same_eq _ _ m, refl)
    go (version2 l) (second rest m x q) =
        let e = limits_here s l rest x in
        inr (same_eq _ _ m, e, subst InRange e (range_in l q))

-- a limit out of its range
pub range_asked : (s : Bytes) → take 5 s ≡ store_mark 2 → (InRange (limits_at s) → ⊥) → T (sound s) → ⊥
range_asked s m n h = elim (limits_told s h) [
  | inl x ↦ let z : store_mark 1 ≡ store_mark 2 = sym x.0 ∙ m in let k : ◌≡◌ {A = ℕ} 1 2 = ap (λ (b : Bytes). get_or b 4 0) z in absurd (omega (arith, k))
  | inr x ↦ n x.2
]

-- nine classes, one above the other
pub nine_deep : (number (series (limited 16 8 32767)) (load D1 nine) ≡ 0) × (depth_figure (series (limited 16 8 32767)) D1 nine ≡ 9)
    × (number (series version1) (load D1 nine) ≡ 14)
unfolding signed numbers_from length_of length_as instruction_length split_from split may_end code_splits targets_each switch_targets targets_at code_branches
    code_handlers call_at calls_of standard limits_range class_number reference item items policy code_if handler handlers_if method class contents sized
    edition_of read_file write opening_of entries_of store_opening q1_size q3_lengths q4_new q5_created q10_marked q11_reads q12_new q13_imports q14_parents
    q15_names q16_splits q17_targets q24_handlers keeps_subset q26_subset q18_calls q19_allowed q20_running q21_fits create_questions package_questions load_questions
    sound_entries sound number deepest depth_figure
nine_deep = (refl, refl, refl)
