-- What a sound store holds: its size, its opening bytes and its entries, and each package's file reads. Assumes nothing.
use Prim.Native.Nat.{ℕ}
use mathlib.Core.Path.{◌≡◌, refl, sym, ◌∙◌, ap, subst}
use mathlib.Core.Bool.{Bool, true}
use mathlib.Core.Logic.{◌⊎◌, inl, inr}
use mathlib.Core.List.{List, [], ◌∷◌, ◌++◌}
use mathlib.Core.Option.{Option, some}
use lib.Dec.{T, eqb→eq}
use lib.ListN.{length, take}
use Rattle.rules.specs.Bytes.{Bytes, all, is_some, list_of}
use Rattle.rules.specs.Package.{Limits, read_file}
use Rattle.rules.specs.Store.{Opening, version1, version2, opening_limits, Entry, domain, loaded, store_mark, opening_length, entries_of, store_opening}
use Rattle.rules.specs.Questions.{q1_size}
use Rattle.rules.specs.Operations.{accepted, accepted_all, sound_entries, sound, entries}
use Rattle.rules.proofs.Tests.{and_l, and_r, and_i, is_true, same_eq, some_and_is}
use Rattle.rules.proofs.Lists.{is_some_lem}
use Rattle.rules.proofs.Asked.{load_yes}
use Rattle.rules.proofs.Opens.{OpenedAs, first, second, opened_as, entries_opened}

-- question 1 says yes of a sound store
pub sound_size : (s : Bytes) → T (sound s) → q1_size s ≡ true
unfolding sound
sound_size s h = is_true (q1_size s) (and_l (q1_size s) _ h)

-- it has entries, and each would have been accepted
pub sound_entries_lem : (s : Bytes) → T (sound s) → (entries_of s ≡ some (entries s)) × T (sound_entries (store_opening s) (length s) (entries s))
unfolding sound
sound_entries_lem s h =
    let x = some_and_is (entries_of s) (sound_entries (store_opening s) (length s)) (and_r (q1_size s) _ h) in
    let e : entries s ≡ x.0 = ap (λ (o : Option (List Entry)). list_of o (λ es. es)) x.1 in
    (x.1 ∙ ap (λ (es : List Entry). some es) (sym e), subst (λ (es : List Entry). T (sound_entries (store_opening s) (length s) es)) (sym e) x.2)

-- seven opening bytes in version 1, eleven in version 2
pub sound_opening : (s : Bytes) → T (sound s) →
    ((take 5 s ≡ store_mark 1) × (opening_length (store_opening s) ≡ 7)) ⊎ ((take 5 s ≡ store_mark 2) × (opening_length (store_opening s) ≡ 11))
sound_opening s h = go (store_opening s) (opened_as s (store_opening s) (entries_opened s (entries s) (sound_entries_lem s h).0))
  where
    go : (v : Opening) → OpenedAs s v → ((take 5 s ≡ store_mark 1) × (opening_length v ≡ 7)) ⊎ ((take 5 s ≡ store_mark 2) × (opening_length v ≡ 11))
    go version1 (first m) = inl (same_eq _ _ m, refl)
    go (version2 l) (second rest m x q) = inr (same_eq _ _ m, refl)

-- a package's file reads
abbrev pub reads : Limits → Entry → Bool
reads l (domain k a) = true
reads l (loaded d f) = is_some (read_file l f)

accepted_reads : (v : Opening) (n : ℕ) (pre : List Entry) (e : Entry) → T (accepted v n pre e) → T (reads (opening_limits v) e)
accepted_reads v n pre (domain k a) h = tt
accepted_reads v n pre (loaded d f) h = is_some_lem (load_yes v n pre d f (eqb→eq _ 0 h)).1.q11

accepted_all_read : (v : Opening) (n : ℕ) (pre es : List Entry) → T (accepted_all v n pre es) → T (all (reads (opening_limits v)) es)
accepted_all_read v n pre [] h = tt
accepted_all_read v n pre (e ∷ es) h =
    let l : Limits = opening_limits v in
    let here : T (reads l e) = accepted_reads v n pre e (and_l (accepted v n pre e) _ h) in
    and_i (reads l e) (all (reads l) es) here (accepted_all_read v n (pre ++ e ∷ []) es (and_r (accepted v n pre e) _ h))

pub sound_reads : (v : Opening) (n : ℕ) (es : List Entry) → T (sound_entries v n es) → T (all (reads (opening_limits v)) es)
unfolding sound_entries
sound_reads v n es h = accepted_all_read v n [] es h
