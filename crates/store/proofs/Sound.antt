-- What a sound store says: its entries, an operation's number there, and its bytes after. Assumes nothing.
use Prim.Native.Nat.{ℕ, zero, suc, ◌≤◌}
use mathlib.Core.Path.{◌≡◌, refl, sym, ◌∙◌, ap}
use mathlib.Core.Bool.{true, ◌&&◌, not}
use mathlib.Core.List.{List, [], ◌∷◌}
use mathlib.Core.Option.{some}
use lib.Dec.{T}
use lib.ListN.{length}
use Rattle.rules.specs.Bytes.{Bytes, Aid, is_some, some_and, aid_length}
use Rattle.rules.specs.Store.{Entry, used, write, entries_of, store_opening, store_limits, first_entry}
use Rattle.rules.specs.Questions.{q1_size, q3_lengths, q4_new, q5_created}
use Rattle.rules.specs.Operations.{is_domain, first_no, sound_entries, sound, entries, Operation, questions, number, change, if_done, after}
use Rattle.rules.proofs.Tests.{and_l, and_r, is_true, of_true, some_and_is}
use Rattle.store.specs.Entries.{StandFrom, Holds, Laid}
use Rattle.store.specs.Answers.{spot, SpotAt}
use Rattle.store.specs.Sound.{Over, OverSome, SoundAt, Asked}
use Rattle.std.specs.Prelude.{Option as Optional}
use Rattle.store.specs.declared.EntryPlace.{EntryPlace}
use Rattle.store.proofs.Stand.{entries_next, entries_to}
use Rattle.store.proofs.Asked.{created_place, size_is}
use Rattle.store.proofs.Checks.{and_true}

-- sound entries stand there
pub over_stand : (s : Bytes) (end : ℕ) → OverSome s end → StandFrom s (first_entry s) end
over_stand s end o = (o.0, o.1.stand)

pub over_to : (s : Bytes) (end : ℕ) → OverSome s end → end ≤ length s
over_to s end o = (entries_to s (first_entry s) o.0 end o.1.stand).1

-- their used value is the place where they end
pub over_used : (s : Bytes) (end : ℕ) (es : List Entry) → Over s end es → used (store_opening s) es ≡ end
over_used s end es o = entries_next s (first_entry s) es end o.stand

-- a domain that is found has been created, one that is not has not
pub created_is : (s : Bytes) (end : ℕ) (a : Aid) (r : Optional EntryPlace) → SpotAt (is_domain a) s end r → (es : List Entry) → Over s end es → is_some (spot r) ≡
    q5_created es a
created_is s end a r p es o = ap is_some (p es o.stand) ∙ sym (created_place (first_entry s) es a)

-- 3 of one AID
pub one_length : (a : Aid) → q3_lengths (a ∷ []) ≡ aid_length (length a)
unfolding q3_lengths
one_length a = and_true (aid_length (length a))

-- 4 is the contrary of 5
pub new_not : (es : List Entry) (a : Aid) → q4_new es a ≡ not (q5_created es a)
unfolding q4_new q5_created
new_not es a = refl

-- where the number is not 0, the second value
pub kept : {A : Type 0} (n : ℕ) (a b : A) → (n ≡ 0 → ⊥) → if_done n a b ≡ b
kept zero a b h = absurd (h refl)
kept (suc n) a b h = refl

-- a refusal leaves every byte
pub refused_after : (s : Bytes) (o : Operation) (n : ℕ) → (n ≡ 0 → ⊥) → n ≡ number s o → s ≡ after s o
unfolding after
refused_after s o n h e = sym (kept (number s o) _ s (λ z. h (e ∙ z)))

-- a sound store: its entries
pub record SoundStore (s : Bytes) (u : ℕ) : Type 0 where
  pub es : List Entry
  pub reads : entries_of s ≡ some es
  pub holds : Holds s es
  pub over : Over s u es
  pub ends : used (store_opening s) es ≡ u
  pub size : q1_size s ≡ true
  pub is : sound s ≡ true

pub sound_store : (s : Bytes) (u : ℕ) → SoundAt s u → SoundStore s u
unfolding sound
sound_store s u h =
    let t : T (q1_size s && some_and (entries_of s) (sound_entries (store_opening s) (length s))) = of_true h.is in
    let a = is_true _ (and_l (q1_size s) (some_and (entries_of s) (sound_entries (store_opening s) (length s))) t) in
    let x = some_and_is (entries_of s) (sound_entries (store_opening s) (length s)) (and_r (q1_size s) (some_and (entries_of s) (sound_entries (store_opening s) (length s))) t) in
    let y = h.entries x.0 x.1 in
    record { es = x.0; reads = x.1; holds = y.0; over = y.1; ends = y.2; size = a; is = h.is }

module _ (s : Bytes) (u : ℕ) (h : SoundAt s u) where
  -- where its entries end, that their files read, and its length
  abbrev pub laid : Laid s u
  laid = let x = sound_store s u h in (x.es, x.holds, sym x.ends)

  pub over_some : (es : List Entry) × Over s u es
  over_some = let x = sound_store s u h in (x.es, x.over)

  pub small : length s ≤ 65535
  small = (size_is s (sound_store s u h).size).1

  -- an operation's number is that of its questions from 3 on
  pub sound_number : (o : Operation) → number s o ≡ first_no (questions (store_opening s) (length s) (sound_store s u h).es o)
  unfolding number
  sound_number o =
      let x = sound_store s u h in
      let asked : first_no (questions (store_opening s) (length s) (entries s) o) ≡ first_no (questions (store_opening s) (length s) x.es o) =
      ap (λ (es : List Entry). first_no (questions (store_opening s) (length s) es o)) (rw x.reads refl) in
      rw (x.size, x.is) asked

  pub asked_number : (o : Operation) (n : ℕ) → Asked s u o n → n ≡ number s o
  asked_number o n q = let x = sound_store s u h in q x.es x.over ∙ sym (sound_number o)

  -- a no
  pub asked_refused : (o : Operation) (n : ℕ) → (n ≡ 0 → ⊥) → Asked s u o n → (n ≡ number s o) × (s ≡ after s o)
  asked_refused o n z q = let e = asked_number o n q in (e, refused_after s o n z e)

  -- all yes
  pub asked_done : (o : Operation) (t : Bytes) → Asked s u o 0 → ((es : List Entry) → entries_of s ≡ some es → t ≡ write (store_opening s) (length s) (change (store_limits s) es o)) →
      (0 ≡ number s o) × (t ≡ after s o)
  unfolding after
  asked_done o t q w =
      let x = sound_store s u h in
      let e : number s o ≡ 0 = sym (asked_number o 0 q) in
      (sym e, w x.es x.reads ∙ rw (e, x.reads))
