-- A deletion and a removal on a sound store: the refusal, or the entry cut out. Assumes nothing.
use Prim.Native.Nat.{ℕ}
use native.Mathlib.Omega.{arith}
use mathlib.Core.Path.{◌≡◌, sym, ◌∙◌, ap}
use mathlib.Core.Bool.{Bool}
use mathlib.Core.List.{List}
use mathlib.Core.Option.{some}
use lib.ListN.{length}
use Rattle.rules.specs.Bytes.{Bytes}
use Rattle.rules.specs.Store.{Entry, entries_of, write, store_opening, store_limits, first_entry}
use Rattle.rules.specs.Operations.{Operation, number, after, change, without}
use Rattle.store.specs.Entries.{place_of}
use Rattle.store.specs.Sound.{SoundAt}
use Rattle.store.proofs.Sound.{sound_store, laid, small, asked_refused, asked_done}
use Rattle.writing.specs.Changes.{CutAt, CutOut}
use Rattle.services.specs.Answers.{CutSays}
use Rattle.std.specs.Prelude.{Ok, Err}
use Rattle.refusals.specs.declared.refusal.Refusal.{Refusal}
use Rattle.refusals.specs.Refusals.{number_of}
use Rattle.refusals.proofs.Numbers.{some_number}
use Rattle.store.specs.declared.EntryPlace.{EntryPlace}

-- the entry cut out
module _ (s : Bytes) (u : ℕ) (h : SoundAt s u) (o : Operation) (q : Entry → Bool) where
  pub cut_at : (p : EntryPlace) → CutSays s u o q (Ok p) → CutAt s u p.at p.next
  cut_at p c =
      let x = sound_store s u h in
      record { laid = laid s u h; small = small s u h; test = q; place = c.1 x.es x.over }

  pub cut_refused : (e : Refusal) → CutSays s u o q (Err e) → (number_of e ≡ number s o) × (s ≡ after s o)
  cut_refused e c = asked_refused s u h o (number_of e) (λ z. omega (arith, some_number e, z)) c

  pub cut_done : (p : EntryPlace) (t : Bytes) → CutSays s u o q (Ok p) → ((es : List Entry) → change (store_limits s) es o ≡ without q es) →
      CutOut s t p.at p.next → (0 ≡ number s o) × (t ≡ after s o)
  cut_done p t c k w =
      asked_done s u h o t c.0 (λ es e. w es q e (place es e) ∙ ap (write (store_opening s) (length s)) (sym (k es)))
    where
      place : (es : List Entry) → entries_of s ≡ some es → place_of q (first_entry s) es ≡ some (p.at, p.next)
      place es e = c.1 es (h.entries es e).1
