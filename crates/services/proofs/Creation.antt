-- A creation on a sound store, question by question. Assumes nothing.
use Prim.Native.Nat.{ℕ}
use mathlib.Core.Path.{◌≡◌, refl, sym, ◌∙◌, ap}
use mathlib.Core.Bool.{Bool, true, false, not}
use lib.ListN.{length}
use Rattle.rules.specs.Bytes.{Bytes, Aid, pick, is_some, aid_length}
use Rattle.rules.specs.Store.{DomainKind, domain}
use Rattle.rules.specs.Operations.{create, create_questions, is_domain}
use Rattle.store.specs.Answers.{spot, SpotAt, Fits}
use Rattle.store.specs.Sound.{Asked}
use Rattle.std.specs.Prelude.{Some, None}
use Rattle.std.specs.Prelude.{is_some as is_there}
use Rattle.std.specs.Prelude.{Option as Optional}
use Rattle.store.specs.declared.EntryPlace.{EntryPlace}
use Rattle.store.proofs.Sound.{over_used, created_is, one_length, new_not}

-- a place is told where the option has one
there_is : (r : Optional EntryPlace) → is_some (spot r) ≡ is_there r
there_is (Some x) = refl
there_is None = refl

module _ (s : Bytes) (u : ℕ) (a : Aid) (k : DomainKind) where
  pub create_3 : aid_length (length a) ≡ false → Asked s u (create k a) 3
  unfolding create_questions
  create_3 h es o = rw (one_length a ∙ h)

  module _ (three : aid_length (length a) ≡ true) (r : Optional EntryPlace) (found : SpotAt (is_domain a) s u r) where
    pub create_4 : is_there r ≡ true → Asked s u (create k a) 4
    unfolding create_questions
    create_4 e es o = rw (one_length a ∙ three, new_not es a ∙ ap not (sym (created_is s u a r found es o) ∙ there_is r ∙ e))

    pub create_21 : (b : Bool) → is_there r ≡ false → Fits s u (domain k a) b → Asked s u (create k a) (pick b 0 21)
    unfolding create_questions
    create_21 b e f es o =
        rw (one_length a ∙ three, new_not es a ∙ ap not (sym (created_is s u a r found es o) ∙ there_is r ∙ e), f es (over_used s u es o))
