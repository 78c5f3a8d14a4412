-- A deletion and a removal, question by question. Assumes nothing.
use Prim.Native.Nat.{ℕ}
use mathlib.Core.Path.{◌≡◌, refl, sym, ◌∙◌, ap, subst}
use mathlib.Core.Bool.{Bool, true, false, not}
use mathlib.Core.List.{List, []}
use lib.ListN.{length}
use Rattle.rules.specs.Bytes.{Bytes, Aid, is_some, aid_length}
use Rattle.rules.specs.Store.{Entry, store_opening, first_entry, store_limits}
use Rattle.rules.specs.Classes.{installed}
use Rattle.rules.specs.Questions.{q5_created, q6_empty, q7_installed, q8_unused}
use Rattle.rules.specs.Operations.{delete, remove, delete_questions, remove_questions, is_domain, is_package}
use Rattle.store.specs.Entries.{StandFrom, FilesStand, AllRead}
use Rattle.store.specs.Answers.{spot, SpotAt, FileAt, FileSays, InUse}
use Rattle.std.specs.Prelude.{Some, None, Ok, Err}
use Rattle.std.specs.Prelude.{Option as Optional}
use Rattle.store.specs.declared.EntryPlace.{EntryPlace}
use Rattle.store.specs.declared.FileBounds.{FileBounds}
use Rattle.store.proofs.Asked.{created_place}
use Rattle.store.specs.Sound.{Over, SoundAt}
use Rattle.store.proofs.Sound.{one_length, sound_store}
use Rattle.homes.proofs.Homes.{all_read}
use Rattle.services.specs.Answers.{CutSays, ImportedSays}
use Rattle.refusals.specs.declared.refusal.Refusal.TheVariants as refused

-- the contrary of an answer
turned : (b c : Bool) → b ≡ not c → c ≡ not b
turned true true e = e
turned true false e = refl
turned false true e = refl
turned false false e = e

-- the files of sound entries read
pub over_reads : (s : Bytes) (u : ℕ) (es : List Entry) → Over s u es → AllRead (store_limits s) es
over_reads s u es o = all_read (store_opening s) (length s) [] es o.sound

module _ (s : Bytes) (u : ℕ) (h : SoundAt s u) where
  -- the entries stand, and their files read
  pub sound_stand : StandFrom s (first_entry s) u
  sound_stand = let x = sound_store s u h in (x.es, x.over.stand)

  pub sound_files : FilesStand s u
  sound_files = let x = sound_store s u h in (x.es, x.over.stand, over_reads s u x.es x.over)

module _ (s : Bytes) (u : ℕ) (a : Aid) where
  module _ (r : Optional EntryPlace) (p : SpotAt (is_domain a) s u r) where
    -- whether the domain has been created
    created_is : (b : Bool) → is_some (spot r) ≡ b → (es : List Entry) → Over s u es → q5_created es a ≡ b
    created_is b z es o = created_place (first_entry s) es a ∙ sym (ap is_some (p es o.stand)) ∙ z

    pub delete_5 : aid_length (length a) ≡ true → r ≡ None → CutSays s u (delete a) (is_domain a) (Err refused.DomainUnknown)
    unfolding delete_questions
    delete_5 q z = λ es o. rw (one_length a ∙ q, created_is false (ap (λ (x : Optional EntryPlace). is_some (spot x)) z) es o)

    pub delete_6 : (x : EntryPlace) → aid_length (length a) ≡ true → r ≡ Some x → InUse s u a true → CutSays s u (delete a) (is_domain a) (Err refused.DomainOccupied)
    unfolding delete_questions
    delete_6 x q z w = λ es o. rw (
      one_length a ∙ q,
      created_is true (ap (λ (x : Optional EntryPlace). is_some (spot x)) z) es o,
      turned true
          (q6_empty (installed (store_limits s) es) a) (w es o.stand (over_reads s u es o)),
    )

    pub delete_0 : (x : EntryPlace) → aid_length (length a) ≡ true → r ≡ Some x → InUse s u a false → CutSays s u (delete a) (is_domain a) (Ok x)
    unfolding delete_questions
    delete_0 x q z w = (
      λ es o. rw (
        one_length a ∙ q,
        created_is true (ap (λ (x : Optional EntryPlace). is_some (spot x)) z) es o,
        turned false
            (q6_empty (installed (store_limits s) es) a) (w es o.stand (over_reads s u es o)),
      ),
      λ es o. sym (p es o.stand) ∙ ap spot z,
    )

  pub delete_3 : aid_length (length a) ≡ false → CutSays s u (delete a) (is_domain a) (Err refused.AidLength)
  unfolding delete_questions
  delete_3 q = λ es o. rw (one_length a ∙ q)

  module _ (r : Optional FileBounds) (p : FileAt s u a r) where
    -- what the search for the package says of sound entries
    found : (x : Optional FileBounds) → r ≡ x → (es : List Entry) → Over s u es → FileSays s es a x
    found x z es o = subst (FileSays s es a) z (p es o.stand (over_reads s u es o))

    missing : r ≡ None → (es : List Entry) → Over s u es → q7_installed (installed (store_limits s) es) a ≡ false
    unfolding q7_installed
    missing z es o = ap is_some (found None z es o).1

    there : (b : FileBounds) → r ≡ Some b → (es : List Entry) → Over s u es → q7_installed (installed (store_limits s) es) a ≡ true
    unfolding q7_installed
    there b z es o = ap is_some (found (Some b) z es o).is

    pub remove_7 : aid_length (length a) ≡ true → r ≡ None → CutSays s u (remove a) (is_package (store_limits s) a) (Err refused.PackageUnknown)
    unfolding remove_questions
    remove_7 q z = λ es o. rw (one_length a ∙ q, missing z es o)

    pub remove_8 : (b : FileBounds) → aid_length (length a) ≡ true → r ≡ Some b → ImportedSays s u a true → CutSays s u (remove a)
        (is_package (store_limits s) a) (Err refused.PackageImported)
    unfolding remove_questions
    remove_8 b q z w = λ es o. rw
        (one_length a ∙ q, there b z es o, turned true (q8_unused (installed (store_limits s) es) a) (w es o.stand (over_reads s u es o)))

    pub remove_0 : (b : FileBounds) → aid_length (length a) ≡ true → r ≡ Some b → ImportedSays s u a false → CutSays s u (remove a)
        (is_package (store_limits s) a) (Ok (record { at = b.at; next = b.to }))
    unfolding remove_questions
    remove_0 b q z w = (
      λ es o. rw (
        one_length a ∙ q,
        there b z es o,
        turned false (q8_unused (installed (store_limits s) es) a)
            (w es o.stand (over_reads s u es o)),
      ),
      λ es o. (found (Some b) z es o).place,
    )

  pub remove_3 : aid_length (length a) ≡ false → CutSays s u (remove a) (is_package (store_limits s) a) (Err refused.AidLength)
  unfolding remove_questions
  remove_3 q = λ es o. rw (one_length a ∙ q)
