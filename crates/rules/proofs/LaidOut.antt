-- A buffer written from an opening and entries reads as these, and soundness speaks of these. Assumes nothing.
use mathlib.Core.Path.{◌≡◌, ◌∙◌, ap}
use mathlib.Core.List.{List}
use mathlib.Core.Option.{some}
use lib.Dec.{T}
use lib.ListN.{length}
use Rattle.rules.specs.Bytes.{Bytes, all, some_and}
use Rattle.rules.specs.Store.{Opening, opening_range, Entry, write, WrittenFrom, opening_of, entries_of, store_opening}
use Rattle.rules.specs.Questions.{q1_size}
use Rattle.rules.specs.Operations.{sound_entries, sound}
use Rattle.rules.proofs.Tests.{and_l, and_r, and_i, some_and_is}
use Rattle.rules.proofs.Written.{opening_back, read_write}
use Rattle.rules.proofs.Opens.{is_byte, opening_range_lem, opening_is, entries_opened}
use Rattle.rules.proofs.Back.{write_read}

pub written_reads : (s : Bytes) (v : Opening) (es : List Entry) → T (opening_range v) → WrittenFrom s v es → (opening_of s ≡ some v) × (entries_of s ≡ some es)
written_reads s v es r e = (ap opening_of e ∙ opening_back v r (length s) es, ap entries_of e ∙ read_write v r (length s) es)

pub reads_written : (s : Bytes) (v : Opening) (es : List Entry) → T (all is_byte s) → opening_of s ≡ some v → entries_of s ≡ some es →
    T (opening_range v) × WrittenFrom s v es
reads_written s v es b o r =
    (opening_range_lem s v o, write_read s es b r ∙ ap (λ (x : Opening). write x (length s) es) (opening_is s v o))

module _ (s : Bytes) where
  pub sound_written_from : T (all is_byte s) → T (sound s) → (v : Opening) × (es : List Entry) × T (q1_size s) × T (opening_range v)
      × WrittenFrom s v es × T (sound_entries v (length s) es)
  unfolding sound
  sound_written_from b h =
      let x = some_and_is (entries_of s) (sound_entries (store_opening s) (length s)) (and_r (q1_size s) _ h) in
      let w = reads_written s (store_opening s) x.0 b (entries_opened s x.0 x.1) x.1 in
      (store_opening s, x.0, and_l (q1_size s) _ h, w.0, w.1, x.2)

  pub written_from_sound : (v : Opening) (es : List Entry) → T (q1_size s) → T (opening_range v) → WrittenFrom s v es → T (sound_entries v (length s) es) →
      T (sound s)
  unfolding sound
  written_from_sound v es q r w h =
      let e = written_reads s v es r w in
      and_i (q1_size s) (some_and (entries_of s) (sound_entries (store_opening s) (length s))) q (rw (e.1, opening_is s v e.0) h)
