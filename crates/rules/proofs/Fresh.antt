-- What fresh leaves where it is done: an empty store, which is sound. Assumes nothing.
use mathlib.Core.Path.{◌≡◌, ◌∙◌, ap, subst⁻¹}
use mathlib.Core.List.{[]}
use lib.Dec.{T}
use lib.ListN.{length}
use Rattle.rules.specs.Bytes.{Bytes}
use Rattle.rules.specs.Store.{Opening, write, WrittenFrom}
use Rattle.rules.specs.Operations.{sound_entries, sound, fresh_number, fresh_bytes}
use Rattle.rules.proofs.Ledger.{written_length, sound_written}
use Rattle.rules.proofs.Whole.{fresh_done}

pub fresh_empty : (s : Bytes) (v : Opening) → fresh_number s v ≡ 0 →
    WrittenFrom (fresh_bytes s v) v [] × (length (fresh_bytes s v) ≡ length s) × T (sound (fresh_bytes s v))
unfolding fresh_bytes sound_entries
fresh_empty s v e =
    let k = fresh_done s v e in
    let w : fresh_bytes s v ≡ write v (length s) [] = rw e in
    let n : length (fresh_bytes s v) ≡ length s = ap length w ∙ written_length v k.ranged (length s) k.least k.most [] tt in
    (rw n w, n, subst⁻¹ (λ (z : Bytes). T (sound z)) w (sound_written v k.ranged (length s) k.least k.most [] tt))
