-- An AID as the code holds it. Assumes nothing.
--
-- bytes_of a == its bytes; padded s == s and zeros up to 16 bytes
-- Made s r  == what the constructor answers for the bytes s
use Rattle.std.specs.Prelude.{◌-◌, ◌≤◌, ◌≡◌, ◌++◌, length, take, replicate, Some}
use Rattle.std.specs.Prelude.{Option as Optional}
use Rattle.std.specs.Option.{is_some}
use Rattle.rules.specs.Bytes.{Bytes, aid_length, most_aid}
use Rattle.cursor.specs.declared.Aid.{Aid}

unfoldable pub bytes_of : Aid → Bytes
bytes_of a = take a.len a.bytes

unfoldable pub padded : Bytes → Bytes
padded s = s ++ replicate (most_aid - length s) 0

-- an AID is made exactly of 5 to 16 bytes, and has those bytes
pub record Made (s : Bytes) (r : Optional Aid) : Type 0 where
  pub right : is_some r ≡ aid_length (length s)
  pub bytes : (a : Aid) → r ≡ Some a → bytes_of a ≡ s
  pub short : (a : Aid) → r ≡ Some a → a.len ≤ most_aid
