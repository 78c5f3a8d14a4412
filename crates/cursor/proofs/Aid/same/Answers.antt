-- `cursor::Aid::same` meets its contract: it compares the bytes of both. Assumes nothing.
use Rattle.cursor.specs.Aids.{bytes_of}
use Rattle.cursor.proofs.Aid.same.Goals as goal

pub returns : goal.returns
unfolding bytes_of
returns c = c.same_bytes.ensures
