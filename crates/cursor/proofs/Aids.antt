-- What the constructor of AIDs answers for bytes of a right and of a wrong length. Assumes nothing.
use Prim.Native.Nat.{◌≤◌, ◌<◌}
use native.Mathlib.Omega.{arith}
use mathlib.Core.Path.{◌≡◌, subst}
use lib.ListN.{length, take}
use lib.Seq.{take-append-le, take-length}
use borrow.Author.Tests.{le-leb, lt-leb}
use Rattle.rules.specs.Bytes.{Bytes, least_aid, most_aid}
use Rattle.std.specs.Prelude.{Some, None}
use Rattle.cursor.specs.Aids.{bytes_of, padded, Made}
use Rattle.cursor.specs.declared.Aid.{Aid}

pub too_short : (s : Bytes) → length s < least_aid → Made s None
too_short s h = record { right = rw (lt-leb least_aid (length s) h); bytes = λ a e. cc; short = λ a e. cc }

pub too_long : (s : Bytes) → least_aid ≤ length s → most_aid < length s → Made s None
too_long s k h = record { right = rw (le-leb least_aid (length s) k, lt-leb (length s) most_aid h); bytes = λ a e. cc; short = λ a e. cc }

pub made : (s b : Bytes) → least_aid ≤ length s → length s ≤ most_aid → b ≡ padded s → Made s (Some (record { bytes = b; len = length s }))
unfolding padded bytes_of
made s b k h e = record {
  right = rw (le-leb least_aid (length s) k, le-leb (length s) most_aid h);
  bytes = λ a t. (
      let l : length s ≤ length s = omega arith in
      let whole : take (length s) b ≡ s = rw (e, take-append-le, take-length s) in
      let z : record { bytes = b; len = length s } ≡ a = cc in
      subst (λ (x : Aid). bytes_of x ≡ s) z whole);
  short = λ a t. (let z : ◌≡◌ {A = Aid} (record { bytes = b; len = length s }) a = cc in subst (λ (x : Aid). x.len ≤ most_aid) z h);
}
