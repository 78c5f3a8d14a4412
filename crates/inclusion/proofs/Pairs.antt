-- The row of two files: numbers of the slots of the one among the domains of the other. Assumes nothing.
use Prim.Native.Nat.{ℕ, ◌+◌}
use native.Mathlib.Omega.{arith}
use mathlib.Core.Path.{◌≡◌, ◌∙◌}
use mathlib.Core.Bool.{Bool}
use mathlib.Core.List.{List}
use lib.ListN.{length}
use Rattle.rules.specs.Bytes.{Bytes, Aid, u1, aid, counted}
use Rattle.rules.specs.Package.{most_domains}
use Rattle.places.specs.Reads.{Reads}
use Rattle.places.proofs.Inverse.{reads_same}
use Rattle.policies.specs.Rows.{Tells}
use Rattle.policies.specs.declared.RightsPlace.{RightsPlace}
use Rattle.inclusion.specs.declared.Masked.{Masked}
use Rattle.inclusion.specs.Rows.{other_lists, WithinKept, row_number, RowTrue, RowEmpty}

pub row_empty : {a : Bytes} {u : ℕ} {d : Aid} {b : Bytes} {v : ℕ} {e : Aid} {row : List ℕ} → RowEmpty row → RowTrue a u d b v e row
row_empty h = record { size = h.size; known = λ ds j rd gs k rg m l n. absurd (n (h.clear m (omega (arith, h.size)))) }

module _ {a : Bytes} {u : ℕ} (d : Aid) {b : Bytes} {v : ℕ} (e : Aid) where
  module _ {ds : List Aid} {j : ℕ} (rd : Reads (counted most_domains u1 aid) a u ds j) {gs : List Aid} {k : ℕ}
      (rg : Reads (counted most_domains u1 aid) b v gs k) where
    pub tells_other : Tells (row_number ds d gs e) a d b e (other_lists u v)
    tells_other = record {
      number = λ i es n re os o ro h.
          let p = (reads_same (counted most_domains u1 aid) a u ds es j n rd re).0 in
          let q = (reads_same (counted most_domains u1 aid) b v gs os k o rg ro).0 in
          let z : 0 + i ≡ i = omega arith in
          rw (← p, ← q, z);
    }

-- the row is still true where numbers were kept in it
pub row_within : {a : Bytes} {d : Aid} (m : Masked) {b : Bytes} {e : Aid} (q : RightsPlace) {x y : List ℕ} (r : Bool) →
    RowTrue a m.domains d b q.domains e x → length y ≡ length x → WithinKept a d m b e q x y r → RowTrue a m.domains d b q.domains e y
row_within {d = d} m {e = e} q r t z w = record {
  size = z ∙ t.size;
  known = λ ds j rd gs k rg. w.known (row_number ds d gs e) (tells_other d e rd rg) (t.known ds j rd gs k rg);
}
