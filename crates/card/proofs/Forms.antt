-- Where the arguments of a line end, told of the form that it is. Assumes nothing.
use Rattle.std.proofs.Common.{◌≡◌, ℕ, ◌≤◌, arith}
use Rattle.lines.specs.Results.{middle, end}
use Rattle.lines.specs.declared.Form.{Form}

pub ends : {f g : Form} (k : ℕ) → f ≡ g → end f ≤ k → end g ≤ k
ends k e h = rw e at h

pub middles : {f g : Form} → f ≡ g → middle f ≤ end f → middle g ≤ end g
middles e h = rw e at h

-- the first argument ends within what the last one ends in
pub first_within : {f g : Form} (k : ℕ) → f ≡ g → middle f ≤ end f → end f ≤ k → middle g ≤ k
first_within k e h j =
    let m = middles e h in
    let n = ends k e j in
    omega (arith, m, n)
