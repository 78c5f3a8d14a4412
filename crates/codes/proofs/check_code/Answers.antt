-- `codes::check_code` meets its contract: the parts of the sets that it lends have a bit for each byte of the code. Assumes nothing.
use native.Mathlib.Omega.{arith}
use mathlib.Core.Path.{sym}
use lib.ListN.{length-take}
use Rattle.codes.proofs.check_code.Goals as goal

pub slice_bounds-check_marked-end-2 : goal.slice_bounds-check_marked-end-2
slice_bounds-check_marked-end-2 c = sym (simp length-take (omega arith))

pub slice_bounds-check_marked-end-4 : goal.slice_bounds-check_marked-end-4
slice_bounds-check_marked-end-4 c = sym (simp length-take (omega arith))

pub check_marked-requires : goal.check_marked-requires
check_marked-requires c =
    (c.requires.0, simp length-take (omega arith), simp length-take (omega arith))
