-- `depths::parents_ok` meets its contract: the first part of 14, then the others. Assumes nothing.
use native.Mathlib.Omega.{arith}
use mathlib.Core.Path.{◌≡◌, subst}
use mathlib.Core.Bool.{Bool}
use Rattle.depths.specs.Depths.{ParentsExist}
use Rattle.depths.proofs.ByNumber.{not_true, not_false}
use Rattle.depths.proofs.Parts as parts
use Rattle.depths.proofs.parents_ok.Goals as goal
use Rattle.depths.proofs.parents_ok.Goals.{After-parents_exist}

-- whether each parent exists, by the answer
said : (k : After-parents_exist) (r : Bool) → k.parents_exist.result ≡ r →
    let a = k.args in
    ParentsExist a.f.now a.s.now a.b.end r
said k r e = let a = k.args in subst (ParentsExist a.f.now a.s.now a.b.end) e k.parents_exist.ensures.parents_exist

pub parents_exist-requires : goal.parents_exist-requires
parents_exist-requires c = record { judged = c.requires.judged; rows_true = c.requires.rows_true }

pub shape_of-rows-then-not-parents_exist : goal.shape_of-rows-then-not-parents_exist
shape_of-rows-then-not-parents_exist c = c.parents_exist.auto.rows

pub returns-then-not-parents_exist : goal.returns-then-not-parents_exist
returns-then-not-parents_exist c =
    record { parented_is = parts.no_parent _ _ _ (said (goal.at.returns-then-not-parents_exist c).After-parents_exist _ (not_true _ c.if-not-parents_exist.true-raw)); own_told = tt; rows_true_2 = c.parents_exist.ensures.rows_true_2 }

pub depths_ok-requires : goal.depths_ok-requires
depths_ok-requires c =
    record {
      parents_there = (parts.parents_there _ _ _ (said (goal.at.depths_ok-requires c).After-parents_exist _ c.if-not-parents_exist.false) c.requires.judged.0, c.requires.judged.1);
      rows_true = c.parents_exist.ensures.rows_true_2;
      depths_kept = c.requires.depths_kept;
      most_value = c.requires.most_value;
    }

pub shape_of-rows : goal.shape_of-rows
shape_of-rows c =
    omega (arith, c.parents_exist.auto.rows, c.depths_ok.auto.rows)

pub shape_of-depths : goal.shape_of-depths
shape_of-depths c = c.depths_ok.auto.depths

pub returns : goal.returns
returns c =
    let a = c.args in
    let exist = said (goal.at.returns c).After-parents_exist _ (not_false _ c.if-not-parents_exist.false-raw) in
    record { parented_is = parts.all_parts _ _ _ exist c.depths_ok.new.depths c.depths_ok.result c.depths_ok.ensures.later_parts; own_told = parts.own_told a.f.now a.s.now a.b.end c.depths_ok.new.depths c.depths_ok.result c.depths_ok.ensures.later_parts; rows_true_2 = c.depths_ok.ensures.rows_true_2 }
