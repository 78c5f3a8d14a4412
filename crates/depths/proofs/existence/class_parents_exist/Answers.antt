-- `depths::existence::class_parents_exist` meets its contract: a turn for each parent, those before it exist. Assumes nothing.
use native.Mathlib.Omega.{arith}
use mathlib.Core.Path.{◌≡◌, refl, subst}
use mathlib.Core.Bool.{Bool}
use Rattle.depths.specs.Depths.{ExistsIs}
use Rattle.depths.proofs.ByNumber.{not_true, not_false}
use Rattle.depths.proofs.Exist as exist
use Rattle.depths.proofs.existence.class_parents_exist.Goals as goal
use Rattle.depths.proofs.existence.class_parents_exist.Goals.{After-parent_exists}

-- whether the parent of a turn exists, by the answer
said : (e : After-parent_exists) (r : Bool) → e.parent_exists.result ≡ r →
    let a = e.args in
    ExistsIs a.f.now a.s.now a.o.end a.o.number (record { pack = e.parent_at-x.result.pack; class = e.parent_at-x.result.class }) r
said e r q =
    let a = e.args in
    subst (ExistsIs a.f.now a.s.now a.o.end a.o.number (record { pack = e.parent_at-x.result.pack; class = e.parent_at-x.result.class })) q e.parent_exists.ensures.exists_is

pub parent_count-k-requires : goal.parent_count-k-requires
parent_count-k-requires c = (exist.own_record _ _ _ _ _ c.requires.class_from c.requires.judged.0).1.inside

pub loop-i-init : goal.loop-i-init
loop-i-init c = (exist.exist_start _ _ _ _, c.requires.import_count.1, refl)

pub parent_at-x-requires : goal.parent_at-x-requires
parent_at-x-requires c =
    exist.own_parent _ _ _ _ _ c.requires.class_from c.requires.judged.0 _ _ c.parent_count-k.ensures.0 c.loop-i-test.true

pub parent_exists-requires : goal.parent_exists-requires
parent_exists-requires c =
    record { judged = c.requires.judged; import_count = (c.requires.import_count.0, c.loop-i.invariant.1) }

pub shape_of-rows-then-not-parent_exists : goal.shape_of-rows-then-not-parent_exists
shape_of-rows-then-not-parent_exists c = omega (arith, c.loop-i.invariant.2, c.parent_exists.auto.rows)

pub returns-then-not-parent_exists : goal.returns-then-not-parent_exists
returns-then-not-parent_exists c =
    record {
      all_exist = exist.exist_bad _ _ _ _ _ c.requires.class_from _ _ _ _ c.parent_count-k.ensures.0 c.loop-i-test.true c.parent_at-x.ensures.0
          c.parent_at-x.ensures.1 c.loop-i.invariant.0 (said (goal.at.returns-then-not-parent_exists c).After-parent_exists _ (not_true _ c.if-not-parent_exists.true-raw));
      rows_true = c.parent_exists.ensures.rows_true;
    }

pub loop-i-preserved : goal.loop-i-preserved
loop-i-preserved c = (
  exist.exist_more _ _ _ _ _ c.requires.class_from _ _ _ _ c.parent_count-k.ensures.0 c.loop-i-test.true c.parent_at-x.ensures.0
      c.parent_at-x.ensures.1 c.loop-i.invariant.0 (said (goal.at.loop-i-preserved c).After-parent_exists _ (not_false _ c.if-not-parent_exists.false-raw)),
  c.parent_exists.ensures.rows_true,
  omega (arith, c.loop-i.invariant.2, c.parent_exists.auto.rows),
)

pub shape_of-rows : goal.shape_of-rows
shape_of-rows c = c.loop-i.invariant.2

pub returns : goal.returns
returns c =
    record { all_exist = exist.exist_done _ _ _ _ _ c.requires.class_from _ _ c.parent_count-k.ensures.0 c.loop-i-test.false c.loop-i.invariant.0; rows_true = c.loop-i.invariant.1 }
