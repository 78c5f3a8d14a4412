-- `judge::questions::package_answer` meets its contract: 12, 13, then 14 with what it is asked over. Assumes nothing.
use native.Mathlib.Omega.{arith}
use mathlib.Core.Path.{◌≡◌, refl, subst}
use mathlib.Core.Bool.{Bool, true}
use mathlib.Core.List.{[]}
use Rattle.index.proofs.Entering.{zeros}
use Rattle.imports.specs.Say.{SettingThere, NewIs, ImportsIs}
use Rattle.named.specs.Named.{Judged}
use Rattle.named.proofs.Numbers.{rows_empty}
use Rattle.depths.specs.Depths.{ParentedIs, OwnTold}
use Rattle.depths.proofs.Width.{depths_fit}
use Rattle.judge.proofs.Parents as parents
use Rattle.judge.proofs.Settings as settings
use Rattle.judge.proofs.questions.package_answer.Goals as goal
use Rattle.judge.proofs.questions.package_answer.Goals.{After-imports_there, After-package_new, Else-not-imports_there, Start}

-- what 12 and 13 are asked over
over : (b : Start) → SettingThere b.args.file.now b.args.s.now b.args.end
over b = settings.setting_there _ _ _ b.requires.over_some.0 b.requires.over_some.2

-- 12 and 13, by the answers
new : (k : After-package_new) (r : Bool) → k.package_new.result ≡ r →
    let a = k.args in
    NewIs a.file.now a.s.now a.end r
new k r e = let a = k.args in subst (NewIs a.file.now a.s.now a.end) e k.package_new.ensures

is_new : (k : After-imports_there) → let a = k.args in NewIs a.file.now a.s.now a.end true
is_new k = new (goal.at.After-imports_there k).After-package_new true (k.if-not-package_new.false)

imported : (k : After-imports_there) (r : Bool) → k.imports_there.result ≡ r →
    let a = k.args in
    ImportsIs a.file.now a.s.now a.end r
imported k r e = let a = k.args in subst (ImportsIs a.file.now a.s.now a.end) e k.imports_there.ensures.imports_is

is-imported : (k : Else-not-imports_there) → let a = k.args in ImportsIs a.file.now a.s.now a.end true
is-imported k = imported (goal.at.Else-not-imports_there k).After-imports_there true (k.if-not-imports_there.false)

-- what 14 is asked over
judged : (k : Else-not-imports_there) → let a = k.args in Judged a.file.now a.s.now a.end
judged k =
    parents.imports_there _ _ _ k.requires.over_some.1 k.requires.over_some.2.0 k.requires.over_some.2.1 (is_new (goal.at.Else-not-imports_there k).After-imports_there) (is-imported k) [] k.requires.over_some.0.0 k.requires.over_some.0.1

pub package_new-requires : goal.package_new-requires
package_new-requires c = record { setting_there = over (goal.at.package_new-requires c).Start; index_is = c.requires.indexed.0.is }

pub returns-then-not-package_new : goal.returns-then-not-package_new
returns-then-not-package_new c =
    record { parents_answer = parents.parents_12 _ _ _ c.requires.over_some.1 c.requires.over_some.2.0 c.requires.over_some.2.1 (new (goal.at.returns-then-not-package_new c).After-package_new _ (c.if-not-package_new.true)); tables_told = tt }

pub imports_there-requires : goal.imports_there-requires
imports_there-requires c =
    record { setting_there = (over (goal.at.imports_there-requires c).Start, c.requires.indexed.2); index_is = c.requires.indexed.0.is; places_len = (c.requires.own_len.1, c.requires.own_len.2) }

pub returns-then-not-imports_there : goal.returns-then-not-imports_there
returns-then-not-imports_there c =
    record { parents_answer = parents.parents_13 _ _ _ c.requires.over_some.1 c.requires.over_some.2.0 c.requires.over_some.2.1 (is_new (goal.at.returns-then-not-imports_there c).After-imports_there) (imported (goal.at.returns-then-not-imports_there c).After-imports_there _ (c.if-not-imports_there.true)); tables_told = tt }

pub parents_ok-requires : goal.parents_ok-requires
parents_ok-requires c =
    record { judged = (judged (goal.at.parents_ok-requires c).Else-not-imports_there, c.imports_there.ensures.import_places); rows_true = rows_empty c.args.file.now c.args.s.now c.args.end _ _ refl (zeros 512); depths_kept = (c.requires.indexed.1, c.requires.indexed.2); most_value = (settings.depth_limit _ _ c.limits_of-limits.ensures, c.requires.own_len.0) }

pub returns-in-Some : goal.returns-in-Some
returns-in-Some c =
    let a = c.args in
    let yes = subst (ParentedIs a.file.now a.s.now a.end) c.in-Some.is c.parents_ok.ensures.parented_is in
    let own = subst (OwnTold a.file.now a.s.now a.end _) c.in-Some.is c.parents_ok.ensures.own_told in record {
      parents_answer = parents.parents_yes _ _ _ c.requires.over_some.1 c.requires.over_some.2.0 c.requires.over_some.2.1 (is_new (goal.at.returns-in-Some c).After-imports_there) (is-imported (goal.at.returns-in-Some c).Else-not-imports_there) c.in-Some.depth yes;
      tables_told = (
        own,
        depths_fit a.file.now a.s.now a.end c.in-Some.depth _ (judged (goal.at.returns-in-Some c).Else-not-imports_there) yes own (omega (arith, c.parents_ok.auto.depths, c.requires.own_len.0)),
        c.imports_there.ensures.import_places,
      );
    }

pub returns-in-None : goal.returns-in-None
returns-in-None c =
    let a = c.args in
    let no = subst (ParentedIs a.file.now a.s.now a.end) c.in-None.is c.parents_ok.ensures.parented_is in
    record { parents_answer = parents.parents_14 _ _ _ c.requires.over_some.1 c.requires.over_some.2.0 c.requires.over_some.2.1 (is_new (goal.at.returns-in-None c).After-imports_there) (is-imported (goal.at.returns-in-None c).Else-not-imports_there) no; tables_told = tt }
