-- `judge::questions::file_answer` meets its contract: 10 to 14, 15 to 19, then 20 and 21, over the entries up to the used field. Assumes nothing.
use Prim.Native.Nat.{ℕ, ◌≤◌}
use native.Mathlib.Omega.{arith}
use mathlib.Core.Path.{refl, sym, ap, subst}
use Rattle.store.specs.Sound.{OverSome}
use Rattle.store.proofs.Sound.{over_to}
use Rattle.homes.specs.Homes.{aid_at}
use Rattle.homes.proofs.Domains.{aid_inside}
use Rattle.index.proofs.Entering.{zeros}
use Rattle.homes.specs.Found.{Indexed, ImportPlaces}
use Rattle.depths.specs.Depths.{DepthsKept}
use Rattle.judge.specs.Says.{used_at, Asked14Some, TablesTold, InsideAnswer, DomainTold, FileSays}
use Rattle.std.specs.Prelude.{Result, Ok}
use Rattle.refusals.specs.declared.refusal.Refusal.{Refusal}
use Rattle.refusals.specs.Refusals.{number_said}
use Rattle.judge.proofs.Answers.{err_again}
use Rattle.judge.proofs.Loading as stage
use Rattle.judge.proofs.Settings as settings
use Rattle.judge.proofs.questions.file_answer.Goals as goal
use Rattle.judge.proofs.questions.file_answer.Goals.{After-u2_at-end, In_ok-depth, In_ok-inside_answer}

-- the entries, the tables and the domain, over the entries up to the place that was read
over : (k : After-u2_at-end) → OverSome k.args.s.now k.u2_at-end.result
over k = subst (OverSome k.args.s.now) (sym k.u2_at-end.ensures.0) k.requires.over_some.0

tables : (k : After-u2_at-end) →
    let a = k.args in
    Indexed a.s.now k.u2_at-end.result a.index.now × DepthsKept a.s.now k.u2_at-end.result a.depths.now
tables k =
    let a = k.args in
    subst (λ (i : ℕ). Indexed a.s.now i a.index.now × DepthsKept a.s.now i a.depths.now) (sym k.u2_at-end.ensures.0) k.requires.indexed

loading : (k : After-u2_at-end) → let a = k.args in DomainTold a.s.now k.u2_at-end.result a.file.now a.domain
loading k =
    let a = k.args in
    subst (λ (i : ℕ). DomainTold a.s.now i a.file.now a.domain) (sym k.u2_at-end.ensures.0) k.requires.over_some.1

-- an answer over them, as one over all entries of the store
told : (k : After-u2_at-end) (r : Result ℕ Refusal) →
    let a = k.args in
    let d = aid_at a.s.now a.domain.aid in
    FileSays a.s.now k.u2_at-end.result d a.file.now r → FileSays a.s.now (used_at a.s.now) d a.file.now r
told k r h =
    let a = k.args in
    subst (λ (i : ℕ). FileSays a.s.now i (aid_at a.s.now a.domain.aid) a.file.now r) k.u2_at-end.ensures.0 h

-- 10 to 14 were answered yes
asked : (k : In_ok-depth) →
    let a = k.args in
    Asked14Some a.s.now k.u2_at-end.result (aid_at a.s.now a.domain.aid) a.file.now
asked k = stage.asked_14 _ _ _ _ _ k.parents_answer.ensures.parents_answer _ k.in_ok-depth.was (over (goal.at.In_ok-depth k).After-u2_at-end)

-- the places of the imports were found with it
placed : (k : In_ok-depth) →
    let a = k.args in
    ImportPlaces a.file.now a.s.now k.u2_at-end.result k.parents_answer.new.places
placed k =
    let a = k.args in
    (subst (TablesTold a.s.now k.u2_at-end.result a.file.now _ _) k.in_ok-depth.was k.parents_answer.ensures.tables_told).2

-- 10 to 19, where 15 to 19 were answered yes
inside : (k : In_ok-inside_answer) →
    let a = k.args in
    InsideAnswer a.s.now k.u2_at-end.result (aid_at a.s.now a.domain.aid) a.file.now (Ok k.in_ok-depth.depth)
inside k =
    stage.inside_yes _ _ _ _ _ k.parents_answer.ensures.parents_answer _ k.in_ok-depth.was _ k.inside_answer.ensures (ap (number_said {A = Unit {0}}) k.in_ok-inside_answer.was)

pub u2_at-end-requires : goal.u2_at-end-requires
u2_at-end-requires c = settings.used_inside _ c.requires.over_some.0

pub parents_answer-requires : goal.parents_answer-requires
parents_answer-requires c =
    let t = tables (goal.at.parents_answer-requires c).After-u2_at-end in
    record { over_some = over (goal.at.parents_answer-requires c).After-u2_at-end; indexed = (t.0, t.1, c.requires.s_len_bound.0); own_len = (refl, refl, zeros 15) }

-- the places told fit two bytes
end-small : (k : After-u2_at-end) → k.u2_at-end.result ≤ 65535
end-small k = omega (arith, over_to k.args.s.now k.u2_at-end.result (over k), k.requires.s_len_bound.0)

aid-small : (k : After-u2_at-end) → k.args.domain.aid ≤ 65535
aid-small k = omega (arith, aid_inside k.requires.over_some.1.there, k.requires.s_len_bound.0)

pub overflow_cast-judged : goal.overflow_cast-judged
overflow_cast-judged c = omega (arith, end-small (goal.at.overflow_cast-judged c).After-u2_at-end)

pub overflow_cast-judged-2 : goal.overflow_cast-judged-2
overflow_cast-judged-2 c = omega (arith, aid-small (goal.at.overflow_cast-judged-2 c).After-u2_at-end)

pub inside_answer-requires : goal.inside_answer-requires
inside_answer-requires c =
    record { asked14some = (asked (goal.at.inside_answer-requires c).In_ok-depth, loading (goal.at.inside_answer-requires c).After-u2_at-end); indexed = ((tables (goal.at.inside_answer-requires c).After-u2_at-end).0, placed (goal.at.inside_answer-requires c).In_ok-depth); s_len_bound = c.requires.s_len_bound }

pub returns-in_err-inside_answer : goal.returns-in_err-inside_answer
returns-in_err-inside_answer c =
    let k = (goal.at.returns-in_err-inside_answer c).In_ok-depth in
    let no = stage.inside_refused _ _ _ _ _ c.parents_answer.ensures.parents_answer _ c.in_ok-depth.was _ c.inside_answer.ensures _
    (ap (number_said {A = Unit {0}}) c.in_err-inside_answer.was) in
    rw (err_again _ _ c.from_residual-in_err-inside_answer.ensures) (told (goal.at.In_ok-depth k).After-u2_at-end _ (stage.file_inside _ _ _ _ _ no _ refl))

pub running_answer-requires : goal.running_answer-requires
running_answer-requires c =
    record { asked14some = (asked (goal.at.running_answer-requires c).In_ok-depth, c.requires.over_some.1.there); indexed = ((tables (goal.at.running_answer-requires c).After-u2_at-end).0, placed (goal.at.running_answer-requires c).In_ok-depth); s_len_bound = (c.requires.s_len_bound.0, (omega (arith, c.requires.s_len_bound.1.0, c.inside_answer.auto), omega (arith, c.requires.s_len_bound.1.1, c.inside_answer.auto), omega (arith, c.requires.s_len_bound.1.2, c.inside_answer.auto))) }

pub returns-in_err-running_answer : goal.returns-in_err-running_answer
returns-in_err-running_answer c =
    let later = stage.later_refused _ _ _ _ _ (inside (goal.at.returns-in_err-running_answer c).In_ok-inside_answer) _ refl _ c.running_answer.ensures _
    (ap (number_said {A = Unit {0}}) c.in_err-running_answer.was) in
    rw (err_again _ _ c.from_residual-in_err-running_answer.ensures) (told (goal.at.returns-in_err-running_answer c).After-u2_at-end _ later)

pub returns-in_err-depth : goal.returns-in_err-depth
returns-in_err-depth c =
    let no = stage.inside_first _ _ _ _ _ c.parents_answer.ensures.parents_answer _ c.in_err-depth.was in
    rw (err_again _ _ c.from_residual.ensures) (told (goal.at.returns-in_err-depth c).After-u2_at-end _ (stage.file_inside _ _ _ _ _ no _ refl))

pub returns : goal.returns
returns c =
    let later = stage.later_done _ _ _ _ _ (inside (goal.at.returns c).In_ok-inside_answer) _ refl _ c.running_answer.ensures
    (ap (number_said {A = Unit {0}}) c.in_ok-running_answer.was) in
    told (goal.at.returns c).After-u2_at-end _ later
