-- `loader::cut` hands on a refusal, or leaves the entries without the one at the place. Assumes nothing.
use mathlib.Core.Path.{subst}
use Rattle.services.specs.Answers.{CutSays}
use Rattle.judge.proofs.Answers.{err_again}
use Rattle.loader.proofs.Cuts as cuts
use Rattle.loader.proofs.cut.Goals as goal

pub returns-in_err-place : goal.returns-in_err-place
returns-in_err-place c o x =
    let a = c.args in
    let said = subst (CutSays a.store.now a.used o x.0) c.in_err-place.was x.1.0 in
    let all = cuts.cut_refused a.store.now a.used c.requires.0 o x.0 _ said in
    (rw (err_again _ _ c.from_residual.ensures) all.0, all.1)

pub cut_entry-requires : goal.cut_entry-requires
cut_entry-requires c =
    let a = c.args in
    let o = c.requires.1.0 in
    let x = c.requires.1.1 in
    let said = subst (CutSays a.store.now a.used o x.0) c.in_ok-place.was x.1.0 in
    cuts.cut_at a.store.now a.used c.requires.0 o x.0 c.in_ok-place.place said

pub returns : goal.returns
returns c o x =
    let a = c.args in
    let said = subst (CutSays a.store.now a.used o x.0) c.in_ok-place.was x.1.0 in
    cuts.cut_done a.store.now a.used c.requires.0 o x.0 c.in_ok-place.place _ said x.1.1 c.cut_entry.ensures
