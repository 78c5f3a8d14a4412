-- `services::delete_answer` meets its contract, question by question. Assumes nothing.
use Rattle.store.specs.Answers.{InUse}
use Rattle.services.proofs.Cuts as cuts
use lib.ListN.{length}
use mathlib.Core.Path.{◌≡◌, sym, ◌∙◌, subst}
use mathlib.Core.Bool.{Bool, true, false}
use Rattle.rules.specs.Bytes.{aid_length}
use Rattle.services.proofs.delete_answer.Goals as goal
use Rattle.services.proofs.delete_answer.Goals.{After-domain_in_use, Else-not-length_ok}

-- question 3 was answered yes
three : (k : Else-not-length_ok) → aid_length (length k.args.domain.now) ≡ true
three k = sym k.length_ok.ensures ∙ k.if-not-length_ok.false

-- the answer on its use
said : (k : After-domain_in_use) (b : Bool) → k.domain_in_use.result ≡ b →
    let a = k.args in
    InUse a.s.now a.used a.domain.now b
said k b e =
    let a = k.args in
    subst (InUse a.s.now a.used a.domain.now) e k.domain_in_use.ensures

pub returns-then-not-length_ok : goal.returns-then-not-length_ok
returns-then-not-length_ok c =
    let a = c.args in
    cuts.delete_3 a.s.now a.used a.domain.now (sym c.length_ok.ensures ∙ c.if-not-length_ok.true)

pub find_domain-requires : goal.find_domain-requires
find_domain-requires c =
    cuts.sound_stand c.args.s.now c.args.used c.requires

pub domain_in_use-requires : goal.domain_in_use-requires
domain_in_use-requires c =
    cuts.sound_stand c.args.s.now c.args.used c.requires

pub returns-then-domain_in_use : goal.returns-then-domain_in_use
returns-then-domain_in_use c =
    let a = c.args in
    cuts.delete_6 a.s.now a.used a.domain.now c.find_domain.result c.find_domain.ensures _ (three (goal.at.returns-then-domain_in_use c).Else-not-length_ok) c.in-Some.is
    (said (goal.at.returns-then-domain_in_use c).After-domain_in_use true c.if-domain_in_use.true)

pub returns : goal.returns
returns c =
    let a = c.args in
    cuts.delete_0 a.s.now a.used a.domain.now c.find_domain.result c.find_domain.ensures _ (three (goal.at.returns c).Else-not-length_ok) c.in-Some.is
    (said (goal.at.returns c).After-domain_in_use false c.if-domain_in_use.false)

pub returns-in_default : goal.returns-in_default
returns-in_default c =
    let a = c.args in
    cuts.delete_5 a.s.now a.used a.domain.now c.find_domain.result c.find_domain.ensures (three (goal.at.returns-in_default c).Else-not-length_ok) c.in_default.is
