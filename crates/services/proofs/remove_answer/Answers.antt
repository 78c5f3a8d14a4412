-- `services::remove_answer` meets its contract, question by question. Assumes nothing.
use Rattle.services.specs.Answers.{ImportedSays}
use Rattle.services.proofs.Cuts as cuts
use lib.ListN.{length}
use mathlib.Core.Path.{◌≡◌, sym, ◌∙◌, subst}
use mathlib.Core.Bool.{Bool, true, false}
use Rattle.rules.specs.Bytes.{aid_length}
use Rattle.services.proofs.remove_answer.Goals as goal
use Rattle.services.proofs.remove_answer.Goals.{After-imported, Else-not-length_ok}

-- question 3 was answered yes
three : (k : Else-not-length_ok) → aid_length (length k.args.«package».now) ≡ true
three k = sym k.length_ok.ensures ∙ k.if-not-length_ok.false

-- the answer on its use
said : (k : After-imported) (b : Bool) → k.imported.result ≡ b →
    let a = k.args in
    ImportedSays a.s.now a.used a.«package».now b
said k b e =
    let a = k.args in
    subst (ImportedSays a.s.now a.used a.«package».now) e k.imported.ensures

pub returns-then-not-length_ok : goal.returns-then-not-length_ok
returns-then-not-length_ok c =
    let a = c.args in
    cuts.remove_3 a.s.now a.used a.«package».now (sym c.length_ok.ensures ∙ c.if-not-length_ok.true)

pub find_package-requires : goal.find_package-requires
find_package-requires c =
    cuts.sound_files c.args.s.now c.args.used c.requires

pub imported-requires : goal.imported-requires
imported-requires c =
    cuts.sound_files c.args.s.now c.args.used c.requires

pub returns-then-imported : goal.returns-then-imported
returns-then-imported c =
    let a = c.args in
    cuts.remove_8 a.s.now a.used a.«package».now c.find_package.result c.find_package.ensures _ (three (goal.at.returns-then-imported c).Else-not-length_ok) c.in-Some.is
    (said (goal.at.returns-then-imported c).After-imported true c.if-imported.true)

pub returns : goal.returns
returns c =
    let a = c.args in
    cuts.remove_0 a.s.now a.used a.«package».now c.find_package.result c.find_package.ensures _ (three (goal.at.returns c).Else-not-length_ok) c.in-Some.is
    (said (goal.at.returns c).After-imported false c.if-imported.false)

pub returns-in_default : goal.returns-in_default
returns-in_default c =
    let a = c.args in
    cuts.remove_7 a.s.now a.used a.«package».now c.find_package.result c.find_package.ensures (three (goal.at.returns-in_default c).Else-not-length_ok) c.in_default.is
