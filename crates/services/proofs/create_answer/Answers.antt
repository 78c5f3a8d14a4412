-- `services::create_answer` meets its contract, question by question. Assumes nothing.
use Rattle.store.specs.Answers.{Fits}
use Rattle.store.proofs.Sound.{over_some, over_to}
use Rattle.rules.specs.Bytes.{pick, aid_length}
use Rattle.rules.specs.Store.{DomainKind, domain}
use Rattle.rules.specs.Operations.{create}
use Rattle.store.specs.Sound.{Asked}
use Rattle.services.proofs.Creation as creation
use Rattle.services.proofs.Cuts as cuts
use lib.ListN.{length}
use mathlib.Core.Path.{◌≡◌, sym, ◌∙◌, subst}
use mathlib.Core.Bool.{Bool, true, false}
use Rattle.services.proofs.create_answer.Goals as goal
use Rattle.services.proofs.create_answer.Goals.{After-domain_fits, Else-not-length_ok}

-- question 3 was answered yes
three : (k : Else-not-length_ok) → aid_length (length k.args.domain.now) ≡ true
three k = sym k.length_ok.ensures ∙ k.if-not-length_ok.false

-- the answer where there is no such domain, by whether the entry fits
asked-fits : (k : After-domain_fits) (b : Bool) → k.domain_fits.result ≡ b →
    let a = k.args in
    (d : DomainKind) → Asked a.s.now a.used (create d a.domain.now) (pick b 0 21)
asked-fits k b e d =
    let a = k.args in
    let fits = subst (Fits a.s.now a.used (domain d a.domain.now)) e (k.domain_fits.ensures d) in
    creation.create_21 a.s.now a.used a.domain.now d (three (goal.at.After-domain_fits k).Else-not-length_ok) k.find_domain.result k.find_domain.ensures b (sym k.is_some.ensures ∙ k.if-is_some.false) fits

pub returns-then-not-length_ok : goal.returns-then-not-length_ok
returns-then-not-length_ok c =
    let a = c.args in
    λ d. creation.create_3 a.s.now a.used a.domain.now d (sym c.length_ok.ensures ∙ c.if-not-length_ok.true)

pub find_domain-requires : goal.find_domain-requires
find_domain-requires c =
    cuts.sound_stand c.args.s.now c.args.used c.requires

pub domain_fits-requires : goal.domain_fits-requires
domain_fits-requires c =
    over_to c.args.s.now c.args.used (over_some _ _ c.requires)

pub returns-then-not-domain_fits : goal.returns-then-not-domain_fits
returns-then-not-domain_fits c = asked-fits (goal.at.returns-then-not-domain_fits c).After-domain_fits false (c.if-not-domain_fits.true)

pub returns-then-is_some : goal.returns-then-is_some
returns-then-is_some c =
    let a = c.args in
    λ d. creation.create_4 a.s.now a.used a.domain.now d (three (goal.at.returns-then-is_some c).Else-not-length_ok) c.find_domain.result c.find_domain.ensures (sym c.is_some.ensures ∙ c.if-is_some.true)

pub returns : goal.returns
returns c = asked-fits (goal.at.returns c).After-domain_fits true (c.if-not-domain_fits.false)
