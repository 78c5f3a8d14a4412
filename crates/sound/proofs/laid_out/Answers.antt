-- `sound::laid_out` meets its contract. Assumes nothing.
use mathlib.Core.Bool.{Bool, true}
use mathlib.Core.Path.{◌≡◌, sym, ◌∙◌, subst}
use Rattle.rules.specs.Questions.{q1_size}
use Rattle.store.proofs.Asked.{size_is}
use Rattle.domains.specs.Domains.{AllSay}
use Rattle.sound.proofs.Laws as laws
use Rattle.sound.proofs.laid_out.Goals as goal
use Rattle.sound.proofs.laid_out.Goals.{Else-not-size_ok, In-Some}

-- 1 is answered yes
size : (k : Else-not-size_ok) → q1_size k.args.s.now ≡ true
size k = sym k.size_ok.ensures ∙ k.if-not-size_ok.false

-- the domains are answered r
abbrev Domains : In-Some → Bool → Type 0
Domains k r = AllSay k.args.s.now k.in-Some.used r

pub returns-then-not-size_ok : goal.returns-then-not-size_ok
returns-then-not-size_ok c = laws.unopened_1 _ (sym c.size_ok.ensures ∙ c.if-not-size_ok.true)

pub domains_sound-requires : goal.domains_sound-requires
domains_sound-requires c =
    (laws.stand_from _ (size (goal.at.domains_sound-requires c).Else-not-size_ok) _ c.laid_out.ensures.0 _ c.in-Some.is c.laid_out.ensures.1, (size_is _ (size (goal.at.domains_sound-requires c).Else-not-size_ok)).1)

pub returns-then-domains_sound : goal.returns-then-domains_sound
returns-then-domains_sound c =
    let yes = subst (Domains (goal.at.returns-then-domains_sound c).In-Some) c.if-domains_sound.true c.domains_sound.ensures in
    laws.laid_at _ (size (goal.at.returns-then-domains_sound c).Else-not-size_ok) _ c.laid_out.ensures.0 _ c.in-Some.is c.laid_out.ensures.1 yes

pub returns-in-None : goal.returns-in-None
returns-in-None c =
    laws.unopened_broken _ (size (goal.at.returns-in-None c).Else-not-size_ok) _ c.laid_out.ensures.0 c.in-None.is

pub returns-else-domains_sound : goal.returns-else-domains_sound
returns-else-domains_sound c =
    let no = subst (Domains (goal.at.returns-else-domains_sound c).In-Some) c.if-domains_sound.false c.domains_sound.ensures in
    laws.unopened_domains _ (size (goal.at.returns-else-domains_sound c).Else-not-size_ok) _ c.laid_out.ensures.0 _ c.in-Some.is c.laid_out.ensures.1 no
