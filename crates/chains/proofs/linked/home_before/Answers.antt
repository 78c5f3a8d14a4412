-- `chains::linked::home_before` meets its contract: all links so far lie behind the place. Assumes nothing.
use Rattle.chains.proofs.Running as running
use native.Mathlib.Omega.{arith}
use Rattle.chains.proofs.linked.home_before.Goals as goal

pub loop-k-init : goal.loop-k-init
loop-k-init c = λ j u v. absurd (omega arith)

pub link_home-h-requires : goal.link_home-h-requires
link_home-h-requires c =
    (c.loop-k-test.true, c.requires.1)

pub returns-then-h-q : goal.returns-then-h-q
returns-then-h-q c =
    let a = c.args in
    running.home_found a.names.now a.i a.q c.loop-k.k c.loop-k.invariant c.link_home-h.result c.loop-k.auto.k c.link_home-h.ensures c.if-h-q.true

pub loop-k-preserved : goal.loop-k-preserved
loop-k-preserved c =
    let a = c.args in
    running.home_next a.names.now a.i a.q c.loop-k.k c.loop-k.invariant c.link_home-h.result c.link_home-h.ensures c.if-h-q.false

pub returns : goal.returns
returns c =
    let a = c.args in
    running.home_none a.names.now a.i a.q c.loop-k.k c.loop-k.invariant (record { from = 0; to = 0; before = 0 })
    c.requires.0 c.loop-k-test.false
