-- `chains::none_run` meets its contract: a table without names holds no method of the chain. Assumes nothing.
use borrow.Author.Tests.{eqb-true}
use Rattle.chains.proofs.Running as running
use Rattle.chains.proofs.none_run.Goals as goal

pub returns : goal.returns
returns c z x = running.none_runs c.args.f.now c.args.s.now c.args.names.now c.args.v c.requires (eqb-true c.args.v.all 128 z) x
