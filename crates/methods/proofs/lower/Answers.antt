-- `methods::lower` meets its contract: the names are in order, so the two at the point found tell the others. Assumes nothing.
use Rattle.std.proofs.Common.{rules, tests}
use Rattle.methods.proofs.Search as search'
use Rattle.methods.proofs.lower.Goals as goal

pub returns : goal.returns
returns c =
    let a = c.args in
    let s = c.partition_point.ensures in
    search'.lower_parted a.t.now a.places.now a.a a.e a.name c.requires c.partition_point.result s.low s.high
    (λ h. let z = s.before h in search (rules, tests)) (λ h. let z = s.there h in search (rules, tests))
