-- `depths::parents::import_count` meets its contract: the byte before the imports. Assumes nothing.
use Rattle.depths.proofs.Exist as exist
use Rattle.depths.proofs.parents.import_count.Goals as goal

pub imports_at-requires : goal.imports_at-requires
imports_at-requires c = c.requires

pub bounds-f-imports_at : goal.bounds-f-imports_at
bounds-f-imports_at c =
    exist.imports_inside c.args.f.now c.imports_at.result c.requires c.imports_at.ensures

pub returns : goal.returns
returns c =
    let a = c.args in
    exist.imports_count a.f.now c.imports_at.result c.wide.result c.imports_at.ensures c.wide.ensures.0
