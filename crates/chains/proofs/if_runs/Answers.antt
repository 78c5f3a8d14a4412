-- `chains::if_runs` meets its contract: the home for the place is the one of the method, which runs if implemented. Assumes nothing.
use Rattle.chains.proofs.Running as running
use Rattle.chains.proofs.if_runs.Goals as goal

pub home_before-h-requires : goal.home_before-h-requires
home_before-h-requires c =
    c.requires.i_le_most_links

pub overflow_sub-m : goal.overflow_sub-m
overflow_sub-m c =
    let a = c.args in
    running.hit_inside a.f.now a.s.now a.names.now a.i a.q c.home_before-h.result c.home_before-h.ensures
    c.requires.hit_there

pub file_of-requires : goal.file_of-requires
file_of-requires c =
    let a = c.args in
    running.hit_bounds a.f.now a.s.now a.names.now a.i a.q c.home_before-h.result c.home_before-h.ensures
    c.requires.hit_there

pub if_implemented-requires : goal.if_implemented-requires
if_implemented-requires c =
    let a = c.args in
    running.hit_method a.f.now a.s.now a.names.now a.i a.q c.home_before-h.result c.home_before-h.ensures c.file_of.result.now
    c.file_of.ensures c.requires.hit_there

pub returns : goal.returns
returns c =
    let a = c.args in
    running.hit_runs a.f.now a.s.now a.names.now a.i a.q c.home_before-h.result c.home_before-h.ensures
    c.file_of.result.now c.file_of.ensures c.if_implemented.result c.if_implemented.ensures
