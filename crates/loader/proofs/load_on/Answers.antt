-- `loader::load_on` meets its contract. Assumes nothing.
use Rattle.loader.proofs.Additions as additions
use native.Mathlib.Omega.{arith}
use Rattle.loader.proofs.load_on.Goals as goal

pub append_package-requires : goal.append_package-requires
append_package-requires c =
    let a = c.args in
    additions.load_room a.store.now a.used c.requires.sound_at a.domain.now a.file.now a.depth c.requires.load_says

pub overflow_cast-result : goal.overflow_cast-result
overflow_cast-result c =
    let a = c.args in
    omega (arith, additions.figure_within a.store.now a.used c.requires.sound_at a.domain.now a.file.now a.depth c.requires.load_says)

pub overflow_mul-result : goal.overflow_mul-result
overflow_mul-result c =
    let a = c.args in
    omega (arith, additions.figure_within a.store.now a.used c.requires.sound_at a.domain.now a.file.now a.depth c.requires.load_says)

pub returns : goal.returns
returns c =
    let a = c.args in
    let all = additions.load_done a.store.now a.used c.requires.sound_at a.domain.now a.file.now a.depth c.requires.load_says _ c.append_package.ensures in record { load_promise = all.0; store_after = all.1 }
