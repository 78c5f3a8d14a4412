-- `store::package_fits` is question 21 of a package's entry, with no sum that wraps. Assumes nothing.
use Rattle.rules.specs.Store.{loaded}
use Rattle.store.proofs.Fits as fits
use Prim.Native.Nat.{◌+◌, ◌-◌}
use mathlib.Core.Path.{sym}
use mathlib.Core.Bool.{false}
use native.Mathlib.Omega.{arith}
use lib.ListN.{length}
use borrow.Author.Tests.{lt-leb}
use Rattle.store.proofs.package_fits.Goals as goal
use Rattle.store.proofs.package_fits.Goals.{Start}

pub overflow_sub-free : goal.overflow_sub-free
overflow_sub-free c = omega arith

pub returns-then-free-lt4 : goal.returns-then-free-lt4
returns-then-free-lt4 c =
    let dom = c.args.domain.now in
    let file = c.args.file.now in
    let s = c.args.s.now in
    let end = c.args.end in
    fits.fits_is s end (1 + length dom + length file) (loaded dom file) false (fits.loaded_length dom file)
    (sym (lt-leb (end + (3 + (1 + length dom + length file))) (length s) (omega arith)))

pub returns-then-domain-free : goal.returns-then-domain-free
returns-then-domain-free c =
    let dom = c.args.domain.now in
    let file = c.args.file.now in
    let s = c.args.s.now in
    let end = c.args.end in
    fits.fits_is s end (1 + length dom + length file) (loaded dom file) false (fits.loaded_length dom file)
    (sym (lt-leb (end + (3 + (1 + length dom + length file))) (length s) (omega arith)))

pub returns : goal.returns
returns c =
    let dom = c.args.domain.now in
    let file = c.args.file.now in
    let s = c.args.s.now in
    let end = c.args.end in
    fits.fits_is s end (1 + length dom + length file) (loaded dom file) _ (fits.loaded_length dom file)
    (fits.leb_same (length file) (length s - end - 4 - length dom) (end + (3 + (1 + length dom + length file))) (length s) (λ h. omega arith)
    (λ h. omega arith))
