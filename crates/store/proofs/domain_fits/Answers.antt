-- `store::domain_fits` is question 21 of a domain's entry, with no sum that wraps. Assumes nothing.
use Rattle.rules.specs.Store.{domain}
use Rattle.store.proofs.Fits as fits
use Prim.Native.Nat.{◌+◌, ◌-◌}
use mathlib.Core.Path.{refl, sym}
use mathlib.Core.Bool.{false}
use native.Mathlib.Omega.{arith}
use lib.ListN.{length}
use borrow.Author.Tests.{lt-leb}
use Rattle.store.proofs.domain_fits.Goals as goal
use Rattle.store.proofs.domain_fits.Goals.{Start}

pub overflow_sub-free : goal.overflow_sub-free
overflow_sub-free c = omega arith

pub returns-then-free-lt3 : goal.returns-then-free-lt3
returns-then-free-lt3 c =
    let aid = c.args.aid.now in
    let s = c.args.s.now in
    let end = c.args.end in
    λ k. fits.fits_is s end (length aid) (domain k aid) false refl (sym (lt-leb (end + (3 + length aid)) (length s) (omega arith)))

pub returns : goal.returns
returns c =
    let aid = c.args.aid.now in
    let s = c.args.s.now in
    let end = c.args.end in
    λ k. fits.fits_is s end (length aid) (domain k aid) _ refl (fits.leb_same (length aid) (length s - end - 3) (end + (3 + length aid)) (length s)
    (λ h. omega arith) (λ h. omega arith))
