-- The first of two answers has the number that stands first: the derived order of refusals is that of a load's list. Assumes nothing.
use Prim.Native.Nat.{ℕ, ◌≤◌, ◌<◌}
use native.Mathlib.Omega.{arith}
use mathlib.Core.Path.{subst, ◌≡◌, refl, sym, ap}
use mathlib.Core.Bool.{Bool, true, false, not}
use lib.Dec.{T}
use Rattle.std.specs.Result.{result_eq}
use Rattle.std.specs.contracts.prelude.UnitPartialEq.TheImpl as unit
use Rattle.refusals.specs.contracts.refusal.RefusalPartialEq.TheImpl as same
use Rattle.std.specs.Prelude.{cond, Result, Ok, Err}
use Rattle.std.specs.declared.cmp.Ordering.{Ordering}
use Rattle.std.specs.declared.cmp.Ordering.TheVariants.{Equal}
use Rattle.std.specs.Ordering.{is_lt, bool_cmp, ord_min}
use Rattle.refusals.specs.declared.refusal.Refusal.{Refusal}
use Rattle.refusals.specs.declared.refusal.Refusal.TheVariants as refused
use Rattle.refusals.specs.contracts.refusal.RefusalOrd.TheImpl as order
use Rattle.refusals.specs.Refusals.{number_of}
use Rattle.refusals.specs.Order.{rank, first_of, code_told, call_told, Before, first_said}
use Rattle.refusals.proofs.Order.{first_left, first_right, first_zero}

-- a refusal of the list is one of these
by_cases : (P : Refusal → Type 0) → P refused.CodeSplit → P refused.BranchTarget → P refused.Handler → P refused.CallReference → P refused.CallPolicy →
    (x : Refusal) → rank (number_of x) < rank 0 → P x
unfolding rank
by_cases P a b c d e refused.StoreSize h = absurd (omega arith)
by_cases P a b c d e refused.StoreUnsound h = absurd (omega arith)
by_cases P a b c d e refused.AidLength h = absurd (omega arith)
by_cases P a b c d e refused.DomainExists h = absurd (omega arith)
by_cases P a b c d e refused.DomainUnknown h = absurd (omega arith)
by_cases P a b c d e refused.DomainOccupied h = absurd (omega arith)
by_cases P a b c d e refused.PackageUnknown h = absurd (omega arith)
by_cases P a b c d e refused.PackageImported h = absurd (omega arith)
by_cases P a b c d e refused.MethodUnknown h = absurd (omega arith)
by_cases P a b c d e refused.FileMark h = absurd (omega arith)
by_cases P a b c d e refused.FileLayout h = absurd (omega arith)
by_cases P a b c d e refused.PackageExists h = absurd (omega arith)
by_cases P a b c d e refused.ImportMissing h = absurd (omega arith)
by_cases P a b c d e refused.ClassParents h = absurd (omega arith)
by_cases P a b c d e refused.MethodForm h = absurd (omega arith)
by_cases P a b c d e refused.CodeSplit h = a
by_cases P a b c d e refused.BranchTarget h = b
by_cases P a b c d e refused.Handler h = c
by_cases P a b c d e refused.CodeInt h = absurd (omega arith)
by_cases P a b c d e refused.CallReference h = d
by_cases P a b c d e refused.CallPolicy h = e
by_cases P a b c d e refused.RunningPolicy h = absurd (omega arith)
by_cases P a b c d e refused.StoreFull h = absurd (omega arith)
by_cases P a b c d e refused.Limits h = absurd (omega arith)

-- of two refusals of the list
earlier : (x y : Refusal) → rank (number_of x) < rank 0 → rank (number_of y) < rank 0 → number_of (ord_min order.cmp-value.it x y) ≡ first_of (number_of x) (number_of y)
unfolding rank first_of
earlier x y h k =
    by_cases (λ x. number_of (ord_min order.cmp-value.it x y) ≡ first_of (number_of x) (number_of y))
    (by_cases (λ y. number_of (ord_min order.cmp-value.it refused.CodeSplit y) ≡ first_of 16 (number_of y)) refl refl refl refl refl y k)
    (by_cases (λ y. number_of (ord_min order.cmp-value.it refused.BranchTarget y) ≡ first_of 17 (number_of y)) refl refl refl refl refl y k)
    (by_cases (λ y. number_of (ord_min order.cmp-value.it refused.Handler y) ≡ first_of 24 (number_of y)) refl refl refl refl refl y k)
    (by_cases (λ y. number_of (ord_min order.cmp-value.it refused.CallReference y) ≡ first_of 18 (number_of y)) refl refl refl refl refl y k)
    (by_cases (λ y. number_of (ord_min order.cmp-value.it refused.CallPolicy y) ≡ first_of 19 (number_of y)) refl refl refl refl refl y k)
    x h

module _ (n : ℕ) (z : rank n ≤ rank 0) where
  errs : (x y : Refusal) → rank (number_of x) < rank n → rank (number_of y) < rank n →
      (number_of (ord_min order.cmp-value.it x y) ≡ first_of (number_of x) (number_of y)) × (rank (number_of (ord_min order.cmp-value.it x y)) < rank n)
  errs x y h k = (earlier x y (omega arith) (omega arith), go (is_lt (order.cmp-value.it y x)))
    where
      go : (b : Bool) → rank (number_of (cond b y x)) < rank n
      go true = k
      go false = h

-- of codes
pub first_codes : (a b : Result Bool Refusal) → Before 18 a → Before 18 b →
    (code_told (first_said bool_cmp a b) ≡ first_of (code_told a) (code_told b)) × Before 18 (first_said bool_cmp a b)
unfolding rank first_of
first_codes (Ok true) (Ok true) h k = (refl, tt)
first_codes (Ok true) (Ok false) h k = (refl, tt)
first_codes (Ok false) (Ok true) h k = (refl, tt)
first_codes (Ok false) (Ok false) h k = (refl, tt)
first_codes (Ok true) (Err f) h k = (sym (first_right 18 (number_of f) k), k)
first_codes (Ok false) (Err f) h k = (sym (first_right 0 (number_of f) (omega arith)), k)
first_codes (Err e) (Ok true) h k = (sym (first_left (number_of e) 18 (omega arith)), h)
first_codes (Err e) (Ok false) h k = (sym (first_zero (number_of e)), h)
first_codes (Err e) (Err f) h k = errs 18 (omega arith) e f h k

-- of calls
abbrev pub unit_cmp : Unit {0} → Unit {0} → Ordering
unit_cmp x y = Equal

pub first_calls : (a b : Result Unit Refusal) → Before 0 a → Before 0 b →
    (call_told (first_said unit_cmp a b) ≡ first_of (call_told a) (call_told b)) × Before 0 (first_said unit_cmp a b)
first_calls (Ok x) (Ok y) h k = (sym (first_zero 0), tt)
first_calls (Ok x) (Err f) h k = (sym (first_right 0 (number_of f) k), k)
first_calls (Err e) (Ok y) h k = (sym (first_zero (number_of e)), h)
first_calls (Err e) (Err f) h k = errs 0 (omega arith) e f h k

-- no refusal has the number of a yes, and one that stands before 18 is not 18
pub number_some : (x : Refusal) → 0 < number_of x
number_some refused.StoreSize = omega arith
number_some refused.StoreUnsound = omega arith
number_some refused.AidLength = omega arith
number_some refused.DomainExists = omega arith
number_some refused.DomainUnknown = omega arith
number_some refused.DomainOccupied = omega arith
number_some refused.PackageUnknown = omega arith
number_some refused.PackageImported = omega arith
number_some refused.MethodUnknown = omega arith
number_some refused.FileMark = omega arith
number_some refused.FileLayout = omega arith
number_some refused.PackageExists = omega arith
number_some refused.ImportMissing = omega arith
number_some refused.ClassParents = omega arith
number_some refused.MethodForm = omega arith
number_some refused.CodeSplit = omega arith
number_some refused.BranchTarget = omega arith
number_some refused.Handler = omega arith
number_some refused.CodeInt = omega arith
number_some refused.CallReference = omega arith
number_some refused.CallPolicy = omega arith
number_some refused.RunningPolicy = omega arith
number_some refused.StoreFull = omega arith
number_some refused.Limits = omega arith

pub not_calls : (x : Refusal) → rank (number_of x) < rank 18 → number_of x ≡ 18 → ⊥
not_calls x h e = omega (arith, h, ap rank e)

-- the questions of codes stand before 18
pub split_before : rank 16 < rank 18
unfolding rank
split_before = omega arith

pub target_before : rank 17 < rank 18
unfolding rank
target_before = omega arith

pub handler_before : rank 24 < rank 18
unfolding rank
handler_before = omega arith

-- 18 and 19 are in the list
pub reference_before : rank 18 < rank 0
unfolding rank
reference_before = omega arith

pub policy_before : rank 19 < rank 0
unfolding rank
policy_before = omega arith

pub before_more : {A : Type 0} (r : Result A Refusal) → Before 18 r → Before 0 r
before_more (Ok x) h = tt
before_more (Err x) h = omega (arith, h, reference_before)

-- an answer that is not `CallReference` has another number
pub not_reference : (r : Result Unit Refusal) → Before 0 r → not (result_eq unit.eq-value.it same.eq-value.it r (Err refused.CallReference)) ≡ true → call_told r ≡ 18 → ⊥
not_reference (Ok x) h e q = omega arith
not_reference (Err x) h e q =
    by_cases (λ y. not (same.eq-value.it y refused.CallReference) ≡ true → number_of y ≡ 18 → ⊥)
    (λ e q. omega arith) (λ e q. omega arith) (λ e q. omega arith) (λ e q. absurd (subst T (sym e) tt)) (λ e q. omega arith) x h e q
