-- `store::laid_from` tells the used value of the layout that the definitions read behind an opening, or that they read none. Assumes nothing.
use Prim.Native.Nat.{ℕ}
use native.Mathlib.Omega.{arith}
use mathlib.Core.Path.{◌≡◌, sym, ap, ◌∙◌, subst}
use mathlib.Core.List.{List}
use lib.ListN.{drop}
use borrow.Author.Tests.{not-true, not-false}
use Rattle.rules.specs.Bytes.{all}
use Rattle.rules.specs.Code.{u2_at}
use Rattle.rules.specs.Store.{Entry, is_zero}
use Rattle.rules.proofs.Tests.{of_true, is_true}
use Rattle.rules.proofs.Limits as limits
use Rattle.store.specs.Entries.{Entries}
use Rattle.store.specs.Answers.{LayoutSays, FillSays}
use Rattle.std.specs.Prelude.{None}
use Rattle.store.proofs.Laid as laid
use Rattle.store.proofs.Checks as checks
use Rattle.store.proofs.laid_from.Goals as goal
use Rattle.store.proofs.laid_from.Goals.{After-shared_slice_known-1, After-u2_at-end, After-zeros_from, Start}

-- no layout is told where nothing is laid out
no-layout : (k : After-shared_slice_known-1) → ((es : List Entry) → laid.LaidBy k.args.s.now es → ⊥) →
    LayoutSays k.args.s.now None
no-layout k = laid.laid_none _ (λ i. (k.type_inv.s i).fits)

-- whether the bytes behind the entries are zeros
zeros : (k : After-zeros_from) →
    let s = k.args.s.now in
    k.zeros_from.result ≡ all is_zero (drop (u2_at s 5) s)
zeros k =
    let s = k.args.s.now in
    k.zeros_from.ensures ∙ ap (λ (n : ℕ). all is_zero (drop n s)) k.u2_at-end.ensures.0

pub returns-then-s-from : goal.returns-then-s-from
returns-then-s-from c = no-layout (goal.at.returns-then-s-from c).After-shared_slice_known-1 (λ es t. omega (arith, t.inside, c.requires.1))

pub u2_at-end-requires : goal.u2_at-end-requires
u2_at-end-requires c =
    omega (arith, c.requires.1, (limits.first_entry_lem c.args.s.now).0)

pub returns-then-end-from : goal.returns-then-end-from
returns-then-end-from c =
    no-layout (goal.at.returns-then-end-from c).After-shared_slice_known-1 (λ es t. omega (arith, t.from, c.requires.1, c.u2_at-end.ensures.0))

pub returns-then-end-s : goal.returns-then-end-s
returns-then-end-s c =
    no-layout (goal.at.returns-then-end-s c).After-shared_slice_known-1 (λ es t. omega (arith, laid.laid_to _ es t, c.u2_at-end.ensures.0))

pub zeros_from-requires : goal.zeros_from-requires
zeros_from-requires c = omega arith

pub returns-then-not-zeros_from : goal.returns-then-not-zeros_from
returns-then-not-zeros_from c =
    no-layout (goal.at.returns-then-not-zeros_from c).After-shared_slice_known-1 (λ es t. checks.not_both _ (sym (zeros (goal.at.returns-then-not-zeros_from c).After-zeros_from) ∙ c.if-not-zeros_from.true) (is_true _ t.zeros))

pub filled-requires : goal.filled-requires
filled-requires c = (omega arith, omega arith)

pub returns-then-not-filled : goal.returns-then-not-filled
returns-then-not-filled c =
    let s = c.args.s.now in
    let none = subst (FillSays s _ _) (not-true c.filled.result c.if-not-filled.true-raw) c.filled.ensures in
    no-layout (goal.at.returns-then-not-filled c).After-shared_slice_known-1 (λ es t. none es (subst (λ (i : ℕ). Entries s i es c.u2_at-end.result) (sym c.requires.1)
    (subst (Entries s _ es) (sym c.u2_at-end.ensures.0) t.stand)))

pub returns : goal.returns
returns c =
    let s = c.args.s.now in
    let x = subst (FillSays s _ _) (not-false c.filled.result c.if-not-filled.false-raw) c.filled.ensures in
    laid.laid_some s (λ i. (c.type_inv.s i).fits) _ x.0 c.u2_at-end.ensures.0 (record {
      opens = c.requires.0;
      inside = omega (arith, c.requires.1);
      from = omega (arith, c.requires.1, c.u2_at-end.ensures.0);
      stand = subst (λ (i : ℕ). Entries s i x.0 (u2_at s 5)) c.requires.1 (subst (Entries s _ x.0) c.u2_at-end.ensures.0 x.1);
      zeros = of_true (sym (zeros (goal.at.returns c).After-zeros_from) ∙ c.if-not-zeros_from.false);
    })
