-- `inclusion::order::in_order` meets its contract: a yes is a yes of both tests. Assumes nothing.
use native.Mathlib.Omega.{arith}
use mathlib.Core.Path.{◌≡◌, sym, ◌∙◌, subst}
use mathlib.Core.Bool.{true, false}
use Prim.Native.Nat.{ℕ}
use Rattle.inclusion.specs.Order.{PrefixIs}
use Rattle.inclusion.proofs.order.in_order.Goals as goal

clash : {A : Type 0} → false ≡ true → A
clash e = let z : ◌≡◌ {A = ℕ} 0 1 = cc in absurd (omega arith)

pub returns-then-not-are_bits : goal.returns-then-not-are_bits
returns-then-not-are_bits c = record { bits = λ e. clash e; alike = λ e. clash e }

pub returns : goal.returns
returns c =
    let a = c.args in
    record {
      bits = λ _. sym (c.if-not-are_bits.false) ∙ c.are_bits.ensures;
      alike = λ e. subst (PrefixIs a.a.now a.m.domains a.b.now a.q.domains) e c.begins_with.ensures;
    }
