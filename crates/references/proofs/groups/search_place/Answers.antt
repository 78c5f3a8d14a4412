-- `references::groups::search_place` meets its contract: what is open is searched from the class named, the rest stays Assumes nothing.
use Prim.Native.Nat.{◌+◌}
use native.Mathlib.Omega.{arith}
use mathlib.Core.Path.{◌≡◌, sym, ◌∙◌, subst}
use mathlib.Core.Bool.{true}
use Rattle.references.specs.Named.{ToldIs}
use Rattle.references.specs.Kept.{told_at, is_told}
use Rattle.references.specs.declared.Told.{Told}
use Rattle.references.proofs.Telling as telling
use Rattle.references.proofs.Filled as filled
use Rattle.references.proofs.groups.search_place.Goals as goal
use Rattle.references.proofs.groups.search_place.Goals.{After-told_at}

-- what the place tells is r
is-told : (k : After-told_at) (r : Told) → k.told_at.result ≡ r → let a = k.args in told_at a.table.now a.x.k ≡ r
is-told k r e = sym k.told_at.ensures ∙ e

-- and that is true
told : (k : After-told_at) (r : Told) → k.told_at.result ≡ r →
    let a = k.args in
    ToldIs a.f.now a.s.now a.x.group.end (a.x.group.first + a.x.k) r
told k r e =
    let a = k.args in
    subst (ToldIs a.f.now a.s.now a.x.group.end (a.x.group.first + a.x.k)) (is-told k r e)
    (k.requires.judged.2.told a.x.k k.requires.k_lt_kept_count.0 k.requires.k_lt_kept_count.1)

pub told_at-requires : goal.told_at-requires
told_at-requires c = (c.requires.k_lt_kept_count.0, c.requires.judged.2.size)

pub overflow_add-open : goal.overflow_add-open
overflow_add-open c = omega (arith, c.requires.judged.1.first, c.requires.k_lt_kept_count.0)

pub search_reference-found-requires : goal.search_reference-found-requires
search_reference-found-requires c =
    record { judged = (c.requires.judged.0, c.requires.judged.1, told (goal.at.search_reference-found-requires c).After-told_at _ c.in-Open.is); lent = c.requires.k_lt_kept_count.2; slots_true = c.requires.slots_true }

pub keep-requires : goal.keep-requires
keep-requires c =
    let small = telling.reference_small c.requires.judged.0 c.requires.k_lt_kept_count.2.small (omega (arith, c.type_inv.f 5)) (omega (arith, c.type_inv.f 6)) in
    (c.requires.k_lt_kept_count.0, c.requires.judged.2.size, small _ c.search_reference-found.result c.search_reference-found.ensures.reference_is)

pub returns-in-Open : goal.returns-in-Open
returns-in-Open c =
    record { searched_in = filled.searched _ _ _ c.args.x.k c.requires.judged.2 c.search_reference-found.result c.search_reference-found.ensures.reference_is c.keep.ensures (omega (arith, c.keep.auto)); slots_true_2 = c.search_reference-found.ensures.slots_true_2 }

pub returns-in_default : goal.returns-in_default
returns-in_default c =
    let done : is_told (told_at c.args.table.now c.args.x.k) ≡ true = subst (λ (r : Told). is_told r ≡ true) c.told_at.ensures (filled.told_unless _ c.in_default.not-Open) in
    record { searched_in = filled.not_open _ _ _ c.args.x.k c.requires.judged.2 done; slots_true_2 = c.requires.slots_true }
