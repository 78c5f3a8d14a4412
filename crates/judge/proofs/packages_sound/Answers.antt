-- `judge::packages_sound` meets its contract: a turn for each entry, with the tables of those before it. Assumes nothing.
use Prim.Native.Nat.{ℕ}
use native.Mathlib.Omega.{arith}
use mathlib.Core.Path.{◌≡◌, refl, sym, ◌∙◌, subst}
use mathlib.Core.Bool.{Bool}
use lib.ListN.{length}
use Rattle.store.specs.Answers.{PartAt}
use Rattle.store.proofs.Find.{part_told, none_told}
use Rattle.store.specs.declared.EntryPart.{EntryPart}
use Rattle.store.specs.declared.EntryPart.TheVariants as parts
use Rattle.std.specs.Prelude.{Some}
use Rattle.std.specs.Prelude.{Option as Optional}
use Rattle.index.specs.Index.{IndexIs}
use Rattle.index.proofs.Entering.{index_domain}
use Rattle.depths.specs.Depths.{DepthsKept}
use Rattle.depths.proofs.Kept.{depths_domain}
use Rattle.judge.specs.Says.{EntrySays, entry_of}
use Rattle.judge.proofs.Going.{Going, going_start}
use Rattle.judge.proofs.Packages as packages
use Rattle.judge.proofs.packages_sound.Goals as goal
use Rattle.judge.proofs.packages_sound.Goals.{After-package_sound, At-loop-part, In-Domain, In-Package}

-- the entry of a turn, as it was read: a domain, a package
abbrev Here : At-loop-part → Optional EntryPart → Type 0
Here t = PartAt t.args.s.now t.loop-part.at t.args.end

domain-here : (k : In-Domain) → Here (goal.at.In-Domain k).At-loop-part (Some (parts.Domain k.in-Domain.from k.in-Domain.next))
domain-here k = part_told k.in-Some.is k.in-Domain.is k.entry_at.ensures

package_here : (k : In-Package) →
    Here (goal.at.In-Package k).At-loop-part (Some (parts.Package k.in-Package.from k.in-Package.file k.in-Package.next))
package_here k = part_told k.in-Some.is k.in-Package.is k.entry_at.ensures

-- what is said of a package's entry, by the answer
said : (k : After-package_sound) (r : Bool) → k.package_sound.result ≡ r →
    let s = k.args.s.now in
    EntrySays s k.loop-part.at (entry_of s (record { at = k.loop-part.at; file = k.in-Package.file; next = k.in-Package.next })) r
said k r e es o = sym e ∙ k.package_sound.ensures.entry_says es o

-- the tables are as long as at the start
long : (k : After-package_sound) →
    let a = k.args in
    (length k.package_sound.new.index ≡ length a.index.now) × (length k.package_sound.new.depths ≡ length a.depths.now) × (length k.package_sound.new.names ≡ length a.names.now)
    × (length k.package_sound.new.seen ≡ length a.seen.now)
long k =
    (omega (arith, k.loop-part.invariant.3.0, k.package_sound.auto.index), omega (arith, k.loop-part.invariant.3.1, k.package_sound.auto.depths), omega (arith, k.loop-part.invariant.3.2, k.package_sound.auto.names), omega (arith, k.loop-part.invariant.3.3, k.package_sound.auto.seen))

pub loop-part-init : goal.loop-part-init
loop-part-init c =
    let a = c.args in
    let at = sym c.first_entry-at.ensures in (
      subst (Going a.s.now a.end) at (going_start _ _),
      subst (λ (i : ℕ). IndexIs a.s.now i a.index.now) at c.requires.index_is.0,
      subst (λ (i : ℕ). DepthsKept a.s.now i a.depths.now) at c.requires.index_is.1,
      (refl, refl, refl, refl),
    )

pub entry_at-requires : goal.entry_at-requires
entry_at-requires c = packages.going_from _ _ _ c.loop-part.invariant.0 c.requires.stand_from.0

pub loop-part-smaller-in-Domain : goal.loop-part-smaller-in-Domain
loop-part-smaller-in-Domain c =
    omega (arith, packages.domain_in _ _ _ c.loop-part.invariant.0 _ _ (domain-here c) c.requires.stand_from.0)

pub loop-part-preserved-in-Domain : goal.loop-part-preserved-in-Domain
loop-part-preserved-in-Domain c =
    let entry = packages.domain_entry _ _ _ c.loop-part.invariant.0 _ _ (domain-here c) c.requires.stand_from.0 in
    let over = packages.going_over _ _ _ c.loop-part.invariant.0 c.requires.stand_from.0 in (
      packages.domain_on _ _ _ c.loop-part.invariant.0 _ _ (domain-here c) c.requires.stand_from.1,
      index_domain _ _ _ _ _ c.loop-part.invariant.1 entry,
      depths_domain _ _ _ _ _ c.loop-part.invariant.2 entry (over.0, over.1.stand),
      c.loop-part.invariant.3,
    )

pub package_sound-requires : goal.package_sound-requires
package_sound-requires c =
    record { over_some = (packages.going_over _ _ _ c.loop-part.invariant.0 c.requires.stand_from.0, packages.package_there _ _ _ c.loop-part.invariant.0 _ _ _ (package_here (goal.at.package_sound-requires c).In-Package) c.requires.stand_from.1 c.requires.stand_from.0); index_is = (c.loop-part.invariant.1, c.loop-part.invariant.2); s_len_bound = (c.requires.s_len_bound.0, (omega (arith, c.requires.s_len_bound.1.0, c.loop-part.invariant.3.2), omega (arith, c.requires.s_len_bound.1.1, c.loop-part.invariant.3.3), omega (arith, c.requires.s_len_bound.1.2, c.loop-part.invariant.3.2))) }

pub shape_of-index-then-not-package_sound : goal.shape_of-index-then-not-package_sound
shape_of-index-then-not-package_sound c = (long (goal.at.shape_of-index-then-not-package_sound c).After-package_sound).0

pub shape_of-depths-then-not-package_sound : goal.shape_of-depths-then-not-package_sound
shape_of-depths-then-not-package_sound c = (long (goal.at.shape_of-depths-then-not-package_sound c).After-package_sound).1

pub shape_of-names-then-not-package_sound : goal.shape_of-names-then-not-package_sound
shape_of-names-then-not-package_sound c = (long (goal.at.shape_of-names-then-not-package_sound c).After-package_sound).2

pub shape_of-seen-then-not-package_sound : goal.shape_of-seen-then-not-package_sound
shape_of-seen-then-not-package_sound c = (long (goal.at.shape_of-seen-then-not-package_sound c).After-package_sound).3

pub returns-then-not-package_sound : goal.returns-then-not-package_sound
returns-then-not-package_sound c =
    record { packages_say = packages.package_bad _ _ _ c.loop-part.invariant.0 _ _ _ (package_here (goal.at.returns-then-not-package_sound c).In-Package) (said (goal.at.returns-then-not-package_sound c).After-package_sound _ (c.if-not-package_sound.true)); index_is_2 = λ e. let z : ◌≡◌ {A = ℕ} 0 1 = cc in absurd (omega arith) }

pub loop-part-smaller : goal.loop-part-smaller
loop-part-smaller c =
    omega (arith, packages.package_in _ _ _ c.loop-part.invariant.0 _ _ _ (package_here (goal.at.loop-part-smaller c).In-Package) c.requires.stand_from.0)

pub loop-part-preserved : goal.loop-part-preserved
loop-part-preserved c =
    let yes = c.if-not-package_sound.false in
    let kept = c.package_sound.ensures.index_is_2 yes in
    (packages.package_on _ _ _ c.loop-part.invariant.0 _ _ _ (package_here (goal.at.loop-part-preserved c).In-Package) (said (goal.at.loop-part-preserved c).After-package_sound _ yes), kept.0, kept.1, long (goal.at.loop-part-preserved c).After-package_sound)

pub shape_of-index : goal.shape_of-index
shape_of-index c = c.loop-part.invariant.3.0

pub shape_of-depths : goal.shape_of-depths
shape_of-depths c = c.loop-part.invariant.3.1

pub shape_of-names : goal.shape_of-names
shape_of-names c = c.loop-part.invariant.3.2

pub shape_of-seen : goal.shape_of-seen
shape_of-seen c = c.loop-part.invariant.3.3

pub returns : goal.returns
returns c =
    let a = c.args in
    let s = a.s.now in
    let over = none_told c.in_default.is c.entry_at.ensures in
    let at = packages.done_at s a.end c.loop-part.at c.loop-part.invariant.0 over c.requires.stand_from.0 in record { packages_say = packages.all_done _ _ _ c.loop-part.invariant.0 over; index_is_2 = λ e. (subst (λ (k : ℕ). IndexIs s k c.loop-part.index) at c.loop-part.invariant.1, subst (λ (k : ℕ). DepthsKept s k c.loop-part.depths) at c.loop-part.invariant.2) }
