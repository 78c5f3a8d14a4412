-- What is told of a reference: as the table tells it, its places fit two bytes, what a class declares itself. Assumes nothing.
use Rattle.std.specs.Prelude.{Option as Optional}
use Rattle.std.specs.Prelude.{Some, None}
use Prim.Native.Nat.{ℕ, ◌<◌, ◌≤◌}
use native.Mathlib.Omega.{arith}
use mathlib.Core.Path.{◌≡◌, refl, sym, ◌∙◌, subst}
use mathlib.Core.Bool.{Bool, true, false}
use mathlib.Core.List.{List}
use mathlib.Core.Option.{some}
use lib.Dec.{eqb}
use lib.ListN.{length, get_or}
use Rattle.rules.specs.Bytes.{Bytes, pick}
use Rattle.rules.specs.Package.{Reference}
use Rattle.rules.specs.Store.{store_limits}
use Rattle.rules.proofs.Tests.{none_some}
use Rattle.rules.specs.Classes.{installed, package_numbered}
use Rattle.store.specs.Entries.{part}
use Rattle.store.proofs.Parts.{part_length}
use Rattle.places.proofs.Parts.{file_parts}
use Rattle.files.specs.Say.{ReferencesAt, ReferenceNth}
use Rattle.files.proofs.Steps.{reference_none}
use Rattle.homes.specs.Homes.{file_of, HomeThere}
use Rattle.homes.specs.declared.Home.{Home}
use Rattle.homes.proofs.Lookups.{there_bounds}
use Rattle.references.specs.Setting.{imports_of, setting_of, Judged}
use Rattle.references.specs.Named.{GroupTrue, Lent, ClassThere, ClassIs, ReferenceIs, OpenFrom, OwnMeant, NumbersTell, ToldIs}
use Rattle.references.specs.Kept.{row_of, told_of, kept_told, is_told, SmallFound, SmallTold}
use Rattle.references.specs.declared.Meant.{Meant}
use Rattle.references.specs.declared.Group.{Group}
use Rattle.references.specs.declared.Told.{Told}
use Rattle.references.specs.declared.Told.TheVariants as told
use Rattle.references.proofs.Lookups as look

-- what is told, as the table tells it
pub told_kept : (f s : Bytes) (end k : ℕ) (x : Told) → ToldIs f s end k x → ToldIs f s end k (kept_told x)
told_kept f s end k (told.Method x) q = λ es self m.
    let z = q es self m in
    let w = z.2 in
    let is = installed (store_limits s) es in
    let home = z.0.means.class.home in (
      z.0,
      z.1,
      record {
        declared = w.declared;
        kind0 = w.kind0;
        numbered = λ l.
            let e : row_of x.pack ≡ x.pack = omega arith in
            subst (λ (p : ℕ). package_numbered is self p ≡ some home) (sym e) (w.numbered (omega (arith, e)));
      },
    )
told_kept f s end k told.Nothing q = q
told_kept f s end k (told.Open h i) q = q

-- a file in the store or being judged is no longer than two bytes tell
file_short : (f s : Bytes) (h : Home) → (h.from ≤ h.to) × (h.to ≤ length s) → length f ≤ 65535 → length s ≤ 65535 → length (file_of f s h) ≤ 65535
file_short f s h b u w = go (eqb h.from 0)
  where
    go : (e : Bool) → length (pick e f (part s h.from h.to)) ≤ 65535
    go true = u
    go false = omega (arith, part_length s h.from h.to b.1)

-- the file being judged holds its own length in two bytes
judged_short : {f s : Bytes} {end : ℕ} → Judged f s end → get_or f 5 0 < 256 → get_or f 6 0 < 256 → length f ≤ 65535
judged_short {f} {s} g a b = let t = file_parts (store_limits s) f g.1.pack (setting_of g.2).reads in omega (arith, t.size)

-- places of what is named fit two bytes
module _ {f s : Bytes} {end : ℕ} (g : Judged f s end) (small : length s ≤ 65535) (a : get_or f 5 0 < 256) (b : get_or f 6 0 < 256) where
  pub reference_small : (k : ℕ) (x : Optional Meant) → ReferenceIs f s end k x → SmallFound x
  reference_small k (Some x) q =
      let z = q g.0 g.1 g.2 in
      let d = z.2.declared in
      let t : HomeThere f s x.home = (end, g.0, g.1, imports_of g.2, z.0.means.class.home, d.lies) in
      let short = file_short f s x.home (there_bounds f s x.home t) (judged_short g a b) small in
      record {
        home = look.there_small x.home t small;
        class = omega (arith, d.stands.from);
        method = omega (arith, d.method.from);
      }
  reference_small k None q = tt

  pub told_small : (k : ℕ) (x : Told) → ToldIs f s end k x → SmallTold x
  told_small k (told.Method x) q = reference_small k (Some x) q
  told_small k told.Nothing q = tt
  told_small k (told.Open h i) q =
      let z = q g.0 g.1 g.2 in
      let t : HomeThere f s h = (end, g.0, g.1, imports_of g.2, z.2.pack, z.2.lies) in
      let short = file_short f s h (there_bounds f s h t) (judged_short g a b) small in
      (look.there_small h t small, omega (arith, z.2.reads.from))

-- what is named is told
pub named_told : {f s : Bytes} {end : ℕ} (k : ℕ) (x : Optional Meant) → ReferenceIs f s end k x → ToldIs f s end k (told_of x)
named_told k (Some x) q = q
named_told k None q = q

pub named_known : (x : Optional Meant) → is_told (kept_told (told_of x)) ≡ true
named_known (Some x) = refl
named_known None = refl

-- a reference that the file does not have names nothing
pub reference_past : {f s : Bytes} {end k : ℕ} (g : Group) → GroupTrue f g → g.count ≤ k → ReferenceIs f s end k None
reference_past {f} {k = k} g t l = look.reference_none g.at k t.stand (reference_none (omega (arith, t.count)))

-- what is lent serves on where the bits keep their length
pub lent_on : {s : Bytes} {end : ℕ} {packages x : List ℕ} (y : List ℕ) → Lent s end packages x → length y ≡ length x → Lent s end packages y
lent_on y t e = record { indexed = t.indexed; room = omega (arith, t.room, e); small = t.small }

pub lent_at : {s : Bytes} {m n : ℕ} {packages seen : List ℕ} → m ≡ n → Lent s m packages seen → Lent s n packages seen
lent_at {s} {packages = packages} {seen} e t = subst (λ (end : ℕ). Lent s end packages seen) e t

-- what a class declares itself is told of the numbers and the name that name it, and of the reference that has these
pub numbers_tell : {f s : Bytes} {end : ℕ} (p c n : ℕ) (h : Home) (i : ℕ) → ClassIs f s end p c (Some (record { home = h; place = i })) → (q : Told) →
    OwnMeant f s (record { end = end; home = h; number = c; name = n }) (record { pack = p; place = i }) q → NumbersTell f s end (look.naming p c n) q
numbers_tell p c n h i t (told.Method x) d = look.numbers_named p c n h i t (Some x) d
numbers_tell p c n h i t told.Nothing d = look.numbers_named p c n h i t None d
numbers_tell {f} {s} {end} p c n h i t (told.Open g j) d =
    subst (λ (x : Home). ClassIs f s end p c (Some (record { home = x; place = j }))) (sym d.0) (subst (λ (x : ℕ). ClassIs f s end p c (Some (record { home = h; place = x }))) (sym d.1) t)

pub reference_told : (f s : Bytes) (end i k : ℕ) → ReferencesAt f i → (p c n : ℕ) → ReferenceNth f i k (Some (look.naming p c n)) → (r : Told) →
    NumbersTell f s end (look.naming p c n) r → ToldIs f s end k r
reference_told f s end i k a p c n q (told.Method x) d = look.reference_named_lem i k a p c n q (Some x) d
reference_told f s end i k a p c n q told.Nothing d = look.reference_named_lem i k a p c n q None d
reference_told f s end i k a p c n q (told.Open h j) d = λ es self m.
    (record { class = record { pack = p; class = c }; name = n }, look.reference_is_lem i k a (Some (look.naming p c n)) q es self m, d es self m)

-- an open reference of these numbers and this name has its class there
pub open_record : (f s : Bytes) (end i k : ℕ) → ReferencesAt f i → (p c n : ℕ) → ReferenceNth f i k (Some (look.naming p c n)) → (h : Home) (j : ℕ) →
    OpenFrom f s end k h j → ClassIs f s end p c (Some (record { home = h; place = j }))
open_record f s end i k a p c n q h j d es self m =
    let z = d es self m in
    let e : some z.0 ≡ some (record { class = record { pack = p; class = c }; name = n }) =
    sym z.1 ∙ look.reference_is_lem i k a (Some (look.naming p c n)) q es self m in
    let r : z.0 ≡ record { class = record { pack = p; class = c }; name = n } = cc in
    subst (λ (x : Reference). ClassThere f s end es self x.class.pack x.class.class h j) r z.2

-- and there is one
pub open_there : (f s : Bytes) (end i k : ℕ) → ReferencesAt f i → ReferenceNth f i k None → (h : Home) (j : ℕ) →
    Judged f s end → OpenFrom f s end k h j → ⊥
open_there f s end i k a q h j g d =
    let z = d g.0 g.1 g.2 in
    none_some (sym (look.reference_is_lem i k a None q g.0 g.1 g.2) ∙ z.1)
