-- A class that is visited, where it stands: its record, its parents, whether it declares the name; and what is told of its visit is told of
-- the class. Assumes nothing.
use Rattle.std.specs.Prelude.{Some, None}
use Rattle.std.specs.Prelude.{Option as Optional, is_some as is_there}
use Prim.Native.Nat.{ℕ, ◌≤◌, ◌<◌}
use mathlib.Core.Path.{◌≡◌, sym, ap, subst}
use mathlib.Core.Bool.{Bool}
use mathlib.Core.List.{List}
use mathlib.Core.Option.{Option}
use lib.ListN.{length, drop}
use Rattle.rules.specs.Bytes.{Bytes, is_some}
use Rattle.files.specs.Say.{DeclaredPlaced}
use Rattle.files.specs.Say as say
use Rattle.homes.specs.Homes.{file_of, RecordIs, NumberedIs}
use Rattle.homes.specs.Found.{Indexed}
use Rattle.homes.specs.declared.Home.{Home}
use Rattle.classes.specs.Say.{ClassThere, CountIs, ParentThere, ParentIs, RecordAt, rank}
use Rattle.classes.specs.declared.ClassSpot.{ClassSpot}
use Rattle.classes.proofs.Places.{class_there}
use Rattle.classes.proofs.Records.{at_split}
use Rattle.classes.proofs.Parents as parents
use Rattle.slots.specs.Slots.{SmallHome}
use Rattle.slots.proofs.Standing.{record_inside, record_part}
use Rattle.search.specs.Walk.{class_code, spot_in, visit_spot, SpotThere, VisitPlaced, VisitOf, Seeking, MeantIs, DeclaresIs, SeenNone}
use Rattle.search.specs.Walk.{ParentInside, NamedBy}
use Rattle.search.specs.declared.visited.Visit.{Visit}
use Rattle.search.specs.declared.visited.Named.{Named}
use Rattle.search.proofs.Codes.{spot_code, code_told}
use Rattle.search.proofs.Standing.{spot_class, spot_small, spot_few, declared_at_lem, declared_none}

-- its record
module _ (f s : Bytes) (v : Visit) (p : VisitPlaced f s v) where
  pub visit_class : ClassThere f s (visit_spot v).home (visit_spot v).number
  visit_class = spot_class f s v.end (visit_spot v) p.there

  module _ (g : Bytes) (e : g ≡ file_of f s (visit_spot v).home) where
    pub visit_record : say.ClassThere g v.place
    visit_record = class_there f s (visit_spot v).home (visit_spot v).number g v.place e p.place visit_class

    pub visit_inside : v.place ≤ length g
    visit_inside = record_inside f s (visit_spot v).home (visit_spot v).number visit_class g e v.place p.place

    pub visit_part : (r : Bytes) → r ≡ drop v.place g → RecordIs f s (visit_spot v).home (visit_spot v).number r
    visit_part r z = record_part f s (visit_spot v).home (visit_spot v).number visit_class g e v.place p.place r z

-- a class is told again by the number that was made of it
pub spot_told : (f s : Bytes) (end : ℕ) (c : ClassSpot) → SpotThere f s end c → length s ≤ 65535 → (x : ℕ) → x ≡ class_code c → spot_in x ≡ c
spot_told f s end c t z x e = rw e (spot_code c (spot_small f s end c t z) (spot_few f s end c t))

-- the visit that is made of a class
pub visit_made : (f s : Bytes) (end n : ℕ) (c : ClassSpot) → SpotThere f s end c → length s ≤ 65535 → (v : Visit) → v.class ≡ class_code c → v.end ≡ end →
    v.name ≡ n → RecordAt f s c.home c.number v.place → CountIs f s c.home c.number v.parents → VisitOf f s end n c v
visit_made f s end n c t z v ec ee en p q =
    let is = spot_told f s end c t z v.class ec in
    record {
      is = is;
      end_is = ee;
      name_is = en;
      placed = record {
        there = subst (λ (d : ClassSpot). SpotThere f s v.end d) (sym is) (subst (λ (e : ℕ). SpotThere f s e c) (sym ee) t);
        told = subst (λ (k : ℕ). 0 < k) (sym ec) (code_told c);
        place = subst (λ (d : ClassSpot). RecordAt f s d.home d.number v.place) (sym is) p;
        count = subst (λ (d : ClassSpot). CountIs f s d.home d.number v.parents) (sym is) q;
      };
    }

-- its parents
module _ (f s : Bytes) (v : Visit) (i : ℕ) (u : ParentInside f s v i) where
  pub parent_inside : ParentThere f s (visit_spot v).home (visit_spot v).number i
  parent_inside = record { class = (v.end, u.placed.there); inside = u.inside }

  -- where it stands
  pub parent_spot : (d : ClassSpot) → ParentIs f s (visit_spot v).home (visit_spot v).number i d → SpotThere f s v.end d
  parent_spot d p =
      let t = u.placed.there in
      let m = at_split t.class.parents i u.inside in
      let w = (p v.end t.entries t.self t.asked t.pack t.home t.class t.is m.0 m.1).0 in
      record { entries = t.entries; self = t.self; asked = t.asked; pack = w.pack; home = w.home; class = w.class; is = w.is }

  -- by the numbers that name it, in the package that its number stands for
  module _ (z : length s ≤ 65535) (r : Named) (m : NamedBy f s v i r) where
    pub parent_never : NumberedIs f s (visit_spot v).home r.pack None → ⊥
    parent_never q =
        parents.parent_none f s (visit_spot v).home (visit_spot v).number i m.bytes m.is r.pack r.number m.pack m.number parent_inside q

    module _ (g : Home) (q : NumberedIs f s (visit_spot v).home r.pack (Some g)) where
      abbrev spot : ClassSpot
      spot = record { home = g; number = r.number }

      parent_is : ParentIs f s (visit_spot v).home (visit_spot v).number i spot
      parent_is = parents.parent_is f s (visit_spot v).home (visit_spot v).number i m.bytes m.is r.pack r.number m.pack m.number g
          m.small q

      pub parent_small : SmallHome g × (r.number ≤ 255)
      parent_small =
          let t = parent_spot spot parent_is in
          (spot_small f s v.end spot t z, spot_few f s v.end spot t)

      pub parent_told : (x : ℕ) → x ≡ class_code spot → ParentIs f s (visit_spot v).home (visit_spot v).number i (spot_in x)
      parent_told x e =
          subst (ParentIs f s (visit_spot v).home (visit_spot v).number i) (sym (spot_told f s v.end spot (parent_spot spot parent_is) z x e)) parent_is

-- whether it declares the name
module _ (f s : Bytes) (v : Visit) (p : VisitPlaced f s v) (g : Bytes) (e : g ≡ file_of f s (visit_spot v).home) where
  pub declares_is : (o : Optional ℕ) → DeclaredPlaced g v.place v.name o → DeclaresIs f s (visit_spot v) v.name (is_there o)
  declares_is (Some m) q end es self j x o k z =
      sym (ap is_some (declared_at_lem f s (visit_spot v) v.name v.place p.place g e m q end es self j x o k z).1)
  declares_is None q end es self j x o k z =
      sym (ap is_some (declared_none f s (visit_spot v) v.name v.place p.place g e q end es self j x o k z))

-- what is told of the visit of a class is told of the class
module _ {f s : Bytes} {end n : ℕ} {c : ClassSpot} {v : Visit} (w : VisitOf f s end n c v) where
  visit_is : (P : ℕ → ClassSpot → ℕ → Type 0) → P v.end (visit_spot v) v.name → P end c n
  visit_is P p =
      let q = subst (λ (e : ℕ). P e (visit_spot v) v.name) w.end_is p in
      subst (λ (m : ℕ). P end c m) w.name_is (subst (λ (d : ClassSpot). P end d v.name) w.is q)

  pub visit_declares : (r : Bool) → DeclaresIs f s (visit_spot v) v.name r → DeclaresIs f s c n r
  visit_declares r p = visit_is (λ e d m. DeclaresIs f s d m r) p

  pub visit_meant : (g : Seeking) (o : Option ClassSpot) → MeantIs f s v.end (visit_spot v) v.name g o → MeantIs f s end c n g o
  visit_meant g o p = visit_is (λ e d m. MeantIs f s e d m g o) p

  pub visit_seen : (b : Bytes) → SeenNone f s v.end v.name b → SeenNone f s end n b
  visit_seen b p = subst (λ (e : ℕ). SeenNone f s e n b) w.end_is (subst (λ (m : ℕ). SeenNone f s v.end m b) w.name_is p)

  pub seen_visit : (b : Bytes) → SeenNone f s end n b → SeenNone f s v.end v.name b
  seen_visit b p = subst (λ (e : ℕ). SeenNone f s e v.name b) (sym w.end_is) (subst (λ (m : ℕ). SeenNone f s end m b) (sym w.name_is) p)

  pub visit_indexed : (index : List ℕ) → Indexed s end index → Indexed s v.end index
  visit_indexed index p = subst (λ (e : ℕ). Indexed s e index) (sym w.end_is) p

  pub visit_rank : rank (visit_spot v).home (visit_spot v).number ≡ rank c.home c.number
  visit_rank = ap (λ (d : ClassSpot). rank d.home d.number) w.is
