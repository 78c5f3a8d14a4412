-- The walk of question 20 over a class and its ancestors, each visited once. Assumes nothing.
--
-- visit_home, visit_names v == the home of the class that is visited, the names of the own class; visit_for w d h n == the visit of class n at home h
-- SmallNames w           == the numbers of names fit two bytes, the own class's one
-- VisitThere f s v       == the class that is visited is there, for the own class
-- VisitPlaced f s v      == its record stands at the place told, and a slot is told; PlacedIs f s v w == w is the visit v with these
-- NumberedThere, NumberedAt == the package that a number stands for in its file is there, and lies at a home
-- ParentVisit f s v i w  == w is the visit of its parent with number i, which stands before it
-- WalkFrom f s index names v == what the walk may use: the class, the names of the own class, the index of the earlier entries
-- SeenPass f s end d b seen == there is a bit for each class, and where it is set the class and all its ancestors pass for own class b
-- SeenIf f s end d b seen alike == there is room for the bits, and they hold for own class b where the answer is yes
-- BitsFor x y end alike  == the bits y are x where the answer is yes, else none is set
-- ParentsPass f s end d b h n r == so do all parents of class n, and their ancestors, or not
use Rattle.std.specs.Prelude.{ℕ, ◌+◌, ◌*◌, ◌/◌, ◌≤◌, ◌<◌, ◌≡◌, Bool, true, false, List, length}
use Rattle.std.specs.Prelude.{Some, None}
use Rattle.std.proofs.Math.Option.{some}
use Rattle.rules.specs.Bytes.{Bytes, at}
use Rattle.rules.specs.Package.{ClassNumber}
use Rattle.rules.specs.Store.{store_limits}
use Rattle.rules.specs.Classes.{installed, ClassAt, class_named}
use Rattle.bits.specs.Bits.{bit_at}
use Rattle.homes.specs.Homes.{own_home, NumberedIs}
use Rattle.homes.specs.Found.{Indexed}
use Rattle.homes.specs.declared.Home.{Home}
use Rattle.classes.specs.Say.{ParentIs, RecordAt}
use Rattle.classes.specs.Keys.{key}
pub use Rattle.classes.specs.Keys.{seen_length}
use Rattle.classes.specs.declared.ClassSpot.{ClassSpot}
use Rattle.chains.specs.Names.{NamesIs}
use Rattle.chains.specs.declared.Names.{Names}
use Rattle.slots.specs.Slots.{slot_count}
use Rattle.running.specs.Say.{WalkThere, OfWalk, Passes, Fails, Answers}
use Rattle.running.specs.declared.visited.Visit.{Visit}

-- the home of the class that is visited, and the names of the own class
abbrev pub visit_home : Visit → Home
visit_home v = record { from = v.from; to = v.to; before = v.before }

abbrev pub visit_names : Visit → Names
visit_names v = record { end = v.end; own = v.own; stored = v.stored; all = v.all; home = own_home v.end; number = v.own }

pub record SmallNames (w : Names) : Type 0 where
  pub end : w.end ≤ 65535
  pub own : w.own ≤ 255
  pub stored : w.stored ≤ 65535
  pub all : w.all ≤ 65535

abbrev pub visit_for : Names → ℕ → Home → ℕ → Visit
visit_for w d h n = record {
  end = w.end;
  domain = d;
  own = w.own;
  stored = w.stored;
  all = w.all;
  from = h.from;
  to = h.to;
  before = h.before;
  number = n;
  slot = 0;
  place = 0;
}

-- the class that is visited
abbrev pub VisitThere : Bytes → Bytes → Visit → Type 0
VisitThere f s v = WalkThere f s v.end v.domain v.own (visit_home v) v.number

-- and its record
pub record VisitPlaced (f s : Bytes) (v : Visit) : Type 0 where
  pub there : VisitThere f s v
  pub place : RecordAt f s (visit_home v) v.number v.place
  pub slot : v.slot < slot_count

-- the visit with a slot and the record's place
abbrev pub at_place : Visit → ℕ → ℕ → Visit
at_place v k i = record {
  end = v.end;
  domain = v.domain;
  own = v.own;
  stored = v.stored;
  all = v.all;
  from = v.from;
  to = v.to;
  before = v.before;
  number = v.number;
  slot = k;
  place = i;
}

abbrev pub PlacedIs : Bytes → Bytes → Visit → Visit → Type 0
PlacedIs f s v w = (w ≡ at_place v w.slot w.place) × RecordAt f s (visit_home v) v.number w.place × (w.slot < slot_count)

-- the package that a number stands for in its file: it is not missing, and lies at a home
abbrev pub NumberedThere : Bytes → Bytes → Visit → ℕ → Type 0
NumberedThere f s v p = NumberedIs f s (visit_home v) p None → ⊥

abbrev pub NumberedAt : Bytes → Bytes → Visit → ℕ → Home → Type 0
NumberedAt f s v p g = NumberedIs f s (visit_home v) p (Some g)

-- its parent with number i
pub record ParentPlaced (f s : Bytes) (v : Visit) (i : ℕ) : Type 0 where
  pub class : VisitPlaced f s v
  pub inside : i < length class.there.class.parents

-- the visit of another class for the same own class
abbrev pub visit_of : Visit → ClassSpot → Visit
visit_of v c = visit_for (visit_names v) v.domain c.home c.number

abbrev pub ParentVisit : Bytes → Bytes → Visit → ℕ → Visit → Type 0
ParentVisit f s v i w = (c : ClassSpot) × (w ≡ visit_of v c) × ParentIs f s (visit_home v) v.number i c

-- what the walk may use
pub record WalkFrom (f s : Bytes) (index names : List ℕ) (v : Visit) : Type 0 where
  pub there : VisitThere f s v
  pub chain : NamesIs f s names (visit_names v)
  pub indexed : Indexed s v.end index
  pub small : length s ≤ 65535

-- where a bit is set the class and all its ancestors pass for own class b
pub record SeenPass (f s : Bytes) (end d b : ℕ) (seen : Bytes) : Type 0 where
  pub room : seen_length s ≤ length seen
  pub hold : (h : Home) (n : ℕ) → bit_at seen (key h n) ≡ true → OfWalk f s end d b h n λ es self x k. Passes (store_limits s) (installed (store_limits s) es)
      self b (record { home = x; number = n })

pub record SeenIf (f s : Bytes) (end d b : ℕ) (seen : Bytes) (alike : Bool) : Type 0 where
  pub room : seen_length s ≤ length seen
  pub hold : alike ≡ true → SeenPass f s end d b seen

abbrev pub BitsFor : Bytes → Bytes → ℕ → Bool → Type 0
BitsFor x y end true = y ≡ x
BitsFor x y end false = (j : ℕ) → j / 8 < end * 3 / 88 + 5 → bit_at y j ≡ false

-- the first i parents of class n and their ancestors pass
abbrev pub FirstPass : Bytes → Bytes → ℕ → ℕ → ℕ → Home → ℕ → ℕ → Type 0
FirstPass f s end d b h n i = OfWalk f s end d b h n λ es self x k. (j : ℕ) → j < i → (p : ClassNumber) → at k.parents j ≡ some p →
    (c : ClassAt) → class_named (installed (store_limits s) es) x p ≡ some c → Passes (store_limits s) (installed (store_limits s) es) self b c

-- all do, or one does not
abbrev pub ParentsPass : Bytes → Bytes → ℕ → ℕ → ℕ → Home → ℕ → Bool → Type 0
ParentsPass f s end d b h n r = OfWalk f s end d b h n λ es self x k. Answers
    ((j : ℕ) (p : ClassNumber) → at k.parents j ≡ some p → (c : ClassAt) → class_named (installed (store_limits s) es) x p ≡ some c →
    Passes (store_limits s) (installed (store_limits s) es) self b c)
    ((j : ℕ) × (p : ClassNumber) × (at k.parents j ≡ some p) × (c : ClassAt) × (class_named (installed (store_limits s) es) x p ≡ some c) × Fails
    (store_limits s) (installed (store_limits s) es) self b c)
    r
