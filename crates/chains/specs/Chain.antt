-- The classes of a chain in a table of numbers: own classes from link 16 on, stored ones from link 0 on. Assumes nothing.
--
-- link_home, link_place   == the home of the class at link i, and the place of its record in the file there
-- with_link l i h c      == the table with these written
-- LinkIs                == class n of the package at home h is written at link i
-- Part f s l h n i j stop == from link i up to j stand class n at home h and those along its kind-0 parents, all of them own or all of
--                          them stored; stop is the class that follows, if one does: the first stored one behind own ones
-- Same l m i j          == the numbers from i up to j stand as they stood
-- PartRoom              == class n is there, and so are links for it and all above it
use Rattle.std.specs.Prelude.{ℕ, suc, ◌+◌, ◌*◌, ◌<◌, ◌≤◌, ◌≡◌, List, ◌⊎◌, length, get_or, set}
use Rattle.std.specs.Prelude.{Some, None}
use Rattle.std.specs.Prelude.{Option as Optional}
use Rattle.rules.specs.Bytes.{Bytes}
use Rattle.rules.specs.Store.{store_limits}
use Rattle.rules.specs.Classes.{installed, depth_up_to}
use Rattle.homes.specs.declared.Home.{Home}
use Rattle.slots.specs.Slots.{home_in, with_home}
use Rattle.classes.specs.Say.{Judged, ClassIn, Kind0ParentIs, RecordAt}
use Rattle.classes.specs.declared.ClassSpot.{ClassSpot}

-- a part of a chain has as many classes at most as the greatest depth that any limits allow
abbrev pub most_links : ℕ
most_links = 16

-- the links of both parts, four numbers each; behind them stand the names
abbrev pub all_links : ℕ
all_links = 32

abbrev pub names_start : ℕ
names_start = 128

abbrev pub link_home : List ℕ → ℕ → Home
link_home l i = home_in l (4 * i)

abbrev pub link_place : List ℕ → ℕ → ℕ
link_place l i = get_or l (4 * i + 3) 0

abbrev pub with_link : List ℕ → ℕ → Home → ℕ → List ℕ
with_link l i h c = set (with_home l (4 * i) h) (4 * i + 3) c

pub record LinkIs (f s : Bytes) (l : List ℕ) (h : Home) (n i : ℕ) : Type 0 where
  pub home : link_home l i ≡ h
  pub place : RecordAt f s h n (link_place l i)

-- the next home is the same, or lies before in the store
abbrev pub Steps : Home → Home → Type 0
Steps h g = (g ≡ h) ⊎ ((0 < g.from) × (g.to ≤ h.from))

-- the class that follows a part is the first stored one behind own ones
abbrev pub Leaves : Home → Optional ClassSpot → Type 0
Leaves h (Some d) = (h.from ≡ 0) × (0 < d.home.from)
Leaves h None = Unit {0}

pub data Part (f s : Bytes) (l : List ℕ) : Home → ℕ → ℕ → ℕ → Optional ClassSpot → Type 0 where
  last : {h : Home} {n i j : ℕ} {stop : (Optional ClassSpot)} → LinkIs f s l h n i → Kind0ParentIs f s h n stop → Leaves h stop → j ≡ i + 1 → Part f s l h n i j stop
  more : {h : Home} {n i j : ℕ} {stop : (Optional ClassSpot)} (d : ClassSpot) → LinkIs f s l h n i → Kind0ParentIs f s h n (Some d) → Steps h d.home →
      Part f s l d.home d.number (i + 1) j stop → Part f s l h n i j stop

abbrev pub Same : List ℕ → List ℕ → ℕ → ℕ → Type 0
Same l m i j = (k : ℕ) → i ≤ k → k < j → get_or m k 0 ≡ get_or l k 0

-- class n is there, and from link i up to link top is room for it and those above it
pub record PartRoom (f s : Bytes) (end i top : ℕ) (h : Home) (n : ℕ) : Type 0 where
  pub class : ClassIn (Judged f s end) f s end h n
  pub depth : ℕ
  pub room : i + depth ≤ top
  pub within : depth_up_to (installed (store_limits s) class.entries) (suc depth) (record { home = class.pack; number = n }) ≤ depth

-- what a part that was found is: it ends at link j, its numbers are written, all others stand as they stood
pub record PartIs (f s : Bytes) (l m : List ℕ) (c : ClassSpot) (i j : ℕ) (stop : Optional ClassSpot) : Type 0 where
  pub size : length m ≡ length l
  pub part : Part f s m c.home c.number i j stop
  pub few : j ≤ i + most_links
  pub below : Same l m 0 (4 * i)
  pub above : (k : ℕ) → 4 * (i + most_links) ≤ k → get_or m k 0 ≡ get_or l k 0
