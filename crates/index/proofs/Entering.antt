-- An index of no entries, an index behind a domain's entry, and an index with one package more. Assumes nothing.
use Prim.Native.Nat.{ℕ, zero, suc, ◌+◌, ◌*◌, ◌≤◌, ◌<◌}
use native.Mathlib.Omega.{arith}
use mathlib.Core.Path.{◌≡◌, refl, sym, ◌∙◌, ap}
use mathlib.Core.Bool.{Bool, true, false, not}
use mathlib.Core.List.{List}
use mathlib.Core.Option.{some, some-injective}
use lib.ListN.{length, get_or, replicate, length-replicate}
use Rattle.rules.specs.Bytes.{Bytes, Aid, any, same, is_some}
use Rattle.rules.specs.Package.{Limits, Package}
use Rattle.rules.specs.Store.{DomainKind, Entry, domain, loaded, first_entry, store_limits}
use Rattle.rules.specs.Classes.{installed, by_aid}
use Rattle.rules.specs.Questions.{q7_installed, q12_new}
use Rattle.rules.specs.Operations.{is_package}
use Rattle.rules.proofs.Tests.{none_some, is_true, of_true, same_refl, same_eq}
use Rattle.rules.proofs.Limits.{first_entry_lem}
use Rattle.store.specs.Entries.{part, EntryAt, AllRead, FilesStand, own_aid}
use Rattle.store.proofs.Stand.{entry_later, entries_to}
use Rattle.store.proofs.Walk.{place_any}
use Rattle.store.proofs.Own.{own_by}
use Rattle.store.proofs.Asked.{installed_any, named_by, named_place}
use Rattle.sorted.specs.Sorted.{key_at, Keyed, count, Has, Sorted, Entered}
use Rattle.sorted.proofs.Order.{clash}
use Rattle.index.specs.Index.{package_key, IndexIs, PackageStands}
use Rattle.index.proofs.Tables.{table_start, table_other, table_more, found_any}
use Rattle.index.proofs.Room.{package_least}
use Rattle.index.proofs.Here.{package_key_lem, package_keyed}

-- a table of zeros
pub zeros : (k i : ℕ) → ◌≡◌ {A = ℕ} (get_or (replicate k 0) i 0) 0
zeros zero i = refl
zeros (suc k) zero = refl
zeros (suc k) (suc i) = zeros k i

-- zeros are an index of no entries
pub index_start : (s : Bytes) (n : ℕ) → first_entry s ≤ length s → length s ≤ 27 * n → IndexIs s (first_entry s) (replicate n 0)
index_start s n h g = record {
  table = table_start package_key s (replicate n 0) h (omega (arith, length-replicate {A = ℕ} n 0, (first_entry_lem s).0)) (zeros n 0);
  room = omega (arith, length-replicate {A = ℕ} n 0);
  few = omega (arith, zeros n 0);
}

-- behind a domain's entry it is the same index
pub index_domain : (s : Bytes) (at next : ℕ) {k : DomainKind} (a : Aid) (index : List ℕ) → IndexIs s at index → EntryAt s at (domain k a) next →
    IndexIs s next index
index_domain s at next {k} a index i u = record {
  table = table_other package_key s at next (domain k a) index i.table u refl;
  room = i.room;
  few = omega (arith, i.few, entry_later s at (domain k a) next u);
}

-- the tests of an AID in a file and of the package read say the same
pub named_any : (l : Limits) (a : Aid) (es : List Entry) → AllRead l es → any (named_by a) es ≡ any (is_package l a) es
named_any l a es h =
    sym (place_any (named_by a) 0 es) ∙ ap is_some (named_place l a 0 es h) ∙ place_any (is_package l a) 0 es

-- 12. a package that is not installed
not_installed : (l : Limits) (es : List Entry) (p : Package) → q12_new (installed l es) p ≡ true → any (is_package l p.aid) es ≡ false
unfolding q12_new q7_installed
not_installed l es p h = sym (installed_any l p.aid es) ∙ not_yes (is_some (by_aid (installed l es) p.aid)) h
  where
    not_yes : (c : Bool) → not c ≡ true → c ≡ false
    not_yes true z = sym z
    not_yes false z = refl

-- the test of an AID finds the packages that have it
pub named_key : (a : Aid) (e : Entry) → named_by a e ≡ true → package_key e ≡ some a
named_key a (domain k b) h = absurd (clash (sym h))
named_key a (loaded d f) h = ap some (sym (same_eq a (own_aid f) (of_true h)))

pub key_named : (a : Aid) (e : Entry) → package_key e ≡ some a → named_by a e ≡ true
key_named a (domain k b) h = absurd (none_some h)
key_named a (loaded d f) h = ap (same a) (some-injective _ _ h) ∙ is_true (same a a) (same_refl a)

-- a package is entered
module _ (s : Bytes) (at file next : ℕ) (index : List ℕ) (i : IndexIs s at index) (fs : FilesStand s at) (x : PackageStands s at file next) where
  -- it has bytes enough, and room in the table
  enough : at + 27 ≤ next
  enough = package_least (store_limits s) s at next x.home (part s file next) x.pack x.stands x.long x.reads

  enter_room : (count index + 1 < length index) × (count index + 1 ≤ length s)
  enter_room = (omega (arith, enough, i.room, i.few, x.stands.to, (first_entry_lem s).0), omega (arith, enough, i.few, x.stands.to))

  enter_keyed : Keyed s at
  enter_keyed =
      package_keyed (store_limits s) s at x.home (part s file next) next x.pack x.stands x.reads
      (entries_to s (first_entry s) i.table.behind.0 at i.table.behind.1).0

  -- it may be entered
  pub enter_ready : length s ≤ 65535 → (Sorted s index × Keyed s at × (at < 65536)) × ((count index + 1 < length index) × (count index < 65535))
  enter_ready h = ((i.table.sorted, enter_keyed, omega (arith, enough, x.stands.to)), (enter_room.0, omega (arith, enter_room.1)))

  key : key_at s at ≡ own_aid (part s file next)
  key = package_key_lem (store_limits s) s at x.home (part s file next) next x.pack x.stands x.reads

  -- no package that was entered has its AID
  pub enter_new : (q : ℕ) → Has index q → key_at s q ≡ key_at s at → ⊥
  enter_new q y e =
      clash (sym (found_any package_key s at index i.table x.pack.aid (named_by x.pack.aid) named q y (e ∙ key ∙ own) fs.0 fs.1) ∙ none)
    where
      own : own_aid (part s file next) ≡ x.pack.aid
      own = (own_by (store_limits s) (part s file next) x.pack x.reads).is

      none : any (named_by x.pack.aid) fs.0 ≡ false
      none = named_any (store_limits s) x.pack.aid fs.0 fs.2 ∙ not_installed (store_limits s) fs.0 x.pack (x.new fs.0 fs.1 fs.2)

      named : (e : Entry) → package_key e ≡ some x.pack.aid → named_by x.pack.aid e ≡ true
      named e h = key_named x.pack.aid e h

  -- the entering never refuses
  pub enter_is : (more : List ℕ) (b : Bool) → Entered s index more at b → IndexIs s next more
  enter_is more true n = record {
    table = table_more package_key s at next (loaded x.home (part s file next)) index i.table x.stands more (ap some (sym key)) n;
    room = omega (arith, i.room, n.size);
    few = omega (arith, i.few, n.more, enough);
  }
  enter_is more false n = absurd (enter_new n.1 n.2 n.3)
