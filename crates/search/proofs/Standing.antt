-- A class where it stands: its numbers fit a visit, its record is a part of its file, and its declaration of a name is found there. Assumes nothing.
use Rattle.std.specs.Prelude.{Some, None}
use Prim.Native.Nat.{ℕ, ◌+◌, ◌≤◌, ◌<◌}
use native.Mathlib.Omega.{arith}
use mathlib.Core.Path.{◌≡◌, refl, sym, ◌∙◌, subst}
use mathlib.Core.Bool.{Bool, true, false}
use mathlib.Core.Option.{none, some}
use lib.Dec.{eqb}
use lib.ListN.{length, drop, get_or, length-drop}
use lib.Seq.{get_or-drop}
use Rattle.std.specs.Prelude.{Some, None}
use Rattle.rules.specs.Bytes.{Bytes, pick}
use Rattle.rules.specs.Package.{Method, Class}
use Rattle.rules.specs.Store.{store_limits}
use Rattle.rules.specs.Classes.{ClassAt, record_of, declared, declared_at}
use Rattle.rules.proofs.Lists.{at_below}
use Rattle.places.proofs.Parts.{file_parts}
use Rattle.places.proofs.Track.{placed_at, placed_none}
use Rattle.store.specs.Entries.{part}
use Rattle.store.proofs.Parts.{part_length}
use Rattle.files.specs.Say.{DeclaredPlaced}
use Rattle.homes.specs.Homes.{file_of, RecordIs}
use Rattle.homes.proofs.Homes.{home_reads, home_below}
use Rattle.classes.specs.Say.{ClassThere, CountIs, RecordAt}
use Rattle.classes.specs.declared.ClassSpot.{ClassSpot}
use Rattle.classes.proofs.Keys.{classes_room}
use Rattle.classes.proofs.Places.{there_bounds, class_at}
use Rattle.classes.proofs.Records as records
use Rattle.slots.specs.Slots.{SmallHome}
use Rattle.slots.proofs.Standing.{class_small, record_inside, record_part}
use Rattle.search.specs.Walk.{SpotThere, DeclaredHere}

module _ (f s : Bytes) (end : ℕ) (c : ClassSpot) (t : SpotThere f s end c) where
  pub spot_class : ClassThere f s c.home c.number
  spot_class = (end, t)

  pub spot_small : length s ≤ 65535 → SmallHome c.home
  spot_small z = class_small f s c.home c.number (end, t) z

  pub spot_few : c.number ≤ 255
  spot_few =
      let g = t.asked.parents.imported.setting in
      let r = home_reads f s end t.entries t.self g c.home t.pack t.home in
      omega (
        arith,
        at_below t.pack.pack.classes c.number t.class t.is,
        (classes_room (store_limits s) (file_of f s c.home) t.pack.pack
            r).1,
      )

  pub spot_below : c.home.before ≤ end
  spot_below = home_below f s end t.entries t.self t.asked.parents.imported.setting c.home t.pack t.home

  -- its record stands inside its file, and the place fits two bytes
  pub place_small : (i : ℕ) → RecordAt f s c.home c.number i → length s ≤ 65535 → get_or f 5 0 < 256 → get_or f 6 0 < 256 → i ≤ 65535
  place_small i p z a b = go (eqb c.home.from 0) refl
    where
      inside : i ≤ length (file_of f s c.home)
      inside = record_inside f s c.home c.number spot_class (file_of f s c.home) refl i p

      go : (own : Bool) → eqb c.home.from 0 ≡ own → i ≤ 65535
      go true e =
          let own : i ≤ length f = subst (λ (o : Bool). i ≤ length (pick o f (part s c.home.from c.home.to))) e inside in
          omega (arith, (file_parts (store_limits s) f t.self.pack t.asked.parents.imported.setting.reads).size)
      go false e =
          let stored : i ≤ length (part s c.home.from c.home.to) =
          subst (λ (o : Bool). i ≤ length (pick o f (part s c.home.from c.home.to))) e inside in
          let end = (there_bounds f s c.home c.number spot_class).1 in
          omega (arith, end, part_length s c.home.from c.home.to end)

-- the number of its parents stands behind its kind
module _ (f s : Bytes) (c : ClassSpot) (t : ClassThere f s c.home c.number) (g : Bytes) (e : g ≡ file_of f s c.home) (i : ℕ)
    (p : RecordAt f s c.home c.number i) where
  record_is : RecordIs f s c.home c.number (drop i g)
  record_is = record_part f s c.home c.number t g e i p (drop i g) refl

  pub count_inside : i + 1 < length g
  count_inside = omega (arith, records.record_inside f s c.home c.number (drop i g) record_is t, length-drop i g)

  pub count_at : (m : ℕ) → m ≡ get_or g (i + 1) 0 → CountIs f s c.home c.number m
  count_at m z = records.count_is f s c.home c.number (drop i g) record_is m (z ∙ sym (get_or-drop i g 1 0))

-- the declaration of a class, by its record
declared_some : (c : ClassAt) (k : Class) (n : ℕ) (m : Method) → record_of c ≡ some k → declared k n ≡ some m → declared_at n c ≡ some
    (record { class = c; method = m })
declared_some c k n m e d = rw (e, d)

declared_nothing : (c : ClassAt) (k : Class) (n : ℕ) → record_of c ≡ some k → declared k n ≡ none → declared_at n c ≡ none
declared_nothing c k n e d = rw (e, d)

-- found where the record stands
module _ (f s : Bytes) (c : ClassSpot) (n : ℕ) (i : ℕ) (p : RecordAt f s c.home c.number i) (g : Bytes) (eg : g ≡ file_of f s c.home) where
  pub declared_at_lem : (m : ℕ) → DeclaredPlaced g i n (Some m) → DeclaredHere f s c n (Some (record { home = c.home; class = i; method = m }))
  declared_at_lem m q end es self j x o k e =
      let y = class_at f s c.home c.number i p end es self j x o k e in
      let q' : DeclaredPlaced (file_of f s c.home) i n (Some m) = subst (λ (b : Bytes). DeclaredPlaced b i n (Some m)) eg q in
      let w = placed_at (q' (store_limits s) x.pack.domains k y.0 y.1) in (
        record { class = record { home = x; number = c.number }; method = w.0 },
        declared_some (record { home = x; number = c.number }) k n w.0 e w.2,
        record { lies = o; class = k; is = e; class_end = y.0; stands = y.1; method_end = w.1; method = w.3 },
      )

  pub declared_none : DeclaredPlaced g i n None → DeclaredHere f s c n None
  declared_none q end es self j x o k e =
      let y = class_at f s c.home c.number i p end es self j x o k e in
      let q' : DeclaredPlaced (file_of f s c.home) i n None = subst (λ (b : Bytes). DeclaredPlaced b i n None) eg q in
      let w = placed_none (q' (store_limits s) x.pack.domains k y.0 y.1) in
      declared_nothing (record { home = x; number = c.number }) k n e w
