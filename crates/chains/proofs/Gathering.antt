-- Gathering the methods of one class: start, turn and end of the loop. Assumes nothing.
use Prim.Native.Nat.{ℕ, ◌+◌, ◌-◌, ◌≤◌, ◌<◌}
use native.Mathlib.Omega.{arith}
use mathlib.Core.Path.{◌≡◌, refl, sym, ◌∙◌, ap, subst}
use mathlib.Core.Bool.{Bool, true, false, ◌&&◌, not}
use mathlib.Core.List.{List}
use mathlib.Core.Logic.{◌⊎◌, inl, inr, ⊎_elim}
use mathlib.Core.Option.{some}
use lib.Dec.{eqb}
use lib.ListN.{length, get_or}
use borrow.Author.Tests.{eq-eqb, ne_eqb}
use Rattle.rules.specs.Bytes.{Bytes, find, u1}
use Rattle.rules.specs.Code.{u2_at}
use Rattle.rules.specs.Package.{format_of, most_methods, Method, method}
use Rattle.places.specs.Reads.{Placed, nil}
use Rattle.places.proofs.Steady.{steady_u1}
use Rattle.places.proofs.Inverse.{reads_counted, reads_u1}
use Rattle.places.proofs.Track.{placed_none}
use Rattle.files.specs.Say.{MethodThere, MethodsAt, AfterMethod, StaticIs, Methods}
use Rattle.files.specs.Say as files
use Rattle.files.proofs.Steps as steps
use Rattle.files.proofs.Loops as loops
use Rattle.methods.specs.Table.{name_at, Named, Has, Nameless, Sorted, Entered}
use Rattle.chains.specs.Chain.{Same}
use Rattle.chains.specs.Names.{Held, Added, Gathers}

-- the test of a non-static method of a name
abbrev pub is_instance : ℕ → Method → Bool
is_instance x m = eqb m.name x && not m.static

-- names of the methods of a file, in the bytes that hold it
module _ (g t : Bytes) (base c : ℕ) (held : Held g t base) (there : MethodThere g c) where
  pub named_held : Named t (base + c)
  named_held = omega (arith, steps.method_in_lem there, held.inside)

  pub place_fits : base + c ≤ 65535
  place_fits = omega (arith, steps.method_in_lem there, held.inside, held.short)

  name_held : name_at t (base + c) ≡ u2_at g (c + 1)
  name_held =
      let one : base + c + 1 ≡ base + (c + 1) = omega arith in
      let two : base + c + 1 + 1 ≡ base + (c + 1 + 1) = omega arith in
      let a : get_or t (base + c + 1) 0 ≡ get_or g (c + 1) 0 = ap (λ (n : ℕ). get_or t n 0) one ∙ held.bytes (c + 1) (omega (arith, steps.method_in_lem there)) in
      let b : get_or t (base + c + 1 + 1) 0 ≡ get_or g (c + 1 + 1) 0 = ap (λ (n : ℕ). get_or t n 0) two ∙ held.bytes (c + 1 + 1)
      (omega (arith, steps.method_in_lem there)) in
      rw (a, b)

  -- the name of whatever method stands there
  pub name_is : files.NameIs g c (name_at t (base + c))
  name_is l ds m j p = name_held ∙ steps.method_name l ds m j p

  -- it is the one searched for, or not
  test_true : StaticIs g c false → loops.MethodTests g c (is_instance (name_at t (base + c))) true
  test_true q l ds m j p = let n = eq-eqb m.name (name_at t (base + c)) (sym (name_is l ds m j p)) in let st = sym (q l ds m j p) in rw (n, st)

  test_static : (x : ℕ) → StaticIs g c true → loops.MethodTests g c (is_instance x) false
  test_static x q l ds m j p = let st = sym (q l ds m j p) in rw st (and_no (eqb m.name x))
    where
      and_no : (b : Bool) → (b && false) ≡ false
      and_no true = refl
      and_no false = refl

  test_other : (x : ℕ) → (name_at t (base + c) ≡ x → ⊥) → loops.MethodTests g c (is_instance x) false
  test_other x q l ds m j p = let n = ne_eqb m.name x (λ e. q (name_is l ds m j p ∙ e)) in rw n

-- the loop: `left` methods are still to be read at place c, and the names that are not there are those of these alone
pub record Gathering (g t : Bytes) (l m : List ℕ) (start base a e left c to : ℕ) : Type 0 where
  pub sorted : Sorted t m a to
  pub size : length m ≡ length l
  pub below : Same l m 0 a
  pub end : to + left ≤ e + 64
  pub here : loops.MethodLoop nil nil g start left c
  pub from : loops.OfMethods g start λ lim ds ms. (q : ℕ) → Has m a to q →
      Has l a e q ⊎ ((i : ℕ) × (q ≡ base + i) × (i < length g) × Nameless t l a e (name_at t q)
      × Placed (method (format_of lim g) ds) g (find (is_instance (name_at t q)) ms) (some i))
  pub kept : (x : ℕ) → Nameless t m a to x → Nameless t l a e x
  pub loop : (x : ℕ) → Nameless t m a to x → loops.MethodLoop (find (is_instance x)) (find (is_instance x)) g start left c

module _ (g t : Bytes) (l : List ℕ) (start base a e : ℕ) (held : Held g t base) where
  pub gathering_start : (left : ℕ) → left ≡ get_or g start 0 → Methods g start → Sorted t l a e → Gathering g t l l start base a e left (start + 1) e
  gathering_start left z there sorted = record {
    sorted = sorted;
    size = refl;
    below = λ k u v. refl;
    end = omega (arith, few);
    here = loops.methods_start z;
    from = λ lim ds ms j p q has. inl has;
    kept = λ x n. n;
    loop = λ x n. loops.methods_start z;
  }
    where
      few : left ≤ 64
      few =
          let c = reads_counted most_methods u1 (method (format_of there.0 g) there.1) steady_u1 g start there.2.0 there.2.1 there.2.2 in
          let w = reads_u1 g start c.number c.place c.count in
          omega (arith, z, w.byte, c.small)

  module _ (m : List ℕ) (left c to : ℕ) (inv : Gathering g t l m start base a e left c to) (more : 0 < left) where
    pub gathering_here : Methods g start → MethodThere g c
    gathering_here there = loops.methods_here inv.here more there

    pub gathering_room : e + 64 ≤ length l → to < length m
    gathering_room room = omega (arith, inv.end, inv.size)

    module _ (there : Methods g start) (m' : List ℕ) (to' next : ℕ) (after : AfterMethod g c next) where
      at_c : MethodThere g c
      at_c = gathering_here there

      -- the method is static
      skipped : StaticIs g c true → m' ≡ m → to' ≡ to → Gathering g t l m' start base a e (left - 1) next to'
      skipped q em et = subst (λ (v : ℕ). Gathering g t l m' start base a e (left - 1) next v) (sym et)
          (subst (λ (v : List ℕ). Gathering g t l v start base a e (left - 1) next to) (sym em) (record {
            sorted = inv.sorted;
            size = inv.size;
            below = inv.below;
            end = omega (arith, inv.end);
            here = loops.methods_skip inv.here more after;
            from = inv.from;
            kept = inv.kept;
            loop = λ x n. loops.find_miss (is_instance x) (inv.loop x n) more (test_static g t base c held at_c x q) after;
          }))

      -- it is entered, unless its name is there
      module _ (q : StaticIs g c false) (en : Entered t m m' a to (base + c) to') where
        less : (x : ℕ) → Nameless t m' a to' x → Nameless t m a to x
        less x n y has z = n y (en.kept y has) z

        other : (x : ℕ) → Nameless t m' a to' x → name_at t (base + c) ≡ x → ⊥
        other x n z = n en.there.0 en.there.1 (en.there.2 ∙ z)

        first : Nameless t m a to (name_at t (base + c)) → loops.OfMethods g start λ lim ds ms. Placed (method (format_of lim g) ds) g
            (find (is_instance (name_at t (base + c))) ms) (some c)
        first n = loops.find_hit (is_instance (name_at t (base + c))) (inv.loop (name_at t (base + c)) n) more (test_true g t base c held at_c q)

        entered_from : loops.OfMethods g start λ lim ds ms. (y : ℕ) → Has m' a to' y →
            Has l a e y ⊎ ((i : ℕ) × (y ≡ base + i) × (i < length g) × Nameless t l a e (name_at t y) × Placed (method (format_of lim g) ds) g
            (find (is_instance (name_at t y)) ms) (some i))
        entered_from lim ds ms j p y has = ⊎_elim old new (en.from y has)
          where
            old : Has m a to y → Has l a e y ⊎ ((i : ℕ) × (y ≡ base + i) × (i < length g) × Nameless t l a e (name_at t y) × Placed (method (format_of lim g) ds) g
                (find (is_instance (name_at t y)) ms) (some i))
            old h = inv.from lim ds ms j p y h

            new : (y ≡ base + c) × Nameless t m a to (name_at t (base + c)) → Has l a e y ⊎
                ((i : ℕ) × (y ≡ base + i) × (i < length g) × Nameless t l a e (name_at t y) × Placed (method (format_of lim g) ds) g
                (find (is_instance (name_at t y)) ms)
                (some i))
            new u = inr (
              c,
              u.0,
              omega (arith, steps.method_in_lem at_c),
              subst (λ (v : ℕ). Nameless t l a e (name_at t v)) (sym u.0) (inv.kept (name_at t (base + c)) u.1),
              subst (λ (v : ℕ). Placed (method (format_of lim g) ds) g (find (is_instance (name_at t v)) ms) (some c)) (sym u.0) (first u.1 lim ds ms j p),
            )

        entered : Gathering g t l m' start base a e (left - 1) next to'
        entered = record {
          sorted = en.sorted;
          size = en.size ∙ inv.size;
          below = λ k u v. en.below k v ∙ inv.below k u v;
          end = omega (arith, inv.end, en.end);
          here = loops.methods_skip inv.here more after;
          from = entered_from;
          kept = λ x n. inv.kept x (less x n);
          loop = λ x n. loops.find_miss (is_instance x) (inv.loop x (less x n)) more (test_other g t base c held at_c x (other x n)) after;
        }

      pub gathering_step : (rest : ℕ) → rest ≡ left - 1 → Added g t m m' c (base + c) a to to' → Gathering g t l m' start base a e rest next to'
      gathering_step rest y (inl u) = rw y (skipped u.0 u.1 u.2)
      gathering_step rest y (inr u) = rw y (entered u.0 u.1)

  pub gathering_end : (m : List ℕ) (left c to i : ℕ) → Gathering g t l m start base a e left c to → left ≤ 0 → MethodsAt g i start → Gathers g t l m i
      base a e to
  gathering_end m left c to i inv done at-methods = record {
    sorted = inv.sorted;
    size = inv.size;
    below = inv.below;
    end = omega (arith, inv.end);
    from = λ lim ds k j p q has. inv.from lim ds k.methods j (at-methods lim ds k j p) q has;
    left = λ lim ds k j p x n. (
      inv.kept x n,
      placed_none (loops.find_none (is_instance x) (inv.loop x n) done lim ds k.methods j
          (at-methods lim ds k j p)),
    );
  }
