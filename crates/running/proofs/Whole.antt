-- Question 20 of own classes, one after another. Assumes nothing.
use Prim.Native.Nat.{ℕ, suc, ◌+◌, ◌≤◌, ◌<◌}
use native.Mathlib.Omega.{arith}
use native.Mathlib.Numerals.{add-one}
use mathlib.Core.Path.{◌≡◌, refl, sym, ◌∙◌, ap, subst}
use mathlib.Core.Bool.{Bool, true, false, ◌&&◌, ◌||◌}
use mathlib.Core.List.{List, [], ◌∷◌, Memᴰ}
use mathlib.Core.Option.{Option, none, some}
use lib.ListN.{length, drop, get_or, drop_of_length-le}
use Rattle.rules.specs.Bytes.{Bytes, all, all_from, at, none_or, u1}
use Rattle.rules.specs.Package.{Limits, format_of, most_classes, Method, Class, Package, class, read_file}
use Rattle.rules.specs.Store.{Entry, first_entry, store_limits}
use Rattle.rules.specs.Classes.{Installed, installed, ClassAt, record_of, ancestors_up_to, is_kind0, runs_up_to, allows_all_of}
use Rattle.rules.specs.Questions.{own, q20_running}
use Rattle.rules.specs.Running.{running_allows}
use Rattle.rules.proofs.Running.{q20_by_class}
use Rattle.rules.proofs.Tests.{of_true}
use Rattle.rules.proofs.Limits.{limits_range_lem}
use Rattle.rules.proofs.Lists.{at_below}
use Rattle.rules.proofs.Bounds.{ancestors_below, below_ancestors}
use Rattle.places.proofs.Steady.{steady_u1, steady_class}
use Rattle.places.proofs.Inverse.{reads_counted, reads_u1}
use Rattle.places.proofs.Track.{many_length, counted_inside}
use Rattle.files.specs.Say.{Readable, ClassesAt}
use Rattle.files.proofs.Walks.{classes_read}
use Rattle.homes.specs.Homes.{format_at, own_home, DomainAt}
use Rattle.homes.specs.Homes as homes
use Rattle.homes.specs.Found.{Indexed}
use Rattle.homes.proofs.Domains.{aid_inside}
use Rattle.store.proofs.Stand.{entries_to}
use Rattle.classes.specs.Say.{Judged, Kind0Is, OwnThere}
use Rattle.named.proofs.Rows.{file_size, classes_few}
use Rattle.chains.specs.Say.{Running, RunningThere, RunsIs}
use Rattle.chains.specs.Names.{names_length, NamesIs, Room}
use Rattle.chains.specs.declared.Names.{Names}
use Rattle.std.specs.Prelude.{None}
use Rattle.running.specs.Say.{WalkThere, Passes, Fails, Answers, ClassPasses, OwnClassThere, OwnPasses, JudgedThere, RunningIs}
use Rattle.running.specs.Walk.{visit_for, SmallNames, WalkFrom}
use Rattle.running.specs.declared.OwnClass.{OwnClass}
use Rattle.running.specs.declared.visited.Visit.{Visit}
use Rattle.slots.specs.Slots.{SmallHome}
use Rattle.classes.proofs.Records.{at_split}
use Rattle.classes.proofs.Places.{own_depth}

-- all elements pass, or one does not
all_true : {A : Type 0} (p : A → Bool) (xs : List A) → ((x : A) → Memᴰ x xs → p x ≡ true) → all p xs ≡ true
all_true p [] h = refl
all_true p (x ∷ xs) h = rw (h x (Memᴰ.head refl), all_true p xs (λ y m. h y (Memᴰ.tail m)))

all_false : {A : Type 0} (p : A → Bool) (x : A) (xs : List A) → Memᴰ x xs → p x ≡ false → all p xs ≡ false
all_false p x _ (Memᴰ.head {x = y} {xs = ys} e) h = let z : p y ≡ false = ap p (sym e) ∙ h in rw z
all_false p x _ (Memᴰ.tail {x = y} {xs = ys} m) h = rest (p y) (all_false p x ys m h)
  where
    rest : (a : Bool) → all p ys ≡ false → (a && all p ys) ≡ false
    rest true e = e
    rest false e = refl

-- where nothing runs nothing is asked
pub nothing_runs : (l : Limits) (is : List Installed) (b a : ClassAt) → ((n : ℕ) → runs_up_to is l.depth b n ≡ none) → running_allows l is b a ≡ true
nothing_runs l is b a z = go (record_of a) refl
  where
    or_true : (x : Bool) → (x || true) ≡ true
    or_true true = refl
    or_true false = refl

    each : (k : Class) (m : Method) → (m.static || none_or (runs_up_to is l.depth b m.name) (λ r. allows_all_of r (record { class = a; method = m }))) ≡ true
    each k m = rw (z m.name) (or_true m.static)

    go : (o : Option Class) → record_of a ≡ o → running_allows l is b a ≡ true
    go none e = rw e
    go (some k) e = rw e (all_true _ k.methods (λ m i. each k m))

-- for an interface nothing runs
interface_allows : (l : Limits) (is : List Installed) (b a : ClassAt) → is_kind0 b ≡ false → running_allows l is b a ≡ true
interface_allows l is b a z = nothing_runs l is b a (λ n. rw z)

-- the earlier entries end inside the store
pub own_end : (f s : Bytes) (end b : ℕ) → OwnThere f s end b → end ≤ length s
own_end f s end b t = (entries_to s (first_entry s) t.0 end t.2.parents.imported.setting.stand).1

module _ (f s : Bytes) (end d b : ℕ) where
  pub own_interface : Kind0Is f s (own_home end) b false → OwnPasses f s end d b true
  own_interface q es self j l k e =
      sym (all_true (running_allows (store_limits s) (installed (store_limits s) es) (own self b)) (ancestors_up_to (installed (store_limits s) es) (store_limits
      s).depth (own self b))
      (λ a m. interface_allows (store_limits s) (installed (store_limits s) es) (own self b) a (sym (q end es self j self homes.own k e))))

  module _ (q : Kind0Is f s (own_home end) b true) where
    own_running : (es : List Entry) (self : Installed) → Judged f s end es self → (k : Class) → at self.pack.classes b ≡ some k → Running f s end b es self
    own_running es self j k e = record { judged = j; kind0 = of_true (sym (q end es self j self homes.own k e)) }

    -- the chain has no method
    pub own_nothing : ((x : ℕ) → RunsIs f s end b x None) → OwnPasses f s end d b true
    own_nothing w es self j l k e =
        sym (all_true (running_allows (store_limits s) (installed (store_limits s) es) (own self b)) (ancestors_up_to (installed (store_limits s) es)
        (store_limits s).depth (own self b))
        (λ a m. nothing_runs (store_limits s) (installed (store_limits s) es) (own self b) a (λ n. w n es self (own_running es self j k e))))

    pub own_runs : OwnThere f s end b → RunningThere f s end b
    own_runs t = (t.0, t.1, own_running t.0 t.1 t.2 t.3 t.4)

    pub own_walk : (t : OwnThere f s end b) → DomainAt s d t.1 → WalkThere f s end d b (own_home end) b
    own_walk t l = record {
      entries = t.0;
      self = t.1;
      asked = record { running = own_running t.0 t.1 t.2 t.3 t.4; loads = l };
      pack = t.1;
      home = homes.own;
      class = t.3;
      is = t.4;
    }

    -- the walk's answer
    pub own_answer : (r : Bool) → ClassPasses f s end d b (own_home end) b r → OwnPasses f s end d b r
    own_answer r p es self j l k e = go r (p es self (record { running = own_running es self j k e; loads = l }) self homes.own k e)
      where
        go : (r : Bool) → Answers (Passes (store_limits s) (installed (store_limits s) es) self b (own self b)) (Fails (store_limits s) (installed
            (store_limits s) es) self b (own self b)) r →
            r ≡ all (running_allows (store_limits s) (installed (store_limits s) es) (own self b)) (ancestors_up_to (installed (store_limits s) es) (store_limits
            s).depth (own self b))
        go true w = sym (all_true _ (ancestors_up_to (installed (store_limits s) es) (store_limits s).depth (own self b)) (λ a m. w a (ancestors_below
            (installed (store_limits s) es) (store_limits s).depth (own self b) a m)))
        go false w = sym (all_false _ w.0 (ancestors_up_to (installed (store_limits s) es) (store_limits s).depth (own self b))
            (below_ancestors (installed (store_limits s) es) (store_limits s).depth (own self b) w.0 (own_depth f s end b es self j k e) w.1) w.2)

-- the numbers of its names fit two bytes, its own number one
pub names_small : (f s : Bytes) (names : List ℕ) (w : Names) → NamesIs f s names w → length s ≤ 65535 → OwnThere f s w.end w.own → SmallNames w
names_small f s names w n l t =
    let depth = (limits_range_lem s).0 in
    let below = at_below t.1.pack.classes w.own t.3 t.4 in
    record {
      end = omega (arith, own_end f s w.end w.own t);
      own = omega (arith, below, classes_few (store_limits s) f t.1.pack t.2.parents.imported.setting.reads);
      stored = omega (arith, n.own.sorted.low, n.few, depth);
      all = omega (arith, n.few, depth);
    }

-- its home fits too
pub own_small : (end : ℕ) → end ≤ 65535 → SmallHome (own_home end)
own_small end z = record { from = omega arith; to = omega arith; before = z }

-- so does the place of its package's domain
pub domain_small : {s : Bytes} {d : ℕ} {self : Installed} → DomainAt s d self → length s ≤ 65535 → d ≤ 65535
domain_small l z = omega (arith, aid_inside l.there)

-- the visit of an own class
abbrev pub own_visit : OwnClass → Visit
own_visit o = visit_for o.names o.domain (own_home o.names.end) o.names.own

pub own_from : (f s : Bytes) (index names : List ℕ) (o : OwnClass) → Kind0Is f s (own_home o.names.end) o.names.own true → OwnClassThere f s o →
    NamesIs f s names o.names → Indexed s o.names.end index → length s ≤ 65535 → WalkFrom f s index names (own_visit o)
own_from f s index names o q t n i l = record {
  there = own_walk f s o.names.end o.domain o.names.own q t.0 t.1;
  chain = record { stop = n.stop; leaves = n.leaves; own = n.own; stored = n.stored; few = n.few };
  indexed = i;
  small = l;
}

-- a fact of an own class by its numbers
pub at_own : (q : ℕ → ℕ → Type 0) (x y end b : ℕ) → x ≡ end → y ≡ b → q end b → q x y
at_own q x y end b e o p = subst (λ (n : ℕ). q n y) (sym e) (subst (q end) (sym o) p)

pub own_at : (q : ℕ → ℕ → Type 0) (x y end b : ℕ) → x ≡ end → y ≡ b → q x y → q end b
own_at q x y end b e o p = at_own q end b x y (sym e) (sym o) p

-- there is room for the names of a chain
pub names_room : (f s : Bytes) (names : List ℕ) → Readable f → get_or f 5 0 < 256 → get_or f 6 0 < 256 → length s ≤ 65535 → names_length s ≤ length names →
    Room f s names
names_room f s names r a b z l = record { size = l; file = omega (arith, (file_size f r).1); store = z }

-- the test of own class i
abbrev pub own_test : Bytes → List Entry → Installed → ℕ → Class → Bool
own_test s es self i k = all (running_allows (store_limits s) (installed (store_limits s) es) (own self i)) (ancestors_up_to (installed (store_limits s) es)
    (store_limits s).depth (own self i))

-- question 20 is that of the own classes from b on, and so many there are
pub record OwnLeft (f s : Bytes) (end d count b : ℕ) : Type 0 where
  pub few : b ≤ count
  pub left : (es : List Entry) (self : Installed) → Judged f s end es self → DomainAt s d self →
      q20_running (store_limits s) (installed (store_limits s) es) self ≡ all_from (own_test s es self) b (drop b self.pack.classes)
  pub count_is : (l : Limits) (p : Package) → read_file l f ≡ some p → count ≡ length p.classes

module _ (f s : Bytes) (end d : ℕ) where
  pub judged_reads : JudgedThere f s end d → Readable f
  judged_reads t = (store_limits s, t.1.pack, t.2.imported.setting.reads)

  judged_there : (t : JudgedThere f s end d) → Judged f s end t.0 t.1
  judged_there t = record { parents = t.2; q14 = t.3 }

  module _ (at_classes : ℕ) (q : ClassesAt f at_classes) where
    pub classes_inside : JudgedThere f s end d → at_classes < length f
    classes_inside t =
        let p = t.1.pack in
        counted_inside (class (format_at s f) p.domains) f most_classes at_classes p.classes (length f) (classes_read q (store_limits s) p t.2.imported.setting.reads)

    pub own_start : (count : ℕ) → count ≡ get_or f at_classes 0 → OwnLeft f s end d count 0
    own_start count z = record {
      few = omega arith;
      left = λ es self j l. q20_by_class (store_limits s) (installed (store_limits s) es) self;
      count_is = λ l p r.
          let c = reads_counted most_classes u1 (class (format_of l f) p.domains) steady_u1 f at_classes p.classes (length f) (classes_read q l p r) in
          let w = reads_u1 f at_classes c.number c.place c.count in
          z ∙ w.byte ∙ sym (many_length (class (format_of l f) p.domains) (steady_class (format_of l f) p.domains) c.number f c.place
          p.classes (length f) c.list);
    }

  module _ (count b : ℕ) (inv : OwnLeft f s end d count b) where
    own_count : (es : List Entry) (self : Installed) → Judged f s end es self → count ≡ length self.pack.classes
    own_count es self j = inv.count_is (store_limits s) self.pack j.parents.imported.setting.reads

    pub own_done : count ≤ b → RunningIs f s end d true
    own_done z es self p q l =
        let j : Judged f s end es self = record { parents = p; q14 = q } in
        let e : drop b self.pack.classes ≡ [] = drop_of_length-le self.pack.classes {i = b} (omega (arith, own_count es self j)) in
        sym (inv.left es self j l ∙ ap (all_from (own_test s es self) b) e)

    module _ (z : b < count) where
      own_loads : JudgedThere f s end d → (u : OwnThere f s end b) × DomainAt s d u.1
      own_loads t =
          let j = judged_there t in
          let m = at_split t.1.pack.classes b (omega (arith, own_count t.0 t.1 j)) in
          ((t.0, t.1, j, m.0, m.1), t.4)

      pub own_there' : JudgedThere f s end d → OwnThere f s end b
      own_there' t = (own_loads t).0

      -- it is of kind 0 in every setting
      pub own_every : Kind0Is f s (own_home end) b true → (es : List Entry) (self : Installed) → Judged f s end es self → Running f s end b es self
      own_every q es self j =
          let m = at_split self.pack.classes b (omega (arith, own_count es self j)) in
          own_running f s end d b q es self j m.0 m.1

      -- for the names found
      pub own_class : (w : Names) → w.end ≡ end → w.own ≡ b → JudgedThere f s end d → OwnClassThere f s (record { names = w; domain = d; alike = false })
      own_class w e o t = at_own (λ (x y : ℕ). (u : OwnThere f s x y) × DomainAt s d u.1) w.end w.own end b e o (own_loads t)

      own_next : (es : List Entry) (self : Installed) (j : Judged f s end es self) → DomainAt s d self → (r : Bool) → OwnPasses f s end d b r →
          q20_running (store_limits s) (installed (store_limits s) es) self ≡ (r && all_from (own_test s es self) (suc b) (drop (suc b) self.pack.classes))
      own_next es self j l r q =
          let m = at_split self.pack.classes b (omega (arith, own_count es self j)) in
          inv.left es self j l ∙ ap (all_from (own_test s es self) b) m.2 ∙ ap (λ (v : Bool). v && all_from (own_test s es self) (suc b) (drop (suc b) self.pack.classes)) (sym (q es self j l m.0 m.1))

      pub own_no : OwnPasses f s end d b false → RunningIs f s end d false
      own_no q es self p w l = sym (own_next es self (record { parents = p; q14 = w }) l false q)

      pub own_yes : OwnPasses f s end d b true → OwnLeft f s end d count (b + 1)
      own_yes q = record {
        few = omega arith;
        left = λ es self j l. rw (add-one b) (own_next es self j l true q);
        count_is = inv.count_is;
      }
