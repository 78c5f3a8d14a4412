-- The bit of a class: three elevenths of its entry's place, and its class number. There is room for it, and two classes of the packages at hand
-- have two bits. Assumes nothing.
use Prim.Native.Nat.{ℕ, zero, suc, ◌+◌, ◌-◌, ◌*◌, ◌/◌, ◌≤◌, ◌<◌}
use native.Mathlib.Omega.{arith}
use native.Mathlib.Decide.{dec_le}
use mathlib.Core.Path.{◌≡◌, refl, sym, ◌∙◌, ap, subst}
use mathlib.Core.List.{List, ◌∷◌, ◌++◌}
use mathlib.Core.Option.{some}
use lib.ListN.{length, length-append}
use Rattle.rules.specs.Bytes.{Bytes, Aid, Reader, at, u1, u2, many, aid}
use Rattle.rules.specs.Package.{Limits, Format, format_of, most_domains, most_imports, most_references, most_classes, most_methods, Class, Package, class_number, reference, method, class, read_file}
use Rattle.rules.specs.Store.{Entry, loaded, first_entry, store_limits}
use Rattle.rules.specs.Classes.{Installed}
use Rattle.rules.proofs.Lists.{at_below}
use Rattle.places.specs.Reads.{Reads}
use Rattle.places.proofs.Steady.{Steady, steady_u1, steady_many, steady_u2, steady_aid, steady_number, steady_reference, steady_method, steady_class}
use Rattle.places.proofs.Inverse.{reads_forward, reads_u1, reads_u2, reads_left, reads_done, reads_counted, counted_one}
use Rattle.places.proofs.Parts.{aid_part, class_part, file_parts}
use Rattle.places.proofs.Track.{many_length}
use Rattle.store.specs.Entries.{part, EntryAt, Entries}
use Rattle.store.specs.Entries as entries
use Rattle.store.proofs.Stand.{entry_next, entries_to, entry_one, entry_apart}
use Rattle.homes.specs.Homes.{home_of, Setting, Stored, HomeIs}
use Rattle.homes.specs.Homes as homes
use Rattle.homes.specs.declared.Home.{Home}
use Rattle.homes.proofs.Places.{stored_home}
use Rattle.classes.specs.Keys.{key}

-- a list of elements of at least three bytes each has three bytes for each of them
many_grows : {A : Type 0} (r : Reader A) → Steady r → (s : Bytes) → ((i : ℕ) (a : A) (j : ℕ) → Reads r s i a j → i + 3 ≤ j) →
    (n i : ℕ) (xs : List A) (j : ℕ) → Reads (many n r) s i xs j → i + 3 * n ≤ j
many_grows r steady s q zero i xs j p = let z = reads_done r 0 s i xs j (omega arith) p in omega (arith, z.1)
many_grows r steady s q (suc n) i xs j p =
    let z = reads_left r steady (suc n) s i xs j (omega arith) p in
    let e : suc n - 1 ≡ n = omega arith in
    let h = many_grows r steady s q n z.place z.others j (rw e at z.rest) in
    let k = q i z.one z.place z.reads in
    omega arith

-- a class takes three bytes or more: its kind, the count of its parents, that of its methods
class_forward : (form : Format) (ds : List Aid) (s : Bytes) (i : ℕ) (k : Class) (j : ℕ) → Reads (class form ds) s i k j → i + 3 ≤ j
class_forward form ds s i k j p =
    let t = class_part form ds s i k j p in
    let a = counted_one form.limits.parents class_number steady_number s (i + 1) k.parents t.middle t.parents in
    let b = counted_one most_methods (method form ds) (steady_method form ds) s t.middle k.methods j t.methods in
    omega arith

module _ (l : Limits) (f : Bytes) (p : Package) (r : read_file l f ≡ some p) where
  -- a file takes 18 bytes, and three for each class, or more; it has no more classes than the greatest count
  pub classes_room : (18 + 3 * length p.classes ≤ length f) × (length p.classes ≤ most_classes)
  classes_room =
      let t = file_parts l f p r in
      let a = aid_part f 7 p.aid t.domains_at t.named in
      let d = counted_one most_domains aid steady_aid f t.domains_at p.domains t.imports_at t.domains in
      let i = counted_one most_imports aid steady_aid f t.imports_at p.imports t.references_at t.imports in
      let e = reads_counted most_references u2 reference steady_u2 f t.references_at p.references t.classes_at t.references in
      let two = reads_u2 f t.references_at e.number e.place e.count in
      let rest = reads_forward (many e.number reference) (steady_many e.number reference steady_reference) f e.place p.references
      t.classes_at e.list in
      let c = reads_counted most_classes u1 (class (format_of l f) p.domains) steady_u1 f t.classes_at p.classes (length f) t.classes in
      let one = reads_u1 f t.classes_at c.number c.place c.count in
      let m = many_length (class (format_of l f) p.domains) (steady_class (format_of l f) p.domains) c.number f c.place p.classes
      (length f) c.list in
      let g = many_grows (class (format_of l f) p.domains) (steady_class (format_of l f) p.domains) f (class_forward (format_of l f) p.domains f)
      c.number c.place p.classes
      (length f) c.list in
      (omega (arith, a.next, a.low, two.next, one.next, m), omega (arith, m, c.small))

-- the place of an entry in the middle of the others
entry_before : (s : Bytes) (i : ℕ) (pre : List Entry) (e : Entry) (post : List Entry) (j k end : ℕ) → Entries s i pre j → EntryAt s j e k →
    Entries s i (pre ++ e ∷ post) end → k ≤ end
entry_before s i _ e post _ k end (entries.over h) t (entries.more {j = m} {es = es} u r) =
    let o = entry_one s i e e k m t u in omega (arith, o.1, (entries_to s m es end r).0)
entry_before s i _ e post j k end (entries.more {j = m} {e = x} {es = ps} v q) t (entries.more {j = m'} u r) =
    let o = entry_one s i x x m m' v u in
    entry_before s m ps e post j k end q t (subst (λ (n : ℕ). Entries s n (ps ++ e ∷ post) end) (sym o.1) r)

-- a stored class has its place before that of a package whose entry follows
module _ (s : Bytes) (es : List Entry) (h : Home) (x : Installed) (t : Stored s es h x) where
  stored_key : (n : ℕ) (k : Class) → at x.pack.classes n ≡ some k → key h n < h.to * 3 / 11
  stored_key n k e =
      let b = at_below x.pack.classes n k e in
      let f = part s h.from h.to in
      let c = classes_room (store_limits s) f x.pack t.reads in
      let whole = entry_next s h.before (loaded x.domain f) h.to t.entry in
      let behind : h.before + 4 + length f ≤ h.to = omega (arith, whole, length-append x.domain f) in
      omega (arith, b, c.0, c.1, behind)

  -- and its entry ends where the entries end, or before
  stored_end : (end : ℕ) → Entries s (first_entry s) es end → h.to ≤ end
  stored_end end r =
      entry_before s (first_entry s) t.pre (loaded x.domain (part s h.from h.to)) t.post h.before h.to end t.stand t.entry
      (subst (λ (zs : List Entry). Entries s (first_entry s) zs end) t.are r)

  -- two stored files whose entries start at one place lie at one home
  stored_same : (fs : List Entry) (g : Home) (y : Installed) → Stored s fs g y → h.before ≡ g.before → h ≡ g
  stored_same fs g y u e = stored_home t ∙ ap (home_of s) e ∙ sym (stored_home u)

-- there is room for a class's bit
pub key_small : (f s : Bytes) (end : ℕ) (es : List Entry) (self : Installed) → Setting f s end es self →
    (h : Home) (x : Installed) → HomeIs f s end es self h x → (n : ℕ) (k : Class) → at x.pack.classes n ≡ some k → key h n ≤ end * 3 / 11 + 31
key_small f s end es self g _ _ homes.own n k e = omega (
  arith,
  at_below self.pack.classes n k e,
  (classes_room (store_limits s) f self.pack g.reads).1,
)
key_small f s end es self g h x (homes.stored t) n k e = omega (arith, stored_key s es h x t n k e, stored_end s es h x t end g.stand)

-- two classes have two places, whatever the domain of the package being judged
module _ (f s : Bytes) (end : ℕ) (es fs : List Entry) (self self' : Installed) (a : Setting f s end es self) (b : Setting f s end fs self') where
  pub key_one : (h g : Home) (x y : Installed) → HomeIs f s end es self h x → HomeIs f s end fs self' g y →
      (n m : ℕ) (k l : Class) → at x.pack.classes n ≡ some k → at y.pack.classes m ≡ some l → key h n ≡ key g m → (h ≡ g) × (n ≡ m)
  key_one _ _ _ _ homes.own homes.own n m k l p q e = (refl, omega arith)
  key_one _ g _ y homes.own (homes.stored u) n m k l p q e = absurd (omega (arith, stored_key s fs g y u m l q, stored_end s fs g y u end b.stand))
  key_one h _ x _ (homes.stored t) homes.own n m k l p q e = absurd (omega (arith, stored_key s es h x t n k p, stored_end s es h x t end a.stand))
  key_one h g x y (homes.stored t) (homes.stored u) n m k l p q e =
      elim (dec_le g.before h.before) [
        | no o ↦
            let z = entry_apart s (first_entry s) t.pre u.pre h.before g.before h.to _ t.stand t.entry u.stand (omega arith) in
            absurd (omega (arith, stored_key s es h x t n k p))
        | yes o ↦ elim (dec_le h.before g.before) [
          | no i ↦
              let z = entry_apart s (first_entry s) u.pre t.pre g.before h.before g.to _ u.stand u.entry t.stand (omega arith) in
              absurd (omega (arith, stored_key s fs g y u m l q))
          | yes i ↦
              let z : h.before ≡ g.before = omega arith in
              (stored_same s es h x t fs g y u z, omega arith)
        ]
      ]
