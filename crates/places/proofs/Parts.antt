-- A file that reads has its parts at places. Assumes nothing.
use Prim.Native.Nat.{ℕ, ◌+◌, ◌*◌, ◌≤◌}
use native.Mathlib.Omega.{arith}
use native.Mathlib.Decide.{dec_le}
use mathlib.Core.Path.{◌≡◌, refl, sym, ◌∙◌, ap, ap₂, subst}
use mathlib.Core.Bool.{Bool, true, false}
use mathlib.Core.List.{List, [], ◌∷◌}
use mathlib.Core.Option.{some, some-injective}
use mathlib.Core.Logic.{inl, inr}
use lib.Dec.{T, leb, ltb, eqb, leb→le, ltb→lt, eqb→eq}
use lib.ListN.{length, drop, get_or, drop_of_length-le}
use borrow.Author.Tests.{eq-eqb}
use Rattle.rules.specs.Bytes.{Bytes, Aid, pick, within, aid_length, Reader, ◌>>=◌, ret, when, u1, u2, span, many, aid, counted, at_end, exactly}
use Rattle.rules.specs.Code.{u2_at, Handler}
use Rattle.rules.specs.Package.{Limits, Format, format_of, most_domains, most_imports, most_references, most_classes, most_methods, most_allowed, Item, listed, own_domain, Policy, every, only, ClassNumber, Reference, Method, Class, Package, class_number, reference, own_index, item, items, policy, code_if, handlers_if, bit, spare_zero, method_of, method, class_of, class, contents, sized, read_file}
use Rattle.rules.proofs.Tails.{package_of, classes_of, references_of, imports_of, domains_of}
use Rattle.rules.proofs.Tests.{none_some, and_then_is, and_l, and_r, of_true}
use Rattle.places.specs.Reads.{Reads}
use Rattle.places.specs.Parts.{AidPart, ClassNumberPart, ReferencePart, ItemPart, PolicyPart, CodePart, MethodPart, ClassPart, FilePart}
use Rattle.places.proofs.Inverse.{reads_ret, reads_bind, reads_when, One, reads_u1, Two, reads_u2, Span, reads_span}
use Rattle.places.proofs.Steady.{steady_u1, steady_many, steady_u2, steady_aid, steady_counted, steady_number, steady_reference, steady_item, steady_policy, steady_code, steady_handlers, steady_method, steady_class}

-- from another place or with another value that are the same
pub moved : {A : Type 0} {r : Reader A} {s : Bytes} {i i' : ℕ} {a a' : A} {j j' : ℕ} → Reads r s i a j → i ≡ i' → a ≡ a' → j ≡ j' → Reads r s i' a' j'
moved p e f g = rw (← e, ← f, ← g) p

pub aid_part : (s : Bytes) (i : ℕ) (a : Aid) (j : ℕ) → Reads aid s i a j → AidPart s i a j
aid_part s i a j p =
    let x = reads_bind u1 (λ n. when (aid_length n) (span n)) steady_u1 s i a j p in
    let y = reads_when (aid_length x.0) (span x.0) s x.1 a j x.3 in
    go x.0 x.1 (reads_u1 s i x.0 x.1 x.2) y.0 (reads_span x.0 s x.1 a j y.1) p.to
  where
    go : (n m : ℕ) → One s i n m → T (aid_length n) → Span s n m a j → j ≤ length s → AidPart s i a j
    go n m u w v t =
        let l = leb→le 5 n (and_l (leb 5 n) (leb n 16) w) in
        let h = leb→le n 16 (and_r (leb 5 n) (leb n 16) w) in
        let b = u.byte in
        record { inside = u.inside; low = omega arith; high = omega arith; bytes = rw (b, u.next) v.bytes; next = omega (arith, u.next, v.next); to = t }

pub number_part : (s : Bytes) (i : ℕ) (x : ClassNumber) (j : ℕ) → Reads class_number s i x j → ClassNumberPart s i x j
unfolding class_number
number_part s i a j p =
    let x = reads_bind u1 (λ p. u1 >>= λ c. ret (record { pack = p; class = c })) steady_u1 s i a j p in
    let y = reads_bind u1 (λ c. ret (record { pack = x.0; class = c })) steady_u1 s x.1 a j x.3 in
    let z = reads_ret (record { pack = x.0; class = y.0 }) s y.1 a j y.3 in
    let u = reads_u1 s i x.0 x.1 x.2 in
    let v = reads_u1 s x.1 y.0 y.1 y.2 in
    record {
      pack = u.byte ∙ ap (λ (q : ClassNumber). q.pack) z.0;
      class = ap (λ (n : ℕ). get_or s n 0) u.next ∙ v.byte ∙ ap (λ (q : ClassNumber). q.class) z.0;
      next = omega (arith, u.next, v.next, z.1);
      to = p.to;
    }

pub reference_part : (s : Bytes) (i : ℕ) (x : Reference) (j : ℕ) → Reads reference s i x j → ReferencePart s i x j
unfolding reference
reference_part s i a j p =
    let x = reads_bind class_number (λ p. u2 >>= λ n. ret (record { class = p; name = n })) steady_number s i a j p in
    let y = reads_bind u2 (λ n. ret (record { class = x.0; name = n })) steady_u2 s x.1 a j x.3 in
    let z = reads_ret (record { class = x.0; name = y.0 }) s y.1 a j y.3 in
    let u = number_part s i x.0 x.1 x.2 in
    let v = reads_u2 s x.1 y.0 y.1 y.2 in
    record {
      pack = u.pack ∙ ap (λ (q : Reference). q.class.pack) z.0;
      class = u.class ∙ ap (λ (q : Reference). q.class.class) z.0;
      name = ap (λ (n : ℕ). get_or s n 0 * 256 + get_or s (n + 1) 0) u.next ∙ v.value ∙ ap (λ (q : Reference). q.name) z.0;
      next = omega (arith, u.next, v.next, z.1);
      to = p.to;
    }

-- FE, or an index below the domain count
item_of : (ds : List Aid) (s : Bytes) (i : ℕ) (x : Item) (j n m : ℕ) → One s i n m → (b : Bool) → eqb n own_index ≡ b → Reads {A = Item}
    (pick b (ret own_domain) (when (ltb n (length ds)) (ret (listed (get_or ds n []))))) s m x j → ItemPart ds s i x j
item_of ds s i x j n m u true e r =
    let z = reads_ret own_domain s m x j r in
    let own : n ≡ own_index = eqb→eq n own_index (of_true e) in
    record { inside = u.inside; index = inl (u.byte ∙ own); stands = rw (u.byte, e) z.0; next = omega (arith, u.next, z.1) }
item_of ds s i x j n m u false e r =
    let y = reads_when (ltb n (length ds)) (ret (listed (get_or ds n []))) s m x j r in
    let z = reads_ret (listed (get_or ds n [])) s m x j y.1 in
    let other : n ≡ own_index → ⊥ = λ h. let w : true ≡ false = sym (eq-eqb n own_index h) ∙ e in let q : ◌≡◌ {A = ℕ} 0 1 = cc in omega arith in
    record {
      inside = u.inside;
      index = rw u.byte (inr (other, ltb→lt n (length ds) y.0));
      stands = rw (u.byte, e) z.0;
      next = omega (arith, u.next, z.1);
    }

pub item_part : (ds : List Aid) (s : Bytes) (i : ℕ) (x : Item) (j : ℕ) → Reads (item ds) s i x j → ItemPart ds s i x j
unfolding item
item_part ds s i a j p =
    let x = reads_bind u1 (λ i. pick (eqb i own_index) (ret own_domain) (when (ltb i (length ds)) (ret (listed (get_or ds i []))))) steady_u1 s i a j p in
    item_of ds s i a j x.0 x.1 (reads_u1 s i x.0 x.1 x.2) (eqb x.0 own_index) refl x.3

-- FF, or a count
policy_of : (ds : List Aid) (s : Bytes) (i : ℕ) (q : Policy) (j n m : ℕ) → One s i n m → (b : Bool) → eqb n 0xFF ≡ b → Reads {A = Policy}
    (pick b (ret every) (items ds n)) s m q j → PolicyPart ds s i q j
unfolding items
policy_of ds s i q j n m u true e r =
    let z = reads_ret every s m q j r in
    inl (record { inside = u.inside; mark = u.byte ∙ eqb→eq n 0xFF (of_true e); is = z.0; next = u.next ∙ z.1 })
policy_of ds s i q j n m u false e r =
    let y = reads_when (leb n most_allowed) (many n (item ds) >>= λ xs. ret (only xs)) s m q j r in
    let w = reads_bind (many n (item ds)) (λ xs. ret (only xs)) (steady_many n (item ds) (steady_item ds)) s m q j y.1 in
    let z = reads_ret (only w.0) s w.1 q j w.3 in
    inr (record {
      inside = u.inside;
      few = rw u.byte (leb→le n most_allowed y.0);
      listed = w.0;
      list = rw u.byte
          (moved w.2 (sym u.next) refl z.1);
      is = z.0;
    })

pub policy_part : (ds : List Aid) (s : Bytes) (i : ℕ) (q : Policy) (j : ℕ) → Reads (policy ds) s i q j → PolicyPart ds s i q j
unfolding policy
policy_part ds s i q j p =
    let x = reads_bind u1 (λ n. pick (eqb n 0xFF) (ret every) (items ds n)) steady_u1 s i q j p in
    policy_of ds s i q j x.0 x.1 (reads_u1 s i x.0 x.1 x.2) (eqb x.0 0xFF) refl x.3

-- codes
pub code_none : (l : Limits) (s : Bytes) (i : ℕ) (c : Bytes) (j : ℕ) → Reads (code_if l false) s i c j → ([] ≡ c) × (i ≡ j)
unfolding code_if
code_none l s i c j p = reads_ret [] s i c j p

pub code_part : (l : Limits) (s : Bytes) (i : ℕ) (c : Bytes) (j : ℕ) → Reads (code_if l true) s i c j → CodePart l s i c j
unfolding code_if
code_part l s i c j p =
    let x = reads_bind u2 (λ n. when (within 1 l.code n) (span n)) steady_u2 s i c j p in
    let y = reads_when (within 1 l.code x.0) (span x.0) s x.1 c j x.3 in
    go x.0 x.1 (reads_u2 s i x.0 x.1 x.2) y.0 (reads_span x.0 s x.1 c j y.1) p.to
  where
    go : (n m : ℕ) → Two s i n m → T (within 1 l.code n) → Span s n m c j → j ≤ length s → CodePart l s i c j
    go n m u w v t =
        let a = leb→le 1 n (and_l (leb 1 n) (leb n l.code) w) in
        let b = leb→le n l.code (and_r (leb 1 n) (leb n l.code) w) in
        let e = u.value in
        record { inside = u.inside; least = rw e a; most = rw e b; bytes = rw (e, u.next) v.bytes; next = rw e (omega (arith, u.next, v.next)); to = t }

pub method_part : (t : Format) (ds : List Aid) (s : Bytes) (i : ℕ) (m : Method) (j : ℕ) → Reads (method t ds) s i m j → MethodPart t ds s i m j
unfolding method
method_part t ds s i m j p =
    let codes : ℕ → Reader Bytes = λ b. code_if t.limits (bit 0x40 b) in
    let guards : ℕ → Reader (List Handler) = λ b. handlers_if t.edition (bit 0x40 b) in
    let whole : ℕ → ℕ → Policy → Reader Method = λ b n q. codes b >>= λ c. guards b >>= λ hs. ret (method_of b n q c hs) in
    let body : ℕ → Reader Method = λ b. u2 >>= λ n. policy ds >>= λ q. whole b n q in
    let x = reads_bind u1 (λ b. when (spare_zero b) (body b)) steady_u1 s i m j p in
    let b = x.0 in
    let y = reads_bind u2 (λ n. policy ds >>= λ q. whole b n q) steady_u2 s x.1 m j (reads_when (spare_zero b) (body b) s x.1 m j x.3).1 in
    let z = reads_bind (policy ds) (λ q. whole b y.0 q) (steady_policy ds) s y.1 m j y.3 in
    let made : Bytes → List Handler → Method = λ c hs. method_of b y.0 z.0 c hs in
    let w = reads_bind (codes b) (λ c. guards b >>= λ hs. ret (made c hs)) (steady_code t.limits (bit 0x40 b)) s z.1 m j z.3 in
    let g = reads_bind (guards b) (λ hs. ret (made w.0 hs)) (steady_handlers t.edition (bit 0x40 b)) s w.1 m j w.3 in
    let v = reads_ret (made w.0 g.0) s g.1 m j g.3 in
    let bytes = reads_u1 s i b x.1 x.2 in
    let name = reads_u2 s x.1 y.0 y.1 y.2 in
    go b x.1 bytes y.0 y.1 name z.0 z.1 z.2 w.0 w.1 w.2 g.0 (moved g.2 refl refl v.1) v.0
  where
    go : (b x : ℕ) → One s i b x → (n y : ℕ) → Two s x n y → (q : Policy) (z : ℕ) → Reads (policy ds) s y q z →
        (c : Bytes) (w : ℕ) → Reads (code_if t.limits (bit 0x40 b)) s z c w →
        (hs : List Handler) → Reads (handlers_if t.edition (bit 0x40 b)) s w hs j → method_of b n q c hs ≡ m → MethodPart t ds s i m j
    go b x u n y v q z r c w code hs guards e =
        let h = u.byte in record {
          inside = omega (arith, u.next, v.inside, v.next);
          visible = rw h (ap (λ (k : Method). k.visible) e);
          implemented = rw h (ap (λ (k : Method). k.implemented) e);
          static = rw h (ap (λ (k : Method). k.static) e);
          name = ap (u2_at s) u.next ∙ v.value ∙ ap (λ (k : Method). k.name) e;
          middle = z;
          policy = moved r (omega (arith, u.next, v.next)) (ap (λ (k : Method). k.policy) e) refl;
          behind = w;
          code = subst (λ (k : Method). Reads (code_if t.limits k.implemented) s z k.code w) e code;
          handlers = subst (λ (k : Method). Reads (handlers_if t.edition k.implemented) s w k.handlers j) e guards;
        }

pub class_part : (t : Format) (ds : List Aid) (s : Bytes) (i : ℕ) (k : Class) (j : ℕ) → Reads (class t ds) s i k j → ClassPart t ds s i k j
unfolding class
class_part t ds s i k j p =
    let most = t.limits.parents in
    let parents : Reader (List ClassNumber) = counted most u1 class_number in
    let methods : Reader (List Method) = counted most_methods u1 (method t ds) in
    let x = reads_bind u1 (λ k. when (leb k 1) (parents >>= λ ps. methods >>= λ ms. ret (class_of k ps ms))) steady_u1 s i k j p in
    let b = x.0 in
    let h = reads_when (leb b 1) (parents >>= λ ps. methods >>= λ ms. ret (class_of b ps ms)) s x.1 k j x.3 in
    let y = reads_bind parents (λ ps. methods >>= λ ms. ret (class_of b ps ms)) (steady_counted most u1 class_number steady_u1 steady_number) s
    x.1 k j h.1 in
    let z = reads_bind methods (λ ms. ret (class_of b y.0 ms)) (steady_counted most_methods u1 (method t ds) steady_u1 (steady_method t ds)) s y.1 k j
    y.3 in
    let v = reads_ret (class_of b y.0 z.0) s z.1 k j z.3 in
    go b x.1 (reads_u1 s i b x.1 x.2) h.0 y.0 y.1 y.2 z.0 z.1 z.2 v.0 v.1
  where
    go : (b x : ℕ) → One s i b x → T (leb b 1) → (ps : List ClassNumber) (y : ℕ) → Reads (counted t.limits.parents u1 class_number) s x ps y →
        (ms : List Method) (z : ℕ) → Reads (counted most_methods u1 (method t ds)) s y ms z →
        class_of b ps ms ≡ k → z ≡ j → ClassPart t ds s i k j
    go b x u small ps y q ms z r e g =
        let h = u.byte in record {
          inside = u.inside;
          kind = rw h (leb→le b 1 small);
          interface = rw h (ap (λ (c : Class). c.interface) e);
          middle = y;
          parents = moved q (sym u.next) (ap (λ (c : Class). c.parents) e) refl;
          methods = moved r refl (ap (λ (c : Class). c.methods) e) g;
        }

-- the whole of the bytes
at_end_lem : {A : Type 0} (a : A) (bs : Bytes) (b : A) → at_end a bs ≡ some b → (bs ≡ []) × (a ≡ b)
at_end_lem a [] b e = (refl, some-injective _ _ e)
at_end_lem a (x ∷ bs) b e = absurd (none_some e)

pub reads_exactly : {A : Type 0} (r : Reader A) (s : Bytes) (i : ℕ) (a : A) → i ≤ length s → exactly r (drop i s) ≡ some a → Reads r s i a (length s)
reads_exactly {A} r s i a h e =
    let x = and_then_is (r (drop i s)) (λ x. at_end x.0 x.1) a e in
    let y = at_end_lem x.0.0 x.0.1 a x.2 in
    go x.0 x.1 y.0 y.1
  where
    go : (x : A × Bytes) → r (drop i s) ≡ some x → x.1 ≡ [] → x.0 ≡ a → Reads r s i a (length s)
    go x q z y =
        let w : x.1 ≡ drop (length s) s = z ∙ sym (drop_of_length-le s {i = length s} (omega arith)) in
        record { is = q ∙ ap₂ (λ (u : A) (v : Bytes). some (u, v)) y w; from = h; to = omega arith }

contents_part : (l : Limits) (f : Bytes) (p : Package) → u2_at f 5 ≡ length f → Reads (contents (format_of l f)) f 7 p (length f) → FilePart l f p
unfolding contents domains_of imports_of references_of classes_of
contents_part l f p size r =
    let n = length f in
    let t = format_of l f in
    let aids : ℕ → Reader (List Aid) = λ most. counted most u1 aid in
    let a = reads_bind aid (λ a. domains_of t a) steady_aid f 7 p n r in
    let d = reads_bind (aids most_domains) (λ ds. imports_of t a.0 ds) (steady_counted most_domains u1 aid steady_u1 steady_aid) f a.1 p n a.3 in
    let i = reads_bind (aids most_imports) (λ is. references_of t a.0 d.0 is) (steady_counted most_imports u1 aid steady_u1 steady_aid) f d.1 p n
    d.3 in
    let e = reads_bind (counted most_references u2 reference) (λ rs. classes_of t a.0 d.0 i.0 rs)
    (steady_counted most_references u2 reference steady_u2 steady_reference) f i.1 p n i.3 in
    let c = reads_bind (counted most_classes u1 (class t d.0)) (λ cs. ret (package_of a.0 d.0 i.0 e.0 cs))
    (steady_counted most_classes u1 (class t d.0) steady_u1 (steady_class t d.0)) f e.1 p n e.3 in
    let z = reads_ret (package_of a.0 d.0 i.0 e.0 c.0) f c.1 p n c.3 in
    go a.0 a.1 a.2 d.0 d.1 d.2 i.0 i.1 i.2 e.0 e.1 e.2 c.0 c.1 c.2 z.0 z.1
  where
    go : (a : Aid) (x : ℕ) → Reads aid f 7 a x → (ds : List Aid) (y : ℕ) → Reads (counted most_domains u1 aid) f x ds y → (is : List Aid) (z : ℕ) → Reads
        (counted most_imports u1 aid) f y is z →
        (rs : List Reference) (v : ℕ) → Reads (counted most_references u2 reference) f z rs v → (cs : List Class) (w : ℕ) → Reads
        (counted most_classes u1 (class (format_of l f) ds)) f v cs w →
        package_of a ds is rs cs ≡ p → w ≡ length f → FilePart l f p
    go a x q ds y d is z i rs v e cs w c g h = subst (λ (q : Package). FilePart l f q) g (record {
      size = size;
      domains_at = x;
      imports_at = y;
      references_at = z;
      classes_at = v;
      named = q;
      domains = d;
      imports = i;
      references = e;
      classes = moved c refl refl h;
    })

-- a file that reads, and the places of its lists
pub file_parts : (l : Limits) (f : Bytes) (p : Package) → read_file l f ≡ some p → FilePart l f p
unfolding read_file sized
file_parts l f p e = elim (dec_le 5 (length f)) [
  | no h ↦
      let d : drop 5 f ≡ [] = drop_of_length-le f {i = 5} (omega arith) in
      absurd (none_some (rw d at e))
  | yes h ↦
      let r = reads_exactly (sized (format_of l f) (length f)) f 5 p h e in
      let x = reads_bind u2 (λ size. when (eqb size (length f)) (contents (format_of l f))) steady_u2 f 5 p (length f) r in
      let y = reads_when (eqb x.0 (length f)) (contents (format_of l f)) f x.1 p (length f) x.3 in
      let u = reads_u2 f 5 x.0 x.1 x.2 in
      contents_part l f p (u.value ∙ eqb→eq x.0 (length f) y.0) (moved y.1 (sym u.next) refl refl)
]
