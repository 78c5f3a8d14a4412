-- What a file's edition says of the methods that it reads as: without code none has handlers, nor in the first edition. Assumes nothing.
--
-- Gives r P   == whatever the reader r reads has the property P
-- Formed e m  == the method m may stand in a file of the edition e
use Prim.Native.Nat.{ℕ, zero, suc}
use native.Mathlib.Omega.{arith}
use mathlib.Core.Path.{◌≡◌, refl, sym, ap, subst}
use mathlib.Core.Bool.{Bool, true, false}
use mathlib.Core.Logic.{inl, inr}
use mathlib.Core.List.Memᴰ
use mathlib.Core.List.{List, [], ◌∷◌, Memᴰ}
use mathlib.Core.Option.{some, some-injective}
use lib.Dec.{leb, eqb}
use lib.ListN.{length, drop}
use Rattle.rules.specs.Bytes.{Bytes, Aid, Reader, ◌>>=◌, ret, when, u1, u2, many, aid, counted, at_end}
use Rattle.rules.specs.Code.{Handler}
use Rattle.rules.specs.Package.{Limits, Edition, edition1, edition2, Format, format_of, most_domains, most_imports, most_references, most_classes, most_methods, Policy, ClassNumber, Method, Class, Package, class_number, reference, policy, code_if, handlers_if, bit, spare_zero, method_of, method, class_of, class, contents, edition_of, sized, read_file}
use Rattle.rules.proofs.Tails.{package_of, classes_of, references_of, imports_of, domains_of}
use Rattle.rules.proofs.Tests.{none_some, and_then_is}

abbrev Gives : {A : Type 0} → Reader A → (A → Type 0) → Type 0
Gives {A} r P = (bs : Bytes) (x : A × Bytes) → r bs ≡ some x → P x.0

gives_ret : {A : Type 0} (a : A) (P : A → Type 0) → P a → Gives (ret a) P
gives_ret a P h bs x e = subst P (ap (λ (y : _ × Bytes). y.0) (some-injective _ _ e)) h

module _ {A B : Type 0} (r : Reader A) (k : A → Reader B) (Q : A → Type 0) (P : B → Type 0) where
  -- one reader, then the one that its value gives
  gives_bind : Gives r Q → ((a : A) → Q a → Gives (k a) P) → Gives (r >>= k) P
  gives_bind g h bs x e = let y = and_then_is (r bs) (λ z. k z.0 z.1) x e in h y.0.0 (g bs y.0 y.1) y.0.1 x y.2

-- of what the first one reads nothing is said
abbrev Any : {A : Type 0} → A → Type 0
Any a = Unit {0}

gives_next : {A B : Type 0} (r : Reader A) (k : A → Reader B) (P : B → Type 0) → ((a : A) → Gives (k a) P) → Gives (r >>= k) P
gives_next r k P h = gives_bind r k Any P (λ bs x e. tt) (λ a u. h a)

gives_when : {A : Type 0} (b : Bool) (r : Reader A) (P : A → Type 0) → Gives r P → Gives (when b r) P
gives_when true r P g = g
gives_when false r P g = λ bs x e. absurd (none_some e)

-- every element
abbrev Every : {A : Type 0} → (A → Type 0) → List A → Type 0
Every {A} P xs = (a : A) → Memᴰ a xs → P a

every_cons : {A : Type 0} (P : A → Type 0) (y : A) (ys : List A) → P y → Every P ys → Every P (y ∷ ys)
every_cons P y ys h g a m = elim (Memᴰ.cases_cons m) [ inl e ↦ subst P (sym e) h | inr t ↦ g a t ]

gives_many : {A : Type 0} (n : ℕ) (r : Reader A) (P : A → Type 0) → Gives r P → Gives (many n r) (Every P)
gives_many zero r P g = gives_ret [] (Every P) (λ a m. elim m [ ])
gives_many (suc n) r P g = gives_bind r (λ y. many n r >>= λ ys. ret (y ∷ ys)) P (Every P) g (λ y h.
    gives_bind (many n r) (λ ys. ret (y ∷ ys)) (Every P) (Every P) (gives_many n r P g) (λ ys t.
    gives_ret (y ∷ ys) (Every P) (every_cons P y ys h t)))

gives_counted : {A : Type 0} (most : ℕ) (c : Reader ℕ) (r : Reader A) (P : A → Type 0) → Gives r P → Gives (counted most c r) (Every P)
gives_counted most c r P g = gives_next c (λ n. when (leb n most) (many n r)) (Every P) (λ n.
    gives_when (leb n most) (many n r) (Every P) (gives_many n r P g))

-- without code there are no handlers, nor in the first edition
pub record Formed (e : Edition) (m : Method) : Type 0 where
  pub bare : m.implemented ≡ false → m.handlers ≡ []
  pub earlier : e ≡ edition1 → m.handlers ≡ []

abbrev Guards : Edition → Bool → List Handler → Type 0
Guards e b hs = (b ≡ false → hs ≡ []) × (e ≡ edition1 → hs ≡ [])

gives_handlers : (e : Edition) (b : Bool) → Gives (handlers_if e b) (Guards e b)
unfolding handlers_if
gives_handlers e false = gives_ret [] (Guards e false) ((λ q. refl), (λ q. refl))
gives_handlers edition1 true = gives_ret [] (Guards edition1 true) ((λ q. refl), (λ q. refl))
gives_handlers edition2 true = λ bs x q. (
  (λ z. let w : ◌≡◌ {A = ℕ} 0 1 = cc in absurd (omega arith)),
  (λ z. let w : ◌≡◌ {A = ℕ} 0 1 = cc in absurd (omega arith)),
)

module _ (t : Format) (ds : List Aid) where
  gives_method : Gives (method t ds) (Formed t.edition)
  unfolding method
  gives_method =
      let e = t.edition in
      let codes : ℕ → Reader Bytes = λ b. code_if t.limits (bit 0x40 b) in
      let guards : ℕ → Reader (List Handler) = λ b. handlers_if e (bit 0x40 b) in
      let whole : ℕ → ℕ → Policy → Reader Method = λ b n q. codes b >>= λ c. guards b >>= λ hs. ret (method_of b n q c hs) in
      let body : ℕ → Reader Method = λ b. u2 >>= λ n. policy ds >>= λ q. whole b n q in
      gives_next u1 (λ b. when (spare_zero b) (body b)) (Formed e) (λ b. gives_when (spare_zero b) (body b) (Formed e)
      (gives_next u2 (λ n. policy ds >>= λ q. whole b n q) (Formed e) (λ n. gives_next (policy ds) (λ q. whole b n q) (Formed e) (λ q.
      gives_next (codes b) (λ c. guards b >>= λ hs. ret (method_of b n q c hs)) (Formed e) (λ c.
      gives_bind (guards b) (λ hs. ret (method_of b n q c hs)) (Guards e (bit 0x40 b)) (Formed e) (gives_handlers e (bit 0x40 b)) (λ hs g.
      gives_ret (method_of b n q c hs) (Formed e) (record { bare = g.0; earlier = g.1 })))))))

  gives_class : Gives (class t ds) (λ k. Every (Formed t.edition) k.methods)
  unfolding class
  gives_class =
      let e = t.edition in
      let P : Class → Type 0 = λ k. Every (Formed e) k.methods in
      let parents : Reader (List ClassNumber) = counted t.limits.parents u1 class_number in
      let methods : Reader (List Method) = counted most_methods u1 (method t ds) in
      gives_next u1 (λ k. when (leb k 1) (parents >>= λ ps. methods >>= λ ms. ret (class_of k ps ms))) P (λ k.
      gives_when (leb k 1) (parents >>= λ ps. methods >>= λ ms. ret (class_of k ps ms)) P
      (gives_next parents (λ ps. methods >>= λ ms. ret (class_of k ps ms)) P (λ ps.
      gives_bind methods (λ ms. ret (class_of k ps ms)) (Every (Formed e)) P (gives_counted most_methods u1 (method t ds) (Formed e) gives_method)
      (λ ms g. gives_ret (class_of k ps ms) P g))))

-- every method of a package
abbrev pub EveryMethod : (Method → Type 0) → Package → Type 0
EveryMethod P p = (k : Class) → Memᴰ k p.classes → (m : Method) → Memᴰ m k.methods → P m

contents_formed : (t : Format) → Gives (contents t) (EveryMethod (Formed t.edition))
unfolding contents domains_of imports_of references_of classes_of
contents_formed t =
    let P = EveryMethod (Formed t.edition) in
    gives_next aid (λ a. domains_of t a) P (λ a.
    gives_next (counted most_domains u1 aid) (λ ds. imports_of t a ds) P (λ ds.
    gives_next (counted most_imports u1 aid) (λ is. references_of t a ds is) P (λ is.
    gives_next (counted most_references u2 reference) (λ rs. classes_of t a ds is rs) P (λ rs.
    gives_bind (counted most_classes u1 (class t ds)) (λ cs. ret (package_of a ds is rs cs)) (Every (λ k. Every (Formed t.edition) k.methods)) P
    (gives_counted most_classes u1 (class t ds) (λ k. Every (Formed t.edition) k.methods) (gives_class t ds))
    (λ cs g. gives_ret (package_of a ds is rs cs) P g)))))

pub file_formed : (l : Limits) (f : Bytes) (p : Package) → read_file l f ≡ some p → EveryMethod (Formed (edition_of f)) p
unfolding read_file sized
file_formed l f p e =
    let t = format_of l f in
    let P = EveryMethod (Formed (edition_of f)) in
    let x = and_then_is (sized t (length f) (drop 5 f)) (λ x. at_end x.0 x.1) p e in
    let whole = gives_next u2 (λ size. when (eqb size (length f)) (contents t)) P (λ size.
    gives_when (eqb size (length f)) (contents t) P (contents_formed t)) in
    subst P (at_end_lem x.0.0 x.0.1 x.2) (whole (drop 5 f) x.0 x.1)
  where
    at_end_lem : (q : Package) (bs : Bytes) → at_end q bs ≡ some p → q ≡ p
    at_end_lem q [] z = some-injective _ _ z
    at_end_lem q (b ∷ bs) z = absurd (none_some z)
