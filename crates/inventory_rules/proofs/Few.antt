-- A package has at most 2,048 methods, whatever the limits. Assumes nothing.
use Prim.Native.Nat.{ℕ, zero, suc, ◌+◌, ◌*◌, ◌≤◌}
use native.Mathlib.Omega.{arith}
use native.Mathlib.Numerals.{unary_clauses}
use mathlib.Core.Path.{◌≡◌, refl, ap, subst}
use mathlib.Core.Bool.{Bool, true, false}
use mathlib.Core.List.{List, [], ◌∷◌}
use mathlib.Core.Option.{some, some-injective}
use lib.Dec.{T, leb, leb→le, eqb}
use lib.ListN.{length, drop}
use Rattle.rules.specs.Bytes.{Bytes, Aid, Reader, when, u1, u2, many, counted, at_end, aid}
use Rattle.rules.specs.Package.{Limits, Format, format_of, most_domains, most_imports, most_references, most_classes, most_methods, Reference, Method, Class, Package, class_number, reference, method, class, contents, file_mark, edition_of, sized, read_file}
use Rattle.rules.proofs.Tails.{classes_of}
use Rattle.rules.proofs.Tests.{none_some, and_then_is}
use Rattle.inventory_rules.specs.Inventory.{sum_of, methods_in}

-- what is read behind a test, and at the end of the bytes
when_is : {A : Type 0} (b : Bool) (r : Reader A) (bs : Bytes) (x : A × Bytes) → when b r bs ≡ some x → T b × (r bs ≡ some x)
when_is true r bs x e = (tt, e)
when_is false r bs x e = absurd (none_some e)

end_is : {A : Type 0} (a b : A) (bs : Bytes) → at_end a bs ≡ some b → a ≡ b
end_is a b [] e = some-injective _ _ e
end_is a b (c ∷ cs) e = absurd (none_some e)

module _ {A : Type 0} where
  -- what a reader of so many values reads: so many, and their sum where each gives at most m
  record Read (f : A → ℕ) (m n : ℕ) (xs : List A) : Type 0 where
    number : length xs ≡ n
    sum : sum_of f xs ≤ m * n

  read_more : (f : A → ℕ) (m n : ℕ) (a : A) (xs : List A) → f a ≤ m → Read f m n xs → Read f m (suc n) (a ∷ xs)
  read_more f m n a xs h r =
      let e : m * suc n ≡ m * n + m = simp unary_clauses in
      record { number = omega (arith, r.number); sum = omega (arith, h, r.sum, e) }

  many_read : (f : A → ℕ) (m : ℕ) (r : Reader A) → ((bs : Bytes) (x : A × Bytes) → r bs ≡ some x → f x.0 ≤ m) →
      (n : ℕ) (bs : Bytes) (x : List A × Bytes) → many n r bs ≡ some x → Read f m n x.0
  many_read f m r h zero bs x e = let z : ([], bs) ≡ x = some-injective _ _ e in rw (← z) (record { number = refl; sum = omega arith })
  many_read f m r h (suc n) bs x e =
      let y = and_then_is (r bs) _ x e in
      let ys = and_then_is (many n r y.0.1) _ x y.2 in
      more y.0.0 ys.0.0 ys.0.1 (h bs y.0 y.1) (many_read f m r h n y.0.1 ys.0 ys.1) (some-injective _ _ ys.2)
    where
      more : (a : A) (xs : List A) (rest : Bytes) → f a ≤ m → Read f m n xs → (a ∷ xs, rest) ≡ x → Read f m (suc n) x.0
      more a xs rest p q z = rw (← z) (read_more f m n a xs p q)

  -- with a count of at most so many
  counted_read : (f : A → ℕ) (m most : ℕ) (c : Reader ℕ) (r : Reader A) → ((bs : Bytes) (x : A × Bytes) → r bs ≡ some x → f x.0 ≤ m) →
      (bs : Bytes) (x : List A × Bytes) → counted most c r bs ≡ some x → (n : ℕ) × (n ≤ most) × Read f m n x.0
  counted_read f m most c r h bs x e =
      let n = and_then_is (c bs) _ x e in
      let w = when_is (leb n.0.0 most) (many n.0.0 r) n.0.1 x n.2 in
      (n.0.0, leb→le n.0.0 most w.0, many_read f m r h n.0.0 n.0.1 x w.1)

-- a class has at most 64 methods
class_few : (t : Format) (ds : List Aid) (bs : Bytes) (x : Class × Bytes) → class t ds bs ≡ some x → length x.0.methods ≤ 64
unfolding class
class_few t ds bs x e =
    let k = and_then_is (u1 bs) _ x e in
    let w = when_is (leb k.0.0 1) _ k.0.1 x k.2 in
    let ps = and_then_is (counted t.limits.parents u1 class_number k.0.1) _ x w.1 in
    let ms = and_then_is (counted most_methods u1 (method t ds) ps.0.1) _ x ps.2 in
    let r = counted_read (λ (m : Method). 0) 0 most_methods u1 (method t ds) (λ b y q. omega arith) ps.0.1 ms.0 ms.1 in
    let z : ms.0.0 ≡ x.0.methods = ap (λ (y : Class × Bytes). y.0.methods) (some-injective _ _ ms.2) in
    omega (arith, ap length z, r.1, r.2.number)

-- a package at most 32 times as many
classes_few : (t : Format) (a : Aid) (ds is : List Aid) (rs : List Reference) (bs : Bytes) (x : Package × Bytes) → classes_of t a ds is rs bs ≡ some x →
    methods_in x.0 ≤ 2048
unfolding classes_of
classes_few t a ds is rs bs x e =
    let cs = and_then_is (counted most_classes u1 (class t ds) bs) _ x e in
    let r = counted_read (λ (k : Class). length k.methods) 64 most_classes u1 (class t ds) (class_few t ds) bs cs.0 cs.1 in
    subst (λ (y : Package × Bytes). methods_in y.0 ≤ 2048) (some-injective _ _ cs.2) (omega (arith, r.1, r.2.sum))

contents_few : (t : Format) (bs : Bytes) (x : Package × Bytes) → contents t bs ≡ some x → methods_in x.0 ≤ 2048
unfolding contents classes_of
contents_few t bs x e =
    let a = and_then_is (aid bs) _ x e in
    let ds = and_then_is (counted most_domains u1 aid a.0.1) _ x a.2 in
    let is = and_then_is (counted most_imports u1 aid ds.0.1) _ x ds.2 in
    let rs = and_then_is (counted most_references u2 reference is.0.1) _ x is.2 in
    classes_few t a.0.0 ds.0.0 is.0.0 rs.0.0 rs.0.1 x rs.2

sized_few : (t : Format) (n : ℕ) (bs : Bytes) (x : Package × Bytes) → sized t n bs ≡ some x → methods_in x.0 ≤ 2048
unfolding sized
sized_few t n bs x e =
    let u = and_then_is (u2 bs) _ x e in
    contents_few t u.0.1 x (when_is (eqb u.0.0 n) (contents t) u.0.1 x u.2).1

pub methods_few : (l : Limits) (f : Bytes) (p : Package) → read_file l f ≡ some p → methods_in p ≤ 2048
unfolding read_file
methods_few l f p e =
    let bs : Bytes = drop (length (file_mark (edition_of f))) f in
    let x = and_then_is (sized (format_of l f) (length f) bs) (λ (y : Package × Bytes). at_end y.0 y.1) p e in
    let z : methods_in x.0.0 ≡ methods_in p = ap methods_in (end_is x.0.0 p x.0.1 x.2) in
    omega (arith, z, sized_few (format_of l f) (length f) bs x.0 x.1)
