-- Question 9 and the query's answer, of one file. Assumes nothing.
use Rattle.std.specs.Prelude.{ℕ, Some, None}
use Rattle.std.specs.Prelude.{Option as Optional}
use Rattle.fields.specs.Told.{told}
use Prim.Native.Nat.{ℕ}
use mathlib.Core.Path.{◌≡◌, sym, ◌∙◌, ap, subst}
use mathlib.Core.Bool.{Bool}
use mathlib.Core.Option.{Option, some}
use Rattle.rules.specs.Bytes.{Bytes, Aid, at, ◌and_then◌}
use Rattle.rules.specs.Package.{format_of, Class, Method, method, class}
use Rattle.rules.specs.Classes.{declared, meant, admits}
use Rattle.places.specs.Reads.{Placed}
use Rattle.places.proofs.Track.{placed_at, placed_none}
use Rattle.files.specs.Say.{Readable, ClassThere, MethodThere, DeclaredPlaced, PolicyAt, DomainsAt, ClassPlaced}
use Rattle.files.proofs.Walks.{domains_read}
use Rattle.policies.specs.Say.{PolicyOver, Admits}
use Rattle.services.specs.Answers.{ClassOf, ClassAllows, FileAllows}

-- the file reads, and the class is there
pub class_reads : (g : Bytes) (c : ℕ) → ClassOf g c → Readable g
class_reads g c o = (o.0, o.1, o.2)

pub class_there : (g : Bytes) (c : ℕ) → ClassOf g c → ClassThere g c
class_there g c o = (o.0, o.1.domains, o.3)

module _ (g : Bytes) (c n : ℕ) (r : Optional ℕ) (m : ℕ) (q : DeclaredPlaced g c n r) (z : r ≡ Some m) where
  -- the method there
  placed : (o : ClassOf g c) → Placed (method (format_of o.0 g) o.1.domains) g (declared o.3.0 n) (some m)
  placed o = subst (λ (x : Optional ℕ). Placed (method (format_of o.0 g) o.1.domains) g (declared o.3.0 n) (told x)) z
      (q o.0 o.1.domains o.3.0 o.3.1 o.3.2)

  pub method_there : ClassOf g c → MethodThere g m
  method_there o = let x = placed_at (placed o) in (o.0, o.1.domains, (x.0, x.1, x.3))

  -- its policy over the file's domains
  pub policy_over : (d i : ℕ) → DomainsAt g d → PolicyAt g m i → ClassOf g c → PolicyOver g d i
  policy_over d i ds pl o =
      let x = placed_at (placed o) in
      let e = domains_read ds o.0 o.1 o.2 in
      let y = pl o.0 o.1.domains x.0 x.1 x.3 in
      (o.1.domains, e.0, e.1, (x.0.policy, y.0, y.1))

  -- what it says of a domain
  pub class_says : (d : ℕ) (u : Aid) (i : ℕ) (b : Bool) (x : Aid) → DomainsAt g d → PolicyAt g m i → Admits g d u i x b → ClassAllows g u c n x (Some b)
  class_says d u i b x ds pl ad l p e k j h =
      let o : ClassOf g c = (l, p, e, (k, j, h)) in
      let t = placed_at (placed o) in
      let dr = domains_read ds l p e in
      let y = pl l p.domains t.0 t.1 t.3 in
      let a : b ≡ admits (meant u t.0.policy) x = ad p.domains dr.0 dr.1 t.0.policy y.0 y.1 in
      ap some a ∙ sym (ap (λ (z : Option Method). z and_then λ m. some (admits (meant u m.policy) x)) t.2)

-- a class that does not declare the name
pub class_none : (g : Bytes) (u : Aid) (c n : ℕ) (r : Optional ℕ) (x : Aid) → DeclaredPlaced g c n r → r ≡ None → ClassAllows g u c n x None
class_none g u c n r x q z l p e k j h =
    let y = placed_none (subst (λ (v : Optional ℕ). Placed (method (format_of l g) p.domains) g (declared k n) (told v)) z (q l p.domains k j h)) in
    sym (ap (λ (o : Option Method). o and_then λ m. some (admits (meant u m.policy) x)) y)

-- a file's class by its number
module _ (g : Bytes) (k n : ℕ) (r : Optional ℕ) (q : ClassPlaced g k r) where
  pub class_of : (c : ℕ) → r ≡ Some c → Readable g → ClassOf g c
  class_of c z o =
      let y = placed_at (subst (λ (v : Optional ℕ). Placed (class (format_of o.0 g) o.1.domains) g (at o.1.classes k) (told v)) z (q o.0 o.1 o.2)) in
      (o.0, o.1, o.2, (y.0, y.1, y.3))

  pub file_says : (u : Aid) (c : ℕ) (x : Aid) (v : Optional Bool) → r ≡ Some c → ClassAllows g u c n x v → FileAllows g u k n x v
  file_says u c x v z w l p e =
      let y = placed_at (subst (λ (o : Optional ℕ). Placed (class (format_of l g) p.domains) g (at p.classes k) (told o)) z (q l p e)) in
      w l p e y.0 y.1 y.3 ∙ sym (ap (λ (o : Option Class). o and_then λ i. declared i n and_then λ m. some (admits (meant u m.policy) x)) y.2)

  pub file_none : (u x : Aid) → r ≡ None → FileAllows g u k n x None
  file_none u x z l p e =
      let y = placed_none (subst (λ (o : Optional ℕ). Placed (class (format_of l g) p.domains) g (at p.classes k) (told o)) z (q l p e)) in
      sym (ap (λ (o : Option Class). o and_then λ i. declared i n and_then λ m. some (admits (meant u m.policy) x)) y)
