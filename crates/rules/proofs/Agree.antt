-- What is asked of a package depends on the installed packages only at those that it reaches through imports. Assumes nothing.
-- `R` holds of the packages reached; the two lists agree at their imports, and what is found there is reached.
use Prim.Native.Nat.{ℕ, suc}
use mathlib.Core.Path.{◌≡◌, ◌∙◌, ap, ap₂, subst}
use mathlib.Core.Bool.{◌&&◌, not}
use mathlib.Core.List.{List, Memᴰ}
use mathlib.Core.Option.{Option, some}
use lib.Dec.{T, leb}
use Rattle.rules.specs.Bytes.{Aid, pick, all, at, ◌and_then◌, flat}
use Rattle.rules.specs.Code.{Call, calls_of}
use Rattle.rules.specs.Package.{Limits, ClassNumber, Reference, Class}
use Rattle.rules.specs.Classes.{Installed, by_aid, ClassAt, class_named, ancestors_up_to, MethodAt}
use Rattle.rules.specs.Search.{search_up_to}
use Rattle.rules.specs.Questions.{own, parent_exists, parent_is_kind0, parent_kinds, depth_within, q14_parents, Named, reference_names, call_names, calls_named_by, q18_calls, calls_allowed_by, q19_allowed, instances_of, instances_over, runs_allowing, q20_running}
use Rattle.rules.proofs.Lists.{all_cong, all_from_cong, count_cong, and_then_cong}
use Rattle.rules.proofs.Asked.{Inside}
use Rattle.rules.proofs.Reached as reached

-- calls that name the same get the same answers
module _ (names others : Call → Option Named) (self : Installed) (agree : (c : Call) → names c ≡ others c) where
  pub calls_named : calls_named_by names self ≡ calls_named_by others self
  calls_named = all_from_cong _ _ 0 self.pack.classes (λ i k m. all_cong _ _ k.methods
      (λ o m'. all_cong _ _ (calls_of o.code) (λ c m''. rw (agree c))))

  pub calls_allowed : calls_allowed_by names self ≡ calls_allowed_by others self
  calls_allowed = all_from_cong _ _ 0 self.pack.classes (λ i k m. all_cong _ _ k.methods
      (λ o m'. all_cong _ _ (calls_of o.code) (λ c m''. rw (agree c))))

module _ (is js : List Installed) (R : Installed → Type 0)
    (agree : (x : Installed) → R x → (a : Aid) → Memᴰ a x.pack.imports → by_aid is a ≡ by_aid js a)
    (closed : (x : Installed) → R x → (a : Aid) → Memᴰ a x.pack.imports → (y : Installed) → by_aid is a ≡ some y → R y) where
  -- a package that is reached
  module _ (l : Limits) (self : Installed) (r : R self) where
    parent_exists_agree : (i : ℕ) (x : ClassNumber) → parent_exists is self i x ≡ parent_exists js self i x
    parent_exists_agree i x = rw (reached.class_named_agree is js R agree closed self r x)

    parent_is_kind0_agree : (x : ClassNumber) → parent_is_kind0 is self x ≡ parent_is_kind0 js self x
    parent_is_kind0_agree x = rw (reached.class_named_agree is js R agree closed self r x)

    parent_kinds_agree : (k : Class) → parent_kinds is self k ≡ parent_kinds js self k
    parent_kinds_agree k = ap₂ (pick k.interface)
        (all_cong _ _ k.parents (λ x m. ap not (parent_is_kind0_agree x)))
        (ap (λ (t : ℕ). leb t 1) (count_cong _ _ k.parents (λ x m. parent_is_kind0_agree x)))

    depth_within_agree : (i : ℕ) → depth_within l is self i ≡ depth_within l js self i
    depth_within_agree i = ap (λ (t : ℕ). leb t l.depth) (reached.depth_agree is js R agree closed (suc l.depth) (own self i) r)

    pub q14_agree : q14_parents l is self ≡ q14_parents l js self
    unfolding q14_parents
    q14_agree = ap₂ ◌&&◌ (all_from_cong _ _ 0 self.pack.classes (λ i k m. all_cong _ _ k.parents (λ x m'. parent_exists_agree i x)))
        (ap₂ ◌&&◌ (all_cong _ _ self.pack.classes (λ k m. parent_kinds_agree k)) (all_from_cong _ _ 0 self.pack.classes (λ i k m. depth_within_agree i)))

    -- what a reference names is named through packages that are reached
    pub reference_names_agree : (x : Reference) → reference_names l is self x ≡ reference_names l js self x
    reference_names_agree x =
        and_then_cong (class_named is self x.class) (meant is) (meant js)
        (λ k e. ap (λ (o : Option MethodAt). o and_then λ m. some (record { class = k; means = m })) (found k e))
        ∙ ap (λ (o : Option ClassAt). o and_then meant js) (reached.class_named_agree is js R agree closed self r x.class)
      where
        meant : List Installed → ClassAt → Option Named
        meant zs k = search_up_to zs l.depth k x.name and_then λ m. some (record { class = k; means = m })

        found : (k : ClassAt) → class_named is self x.class ≡ some k → search_up_to is l.depth k x.name ≡ search_up_to js l.depth k x.name
        found k e = reached.search_agree is js R agree closed l.depth k x.name (reached.class_named_reached is js R agree closed self r x.class k e)

    call_names_agree : (c : Call) → call_names l is self c ≡ call_names l js self c
    call_names_agree c = and_then_cong (at self.pack.references c.index) _ _ (λ x e. reference_names_agree x)

    pub q18_agree : q18_calls l is self ≡ q18_calls l js self
    unfolding q18_calls
    q18_agree = calls_named (call_names l is self) (call_names l js self) self call_names_agree

    pub q19_agree : q19_allowed l is self ≡ q19_allowed l js self
    unfolding q19_allowed
    q19_agree = calls_allowed (call_names l is self) (call_names l js self) self call_names_agree

    runs_allowing_agree : (b : ClassAt) (m : MethodAt) → R b.home → runs_allowing l is b m ≡ runs_allowing l js b m
    runs_allowing_agree b m s = rw (reached.runs_agree is js R agree closed l.depth b m.method.name s)

    pub q20_agree : q20_running l is self ≡ q20_running l js self
    unfolding q20_running
    q20_agree = all_from_cong _ _ 0 self.pack.classes (λ i k m.
        all_cong _ _ (instances_over l is (own self i)) (λ o m'. runs_allowing_agree (own self i) o r)
        ∙ ap (λ (cs : List ClassAt). all (runs_allowing l js (own self i)) (flat instances_of cs)) (above i))
      where
        above : (i : ℕ) → ancestors_up_to is l.depth (own self i) ≡ ancestors_up_to js l.depth (own self i)
        above i = reached.ancestors_agree is js R agree closed l.depth (own self i) r

    pub inside_agree : Inside l is self → Inside l js self
    inside_agree i = record {
      q14 = subst T q14_agree i.q14;
      q15 = i.q15;
      q16 = i.q16;
      q17 = i.q17;
      q24 = i.q24;
      q18 = subst T q18_agree i.q18;
      q19 = subst T q19_agree i.q19;
      q20 = subst T q20_agree i.q20;
    }
