-- Question 20 a class at a time: of each ancestor every non-static method. Assumes nothing.
use mathlib.Core.Path.{◌≡◌, refl, ◌∙◌, ap, ap₂}
use mathlib.Core.Bool.{Bool, true, false, ◌&&◌, ◌||◌}
use mathlib.Core.List.{List, [], ◌∷◌, ◌++◌}
use mathlib.Core.Option.{Option, none, some}
use Rattle.rules.specs.Bytes.{pick, all, all_from, none_or, flat, list_of}
use Rattle.rules.specs.Package.{Limits, Method, Class}
use Rattle.rules.specs.Classes.{Installed, ClassAt, record_of, ancestors_up_to, runs_up_to, allows_all_of}
use Rattle.rules.specs.Questions.{own, instances_of, runs_allowing, q20_running}
use Rattle.rules.specs.Running.{running_allows}
use Rattle.rules.proofs.Lists.{all_from_cong}

all_append : {A : Type 0} (p : A → Bool) (xs ys : List A) → all p (xs ++ ys) ≡ (all p xs && all p ys)
all_append p [] ys = refl
all_append p (x ∷ xs) ys = go (p x) (all_append p xs ys)
  where
    go : (a : Bool) → all p (xs ++ ys) ≡ (all p xs && all p ys) → (a && all p (xs ++ ys)) ≡ ((a && all p xs) && all p ys)
    go true e = e
    go false e = refl

-- a test of all that a list's elements give is one of each
pub all_flat : {A B : Type 0} (p : B → Bool) (f : A → List B) (xs : List A) → all p (flat f xs) ≡ all (λ x. all p (f x)) xs
all_flat p f [] = refl
all_flat p f (x ∷ xs) = all_append p (f x) (flat f xs) ∙ ap (λ (b : Bool). all p (f x) && b) (all_flat p f xs)

module _ (l : Limits) (is : List Installed) (b : ClassAt) where
  -- the non-static methods of one class
  of_methods : (a : ClassAt) (ms : List Method) → all (runs_allowing l is b) (flat (λ m. pick m.static [] (record { class = a; method = m } ∷ [])) ms) ≡
      all (λ m. m.static || none_or (runs_up_to is l.depth b m.name) (λ r. allows_all_of r (record { class = a; method = m }))) ms
  of_methods a [] = refl
  of_methods a (m ∷ ms) = go m.static refl (of_methods a ms)
    where
      rest : Bool
      rest = all (λ m. m.static || none_or (runs_up_to is l.depth b m.name) (λ r. allows_all_of r (record { class = a; method = m }))) ms

      go : (t : Bool) → m.static ≡ t → all (runs_allowing l is b) (flat (λ m. pick m.static [] (record { class = a; method = m } ∷ [])) ms) ≡ rest →
          all (runs_allowing l is b) (pick t [] (record {
            class =
                a;
            method = m;
          } ∷ []) ++ flat (λ m. pick m.static [] (record { class = a; method = m } ∷ [])) ms) ≡
          ((t || runs_allowing l is b (record { class = a; method = m })) && rest)
      go true s e = e
      go false s e = ap (λ (y : Bool). runs_allowing l is b (record { class = a; method = m }) && y) e

  pub instances_allow : (a : ClassAt) → all (runs_allowing l is b) (instances_of a) ≡ running_allows l is b a
  instances_allow a = go (record_of a)
    where
      go : (o : Option Class) → all (runs_allowing l is b) (list_of o λ k. flat (λ m. pick m.static [] (record { class = a; method = m } ∷ [])) k.methods) ≡
          none_or o (λ k. all (λ m. m.static || none_or (runs_up_to is l.depth b m.name) (λ r. allows_all_of r (record { class = a; method = m })))
          k.methods)
      go none = refl
      go (some k) = of_methods a k.methods

  each : (cs : List ClassAt) → all (λ a. all (runs_allowing l is b) (instances_of a)) cs ≡ all (running_allows l is b) cs
  each [] = refl
  each (a ∷ cs) = ap₂ (λ (x y : Bool). x && y) (instances_allow a) (each cs)

  pub instances_over_lem : (cs : List ClassAt) → all (runs_allowing l is b) (flat instances_of cs) ≡ all (running_allows l is b) cs
  instances_over_lem cs = all_flat (runs_allowing l is b) instances_of cs ∙ each cs

-- question 20, class by class
pub q20_by_class : (l : Limits) (is : List Installed) (self : Installed) → q20_running l is self ≡
    all_from (λ i k. all (running_allows l is (own self i)) (ancestors_up_to is l.depth (own self i))) 0 self.pack.classes
unfolding q20_running
q20_by_class l is self = all_from_cong _ _ 0 self.pack.classes (λ i k m. instances_over_lem l is (own self i) (ancestors_up_to is l.depth (own self i)))
