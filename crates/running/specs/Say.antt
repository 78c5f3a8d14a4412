-- What the functions of question 20 require and ensure. Assumes nothing.
--
-- d                     == the place of the store where the domain of the file being judged stands
-- RunningIn             == `Running` for own class b, and that domain stands there
-- method_passes          == what runs for own class b allows all that a non-static method allows
-- WalkThere, OfWalk     == class n of the package at home h, for own class b: what a function over it requires, and how it ensures
-- Passes, Fails         == of a class and its ancestors all, or not all, have `running_allows` for own class b
use Rattle.std.specs.Prelude.{ℕ, ◌≡◌, Bool, true, false, ◌||◌, List, T}
use Rattle.std.proofs.Math.Option.{some}
use Rattle.rules.specs.Bytes.{Bytes, all, at, none_or}
use Rattle.rules.specs.Package.{Limits, Class}
use Rattle.rules.specs.Store.{Entry, store_limits}
use Rattle.rules.specs.Classes.{Installed, installed, ClassAt, ancestors_up_to, MethodAt, runs_up_to, allows_all_of}
use Rattle.rules.specs.Questions.{own, q14_parents, q20_running}
use Rattle.rules.specs.Running.{running_allows}
use Rattle.rules.specs.Paths.{IsOrBelow}
use Rattle.homes.specs.Homes.{Imports, Parents, DomainAt}
use Rattle.homes.specs.declared.Home.{Home}
use Rattle.classes.specs.Say.{Judged, OwnThere, ClassIn, OfClass}
use Rattle.chains.specs.Say.{Running, MethodIn}
use Rattle.running.specs.declared.OwnClass.{OwnClass}
use Rattle.chains.specs.declared.MethodSpot.{MethodSpot}

-- a running own class, and the domain of its package
pub record RunningIn (f s : Bytes) (end d b : ℕ) (es : List Entry) (self : Installed) : Type 0 where
  pub running : Running f s end b es self
  pub loads : DomainAt s d self

-- two methods where they stand
abbrev pub BothThere : Bytes → Bytes → ℕ → MethodSpot → MethodSpot → Type 0
BothThere f s d x y = (end : ℕ) × (es : List Entry) × (self : Installed) × Imports f s end es self × DomainAt s d self ×
    (m : MethodAt) × MethodIn f s end es self x.home x.place m × (o : MethodAt) × MethodIn f s end es self y.home y.place o

abbrev pub AllowsAllOf : Bytes → Bytes → ℕ → MethodSpot → MethodSpot → Bool → Type 0
AllowsAllOf f s d x y r = (end : ℕ) (es : List Entry) (self : Installed) → Imports f s end es self → DomainAt s d self →
    (m : MethodAt) → MethodIn f s end es self x.home x.place m → (o : MethodAt) → MethodIn f s end es self y.home y.place o → r ≡ allows_all_of m o

-- what runs for b allows all that a non-static method allows
abbrev pub method_passes : Limits → List Installed → ClassAt → MethodAt → Bool
method_passes l is b o = o.method.static || none_or (runs_up_to is l.depth b o.method.name) (λ r. allows_all_of r o)

abbrev pub MethodThere : Bytes → Bytes → ℕ → ℕ → Home → ℕ → Type 0
MethodThere f s end b h i = (es : List Entry) × (self : Installed) × Running f s end b es self × (o : MethodAt) × MethodIn f s end es self h i o

abbrev pub MethodPasses : Bytes → Bytes → ℕ → ℕ → ℕ → Home → ℕ → Bool → Type 0
MethodPasses f s end d b h i r = (es : List Entry) (self : Installed) → RunningIn f s end d b es self →
    (o : MethodAt) → MethodIn f s end es self h i o → r ≡ method_passes (store_limits s) (installed (store_limits s) es) (own self b) o

-- class n at home h, for own class b
abbrev pub WalkThere : Bytes → Bytes → ℕ → ℕ → ℕ → Home → ℕ → Type 0
WalkThere f s end d b h n = ClassIn (RunningIn f s end d b) f s end h n

abbrev pub OfWalk : Bytes → Bytes → ℕ → ℕ → ℕ → Home → ℕ → (List Entry → Installed → Installed → Class → Type 0) → Type 0
OfWalk f s end d b h n q = OfClass (RunningIn f s end d b) f s end h n q

abbrev pub MethodsPass : Bytes → Bytes → ℕ → ℕ → ℕ → Home → ℕ → Bool → Type 0
MethodsPass f s end d b h n r = OfWalk f s end d b h n λ es self x k. r ≡ running_allows (store_limits s) (installed (store_limits s) es) (own self b)
    (record { home = x; number = n })

-- a class and its ancestors pass for own class b
abbrev pub Passes : Limits → List Installed → Installed → ℕ → ClassAt → Type 0
Passes l is self b c = (a : ClassAt) → IsOrBelow is c a → running_allows l is (own self b) a ≡ true

-- or one does not
abbrev pub Fails : Limits → List Installed → Installed → ℕ → ClassAt → Type 0
Fails l is self b c = (a : ClassAt) × IsOrBelow is c a × (running_allows l is (own self b) a ≡ false)

-- the first where the answer is yes, else the second
abbrev pub Answers : Type 0 → Type 0 → Bool → Type 0
Answers p q true = p
Answers p q false = q

abbrev pub ClassPasses : Bytes → Bytes → ℕ → ℕ → ℕ → Home → ℕ → Bool → Type 0
ClassPasses f s end d b h n r = OfWalk f s end d b h n λ es self x k.
    Answers (Passes (store_limits s) (installed (store_limits s) es) self b (record { home = x; number = n }))
    (Fails (store_limits s) (installed (store_limits s) es) self b (record { home = x; number = n })) r

-- own class b
abbrev pub OwnClassThere : Bytes → Bytes → OwnClass → Type 0
OwnClassThere f s o = (t : OwnThere f s o.names.end o.names.own) × DomainAt s o.domain t.1

abbrev pub OwnPasses : Bytes → Bytes → ℕ → ℕ → ℕ → Bool → Type 0
OwnPasses f s end d b r = (es : List Entry) (self : Installed) → Judged f s end es self → DomainAt s d self → (k : Class) →
    at self.pack.classes b ≡ some k →
    r ≡ all (running_allows (store_limits s) (installed (store_limits s) es) (own self b))
    (ancestors_up_to (installed (store_limits s) es) (store_limits s).depth (own self b))

-- question 20
abbrev pub JudgedThere : Bytes → Bytes → ℕ → ℕ → Type 0
JudgedThere f s end d = (es : List Entry) × (self : Installed) × Parents f s end es self ×
    T (q14_parents (store_limits s) (installed (store_limits s) es) self) × DomainAt s d self

abbrev pub RunningIs : Bytes → Bytes → ℕ → ℕ → Bool → Type 0
RunningIs f s end d r = (es : List Entry) (self : Installed) → Parents f s end es self →
    T (q14_parents (store_limits s) (installed (store_limits s) es) self) → DomainAt s d self →
    r ≡ q20_running (store_limits s) (installed (store_limits s) es) self
