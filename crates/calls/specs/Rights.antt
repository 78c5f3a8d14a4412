-- What a method allows, where it stands. Assumes nothing.
--
-- Stands f s end es self h m x == the method x of an installed package stands at place m of the file at home h
-- StandsThere, OfStanding  == what a function over such a method requires, and how it ensures
-- RightsAt f s h m r       == r tells where that method's policy stands, and the domains that its indexes count; its rights are what this means
--                             in the domain that its package lies in
-- MayCall                  == the answer of question 19 for a call of the method at place m of the file at home h, row p of the tables x before and
--                             y behind being that file's
-- CallAllowedIs            == the answer of question 19 for a call
-- Callee f s end x         == some reference of the file means the declaration x
-- CalleeAllows             == the answer of question 19 for every call that calls it
use Rattle.std.specs.Prelude.{Some}
use Rattle.std.specs.Prelude.{ℕ, ◌≡◌, Bool, ◌&&◌, List}
use Rattle.std.proofs.Math.Option.{Option, some}
use Rattle.rules.specs.Bytes.{Bytes, Aid, none_or}
use Rattle.rules.specs.Package.{policy, method}
use Rattle.rules.specs.Store.{Entry, store_limits}
use Rattle.rules.specs.Classes.{Installed, installed, MethodAt, allows, allows_all_of}
use Rattle.places.specs.Reads.{Reads}
use Rattle.files.specs.Say.{DomainsAt}
use Rattle.policies.specs.Rows.{Known}
use Rattle.policies.specs.declared.RightsPlace.{RightsPlace}
use Rattle.homes.specs.Homes.{Imports, own_home, file_of, format_at, HomeIs}
use Rattle.homes.specs.declared.Home.{Home}
use Rattle.references.specs.Setting.{Loading, OfJudged}
use Rattle.references.specs.Named.{reference_named, ReferenceIs}
use Rattle.calls.specs.Maps.{rows_number}
use Rattle.references.specs.declared.Meant.{Meant}

-- a method stands at place m of the file at home h
pub record Stands (f s : Bytes) (end : ℕ) (es : List Entry) (self : Installed) (h : Home) (m : ℕ) (x : MethodAt) : Type 0 where
  pub lies : HomeIs f s end es self h x.class.home
  pub to : ℕ
  pub reads : Reads (method (format_at s (file_of f s h)) x.class.home.pack.domains) (file_of f s h) m x.method to

abbrev pub StandsThere : Bytes → Bytes → Home → ℕ → Type 0
StandsThere f s h m = (end : ℕ) × (es : List Entry) × (self : Installed) × Imports f s end es self × (x : MethodAt) × Stands f s end es self h m x

abbrev pub OfStanding : Bytes → Bytes → Home → ℕ → (MethodAt → Type 0) → Type 0
OfStanding f s h m q = (end : ℕ) (es : List Entry) (self : Installed) → Imports f s end es self → (x : MethodAt) → Stands f s end es self h m x → q x

-- the list of domains, and the policy over it
abbrev pub RightsAt : Bytes → Bytes → Home → ℕ → RightsPlace → Type 0
RightsAt f s h m r = DomainsAt (file_of f s h) r.domains
    × (OfStanding f s h m λ x. (j : ℕ) × Reads (policy x.class.home.pack.domains) (file_of f s h) r.policy x.method.policy j)

-- question 19 of a call in the method at place i of the file being judged, loaded in d, and the numbers that stay true
pub record CallSays (d : Aid) (z o : MethodAt) (of : ℕ → Option Installed) (self : Installed) (y : List ℕ) (r : Bool) : Type 0 where
  pub answer : r ≡ (allows o d && allows_all_of o z)
  pub known : Known (rows_number self of) y

abbrev pub MayCall : Bytes → Bytes → ℕ → Aid → ℕ → Home → ℕ → ℕ → List ℕ → List ℕ → Bool → Type 0
MayCall f s end d i h m p x y r = (es : List Entry) (self : Installed) → Loading f s end es self → self.domain ≡ d →
    (z : MethodAt) → Stands f s end es self (own_home end) i z → (o : MethodAt) → Stands f s end es self h m o →
    (of : ℕ → Option Installed) → of 0 ≡ some self → of p ≡ some o.class.home → Known (rows_number self of) x → CallSays d z o of self y r

abbrev pub CallAllowedIs : Bytes → Bytes → ℕ → Aid → ℕ → ℕ → Bool → Type 0
CallAllowedIs f s end d i index r = OfJudged f s end λ es self. self.domain ≡ d → (z : MethodAt) → Stands f s end es self (own_home end) i z →
    r ≡ none_or (reference_named (store_limits s) (installed (store_limits s) es) self index) (λ x. allows x.means d && allows_all_of x.means z)

abbrev pub Callee : Bytes → Bytes → ℕ → Meant → Type 0
Callee f s end x = (index : ℕ) × ReferenceIs f s end index (Some x)

-- of every call, in the method at place i, by a reference that means x
abbrev pub CalleeAllows : Bytes → Bytes → ℕ → Aid → ℕ → Meant → Bool → Type 0
CalleeAllows f s end d i x r = (index : ℕ) → ReferenceIs f s end index (Some x) → CallAllowedIs f s end d i index r
