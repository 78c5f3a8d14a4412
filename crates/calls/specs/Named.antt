-- Question 18 of a call: what it names, visible and of its form. Assumes nothing.
--
-- SeenIs, FormIs, WellIs == visible where it lies outside the file; of the call's form; both
-- CallNamedIs            == the answer of question 18 for a call
use Rattle.std.specs.Prelude.{ℕ, ◌≡◌, Bool, ◌&&◌, ◌||◌, not, List, eqb}
use Rattle.std.proofs.Math.Option.{some}
use Rattle.rules.specs.Bytes.{Bytes, Aid}
use Rattle.rules.specs.Package.{Limits, format_of, Class, method, class}
use Rattle.rules.specs.Store.{store_limits}
use Rattle.rules.specs.Classes.{Installed, installed, has_aid, record_of, is_kind0}
use Rattle.rules.specs.Questions.{Named, visible_from, call_form, call_names_method}
use Rattle.places.specs.Reads.{Reads}
use Rattle.files.specs.Say.{OfMethod}
use Rattle.codes.specs.Calls.{kind_of}
use Rattle.codes.specs.declared.Calling.{Calling}
use Rattle.references.specs.Setting.{OfJudged}
use Rattle.references.specs.declared.Meant.{Meant}

-- a fact of whatever is named and declared by the class record and the method at these places of a file
abbrev pub OfNamed : Bytes → Meant → (Named → Type 0) → Type 0
OfNamed g x q = (y : Named) (k : Class) → record_of y.means.class ≡ some k → x.kind0 ≡ is_kind0 y.class →
    (l : Limits) (ds : List Aid) (j e : ℕ) → Reads (class (format_of l g) ds) g x.class k j →
    Reads (method (format_of l g) ds) g x.method y.means.method e → q y

-- visible where it lies outside the file being judged
abbrev pub SeenIs : Bytes → ℕ → Bool → Bool → Type 0
SeenIs g m o r = OfMethod g m λ l ds x. r ≡ (not o || x.visible)

-- of the form that the kind of call asks
abbrev pub FormIs : Bytes → Meant → Calling → Bool → Type 0
FormIs g x k r = OfNamed g x λ y. r ≡ call_form (kind_of k) y

-- both
abbrev pub WellIs : Bytes → Meant → Calling → Bool → Type 0
WellIs g x k r = OfNamed g x λ y. (self : Installed) → has_aid self.pack.aid y.means.class.home ≡ eqb x.home.from 0 →
    r ≡ (visible_from self y.means && call_form (kind_of k) y)

-- question 18 of a call
abbrev pub CallNamedIs : Bytes → Bytes → ℕ → Calling → ℕ → Bool → Type 0
CallNamedIs f s end kind index r = OfJudged f s end λ es self.
    r ≡ call_names_method (store_limits s) (installed (store_limits s) es) self (record { kind = kind_of kind; index = index })
