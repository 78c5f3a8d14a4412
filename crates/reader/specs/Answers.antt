-- What the package reader answers, said by the definitions. Assumes nothing.
--
-- StopsFor n r s i o   == the place o is told of the reader r of every list of n domains
-- Stand q f i          == the lists of a file whose AID stands at place i stand at the places q
-- ContentsRead l f i r == the answer for what follows the size, from place i on
-- PlacesOf q .. part   == the places q are those where the lists of a package stand
-- LayoutRead l f r     == the answer for what follows the mark: whether it reads, and the places of the lists
-- PackageRead l f r    == the answer for a file: its number, and the places of the lists of the package
use Rattle.std.specs.Prelude.{ℕ, ◌≡◌, List, [], ◌∷◌, length, Some, None, Result, Ok}
use Rattle.std.specs.Prelude.{Option as Optional}
use Rattle.std.proofs.Math.Option.{Option, none, some}
use Rattle.rules.specs.Bytes.{Bytes, Aid, is_some, Reader, aid, u1, u2, counted}
use Rattle.rules.specs.Package.{Limits, format_of, Package, most_domains, most_imports, most_references, reference, contents, read_file}
use Rattle.rules.specs.Questions.{q10_marked, q11_reads}
use Rattle.rules.specs.Operations.{first_no}
use Rattle.fields.specs.Told.{told}
use Rattle.places.specs.Parts.{FilePart}
use Rattle.refusals.specs.declared.refusal.Refusal.{Refusal}
use Rattle.refusals.specs.Refusals.{number_said}
use Rattle.cursor.specs.Says.{Stops}
use Rattle.cursor.specs.declared.Cursor.{Cursor}
use Rattle.reader.specs.declared.Places.{Places}

-- the code knows how many domains a file lists, and not which
abbrev pub StopsFor : {A : Type 0} → ℕ → (List Aid → Reader A) → Bytes → ℕ → Option ℕ → Type 0
StopsFor n r s i o = (ds : List Aid) → length ds ≡ n → Stops (r ds) s i o

-- each list begins where the one before it ends
pub record Stand (q : Places) (f : Bytes) (i : ℕ) : Type 0 where
  pub named : Stops aid f i (some q.domains.0)
  pub domains : Stops (counted most_domains u1 aid) f q.domains.0 (some q.imports.0)
  pub imports : Stops (counted most_imports u1 aid) f q.imports.0 (some q.references.0)
  pub references : Stops (counted most_references u2 reference) f q.references.0 (some q.classes.0)

-- the place behind the contents
abbrev pub contents_said : Optional (Places × Cursor) → Option ℕ
contents_said (Some r) = some r.1.at.0
contents_said None = none

pub record ContentsRead (l : Limits) (f : Bytes) (i : ℕ) (r : Optional (Places × Cursor)) : Type 0 where
  pub stops : Stops (contents (format_of l f)) f i (contents_said r)
  pub stand : (v : Places × Cursor) → r ≡ Some v → Stand v.0 f i

-- the lists of a package stand at these places
pub record PlacesOf (q : Places) (l : Limits) (f : Bytes) (p : Package) (part : FilePart l f p) : Type 0 where
  pub domains : q.domains.0 ≡ part.domains_at
  pub imports : q.imports.0 ≡ part.imports_at
  pub references : q.references.0 ≡ part.references_at
  pub classes : q.classes.0 ≡ part.classes_at

-- the answer for what follows the mark
pub record LayoutRead (l : Limits) (f : Bytes) (r : Optional Places) : Type 0 where
  pub reads : is_some (told r) ≡ q11_reads (read_file l f)
  pub places : (q : Places) → r ≡ Some q → (p : Package) (part : FilePart l f p) → PlacesOf q l f p part

pub record PackageRead (l : Limits) (f : Bytes) (r : Result Places Refusal) : Type 0 where
  pub number : number_said r ≡ first_no ((10, q10_marked f) ∷ (11, q11_reads (read_file l f)) ∷ [])
  pub places : (q : Places) → r ≡ Ok q → (p : Package) (part : FilePart l f p) → PlacesOf q l f p part
