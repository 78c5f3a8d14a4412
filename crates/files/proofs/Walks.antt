-- A file's lists follow one another: where each stands, and what the others may use of that. Assumes nothing.
use Rattle.std.specs.Prelude.{ℕ}
use Rattle.std.specs.Prelude.{Option as Optional}
use Prim.Native.Nat.{ℕ}
use mathlib.Core.Path.{◌≡◌, refl, sym}
use mathlib.Core.Option.{some}
use lib.ListN.{length}
use Rattle.rules.specs.Bytes.{Bytes, aid, u1, u2, counted}
use Rattle.rules.specs.Package.{Limits, format_of, most_domains, most_imports, most_references, most_classes, Package, reference, class, read_file}
use Rattle.places.specs.Reads.{Reads, Ends, EndsAt}
use Rattle.places.proofs.Parts.{moved, file_parts}
use Rattle.files.specs.Say.{Aids, AfterAids, AidBytes, References, AfterReferences, Classes, ClassNth, Readable, OwnAid, DomainsAt, ImportsAt, ReferencesAt, ClassesAt, ClassPlaced}

pub file_aid : {f : Bytes} → Readable f → Ends aid f 7
file_aid {f} r = let t = file_parts r.0 f r.1 r.2 in (r.1.aid, t.domains_at, t.named)

pub file_own : {f r : Bytes} → AidBytes f 7 r → OwnAid f r
file_own {f} h l p e = let t = file_parts l f p e in h p.aid t.domains_at t.named

pub file_domains : {f : Bytes} {d : ℕ} → EndsAt aid f 7 d → DomainsAt f d
file_domains {f} h l p e = let t = file_parts l f p e in (t, sym (h p.aid t.domains_at t.named))

-- each list as it is read at its place
module _ {f : Bytes} {i : ℕ} where
  pub domains_read : DomainsAt f i → (l : Limits) (p : Package) → read_file l f ≡ some p → (j : ℕ) × Reads (counted most_domains u1 aid) f i p.domains j
  domains_read h l p e = let x = h l p e in (x.0.imports_at, moved x.0.domains x.1 refl refl)

  pub imports_read : ImportsAt f i → (l : Limits) (p : Package) → read_file l f ≡ some p → (j : ℕ) × Reads (counted most_imports u1 aid) f i p.imports j
  imports_read h l p e = let x = h l p e in (x.0.references_at, moved x.0.imports x.1 refl refl)

  pub references_read : ReferencesAt f i → (l : Limits) (p : Package) → read_file l f ≡ some p → (j : ℕ) × Reads (counted most_references u2 reference) f i
      p.references j
  references_read h l p e = let x = h l p e in (x.0.classes_at, moved x.0.references x.1 refl refl)

  pub classes_read : ClassesAt f i → (l : Limits) (p : Package) → read_file l f ≡ some p →
      Reads (counted most_classes u1 (class (format_of l f) p.domains)) f i p.classes (length f)
  classes_read h l p e = let x = h l p e in moved x.0.classes x.1 refl refl

  -- each list stands there
  pub domains_there : DomainsAt f i → Readable f → Aids f i
  domains_there h r = let x = domains_read h r.0 r.1 r.2 in (most_domains, (r.1.domains, x.0, x.1))

  pub imports_there : ImportsAt f i → Readable f → Aids f i
  imports_there h r = let x = imports_read h r.0 r.1 r.2 in (most_imports, (r.1.imports, x.0, x.1))

  pub references_there : ReferencesAt f i → Readable f → References f i
  references_there h r = let x = references_read h r.0 r.1 r.2 in (r.1.references, x.0, x.1)

  pub classes_there : ClassesAt f i → Readable f → Classes f i
  classes_there h r = (r.0, r.1.domains, (r.1.classes, length f, classes_read h r.0 r.1 r.2))

  -- each list ends where the one after it stands
  pub file_imports : {n : ℕ} → DomainsAt f i → AfterAids f i n → ImportsAt f n
  file_imports h a l p e = let x = h l p e in (x.0, sym (a most_domains p.domains x.0.imports_at (moved x.0.domains x.1 refl refl)))

  pub file_references : {n : ℕ} → ImportsAt f i → AfterAids f i n → ReferencesAt f n
  file_references h a l p e = let x = h l p e in (x.0, sym (a most_imports p.imports x.0.references_at (moved x.0.imports x.1 refl refl)))

  pub file_classes : {n : ℕ} → ReferencesAt f i → AfterReferences f i n → ClassesAt f n
  file_classes h a l p e = let x = h l p e in (x.0, sym (a p.references x.0.classes_at (moved x.0.references x.1 refl refl)))

  pub file_class : {k : ℕ} (r : Optional ℕ) → ClassesAt f i → ClassNth f i k r → ClassPlaced f k r
  file_class r h n l p e = n l p.domains p.classes (length f) (classes_read h l p e)
