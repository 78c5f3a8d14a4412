-- The mark, the contents and the whole of a file, at places. Assumes nothing.
use Prim.Native.Nat.{ℕ, ◌≤◌, ◌<◌}
use native.Mathlib.Omega.{arith}
use native.Mathlib.Decide.{dec_le}
use mathlib.Core.Path.{◌≡◌, sym, subst}
use mathlib.Core.Bool.{Bool, true, false}
use mathlib.Core.List.{List, []}
use mathlib.Core.Option.{Option, none, some}
use lib.Dec.{eqb}
use lib.ListN.{length, take, drop, length-take, drop_of_length-le}
use borrow.Author.Tests.{eq-eqb, ne_eqb}
use Rattle.rules.specs.Bytes.{Bytes, Aid, is_some, Reader, when, u1, u2, aid, counted}
use Rattle.rules.specs.Package.{Limits, Edition, edition1, edition2, Format, format_of, Package, most_domains, most_imports, most_references, most_classes, reference, class, file_mark, contents, sized, read_file}
use Rattle.rules.proofs.Tails.{classes_of, references_of, imports_of, domains_of, package_of}
use Rattle.rules.specs.Questions.{begins, q10_marked, q11_reads}
use Rattle.rules.proofs.Tests.{none_some}
use Rattle.fields.proofs.Same.{same_lengths}
use Rattle.places.specs.Reads.{Reads}
use Rattle.places.specs.Parts.{FilePart}
use Rattle.places.proofs.Inverse.{reads_same, reads_u2}
use Rattle.cursor.specs.Says.{Says, Stops, itself}
use Rattle.cursor.specs.declared.Cursor.{Cursor}
use Rattle.cursor.proofs.Steps.{Leads, said, stop_none, stopped, stopped_none, then_none, then_leads, then_told, then_any, made_leads, when_leads, when_none}
use Rattle.cursor.proofs.Fields.{front}
use Rattle.reader.specs.Answers.{StopsFor, Stand, ContentsRead, LayoutRead, PlacesOf, PackageRead}
use Rattle.reader.specs.declared.Places.{Places}
use Rattle.std.specs.Prelude.{Some, None, Err}
use Rattle.std.specs.Prelude.{Option as Optional}
use Rattle.std.specs.Option.{ok_or}
use Rattle.refusals.specs.declared.refusal.Refusal.TheVariants as refused

-- a file shorter than mark and version does not begin with them
pub mark_short : (f : Bytes) → length f < 5 → false ≡ q10_marked f
unfolding q10_marked
mark_short f h = rw (other edition1, other edition2)
  where
    other : (e : Edition) → begins f e ≡ false
    other e = same_lengths (take 5 f) (file_mark e) (λ z. absurd (omega (arith, length-take 5 f)))

-- a file of five bytes and more: version 1, or else version 2
module _ {b : Bool} (f : Bytes) (h : b ≡ begins f edition1) where
  pub mark_first : b ≡ true → true ≡ q10_marked f
  unfolding q10_marked
  mark_first e = rw (sym h, e)

  pub mark_second : b ≡ false → {c : Bool} → c ≡ begins f edition2 → c ≡ q10_marked f
  unfolding q10_marked
  mark_second e k = rw (sym h, e) k

-- what follows the size: the AID and each list in turn
module _ (t : Format) {f : Bytes} {i : ℕ} where
  pub named_none : Says itself aid f i none → Stops (contents t) f i none
  unfolding contents domains_of imports_of references_of classes_of
  named_none h = then_none (λ a. domains_of t a) (stop_none h)

  module _ {a : Aid} {d : ℕ} (named : Says itself aid f i (some (a, d))) where
    named_leads : Leads (contents t) (domains_of t a) f i d
    unfolding contents domains_of imports_of references_of classes_of
    named_leads o p = then_leads (λ a. domains_of t a) named o p

    pub domains_none : Says length (counted most_domains u1 aid) f d none → Stops (contents t) f i none
    unfolding domains_of
    domains_none h = named_leads none (then_none (λ ds. imports_of t a ds) (stop_none h))

    module _ {n m : ℕ} (domains : Says length (counted most_domains u1 aid) f d (some (n, m))) where
      domains_lead : (o : Option ℕ) → StopsFor n (imports_of t a) f m o → Stops (contents t) f i o
      unfolding domains_of
      domains_lead o p = named_leads o (then_told (λ ds. imports_of t a ds) domains o p)

      pub imports_none : Says length (counted most_imports u1 aid) f m none → Stops (contents t) f i none
      unfolding imports_of
      imports_none h = domains_lead none (λ ds e. then_none (λ is. references_of t a ds is) (stop_none h))

      module _ {k r : ℕ} (imports : Says length (counted most_imports u1 aid) f m (some (k, r))) where
        imports_lead : (o : Option ℕ) → ((ds is : List Aid) → length ds ≡ n → Stops (references_of t a ds is) f r o) → Stops (contents t) f i o
        unfolding imports_of
        imports_lead o p = domains_lead o (λ ds e. then_told (λ is. references_of t a ds is) imports o (λ is e'. p ds is e))

        pub references_none : Stops (counted most_references u2 reference) f r none → Stops (contents t) f i none
        unfolding references_of
        references_none h = imports_lead none (λ ds is e. then_none (λ rs. classes_of t a ds is rs) h)

        -- the classes decide
        pub contents_stop : {c : ℕ} → Stops (counted most_references u2 reference) f r (some c) →
            (o : Option ℕ) → StopsFor n (λ ds. counted most_classes u1 (class t ds)) f c o → Stops (contents t) f i o
        unfolding references_of classes_of
        contents_stop h o p = imports_lead o (λ ds is e. then_any (λ rs. classes_of t a ds is rs) h o
            (λ rs. made_leads (counted most_classes u1 (class t ds)) (λ cs. package_of a ds is rs cs) o (p ds e)))

-- the answers for the contents
module _ {l : Limits} {f : Bytes} {i : ℕ} where
  pub contents_bad : Stops (contents (format_of l f)) f i none → ContentsRead l f i None
  contents_bad h = record { stops = h; stand = λ v e. cc }

  pub contents_are : (v : Places × Cursor) → Stops (contents (format_of l f)) f i (some v.1.at.0) → Stand v.0 f i → ContentsRead l f i (Some v)
  contents_are v h s = record { stops = h; stand = λ w e. (let z : v ≡ w = cc in subst (λ (x : Places × Cursor). Stand x.0 f i) z s) }

-- the size, then the contents to the end
module _ (t : Format) {f : Bytes} where
  pub size_none : Says itself u2 f 5 none → Stops (sized t (length f)) f 5 none
  unfolding sized
  size_none h = then_none (λ n. when (eqb n (length f)) (contents t)) (stop_none h)

  module _ {n j : ℕ} (h : Says itself u2 f 5 (some (n, j))) where
    pub size_other : (n ≡ length f → ⊥) → Stops (sized t (length f)) f 5 none
    unfolding sized
    size_other e = then_leads (λ n. when (eqb n (length f)) (contents t)) h none (when_none (contents t) (ne_eqb n (length f) e))

    pub size_leads : n ≡ length f → Leads (sized t (length f)) (contents t) f 5 j
    unfolding sized
    size_leads e o p = then_leads (λ n. when (eqb n (length f)) (contents t)) h o (when_leads (contents t) (eq-eqb n (length f) e) o p)

    -- the contents begin behind the size
    pub size_ends : j ≡ 7
    size_ends = let x = said h in elim (dec_le 5 (length f)) [
      | yes k ↦ sym (reads_u2 f 5 x.0 j (record { is = x.1; from = k; to = x.3 })).next
      | no k ↦
          let d : drop 5 f ≡ [] = drop_of_length-le f {i = 5} (omega arith) in
          absurd (none_some (rw d at x.1))
    ]

-- the file reads as the contents do, where these end with it
module _ (l : Limits) {f : Bytes} where
  pub file_none : Stops (sized (format_of l f) (length f)) f 5 none → read_file l f ≡ none
  unfolding read_file
  file_none h = rw (stopped_none h)

  module _ {j : ℕ} (h : Stops (sized (format_of l f) (length f)) f 5 (some j)) where
    pub file_left : j < length f → read_file l f ≡ none
    unfolding read_file
    file_left k = let x = stopped h in rw (x.1, front f j k)

    pub file_reads : length f ≤ j → is_some (read_file l f) ≡ true
    unfolding read_file
    file_reads k = let x = stopped h in rw (x.1, drop_of_length-le f {i = j} k)

-- the places told are those of the package
stop_at : {A : Type 0} {r : Reader A} {s : Bytes} {i j k : ℕ} {a : A} → Stops r s i (some j) → Reads r s i a k → j ≡ k
stop_at {r = r} {s} {i} {j} {k} {a} h p =
    let x = stopped h in
    (reads_same r s i x.0 a j k (record { is = x.1; from = p.from; to = x.2 }) p).1

pub stand_places : (q : Places) (l : Limits) (f : Bytes) → Stand q f 7 → (p : Package) (part : FilePart l f p) → PlacesOf q l f p part
stand_places q l f h p part =
    let d : q.domains.0 ≡ part.domains_at = stop_at h.named part.named in
    let i : q.imports.0 ≡ part.imports_at = stop_at (rw d at h.domains) part.domains in
    let r : q.references.0 ≡ part.references_at = stop_at (rw i at h.imports) part.imports in
    record { domains = d; imports = i; references = r; classes = stop_at (rw r at h.references) part.references }

-- the answers for what follows the mark
module _ {l : Limits} {f : Bytes} where
  pub layout_none : read_file l f ≡ none → LayoutRead l f None
  unfolding q11_reads
  layout_none n = record { reads = rw n; places = λ q z. cc }

  pub layout_read : is_some (read_file l f) ≡ true → (q : Places) → Stand q f 7 → LayoutRead l f (Some q)
  unfolding q11_reads
  layout_read n q h = record { reads = sym n; places = λ q' z p part. moved q' z p part }
    where
      moved : (q' : Places) → ◌≡◌ {A = Optional Places} (Some q) (Some q') → (p : Package) (part : FilePart l f p) → PlacesOf q' l f p part
      moved q' z p part = let w : q ≡ q' = cc in subst (λ (x : Places). PlacesOf x l f p part) w (stand_places q l f h p part)

-- the answers for a file
module _ {l : Limits} {f : Bytes} where
  pub unmarked : q10_marked f ≡ false → PackageRead l f (Err refused.FileMark)
  unmarked e = record { number = rw e; places = λ q z. cc }

  pub package_read : q10_marked f ≡ true → (r : Optional Places) → LayoutRead l f r → PackageRead l f (ok_or r refused.FileLayout)
  package_read e None h = record { number = rw (e, sym h.reads); places = λ q z. cc }
  package_read e (Some q) h = record { number = rw (e, sym h.reads); places = λ q' z p part. h.places q' (cc) p part }
