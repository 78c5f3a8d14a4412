-- Questions 10 to 14 of a file over sound entries: the answer from that of each. Assumes nothing.
use Prim.Native.Nat.{ℕ}
use mathlib.Core.Path.{◌≡◌, sym, ◌∙◌}
use mathlib.Core.Bool.{true, false}
use mathlib.Core.List.{List}
use mathlib.Core.Option.{none, some}
use lib.ListN.{length}
use Rattle.rules.specs.Bytes.{Bytes, Aid}
use Rattle.rules.specs.Package.{Package, read_file}
use Rattle.rules.specs.Store.{Entry, store_limits, store_opening}
use Rattle.rules.specs.Classes.{Installed, installed}
use Rattle.rules.specs.Questions.{q10_marked, q11_reads, q12_new, q13_imports, q14_parents}
use Rattle.rules.specs.Operations.{first_no, package_questions, load_questions, deepest}
use Rattle.rules.proofs.Tests.{of_true}
use Rattle.imports.specs.Say.{NewIs, ImportsIs}
use Rattle.homes.specs.Homes.{Imports}
use Rattle.depths.specs.Depths.{ParentedIs}
use Rattle.std.specs.Prelude.{Some, None, Ok, Err}
use Rattle.store.specs.Sound.{Over}
use Rattle.judge.specs.Says.{FileRead, Asked14, asks, from, file_asks, ParentsAnswer}
use Rattle.refusals.specs.declared.refusal.Refusal.{Refusal}
use Rattle.refusals.specs.declared.refusal.Refusal.TheVariants as refused
use Rattle.refusals.specs.Refusals.{number_of}
use Rattle.judge.proofs.Answers.{number_no, number-yes}
use Rattle.judge.proofs.Settings.{self_of, setting}

module _ (s : Bytes) (end : ℕ) (f : Bytes) where
  -- 10 and 11 answered no
  pub parents_10 : (g : Refusal) → number_of g ≡ 10 → q10_marked f ≡ false → ParentsAnswer s end f (Err g)
  unfolding load_questions
  parents_10 g n h d es o =
      let no : 10 ≡ first_no (file_asks s es d f) =
      number_no 10 (q10_marked f) (package_questions (store_opening s) (length s) es d f (read_file (store_limits s) f)) h in
      n ∙ no

  module _ (ten : q10_marked f ≡ true) where
    pub parents_11 : (g : Refusal) → number_of g ≡ 11 → read_file (store_limits s) f ≡ none → ParentsAnswer s end f (Err g)
    unfolding load_questions package_questions q11_reads
    parents_11 g n e d es o =
        let no : 11 ≡ first_no (file_asks s es d f) =
        number-yes 10 (q10_marked f) (package_questions (store_opening s) (length s) es d f (read_file (store_limits s) f)) 11 ten (rw e) in
        n ∙ no

    module _ (p : Package) (eleven : read_file (store_limits s) f ≡ some p) where
      -- a number from 12 on is one from 10 on
      read_number : (d : Aid) (es : List Entry) (n : ℕ) → n ≡ first_no (from 12 (asks s es d f p)) → n ≡ first_no (file_asks s es d f)
      unfolding load_questions package_questions q11_reads
      read_number d es n h = number-yes 10 (q10_marked f) (package_questions (store_opening s) (length s) es d f (read_file (store_limits s) f)) n ten (rw eleven h)

      -- the file that is read
      read : (es : List Entry) → Over s end es → FileRead s end f es p
      read es o = record { over = o; reads = eleven }

      pub parents_12 : NewIs f s end false → ParentsAnswer s end f (Err refused.PackageExists)
      unfolding package_questions
      parents_12 n d es o =
          read_number d es 12 (number_no 12 (q12_new (installed (store_limits s) es) p) (from 13 (asks s es d f p))
          (sym (n es (self_of d p) (setting d (read es o)))))

      module _ (twelve : NewIs f s end true) where
        -- 12 was answered yes
        is_new : (d : Aid) (es : List Entry) → Over s end es → q12_new (installed (store_limits s) es) p ≡ true
        is_new d es o = sym (twelve es (self_of d p) (setting d (read es o)))

        pub parents_13 : ImportsIs f s end false → ParentsAnswer s end f (Err refused.ImportMissing)
        unfolding package_questions
        parents_13 n d es o =
            read_number d es 13 (number-yes 12 (q12_new (installed (store_limits s) es) p) (from 13 (asks s es d f p)) 13 (is_new d es o)
            (number_no 13 (q13_imports (installed (store_limits s) es) p) (from 14 (asks s es d f p))
            (sym (n es (self_of d p) (setting d (read es o))))))

        module _ (thirteen : ImportsIs f s end true) where
          -- 13 was answered yes
          has_imports : (d : Aid) (es : List Entry) → Over s end es → q13_imports (installed (store_limits s) es) p ≡ true
          has_imports d es o = sym (thirteen es (self_of d p) (setting d (read es o)))

          imported : (d : Aid) (es : List Entry) → Over s end es → Imports f s end es (self_of d p)
          imported d es o = record { setting = setting d (read es o); imports = of_true (has_imports d es o) }

          -- what question 14 is asked over
          pub imports_there : (d : Aid) (es : List Entry) → Over s end es → (es : List Entry) × (self : Installed) × Imports f s end es self
          imports_there d es o = (es, self_of d p, imported d es o)

          pub parents_14 : ParentedIs f s end None → ParentsAnswer s end f (Err refused.ClassParents)
          unfolding package_questions
          parents_14 n d es o =
              let rest = from 15 (asks s es d f p) in
              let no = number_no 14 (q14_parents (store_limits s) (installed (store_limits s) es) (self_of d p)) rest
              (n es (self_of d p) (imported d es o)) in
              let from_13 = number-yes 13 (q13_imports (installed (store_limits s) es) p) (from 14 (asks s es d f p)) 14 (has_imports d es o) no in
              read_number d es 14 (number-yes 12 (q12_new (installed (store_limits s) es) p) (from 13 (asks s es d f p)) 14 (is_new d es o)
              from_13)

          pub parents_yes : (depth : ℕ) → ParentedIs f s end (Some depth) → ParentsAnswer s end f (Ok depth)
          unfolding deepest
          parents_yes depth y d es o =
              let q = y es (self_of d p) (imported d es o) in
              let asked : Asked14 s end d f es p = record {
                read = read es o;
                q12 = of_true (is_new d es o);
                q13 = of_true (has_imports d es o);
                q14 =
                    of_true q.0;
              } in
              (p, asked, ten, q.1)
