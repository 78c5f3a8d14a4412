-- Entries that were accepted have accepted domains; and the domains of one list of entries behind another. Assumes nothing.
use Prim.Native.Nat.{ℕ}
use mathlib.Core.Path.{◌≡◌, refl, sym, ◌∙◌, ap}
use mathlib.Core.Bool.{Bool, true, false, ◌&&◌, ◌||◌, not}
use mathlib.Core.List.{List, [], ◌∷◌, ◌++◌, append_assoc, append-nil}
use mathlib.Core.Option.{some}
use lib.Dec.{T, eqb→eq}
use Rattle.rules.specs.Bytes.{Bytes, Aid}
use Rattle.rules.specs.Subset.{code_without_int}
use Rattle.rules.specs.Package.{Limits, Package, read_file}
use Rattle.rules.specs.Store.{Opening, opening_limits, Entry, domain, loaded}
use Rattle.rules.specs.Questions.{q3_lengths, q4_new, q5_created, q10_marked, all_codes, keeps_subset, q26_subset}
use Rattle.rules.specs.Operations.{accepted, accepted_all}
use Rattle.rules.proofs.Tests.{and_l, and_r, and_i}
use Rattle.rules.proofs.Asked.{create_yes, load_yes}
use Rattle.domains.specs.Domains.{reads_without_int, domain_accepted, domains_accepted}

-- 26, as it is asked here
reads_kept : (l : Limits) (es : List Entry) (d : Aid) (f : Bytes) (p : Package) → T (q10_marked f) → read_file l f ≡ some p → T (q26_subset es d p) →
    T (not (keeps_subset es d) || reads_without_int l f)
unfolding q26_subset reads_without_int
reads_kept l es d f p ten r h = rw r (go (not (keeps_subset es d)) (q10_marked f) ten h)
  where
    go : (a b : Bool) → T b → T (a || all_codes code_without_int p) → T (a || (b && all_codes code_without_int p))
    go true b t k = tt
    go false true t k = k
    go false false t k = absurd t

pub kept_reads : (l : Limits) (es : List Entry) (d : Aid) (f : Bytes) (p : Package) → read_file l f ≡ some p →
    T (not (keeps_subset es d) || reads_without_int l f) → T (q26_subset es d p)
unfolding q26_subset reads_without_int
kept_reads l es d f p r h = go (not (keeps_subset es d)) (q10_marked f) (rw r at h)
  where
    go : (a b : Bool) → T (a || (b && all_codes code_without_int p)) → T (a || all_codes code_without_int p)
    go true b k = tt
    go false true k = k
    go false false k = absurd k

-- one entry
pub accepted_domain : (v : Opening) (n : ℕ) (pre : List Entry) (e : Entry) → T (accepted v n pre e) → T (domain_accepted (opening_limits v) pre e)
accepted_domain v n pre (domain k a) h =
    let y = create_yes v n pre k a (eqb→eq _ 0 h) in
    and_i (q3_lengths (a ∷ [])) (q4_new pre a) y.q3 y.q4
accepted_domain v n pre (loaded d f) h =
    let x = load_yes v n pre d f (eqb→eq _ 0 h) in
    let y = x.1 in
    let kept = reads_kept (opening_limits v) pre d f x.0 y.q10 y.q11 y.q26 in
    and_i (q3_lengths (d ∷ [])) _ y.q3 (and_i (q5_created pre d) (not (keeps_subset pre d) || reads_without_int (opening_limits v) f) y.q5 kept)

-- the entries of a list
pub all_domains : (v : Opening) (n : ℕ) (pre es : List Entry) → T (accepted_all v n pre es) → T (domains_accepted (opening_limits v) pre es)
all_domains v n pre [] h = tt
all_domains v n pre (e ∷ es) h =
    and_i (domain_accepted (opening_limits v) pre e) _ (accepted_domain v n pre e (and_l (accepted v n pre e) _ h))
    (all_domains v n (pre ++ e ∷ []) es (and_r (accepted v n pre e) _ h))

-- entries one list behind the other
and_assoc : (a b c : Bool) → ((a && b) && c) ≡ (a && (b && c))
and_assoc true b c = refl
and_assoc false b c = refl

pub domains_append : (l : Limits) (pre xs ys : List Entry) →
    domains_accepted l pre (xs ++ ys) ≡ (domains_accepted l pre xs && domains_accepted l (pre ++ xs) ys)
domains_append l pre [] ys = ap (λ (zs : List Entry). domains_accepted l zs ys) (sym (append-nil pre))
domains_append l pre (x ∷ xs) ys =
    ap (λ (b : Bool). domain_accepted l pre x && b)
    (domains_append l (pre ++ x ∷ []) xs ys ∙ ap (λ (zs : List Entry). domains_accepted l (pre ++ x ∷ []) xs && domains_accepted l zs ys)
    (append_assoc pre (x ∷ []) xs))
    ∙ sym (and_assoc (domain_accepted l pre x) (domains_accepted l (pre ++ x ∷ []) xs) (domains_accepted l (pre ++ x ∷ xs) ys))
