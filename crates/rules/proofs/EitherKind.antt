-- Creation and deletion treat both kinds of domains the same, but for the kind that a creation enters. Assumes nothing.
use Prim.Native.Nat.{ℕ}
use mathlib.Core.Path.{◌≡◌, refl, ◌∙◌, ap}
use mathlib.Core.Bool.{Bool, true, false}
use mathlib.Core.List.{List, [], ◌∷◌, ◌++◌, append-nil}
use lib.ListN.{length}
use Rattle.rules.specs.Bytes.{Bytes, Aid, pick, same, high, low}
use Rattle.rules.specs.Package.{Limits}
use Rattle.rules.specs.Store.{Opening, DomainKind, full, without_int, Entry, domain, loaded, entry_bytes, entries_bytes, write, store_opening}
use Rattle.rules.specs.Classes.{Installed, installed_by, installed}
use Rattle.rules.specs.Questions.{domains, q5_created, q21_fits}
use Rattle.rules.specs.Operations.{create_questions, delete_questions, entries, create, number, is_domain, without, after}
use Rattle.rules.specs.Ledger.{ledger_number, ledger_step}
use Rattle.rules.specs.Barred.{SameButKinds, same_end, same_domain, same_package}
use Rattle.rules.proofs.Lists.{flat_append}

-- both creations ask the same
pub creations_ask : (s : Bytes) (a : Aid) → number s (create without_int a) ≡ number s (create full a)
unfolding number create_questions q21_fits
creations_ask s a = refl

-- a creation that is done appends its entry
pub creation_appends : (s : Bytes) (k : DomainKind) (a : Aid) → number s (create k a) ≡ 0 →
    after s (create k a) ≡ write (store_opening s) (length s) (entries s ++ domain k a ∷ [])
unfolding after
creation_appends s k a e = rw e

pub ledger_appends : (v : Opening) (n : ℕ) (es : List Entry) (k : DomainKind) (a : Aid) → ledger_number v n es (create k a) ≡ 0 →
    ledger_step v n es (create k a) ≡ es ++ domain k a ∷ []
unfolding ledger_step
ledger_appends v n es k a e = rw e

-- the bytes of one of kind 3
pub bytes_appended : (es : List Entry) (a : Aid) →
    entries_bytes (es ++ domain without_int a ∷ []) ≡ entries_bytes es ++ (0x03 ∷ high (length a) ∷ low (length a) ∷ a)
bytes_appended es a =
    flat_append entry_bytes es (domain without_int a ∷ []) ∙ ap (λ (bs : Bytes). entries_bytes es ++ bs) (append-nil (entry_bytes (domain without_int a)))

-- two lists of entries that differ in kinds alone have the same created domains and the same installed packages
alike_domains : {es fs : List Entry} → SameButKinds es fs → domains es ≡ domains fs
alike_domains same_end = refl
alike_domains (same_domain {a = a} r) = ap (λ (ds : List Aid). a ∷ ds) (alike_domains r)
alike_domains (same_package r) = alike_domains r

alike_installed : (l : Limits) {es fs : List Entry} → SameButKinds es fs → installed l es ≡ installed l fs
alike_installed l same_end = refl
alike_installed l (same_domain r) = alike_installed l r
alike_installed l (same_package {d = d} {f = f} r) = ap (λ (is : List Installed). installed_by l (loaded d f) ++ is) (alike_installed l r)

-- so a deletion's questions are answered the same
pub deletion_asks : (l : Limits) (es fs : List Entry) → SameButKinds es fs → (a : Aid) → delete_questions l es a ≡ delete_questions l fs a
unfolding delete_questions q5_created
deletion_asks l es fs r a = rw (alike_domains r, alike_installed l r)

-- and what it leaves differs in kinds alone
pub deletion_leaves : (es fs : List Entry) → SameButKinds es fs → (a : Aid) → SameButKinds (without (is_domain a) es) (without (is_domain a) fs)
deletion_leaves es fs same_end a = same_end
deletion_leaves es fs (same_domain {k = k} {h = h} {a = b} {es = xs} {fs = ys} r) a = go (same a b) (deletion_leaves xs ys r a)
  where
    go : (t : Bool) → SameButKinds (without (is_domain a) xs) (without (is_domain a) ys) →
        SameButKinds (pick t xs (domain k b ∷ without (is_domain a) xs)) (pick t ys (domain h b ∷ without (is_domain a) ys))
    go true rest = r
    go false rest = same_domain rest
deletion_leaves es fs (same_package {es = xs} {fs = ys} r) a = same_package (deletion_leaves xs ys r a)
