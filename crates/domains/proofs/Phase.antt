-- Going through the entries of a store in order with their domains: what is known where a turn begins, and what its end says. Assumes nothing.
use Prim.Native.Nat.{ℕ, ◌≤◌, ◌<◌}
use native.Mathlib.Omega.{arith}
use mathlib.Core.Path.{◌≡◌, refl, sym, ◌∙◌, ap}
use mathlib.Core.Bool.{Bool, true, false, ◌&&◌}
use mathlib.Core.List.{List, [], ◌∷◌, ◌++◌, append_assoc}
use Rattle.rules.specs.Bytes.{Bytes}
use Rattle.rules.specs.Limits.{Limits}
use Rattle.rules.specs.Store.{Entry, domain, loaded, first_entry, store_limits}
use Rattle.store.specs.Entries.{part, kind_at, EntryAt, Entries, StandFrom, FirstIs}
use Rattle.store.specs.Answers.{PartAt}
use Rattle.std.specs.Prelude.{Some, None}
use Rattle.store.specs.declared.EntryPart.TheVariants as parts
use Rattle.store.proofs.Stand.{entries_to, entries_more}
use Rattle.store.proofs.Walk.{first_later}
use Rattle.domains.specs.Domains.{domain_accepted, domains_accepted, EntrySays, AllSay}
use Rattle.domains.proofs.Split.{domains_append}

-- of the entries es, those up to place `at` have accepted domains, and the others stand from there up to `end`
pub record Passed (s : Bytes) (end at : ℕ) (es : List Entry) : Type 0 where
  pub pre : List Entry
  pub rest : List Entry
  pub are : es ≡ pre ++ rest
  pub stand : Entries s (first_entry s) pre at
  pub domains : domains_accepted (store_limits s) [] pre ≡ true
  pub behind : Entries s at rest end

abbrev pub Passing : Bytes → ℕ → ℕ → Type 0
Passing s end at = (es : List Entry) → Entries s (first_entry s) es end → Passed s end at es

pub passing_start : (s : Bytes) (end : ℕ) → Passing s end (first_entry s)
passing_start s end es r =
    let t = entries_to s (first_entry s) es end r in
    record { pre = []; rest = es; are = refl; stand = Entries.over {i = first_entry s} (omega (arith, t.0, t.1)); domains = refl; behind = r }

module _ (s : Bytes) (end at : ℕ) (es : List Entry) (g : Passed s end at es) where
  abbrev l : Limits
  l = store_limits s

  -- what is left of the whole
  whole : domains_accepted l [] es ≡ domains_accepted l g.pre g.rest
  whole =
      ap (domains_accepted l []) g.are ∙ domains_append l [] g.pre g.rest
      ∙ ap (λ (b : Bool). b && domains_accepted l g.pre g.rest) g.domains

  module _ (e : Entry) (next : ℕ) (f : FirstIs s at e next end g.rest) where
    -- an entry whose domain is accepted
    passed_on : domain_accepted l g.pre e ≡ true → Passed s end next es
    passed_on a = record {
      pre = g.pre ++ e ∷ [];
      rest = f.rest;
      are = g.are ∙ ap (λ (zs : List Entry). g.pre ++ zs) f.are ∙ sym (append_assoc g.pre (e ∷ []) f.rest);
      stand = entries_more s (first_entry s) g.pre at e next g.stand f.stands;
      domains = domains_append l [] g.pre (e ∷ []) ∙ ap (λ (b : Bool). b && (domain_accepted l g.pre e && true)) g.domains
          ∙ ap (λ (b : Bool). b && true) a;
      behind = f.after;
    }

    -- one whose domain is not
    passed_bad : domain_accepted l g.pre e ≡ false → domains_accepted l [] es ≡ false
    passed_bad a = whole ∙ ap (domains_accepted l g.pre) f.are ∙ ap (λ (b : Bool). b && domains_accepted l (g.pre ++ e ∷ []) f.rest) a

-- a turn
module _ (s : Bytes) (end at : ℕ) (g : Passing s end at) where
  pub passing_from : StandFrom s (first_entry s) end → StandFrom s at end
  passing_from t = let r = g t.0 t.1 in (r.rest, r.behind)

  -- at a domain
  module _ (a j : ℕ) (p : PartAt s at end (Some (parts.Domain a j))) where
    pub domain_first : StandFrom s (first_entry s) end → EntryAt s at (domain (kind_at s at) (part s a j)) j × (a ≤ j) × (at < j) × (j ≤ end)
    domain_first t =
        let r = g t.0 t.1 in
        let q = p r.rest r.behind in
        let b = first_later q.1 in
        (q.1.stands, q.0, b.0, b.1)

    pub domain_on : EntrySays s at (domain (kind_at s at) (part s a j)) true → Passing s end j
    domain_on y es t = let r = g es t in passed_on s end at es r (domain (kind_at s at) (part s a j)) j (p r.rest r.behind).1 (sym (y r.pre r.stand))

    pub domain_bad : EntrySays s at (domain (kind_at s at) (part s a j)) false → AllSay s end false
    domain_bad y es t =
        let r = g es t in
        sym (passed_bad s end at es r (domain (kind_at s at) (part s a j)) j (p r.rest r.behind).1 (sym (y r.pre r.stand)))

  -- at a package
  module _ (a m j : ℕ) (p : PartAt s at end (Some (parts.Package a m j))) where
    pub package_first : StandFrom s (first_entry s) end → EntryAt s at (loaded (part s a m) (part s m j)) j × (a ≤ m) × (m ≤ j) × (at < j) × (j ≤ end)
    package_first t =
        let r = g t.0 t.1 in
        let q = p r.rest r.behind in
        let b = first_later q.2 in
        (q.2.stands, q.0, q.1, b.0, b.1)

    pub package_on : EntrySays s at (loaded (part s a m) (part s m j)) true → Passing s end j
    package_on y es t =
        let r = g es t in
        passed_on s end at es r (loaded (part s a m) (part s m j)) j (p r.rest r.behind).2 (sym (y r.pre r.stand))

    pub package_bad : EntrySays s at (loaded (part s a m) (part s m j)) false → AllSay s end false
    package_bad y es t =
        let r = g es t in
        sym (passed_bad s end at es r (loaded (part s a m) (part s m j)) j (p r.rest r.behind).2 (sym (y r.pre r.stand)))

  -- at the end
  pub all_done : PartAt s at end None → AllSay s end true
  all_done p es t = let v = g es t in sym (whole s end at es v ∙ ap (domains_accepted (store_limits s) v.pre) (p v.rest v.behind).0)
