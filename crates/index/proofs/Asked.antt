-- The package of an AID, asked by the index. Assumes nothing.
use Prim.Native.Nat.{ℕ, ◌+◌, ◌<◌}
use native.Mathlib.Omega.{arith}
use mathlib.Core.Path.{◌≡◌, sym, ◌∙◌, ap, ap₂, subst}
use mathlib.Core.List.{List}
use mathlib.Core.Option.{some, some-injective}
use lib.ListN.{length}
use Rattle.rules.specs.Bytes.{Bytes, Aid}
use Rattle.rules.specs.Store.{Entry, domain, loaded}
use Rattle.rules.proofs.Tests.{none_some}
use Rattle.store.specs.Entries.{part, EntryAt, own_aid}
use Rattle.store.specs.Answers.{FileAt}
use Rattle.std.specs.Prelude.{Some, None}
use Rattle.store.proofs.Stand.{entry_one}
use Rattle.store.proofs.Asked.{named_by, package_found, package_none}
use Rattle.sorted.specs.Sorted.{key_at, Has, Found}
use Rattle.sorted.proofs.Table.{one_place}
use Rattle.index.specs.Index.{file_from, entry_to, Stood, package_key, IndexIs}
use Rattle.index.proofs.Entered.{FoundThere, any_stood}
use Rattle.index.proofs.Tables.{found_has, found_none, found_any}
use Rattle.index.proofs.Entering.{named_key, key_named}
use Rattle.index.proofs.Here.{PackageBy, package_by}

module _ (s : Bytes) (end : ℕ) (index : List ℕ) (a : Aid) (i : IndexIs s end index) where
  -- none is found
  pub package_missing : Found s index a None → FileAt s end a None
  package_missing w es r h = package_none s es a h (found_none package_key s end index i.table a (named_by a) (named_key a) w es r)

  -- the place that is found: a package's entry with this AID
  record Here (q : ℕ) : Type 0 where
    pub home : Aid
    pub file : Bytes
    pub next : ℕ
    pub stood : Stood s end q (loaded home file) next
    pub own : a ≡ own_aid file

  found_here : (q : ℕ) → Found s index a (Some q) → Here q
  found_here q h = let o = i.table.only q h.0 in go o.one o.next o.stood (o.named ∙ ap some h.1)
    where
      go : (e : Entry) (j : ℕ) → Stood s end q e j → package_key e ≡ some a → Here q
      go (domain x b) j t k = absurd (none_some k)
      go (loaded d f) j t k = record { home = d; file = f; next = j; stood = t; own = sym (some-injective _ _ k) }

  pub found_inside : (q : ℕ) → Found s index a (Some q) → q + 3 < length s
  found_inside q w =
      let o = found_here q w in
      let b = package_by s q o.home o.file o.next o.stood.stands in
      omega (arith, b.head, o.stood.stands.to)

  pub package_there : (q m j : ℕ) → Found s index a (Some q) → m ≡ file_from s q → j ≡ entry_to s q → FileAt s end a (Some (record { at = q; from = m; to = j }))
  package_there q m j there d e es r h =
      package_found r h (y.place ∙ ap₂ (λ (u v : ℕ). some (u, v)) place to) (omega (arith, d, e, b.inside, b.to)) stands.to
      (λ v u. (entry_one s q v (loaded o.home (part s m j)) j j u stands).0)
    where
      o : Here q
      o = found_here q there

      b : PackageBy s q o.home o.file o.next
      b = package_by s q o.home o.file o.next o.stood.stands

      next : o.next ≡ j
      next = sym b.to ∙ sym e

      file : o.file ≡ part s m j
      file = b.file ∙ ap₂ (part s) (sym d) next

      stands : EntryAt s q (loaded o.home (part s m j)) j
      stands =
          subst (EntryAt s q (loaded o.home (part s m j))) next (subst (λ (v : Bytes). EntryAt s q (loaded o.home v) o.next) file o.stood.stands)

      y : FoundThere (named_by a) s end es
      y = any_stood (named_by a) s end es r (found_any package_key s end index i.table a (named_by a) (key_named a) q there.0 there.1 es r)

      has : Has index y.from × (key_at s y.from ≡ a)
      has = found_has package_key s end index i.table a (named_by a) (named_key a) es y

      place : y.from ≡ q
      place = one_place s index i.table.sorted y.from q has.0 there.0 (has.1 ∙ sym there.1)

      to : y.to ≡ j
      to =
          (entry_one s q y.one (loaded o.home (part s m j)) y.to j (subst (λ (v : ℕ). EntryAt s v y.one y.to) place y.stood.stands) stands).1
