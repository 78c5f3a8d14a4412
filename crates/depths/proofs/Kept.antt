-- The table of depths over an operation: at the start, behind a domain's entry, behind a package's. Assumes nothing.
use Prim.Native.Nat.{ℕ, suc, ◌+◌, ◌/◌, ◌≤◌, ◌<◌}
use native.Mathlib.Omega.{arith}
use mathlib.Core.Path.{◌≡◌, sym, ◌∙◌, ap, ap₂, subst}
use mathlib.Core.List.{List, [], ◌∷◌, ◌++◌}
use mathlib.Core.Option.{some, some-injective}
use lib.Dec.{T, eqb→eq}
use lib.ListN.{length, get_or, replicate, length-replicate}
use Rattle.rules.specs.Bytes.{Bytes, Aid, at}
use Rattle.rules.specs.Package.{Class, Package, read_file}
use Rattle.rules.specs.Store.{DomainKind, Entry, domain, loaded, first_entry, store_limits, store_opening}
use Rattle.rules.specs.Classes.{Installed, depth_up_to}
use Rattle.rules.specs.Questions.{own}
use Rattle.rules.specs.Operations.{accepted, accepted_all}
use Rattle.rules.proofs.Tests.{and_l, and_r}
use Rattle.rules.proofs.Asked.{LoadYes, load_yes}
use Rattle.rules.proofs.Sound.{installed_domain}
use Rattle.rules.proofs.Step.{accepted_append}
use Rattle.store.specs.Entries.{part, EntryAt, Entries, StandFrom}
use Rattle.store.proofs.Parts.{part_length}
use Rattle.store.proofs.Stand.{entries_over, entries_one, entries_more}
use Rattle.homes.specs.Homes.{Stored}
use Rattle.homes.specs.declared.Home.{Home}
use Rattle.named.specs.Named.{Stands}
use Rattle.depths.specs.Depths.{DepthsKept, OwnDepths, FileKept, depth_of, depth_width, depth_field, depths_length}
use Rattle.depths.proofs.Records.{RecordBy}
use Rattle.depths.proofs.Longer.{among_none, StoredOr, before, last, stored_or}
use Rattle.depths.proofs.Later.{own_is, other_is, class_record}

-- nothing stands before the first entry
pub depths_start : (s : Bytes) (n : ℕ) → depths_length s ≤ n → DepthsKept s (first_entry s) (replicate n 0)
depths_start s n r = record {
  room = omega (arith, r, length-replicate {A = ℕ} n 0);
  told = λ es size stand sound h x t.
      absurd (among_none t.pre (loaded x.domain (part s h.from h.to)) t.post
      (sym (entries_over s (first_entry s) es (first_entry s) (omega arith) stand) ∙ t.are));
}

-- what the table tells of given entries
abbrev Tells : Bytes → List Entry → List ℕ → Type 0
Tells s es t = (h : Home) (x : Installed) → Stored s es h x → (n : ℕ) (k : Class) (i : ℕ) → at x.pack.classes n ≡ some k → 0 < length k.parents →
    Stands (part s h.from h.to) n i → depth_field (depth_width s) t ((h.from + i) / 5) + 1 ≡ depth_of s es (own x n)

-- entries and one more
module _ (s : Bytes) (es : List Entry) (end : ℕ) (e : Entry) (next : ℕ) (stand : Entries s (first_entry s) es end) (one : EntryAt s end e next) where
  abbrev Sound : ℕ → List Entry → Type 0
  Sound size zs = T (accepted_all (store_opening s) size [] zs)

  -- they are all that end there
  kept_by : (t : List ℕ) → depths_length s ≤ length t → ((size : ℕ) → Sound size (es ++ e ∷ []) → Tells s (es ++ e ∷ []) t) → DepthsKept s next t
  kept_by t room q = record { room = room; told = told }
    where
      told : (zs : List Entry) (size : ℕ) → Entries s (first_entry s) zs next → Sound size zs → Tells s zs t
      told zs size there sound =
          let z : zs ≡ es ++ e ∷ [] = entries_one s (first_entry s) zs (es ++ e ∷ []) next there (entries_more s (first_entry s) es end e next stand one) in
          subst (λ (ys : List Entry). Tells s ys t) (sym z) (q size (subst (Sound size) z sound))

  -- the others were accepted, and it over them
  both : (size : ℕ) → Sound size (es ++ e ∷ []) → Sound size es × T (accepted (store_opening s) size es e)
  both size sound =
      let h = subst T (accepted_append (store_opening s) size [] es (e ∷ [])) sound in
      let r = and_r (accepted_all (store_opening s) size [] es) _ h in
      (and_l (accepted_all (store_opening s) size [] es) _ h, and_l (accepted (store_opening s) size es e) _ r)

-- a domain more
pub depths_domain : (s : Bytes) (at next : ℕ) {kind : DomainKind} (a : Aid) (t : List ℕ) → DepthsKept s at t → EntryAt s at (domain kind a) next →
    StandFrom s (first_entry s) at →
    DepthsKept s next t
depths_domain s end next {kind} a t kept one st = kept_by s es end (domain kind a) next st.1 one t kept.room told
  where
    es : List Entry
    es = st.0

    told : (size : ℕ) → T (accepted_all (store_opening s) size [] (es ++ domain kind a ∷ [])) → Tells s (es ++ domain kind a ∷ []) t
    told size sound h x y n k i is ps here = elim (stored_or s es end (domain kind a) next st.1 one h x y) [
      | before p l ↦
          let z = kept.told es size st.1 (both s es end (domain kind a) next st.1 one size sound).0 h x p n k i is ps here in
          z ∙ ap (λ (v : List Installed). depth_up_to v (suc (store_limits s).depth) (own x n)) (sym (installed_domain (store_limits s) es kind a))
      | last p l ↦ let z : ◌≡◌ {A = ℕ} 0 1 = cc in absurd (omega arith)
    ]

-- a package more: the earlier depths stay, since the records before it have fields before its own
pub depths_next : (s : Bytes) (at from next : ℕ) (d : Aid) (t t' ds : List ℕ) → DepthsKept s at t → EntryAt s at (loaded d (part s from next)) next →
    at < from → from ≤ next → OwnDepths (part s from next) s at ds → FileKept (depth_width s) (part s from next) from ds t' →
    ((j : ℕ) → j < from / 5 → depth_field (depth_width s) t' j ≡ depth_field (depth_width s) t j) → length t' ≡ length t →
    StandFrom s (first_entry s) at → DepthsKept s next t'
depths_next s end from next d t t' ds kept one l₁ l₂ o w same len st = kept_by s es end e next st.1 one t' (omega (arith, kept.room, len)) told
  where
    es : List Entry
    es = st.0

    e : Entry
    e = loaded d (part s from next)

    told : (size : ℕ) → T (accepted_all (store_opening s) size [] (es ++ e ∷ [])) → Tells s (es ++ e ∷ []) t'
    told size sound h x y n k i z ps here = go (stored_or s es end e next st.1 one h x y)
      where
        ok : T (accepted_all (store_opening s) size [] es) × T (accepted (store_opening s) size es e)
        ok = both s es end e next st.1 one size sound

        p : (p : Package) × LoadYes (store_opening s) size es d (part s from next) p
        p = load_yes (store_opening s) size es d (part s from next) (eqb→eq _ 0 ok.1)

        by : RecordBy (part s h.from h.to) i k
        by = class_record s h.from h.to x.pack n i k y.reads z here

        -- its record ends before the entry
        earlier : h.to ≤ end → (h.from + i) / 5 < from / 5
        earlier b =
            let r = (by.parent 0 (omega (arith, by.count, ps))).to in
            omega (arith, b, r, l₁, part_length s h.from h.to y.entry.to, y.order)

        go : StoredOr s es end e next h x → depth_field (depth_width s) t' ((h.from + i) / 5) + 1 ≡ depth_of s (es ++ e ∷ []) (own x n)
        go (before v b) =
            ap (λ (m : ℕ). m + 1) (same ((h.from + i) / 5) (earlier b))
            ∙ other_is s (part s from next) es end d st.1 size ok.0 p.0 p.1 t kept h x v n k i z ps here
        go (last v b) =
            w' ∙ own_is s (part s from next) es end d st.1 size ok.0 p.0 p.1 ds o x x_is n k z
          where
            file : part s h.from h.to ≡ part s from next
            file = cc

            place : h.from ≡ from
            place = omega (arith, ap length file, part_length s h.from h.to y.entry.to, part_length s from next one.to, b, y.order, l₂)

            x_is : x ≡ record { domain = d; pack = p.0 }
            x_is =
                let a : x.domain ≡ d = cc in
                let c : x.pack ≡ p.0 = some-injective _ _ (sym y.reads ∙ ap (read_file (store_limits s)) file ∙ p.1.q11) in
                ap₂ (λ (u : Aid) (v : Package). record { domain = u; pack = v }) a c

            w' : depth_field (depth_width s) t' ((h.from + i) / 5) + 1 ≡ get_or ds n 0
            w' = ap (λ (m : ℕ). depth_field (depth_width s) t' ((m + i) / 5) + 1) place
                ∙ w n i (subst (λ (g : Bytes). Stands g n i) file here) (omega (arith, ps, by.count, ap (λ (g : Bytes). get_or g (i + 1) 0) file))
