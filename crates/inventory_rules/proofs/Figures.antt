-- The figures of a sound store's page are small: each is below 10 ^ 20, so that its digits read back. Assumes nothing.
use Prim.Native.Nat.{ℕ, ◌+◌, ◌*◌, ◌≤◌}
use native.Mathlib.Omega.{arith}
use mathlib.Core.Path.{◌≡◌, refl, sym, subst}
use mathlib.Core.Logic.{inl, inr}
use mathlib.Core.List.Memᴰ
use mathlib.Core.List.{List, [], ◌∷◌, Memᴰ}
use mathlib.Core.Option.{Option, none, some}
use lib.Dec.{T, leb, leb→le}
use lib.ListN.{length}
use Rattle.rules.specs.Bytes.{Bytes}
use Rattle.rules.specs.Package.{Limits, Package, read_file}
use Rattle.rules.specs.Store.{Entry, domain, loaded, store_limits}
use Rattle.rules.specs.Questions.{q1_size}
use Rattle.rules.specs.Operations.{sound, entries}
use Rattle.rules.proofs.Tests.{and_r, of_true, flat_mem_is, list_of_mem}
use Rattle.rules.proofs.Written.{entries_few}
use Rattle.inventory_rules.specs.Inventory.{sum_of, Line, line_of, lines_of, package_of, file_bytes_of, methods_of, entry_methods, totals_of, file_bytes}
use Rattle.inventory_rules.proofs.Held.{sound_size}
use Rattle.inventory_rules.proofs.Used.{entries_sum, entries_fit}
use Rattle.inventory_rules.proofs.Few.{methods_few}

-- an element gives no more than all
sum_member : {A : Type 0} (f : A → ℕ) (xs : List A) (x : A) → Memᴰ x xs → f x ≤ sum_of f xs
sum_member f [] x m = elim m [ ]
sum_member f (y ∷ ys) x (Memᴰ.head e) = subst (λ z. f z ≤ f y + sum_of f ys) (sym e) (omega arith)
sum_member f (y ∷ ys) x (Memᴰ.tail m) = let h = sum_member f ys x m in omega arith

-- no more packages than entries, and at most 2,048 methods each
packages_few : (es : List Entry) → sum_of package_of es ≤ length es
packages_few [] = omega arith
packages_few (domain k a ∷ es) = let h = packages_few es in omega arith
packages_few (loaded d f ∷ es) = let h = packages_few es in omega arith

read_few : (l : Limits) (f : Bytes) → methods_of (read_file l f) ≤ 2048
read_few l f = go (read_file l f) (methods_few l f)
  where
    go : (o : Option Package) → ((p : Package) → o ≡ some p → methods_of (some p) ≤ 2048) → methods_of o ≤ 2048
    go none h = omega arith
    go (some p) h = h p refl

entries_methods : (l : Limits) (es : List Entry) → sum_of (entry_methods l) es ≤ 2048 * sum_of package_of es
entries_methods l [] = omega arith
entries_methods l (domain k a ∷ es) = let h = entries_methods l es in omega arith
entries_methods l (loaded d f ∷ es) = let h = entries_methods l es in omega (arith, h, read_few l f)

-- a line's figures
line_few : (l : Limits) (es : List Entry) (x : Line) → Memᴰ x (lines_of l es) → (x.bytes ≤ file_bytes es) × (x.methods ≤ 2048)
line_few l es x m = let e = flat_mem_is (line_of l) es x m in go e.0 e.1 e.2
  where
    go : (e : Entry) → Memᴰ e es → Memᴰ x (line_of l e) → (x.bytes ≤ file_bytes es) × (x.methods ≤ 2048)
    go (domain k a) i q = elim q [ ]
    go (loaded d f) i q =
        let p = list_of_mem (read_file l f) _ x q in
        elim (Memᴰ.cases_cons p.2) [
          | inl z ↦ subst (λ (y : Line). (y.bytes ≤ file_bytes es) × (y.methods ≤ 2048)) (sym z)
              (sum_member file_bytes_of es (loaded d f) i, methods_few l f p.0 p.1)
          | inr z ↦ elim z [ ]
        ]

module _ (s : Bytes) (h : T (sound s)) where
  size_most : length s ≤ 65535
  unfolding q1_size
  size_most = leb→le (length s) 65535 (and_r (leb 64 (length s)) (leb (length s) 65535) (of_true (sound_size s h)))

  pub totals_few : ((totals_of (store_limits s) (entries s)).packages ≤ 65535) × ((totals_of (store_limits s) (entries s)).bytes ≤ 65535)
      × ((totals_of (store_limits s) (entries s)).methods ≤ 2048 * (totals_of (store_limits s) (entries s)).packages)
  totals_few =
      let n = size_most in
      let fits = entries_fit s h in
      let es : List Entry = entries s in
      (omega (arith, n, fits, entries_few es, packages_few es), omega (arith, n, fits, entries_sum es), entries_methods (store_limits s) es)

  pub lines_few : (x : Line) → Memᴰ x (lines_of (store_limits s) (entries s)) → (x.bytes ≤ 65535) × (x.methods ≤ 2048)
  lines_few x m = let r = line_few (store_limits s) (entries s) x m in (omega (arith, r.0, totals_few.1), r.1)
