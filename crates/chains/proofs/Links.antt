-- Links of a chain in a table: written, and kept where the table changes elsewhere; files in the bytes that hold them. Assumes nothing.
use Rattle.std.specs.Prelude.{Option as Optional}
use Rattle.classes.specs.declared.ClassSpot.{ClassSpot}
use Prim.Native.Nat.{ℕ, ◌+◌, ◌-◌, ◌*◌, ◌≤◌, ◌<◌}
use native.Mathlib.Omega.{arith}
use mathlib.Core.Path.{◌≡◌, refl, sym, ◌∙◌, ap, subst}
use mathlib.Core.Bool.{Bool, true, false}
use mathlib.Core.List.{List}
use lib.Dec.{eqb}
use lib.ListN.{length, get_or, set, drop, length-set}
use lib.Seq.{get_or-set_same, get_or-set_other, get_or-take, get_or-drop}
use borrow.Author.Tests.{eqb-true}
use Rattle.rules.specs.Bytes.{Bytes, pick}
use Rattle.store.specs.Entries.{part}
use Rattle.store.proofs.Parts.{part_length}
use Rattle.homes.specs.Homes.{file_of}
use Rattle.homes.specs.declared.Home.{Home}
use Rattle.classes.specs.Say.{RecordAt}
use Rattle.chains.specs.Chain.{all_links, names_start, link_home, link_place, with_link, LinkIs, Part, last, more, Same}
use Rattle.chains.specs.Names.{text_of, Held}

-- a home is its three places
home_of : ℕ → ℕ → ℕ → Home
home_of a b c = record { from = a; to = b; before = c }

pub home_of_lem : (h : Home) (a b c : ℕ) → a ≡ h.from → b ≡ h.to → c ≡ h.before → record { from = a; to = b; before = c } ≡ h
unfolding home_of
home_of_lem h a b c p q r = ap (λ (n : ℕ). home_of n b c) p ∙ ap (λ (n : ℕ). home_of h.from n c) q ∙ ap (λ (n : ℕ). home_of h.from h.to n) r

-- a link is written: four numbers, and the others are kept
module _ (old : List ℕ) (i : ℕ) (h : Home) (c : ℕ) (y : i < all_links) (z : names_start ≤ length old) where
  abbrev one : List ℕ
  one = set old (4 * i) h.from

  abbrev two : List ℕ
  two = set one (4 * i + 1) h.to

  abbrev three : List ℕ
  three = set two (4 * i + 2) h.before

  size_one : length one ≡ length old
  size_one = length-set old (4 * i) h.from

  size_two : length two ≡ length old
  size_two = length-set one (4 * i + 1) h.to ∙ size_one

  size_three : length three ≡ length old
  size_three = length-set two (4 * i + 2) h.before ∙ size_two

  pub link_size : length (with_link old i h c) ≡ length old
  link_size = length-set three (4 * i + 3) c ∙ size_three

  -- a number that is not written by the last stores
  after_one : (j : ℕ) → (j ≡ 4 * i + 1 → ⊥) → (j ≡ 4 * i + 2 → ⊥) → (j ≡ 4 * i + 3 → ⊥) → get_or (with_link old i h c) j 0 ≡ get_or one j 0
  after_one j p q r = get_or-set_other three (4 * i + 3) j c 0 r ∙ get_or-set_other two (4 * i + 2) j h.before 0 q ∙ get_or-set_other one (4 * i + 1) j h.to 0 p

  after_two : (j : ℕ) → (j ≡ 4 * i + 2 → ⊥) → (j ≡ 4 * i + 3 → ⊥) → get_or (with_link old i h c) j 0 ≡ get_or two j 0
  after_two j q r = get_or-set_other three (4 * i + 3) j c 0 r ∙ get_or-set_other two (4 * i + 2) j h.before 0 q

  pub set_home : link_home (with_link old i h c) i ≡ h
  set_home = home_of_lem h _ _ _
      (after_one (4 * i) (λ e. omega arith) (λ e. omega arith) (λ e. omega arith) ∙ get_or-set_same old (4 * i) h.from 0 (omega arith))
      (after_two (4 * i + 1) (λ e. omega arith) (λ e. omega arith) ∙ get_or-set_same one (4 * i + 1) h.to 0 (omega (arith, size_one)))
      (get_or-set_other three (4 * i + 3) (4 * i + 2) c 0 (λ e. omega arith) ∙ get_or-set_same two (4 * i + 2) h.before 0 (omega (arith, size_two)))

  pub set_place : link_place (with_link old i h c) i ≡ c
  set_place = get_or-set_same three (4 * i + 3) c 0 (omega (arith, size_three))

  pub link_below : (j : ℕ) → j < 4 * i → get_or (with_link old i h c) j 0 ≡ get_or old j 0
  link_below j b = after_one j (λ e. omega arith) (λ e. omega arith) (λ e. omega arith) ∙ get_or-set_other old (4 * i) j h.from 0 (λ e. omega arith)

  pub link_above : (j : ℕ) → 4 * i + 4 ≤ j → get_or (with_link old i h c) j 0 ≡ get_or old j 0
  link_above j b = after_one j (λ e. omega arith) (λ e. omega arith) (λ e. omega arith) ∙ get_or-set_other old (4 * i) j h.from 0 (λ e. omega arith)

-- the home of a link stands as it stood
pub link_home_same : (l m : List ℕ) (i : ℕ) {a : ℕ} → Same l m 0 a → 4 * i + 2 < a → link_home m i ≡ link_home l i
link_home_same l m i k z = home_of_lem (link_home l i) _ _ _ (k (4 * i) (omega arith) (omega arith)) (k (4 * i + 1) (omega arith) (omega arith))
    (k (4 * i + 2) (omega arith) (omega arith))

module _ (f s : Bytes) where
  -- a link stands as it stood
  pub link_same : (h : Home) (n i : ℕ) (l m : List ℕ) → Same l m (4 * i) (4 * (i + 1)) → LinkIs f s l h n i → LinkIs f s m h n i
  link_same h n i l m k t = record {
    home = home_of_lem h _ _ _
        (k (4 * i) (omega arith) (omega arith) ∙ ap (λ (a : Home). a.from) t.home)
        (k (4 * i + 1) (omega arith) (omega arith) ∙ ap (λ (a : Home). a.to) t.home)
        (k (4 * i + 2) (omega arith) (omega arith) ∙ ap (λ (a : Home). a.before) t.home);
    place = subst (RecordAt f s h n) (sym (k (4 * i + 3) (omega arith) (omega arith))) t.place;
  }

  pub part_inside : (l : List ℕ) (h : Home) (n i j : ℕ) (stop : Optional ClassSpot) → Part f s l h n i j stop → i < j
  part_inside l h n i j stop (last t q v e) = omega arith
  part_inside l h n i j stop (more d t q v p) = let w = part_inside l d.home d.number (i + 1) j stop p in omega arith

  pub part_link : (l : List ℕ) (h : Home) (n i j : ℕ) (stop : Optional ClassSpot) → Part f s l h n i j stop → LinkIs f s l h n i
  part_link l h n i j stop (last t q v e) = t
  part_link l h n i j stop (more d t q v p) = t

  -- and so does a part
  pub part_same : (l m : List ℕ) (h : Home) (n i j : ℕ) (stop : Optional ClassSpot) → Same l m (4 * i) (4 * j) → Part f s l h n i j stop → Part f s m h n i j stop
  part_same l m h n i j stop k (last t q v e) = last (link_same h n i l m (λ x a b. k x a (omega arith)) t) q v e
  part_same l m h n i j stop k (more d t q v p) =
      let w = part_inside l d.home d.number (i + 1) j stop p in
      more d (link_same h n i l m (λ x a b. k x a (omega arith)) t) q v (part_same l m d.home d.number (i + 1) j stop (λ x a b. k x (omega arith) b) p)

  -- the file at a home stands in the bytes that hold it
  pub file_held : (h : Home) → (h.from ≤ h.to) × (h.to ≤ length s) → length f ≤ 65535 → length s ≤ 65535 → Held (file_of f s h) (text_of f s h) h.from
  file_held h b u w = go (eqb h.from 0) refl
    where
      stored : (i : ℕ) → i < length (part s h.from h.to) → get_or s (h.from + i) 0 ≡ get_or (part s h.from h.to) i 0
      stored i z = sym (get_or-take (h.to - h.from) (drop h.from s) i 0 (omega (arith, part_length s h.from h.to b.1)) ∙ get_or-drop h.from s i 0)

      own : h.from ≡ 0 → (i : ℕ) → get_or f (h.from + i) 0 ≡ get_or f i 0
      own e i = let z : h.from + i ≡ i = omega arith in ap (λ (n : ℕ). get_or f n 0) z

      go : (e : Bool) → eqb h.from 0 ≡ e → Held (pick e f (part s h.from h.to)) (pick e f s) h.from
      go true e = let z = eqb-true h.from 0 e in record { inside = omega arith; short = u; bytes = λ i v. own z i }
      go false e = record { inside = omega (arith, part_length s h.from h.to b.1); short = w; bytes = stored }
