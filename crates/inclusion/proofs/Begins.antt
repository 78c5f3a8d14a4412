-- The loop over two lists of domains that begin alike. Assumes nothing.
use Prim.Native.Nat.{ℕ, zero, suc, ◌+◌, ◌-◌, ◌≤◌, ◌<◌}
use native.Mathlib.Omega.{arith}
use mathlib.Core.Path.{◌≡◌, refl, sym, ◌∙◌, ap₂}
use mathlib.Core.Bool.{Bool, true, false, ◌&&◌, and-false}
use mathlib.Core.List.{List, [], ◌∷◌}
use lib.ListN.{length, get_or}
use Rattle.rules.specs.Bytes.{Bytes, Aid, same, u1, aid, many, counted}
use Rattle.rules.specs.Package.{most_domains}
use Rattle.rules.proofs.Tests.{and_l, and_r, is_true, of_true, same_eq}
use Rattle.places.specs.Reads.{Reads, Ends, EndsAt}
use Rattle.places.proofs.Inverse.{reads_left, reads_done, reads_counted, reads_u1}
use Rattle.places.proofs.Steady.{steady_u1, steady_aid}
use Rattle.places.proofs.Track.{track_start, many_length}
use Rattle.files.specs.Say.{AidBytes, AidIs}
use Rattle.policies.specs.Numbers.{DomainsThere}
use Rattle.inclusion.specs.Order.{prefix, PrefixIs}

-- as many domains as the list's count
pub domains_count : {s : Bytes} {u : ℕ} (ds : List Aid) (j : ℕ) → Reads (counted most_domains u1 aid) s u ds j → length ds ≡ get_or s u 0
domains_count {s} {u} ds j p =
    let c = reads_counted most_domains u1 aid steady_u1 s u ds j p in
    let n = reads_u1 s u c.number c.place c.count in
    omega (arith, n.byte, many_length aid steady_aid c.number s c.place ds j c.list)

-- a list that is longer is no beginning
prefix_longer : (gs ds : List Aid) → length ds < length gs → prefix gs ds ≡ false
prefix_longer [] ds h = absurd (omega arith)
prefix_longer (g ∷ gs) [] h = refl
prefix_longer (g ∷ gs) (d ∷ ds) h = rw (prefix_longer gs ds (omega arith)) (and-false (same g d))

pub order_longer : {a : Bytes} {u : ℕ} {b : Bytes} {v : ℕ} → get_or a u 0 < get_or b v 0 → PrefixIs a u b v false
order_longer h ds j rd gs k rg = sym (prefix_longer gs ds (omega (arith, h, domains_count ds j rd, domains_count gs k rg)))

-- one AID of both
prefix_step : {ys zs ys' zs' : List Aid} {y z : Aid} {s : Bool} → y ∷ ys' ≡ ys → z ∷ zs' ≡ zs → same z y ≡ s → prefix zs ys ≡ (s && prefix zs' ys')
prefix_step e f h = rw (← e, ← f, h)

-- the loop over both lists: of a's `more` are still to be read at c, of b's `left` at e
pub record OrderLoop (a : Bytes) (u : ℕ) (b : Bytes) (v more c left e : ℕ) : Type 0 where
  pub rest : (ds : List Aid) (j : ℕ) → Reads (counted most_domains u1 aid) a u ds j → (gs : List Aid) (k : ℕ) → Reads (counted most_domains u1 aid) b v gs k →
      (ys : List Aid) × (zs : List Aid) × Reads (many more aid) a c ys j × Reads (many left aid) b e zs k × (prefix gs ds ≡ prefix zs ys)

pub order_start : {a : Bytes} {u : ℕ} {b : Bytes} {v more left : ℕ} → more ≡ get_or a u 0 → left ≡ get_or b v 0 → OrderLoop a u b v more (u + 1) left (v + 1)
order_start {a} {u} {b} {v} h i = record {
  rest = λ ds j rd gs k rg.
      let y = track_start aid a (λ (xs : List Aid). xs) most_domains u ds j rd in
      let z = track_start aid b (λ (xs : List Aid). xs) most_domains v gs k rg in
      (y.0, z.0, rw h y.1, rw i z.1, ap₂ prefix z.2 y.2);
}

module _ {a : Bytes} {u : ℕ} {b : Bytes} {v more c left e : ℕ} (t : OrderLoop a u b v more c left e) where
  pub order_done : left ≤ 0 → PrefixIs a u b v true
  order_done h ds j rd gs k rg =
      let x = t.rest ds j rd gs k rg in
      let z = reads_done aid left b e x.1 k h x.3 in
      sym (x.4 ∙ rw z.0)

  module _ (h : 0 < left) where
    module _ (i : 0 < more) where
      -- the AIDs at hand
      pub order_here : DomainsThere a u → DomainsThere b v → Ends aid a c × Ends aid b e
      order_here p q =
          let x = t.rest p.0 p.1 p.2 q.0 q.1 q.2 in
          let y = reads_left aid steady_aid more a c x.0 p.1 i x.2 in
          let z = reads_left aid steady_aid left b e x.1 q.1 h x.3 in
          ((y.one, y.place, y.reads), (z.one, z.place, z.reads))

      module _ {x : Bytes} (is : AidBytes b e x) where
        pub order_differ : AidIs a c x false → PrefixIs a u b v false
        order_differ q ds j rd gs k rg =
            let w = t.rest ds j rd gs k rg in
            let y = reads_left aid steady_aid more a c w.0 j i w.2 in
            let z = reads_left aid steady_aid left b e w.1 k h w.3 in
            let s : same z.one y.one ≡ false = rw (← is z.one z.place z.reads) (sym (q y.one y.place y.reads)) in
            sym (w.4 ∙ prefix_step y.are z.are s)

        pub order_more : {c' e' : ℕ} → AidIs a c x true → EndsAt aid a c c' → EndsAt aid b e e' → OrderLoop a u b v (more - 1) c' (left - 1) e'
        order_more q m n = record {
          rest = λ ds j rd gs k rg.
              let w = t.rest ds j rd gs k rg in
              let y = reads_left aid steady_aid more a c w.0 j i w.2 in
              let z = reads_left aid steady_aid left b e w.1 k h w.3 in
              let s : same z.one y.one ≡ true = rw (← is z.one z.place z.reads) (sym (q y.one y.place y.reads)) in
              let f = m y.one y.place y.reads in
              let g = n z.one z.place z.reads in
              (y.others, z.others, rw f y.rest, rw g z.rest, w.4 ∙ prefix_step y.are z.are s);
        }

-- lists that begin alike have the same AIDs there
pub prefix_nth : (gs ds : List Aid) → prefix gs ds ≡ true → (k : ℕ) → k < length gs → (k < length ds) × (get_or gs k [] ≡ get_or ds k [])
prefix_nth [] ds h k l = absurd (omega arith)
prefix_nth (g ∷ gs) [] h k l = let z : ◌≡◌ {A = ℕ} 0 1 = cc in absurd (omega arith)
prefix_nth (g ∷ gs) (d ∷ ds) h zero l = (omega arith, same_eq g d (and_l (same g d) (prefix gs ds) (of_true h)))
prefix_nth (g ∷ gs) (d ∷ ds) h (suc k) l =
    let z = prefix_nth gs ds (is_true _ (and_r (same g d) (prefix gs ds) (of_true h))) k (omega arith) in
    (omega (arith, z.0), z.1)
