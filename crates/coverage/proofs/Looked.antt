-- A domain looked for in the list of what is called: what is found is kept, and a bit that is set tells it. Assumes nothing.
use Rattle.std.specs.Prelude.{Some, None}
use Rattle.std.specs.Prelude.{Option as Optional}
use Prim.Native.Nat.{ℕ, ◌+◌, ◌<◌}
use native.Mathlib.Omega.{arith}
use mathlib.Core.Path.{◌≡◌, sym, ◌∙◌, ap, subst}
use mathlib.Core.Bool.{Bool, true, false}
use mathlib.Core.List.{List, []}
use lib.ListN.{length, get_or, set}
use Rattle.rules.specs.Bytes.{Bytes, Aid, u1, aid, counted}
use Rattle.rules.specs.Package.{most_domains}
use Rattle.rules.specs.Classes.{meant, admits}
use Rattle.places.specs.Reads.{Reads}
use Rattle.files.specs.Say.{AidBytes, AidNth}
use Rattle.policies.specs.Say.{own_slot, HasSlot, Admits}
use Rattle.policies.specs.Numbers.{SlotFor}
use Rattle.policies.specs.Rows.{has_bit, HasPlaces, ListOver}
use Rattle.policies.specs.declared.TwoLists.{TwoLists}
use Rattle.policies.proofs.Slots.{slot_below}
use Rattle.policies.proofs.Rules.{nth_is, nth_none}
use Rattle.policies.proofs.Kept.{known_set, has_place}
use Rattle.coverage.specs.Covers.{TellsOf, ListedKept, WantedKept, LoadingKept}
use Rattle.coverage.specs.declared.Asked.{Asked}
use Rattle.coverage.specs.declared.Wanted.{Wanted}

-- x looked for in the list
module _ (g : Bytes) (e : Aid) (l : TwoLists) (i : ℕ) (x : Aid) (n : ℕ) (row : List ℕ) where
  module _ {k : ℕ} (q : SlotFor g l.other e i x k) (o : ListOver g l.other i) (p : HasPlaces row l) where
    pub place_there : l.base + k < length row
    place_there = let d = o.0 in has_place l row (d.0, d.1, d.2, (q.there d.0 d.1 d.2).0) p

    pub kept_there : ListedKept g e l i x n row (set row (l.base + k) n) true
    kept_there = record {
      answer = q.allowed;
      known = λ w t r.
          let d = o.0 in
          let z = q.there d.0 d.1 d.2 in
          known_set w row (l.base + k) n place_there (t d.0 d.1 d.2 k z.0 z.1) r;
    }

  pub kept_nowhere : Admits g l.other e i x false → ListedKept g e l i x n row row false
  kept_nowhere h = record { answer = h; known = λ w t r. r }

-- a domain of the own list
module _ (f g : Bytes) (e : Aid) (l : TwoLists) (x : Wanted) (m : ℕ) (row : List ℕ) where
  pub wanted_bit : has_bit m x.number ≡ true → WantedKept f g e l x m row row true
  wanted_bit h = record { answer = λ ds j rd gs k rg o c ro s. sym (s h); known = λ w t r. r }

  module _ {r : (Optional ℕ)} (a : HasSlot f l.own x.index) (n : AidNth f l.own x.index r) where
    pub wanted_looked : {c : ℕ} {y : Bytes} {row' : List ℕ} {b : Bool} → r ≡ Some c → AidBytes f c y → ListedKept g e l x.policy y x.number row row' b →
        WantedKept f g e l x m row row' b
    wanted_looked {c} {y} h q k = record {
      answer = λ ds j rd gs i rg o u ro s. k.answer gs i rg o u ro ∙ ap (admits (meant e o)) (are ds j rd);
      known = λ w t z. k.known w (subst (λ (v : Aid). TellsOf w g e l v x.number) (sym (are a.0 a.1 a.2)) (t a.0 a.1 a.2)) z;
    }
      where
        are : (ds : List Aid) (j : ℕ) → Reads (counted most_domains u1 aid) f l.own ds j → y ≡ get_or ds x.index []
        are ds j rd = let z = nth_is x.index n h ds j rd in q (get_or ds x.index []) z.0 z.1

    pub wanted_missing : x.index < own_slot → r ≡ None → WantedKept f g e l x m row row false
    wanted_missing b h = absurd (nth_none x.index n h a.0 a.1 a.2 (slot_below a.0 x.index a.3 (λ z. omega arith)).1)

-- the loading domain
module _ (g : Bytes) (e d : Aid) (l : TwoLists) (x : Asked) (m : ℕ) (row : List ℕ) where
  pub loading_bit : has_bit m x.loading ≡ true → LoadingKept g e d l x m row row true
  loading_bit h = record { answer = λ gs k rg o c ro s. sym (s h); known = λ w t r. r }

  pub loading_looked : {row' : List ℕ} {b : Bool} → ListedKept g e l x.called d x.loading row row' b → LoadingKept g e d l x m row row' b
  loading_looked k = record { answer = λ gs i rg o c ro s. k.answer gs i rg o c ro; known = k.known }
