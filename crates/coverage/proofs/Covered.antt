-- Question 19 by numbers: FF, the loading domain, then all that the caller allows. Assumes nothing.
use Prim.Native.Nat.{ℕ, ◌<◌}
use native.Mathlib.Omega.{arith}
use mathlib.Core.Path.{◌≡◌, sym, ◌∙◌, ap, subst}
use mathlib.Core.Bool.{Bool, true, false, and-false}
use mathlib.Core.List.{List, [], ◌∷◌, ◌++◌, map}
use lib.ListN.{get_or}
use Rattle.rules.specs.Bytes.{Bytes, Aid, any, same}
use Rattle.rules.specs.Classes.{item_means, meant, admits}
use Rattle.policies.specs.Say.{OfPolicy}
use Rattle.policies.specs.Numbers.{number_in, DomainsThere, NumberIs}
use Rattle.policies.specs.Rows.{has_bit, with_bit, HasPlaces, Known, Tells}
use Rattle.policies.specs.declared.TwoLists.{TwoLists}
use Rattle.policies.proofs.Numbers.{number_most, loading_in}
use Rattle.policies.proofs.Rules.{every_is, only_list}
use Rattle.coverage.specs.Covers.{KnownBits, TellsOf, LoadingKept, BitsSure, AllKept, CoversKept}
use Rattle.coverage.specs.declared.Asked.{Asked}
use Rattle.coverage.proofs.Sure.{numbers_few, bits_known, sure_more}

-- the number of the loading domain fits a byte
pub loading_small : {f : Bytes} {u : ℕ} (d : Aid) (n : ℕ) → DomainsThere f u → NumberIs f u d d n → n < 256
loading_small d n a h = omega (arith, h a.0 a.1 a.2, number_most (a.0 ++ d ∷ []) d, numbers_few d a.0 a.1 a.2)

module _ {f : Bytes} {d : Aid} {g : Bytes} (e : Aid) {l : TwoLists} (p : Asked) where
  pub covers_every : (x : List ℕ) → get_or g p.called 0 ≡ 255 → CoversKept f d g e l p x x true
  covers_every x h = record { known = λ w t o k. k; holds = λ w t o k gs j rg q u rq ds i rd r c rr. rw (← every_is gs g p.called q u rq h) }

  pub covers_within : (x : List ℕ) → (get_or g p.called 0 ≡ 255 → ⊥) → get_or f p.caller 0 ≡ 255 → CoversKept f d g e l p x x false
  covers_within x h v = record {
    known = λ w t o k. k;
    holds = λ w t o k gs j rg q u rq ds i rd r c rr.
        let a = only_list gs g p.called q u rq h in
        rw (← a.is, ← every_is ds f p.caller r c rr v) (sym (and-false (any (same d) (map (item_means e) a.listed))));
  }

  -- both are lists: the bits are what the row knows
  module _ {x y : List ℕ} (m : ℕ) {r : Bool} (a : DomainsThere f l.own) (n : NumberIs f l.own d d p.loading) (places : HasPlaces x l)
      (nc : get_or g p.called 0 ≡ 255 → ⊥)
      (b : KnownBits g l p.called x m) (k : LoadingKept g e d l p m x y r) where
    loading_known : (w : ℕ → ℕ) → Tells w f d g e l → Known w x → Known w y
    loading_known w t z = k.known w told z
      where
        told : TellsOf w g e l d p.loading
        told gs j rg v u s = n a.0 a.1 a.2 ∙ ap (number_in (a.0 ++ d ∷ [])) (sym s) ∙ sym (t.number v a.0 a.1 a.2 gs j rg u)

    -- whether the loading domain is allowed
    loading_allowed : (w : ℕ → ℕ) → Tells w f d g e l → Known w x → OfPolicy g l.other p.called λ q. r ≡ admits (meant e q) d
    loading_allowed w t z gs j rg q u rq =
        let sure = bits_known e w p.called x m t z places nc b gs j rg q u rq a.0 a.1 a.2 d (loading_in a.0 d) in
        k.answer gs j rg q u rq (subst (λ (j : ℕ). has_bit m j ≡ true → admits (meant e q) d ≡ true) (sym (n a.0 a.1 a.2)) sure)

    pub covers_not : r ≡ false → CoversKept f d g e l p x y false
    covers_not z = record {
      known = λ w t o s. loading_known w t s;
      holds = λ w t o s gs j rg q u rq ds i rd v c rv.
          let v' : admits (meant e q) d ≡ false = sym (loading_allowed w t s gs j rg q u rq) ∙ z in rw v';
    }

    -- the bit of the loading domain more
    sure : r ≡ true → (w : ℕ → ℕ) → Tells w f d g e l → Known w x → BitsSure f d g e l p.called (with_bit m p.loading)
    sure z w t s gs j rg q u rq ds i rd y' mem =
        let v' = sym (loading_allowed w t s gs j rg q u rq) ∙ z in
        sure_more (ds ++ d ∷ []) m p.loading d (meant e q) (numbers_few d ds i rd) (loading_in ds d) (n ds i rd) v' y' mem
        (bits_known e w p.called x m t s places nc b gs j rg q u rq ds i rd y' mem)

    pub covers_lists : {y₂ : List ℕ} {c : Bool} → r ≡ true →
        AllKept f d g e l (record { caller = p.caller; called = p.called; bits = with_bit m p.loading }) y y₂ c → CoversKept f d g e l p x y₂ c
    covers_lists z s = record {
      known = λ w t o v. s.known w t o (loading_known w t v);
      holds = λ w t o i gs j rg q u rq ds h rd v c rv.
          let v' : admits (meant e q) d ≡ true = sym (loading_allowed w t i gs j rg q u rq) ∙ z in
          s.holds w t o (loading_known w t i) (sure z w t i) gs j rg q u rq ds h rd v c rv v' ∙ rw v';
    }
