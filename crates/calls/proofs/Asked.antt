-- Questions 18 and 19 of one call, and over the calls of a code: start, turn and end. Assumes nothing.
use Prim.Native.Nat.{ℕ}
use mathlib.Core.Path.{◌≡◌, refl, sym, ◌∙◌, ap, subst}
use mathlib.Core.Bool.{Bool, true, false, ◌&&◌, ◌||◌, not}
use mathlib.Core.List.{[], ◌∷◌}
use lib.Dec.{T}
use Rattle.rules.specs.Bytes.{Bytes, Aid, none_or}
use Rattle.rules.specs.Code.{Call, split_from, code_splits, calls_of}
use Rattle.rules.specs.Package.{Limits, format_of, Method, code_if}
use Rattle.rules.specs.Store.{store_limits}
use Rattle.rules.specs.Classes.{installed, allows, allows_all_of}
use Rattle.rules.specs.Questions.{own_method}
use Rattle.places.specs.Reads.{Reads}
use Rattle.places.proofs.Parts.{code_none, method_part}
use Rattle.files.specs.Say.{MethodThere, ClassThere, CodeIs}
use Rattle.codes.specs.Calls.{kind_of, SplitsFrom, calls_from}
use Rattle.codes.specs.declared.Calling.{Calling}
use Rattle.codes.proofs.Calls.{calls_start, splits_start}
use Rattle.homes.specs.Homes.{own}
use Rattle.refusals.specs.Order.{first_of, no_of, no_of_all, numbers, rank, rising}
use Rattle.refusals.proofs.Order.{first_more, first_start, first_zero, first_assoc, none_asked}
use Rattle.refusals.proofs.Walks.{after}
use Rattle.references.specs.Named.{reference_named}
use Rattle.calls.specs.Named.{CallNamedIs}
use Rattle.calls.specs.Rights.{CallAllowedIs}
use Rattle.calls.specs.Calls.{Asking, MethodOf, Which, every_call, call_names_in, call_allows_in, call_asks, method_asks}
use Rattle.calls.specs.Calls.{call_allows, OwnMethod, OwnClass}
use Rattle.calls.specs.Calls.{CallNumberIs, MethodCallsAre}

-- a code that there is not, or that splits, splits from offset 0
splits_from : (l : Limits) (s : Bytes) (i : ℕ) (b : Bool) (c : Bytes) (j : ℕ) → Reads (code_if l b) s i c j → T (not b || code_splits c) → SplitsFrom c 0
unfolding SplitsFrom split_from
splits_from l s i false c j p t = let z = code_none l s i c j p in rw (← z.0) tt
splits_from l s i true c j p t = splits_start c t

-- what stands of the file being judged: a method, a class
pub method_there : {f s : Bytes} {end i : ℕ} → OwnMethod f s end i → MethodThere f i
method_there {s = s} g = (store_limits s, g.1.pack.domains, (g.3.0, g.3.1, g.3.2))

pub class_there : {f s : Bytes} {end i : ℕ} → OwnClass f s end i → ClassThere f i
class_there {s = s} g = (store_limits s, g.1.pack.domains, (g.3.0, g.3.1, g.3.2))

-- whether a method of the file being judged, loaded in z, may call what a reference names
abbrev allowed_in : {f s : Bytes} {end : ℕ} {d : Aid} → Asking f s end d → ℕ → Method → Aid → Bool
allowed_in {s = s} a index m z =
    let named = reference_named (store_limits s) (installed (store_limits s) a.es) a.self index in
    none_or named λ x. allows x.means z && allows_all_of x.means (own_method a.self 0 m)

-- one call
module _ {f s : Bytes} {end : ℕ} {d : Aid} {i index : ℕ} (kind : Calling) where
  pub call_18 : CallNamedIs f s end kind index false → CallNumberIs f s end d every_call i kind index 18
  call_18 h a m j p = rw (← h a.es a.self a.loading)

  -- what the caller may call, in terms of the own loading domain
  told : {b : Bool} → CallAllowedIs f s end d i index b → (a : Asking f s end d) (m : Method) (j : ℕ) → MethodOf a i m j →
      call_allows a m (record { kind = kind_of kind; index = index }) ≡ b
  told {b} g a m j p =
      let q = g a.es a.self a.loading a.loads (own_method a.self 0 m) (record { lies = own; to = j; reads = p }) in
      sym (subst (λ (z : Aid). b ≡ allowed_in a index m z) (sym a.loads) q)

  pub call_19 : CallNamedIs f s end kind index true → CallAllowedIs f s end d i index false → CallNumberIs f s end d every_call i kind index 19
  call_19 h g a m j p = rw (← h a.es a.self a.loading, told g a m j p)

  pub call_0 : CallNamedIs f s end kind index true → CallAllowedIs f s end d i index true → CallNumberIs f s end d every_call i kind index 0
  call_0 h g a m j p = rw (← h a.es a.self a.loading, told g a m j p)

-- a call that is asked and known, one that is asked and open, and one that is not asked
module _ {f s : Bytes} {end : ℕ} {d : Aid} (w : Which) {i : ℕ} (kind : Calling) (index : ℕ) where
  pub call_asked : let c : Call = record { kind = kind_of kind; index = index } in w.asked c ≡ true → w.known c ≡ true → (n : ℕ) →
      CallNumberIs f s end d every_call i kind index n → CallNumberIs f s end d w i kind index n
  call_asked e k n h a m j p = rw (e, k) (h a m j p)

  pub call_open : let c : Call = record { kind = kind_of kind; index = index } in w.asked c ≡ true → w.known c ≡ false →
      CallNumberIs f s end d w i kind index 18
  call_open e k a m j p = rw (e, k)

  pub call_passed : let c : Call = record { kind = kind_of kind; index = index } in w.asked c ≡ false → CallNumberIs f s end d w i kind index 0
  call_passed e a m j p = rw (e, and_no (w.known (record { kind = kind_of kind; index = index })))
    where
      and_no : (b : Bool) → (b && false) ≡ false
      and_no true = refl
      and_no false = refl

-- the order of the two questions
pub rises : {A : Type 0} (p q : A → Bool) → T (rising (numbers ((18, p) ∷ (19, q) ∷ [])))
unfolding rising rank
rises p q = tt

-- the calls of the method at i, of which those from an offset on are left after an earlier number
pub record CallLoop (f s : Bytes) (end : ℕ) (d : Aid) (w : Which) (i : ℕ) (code : Bytes) (from past : ℕ) : Type 0 where
  pub splits : SplitsFrom code from
  pub left : (a : Asking f s end d) (m : Method) (j : ℕ) → MethodOf a i m j →
      no_of (method_asks a w) m ≡ after (call_asks a w m) past (calls_from code from)

module _ {f s : Bytes} {end : ℕ} {d : Aid} (w : Which) {i : ℕ} (code : Bytes) where
  pub calls_begin : CodeIs f i code → OwnMethod f s end i → CallLoop f s end d w i code 0 0
  calls_begin h g =
      let ds = g.1.pack.domains in
      let m = g.3.0 in
      let t = method_part (format_of (store_limits s) f) ds f i m g.3.1 g.3.2 in
      let split = splits_from (store_limits s) f t.middle m.implemented m.code t.behind t.code g.3.3 in
      record {
        splits = rw (h (store_limits s) ds m g.3.1 g.3.2) split;
        left = λ a m j p.
            let e = ap calls_of (sym (h (store_limits s) a.self.pack.domains m j p)) ∙ sym (calls_start code) in
            ap (no_of_all (call_asks a w m)) e
            ∙ sym (first_start (call_asks a w m) (rises (call_names_in a w) (call_allows_in a w m)) (calls_from code 0));
      }

  module _ (from past : ℕ) (t : CallLoop f s end d w i code from past) where
    pub calls_end : calls_from code from ≡ [] → MethodCallsAre f s end d w i past
    calls_end e a m j p =
        let z = ap (after (call_asks a w m) past) e ∙ ap (first_of past) (none_asked (call_asks a w m)) ∙ first_zero past in
        sym (t.left a m j p ∙ z)

    pub calls_on : (kind : Calling) (index to : ℕ) → calls_from code from ≡ record { kind = kind_of kind; index = index } ∷ calls_from code to →
        (n : ℕ) → CallNumberIs f s end d w i kind index n → SplitsFrom code to → (b : ℕ) → b ≡ first_of past n → CallLoop f s end d w i code to b
    calls_on kind index to e n h k b v = record {
      splits = k;
      left = λ a m j p.
          let c : Call = record { kind = kind_of kind; index = index } in
          let qs = call_asks a w m in
          let rest = no_of_all qs (calls_from code to) in
          let more = first_more qs (rises (call_names_in a w) (call_allows_in a w m)) c (calls_from code to) in
          t.left a m j p ∙ ap (after qs past) e ∙ ap (first_of past) more ∙ first_assoc past (no_of qs c) rest
          ∙ ap (λ (x : ℕ). first_of x rest) (sym (v ∙ ap (first_of past) (h a m j p)));
    }
