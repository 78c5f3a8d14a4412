-- The three parts of question 14 as one answer, with the depth figure. Assumes nothing.
use Prim.Native.Nat.{ℕ}
use mathlib.Core.Path.{◌≡◌, sym, ◌∙◌, ap}
use mathlib.Core.Bool.{Bool, true, false, ◌&&◌}
use mathlib.Core.List.{List}
use Rattle.rules.specs.Bytes.{Bytes}
use Rattle.rules.specs.Store.{Entry, store_limits}
use Rattle.rules.specs.Classes.{Installed, installed}
use Rattle.rules.specs.Questions.{q14_parents}
use Rattle.rules.proofs.Tests.{of_true}
use Rattle.rules.proofs.Asked.{parents_yes}
use Rattle.homes.specs.Homes.{Imports, Parents}
use Rattle.named.specs.Named.{Judged}
use Rattle.depths.specs.Depths.{ParentsThere, ParentsExist, later_parts, LaterParts, ParentedIs, OwnTold}
use Rattle.std.specs.Prelude.{Some, None}
use Rattle.std.specs.Prelude.{Option as Optional}

module _ (f s : Bytes) (end : ℕ) where
  pub no_parent : ParentsExist f s end false → ParentedIs f s end None
  unfolding q14_parents
  no_parent q es self i = ap (λ (b : Bool). b && later_parts s es self) (sym (q es self i))

  module _ (p : ParentsExist f s end true) where
    with_parents : (es : List Entry) (self : Installed) → Imports f s end es self → Parents f s end es self
    with_parents es self i = record { imported = i; exist = of_true (sym (p es self i)) }

    pub parents_there : Judged f s end → ParentsThere f s end
    parents_there t = (t.0, t.1, with_parents t.0 t.1 t.2)

    -- the answer is that of the later parts
    later_is : (es : List Entry) (self : Installed) → Imports f s end es self → q14_parents (store_limits s) (installed (store_limits s) es) self ≡
        later_parts s es self
    unfolding q14_parents
    later_is es self i = ap (λ (b : Bool). b && later_parts s es self) (sym (p es self i))

    pub all_parts : (ds : List ℕ) (r : Optional ℕ) → LaterParts f s end ds r → ParentedIs f s end r
    all_parts ds None d = λ es self i. later_is es self i ∙ d es self (with_parents es self i)
    all_parts ds (Some v) d = λ es self i. let z = d.0 es self (with_parents es self i) in (later_is es self i ∙ z.0, z.1)

  pub own_told : (ds : List ℕ) (r : Optional ℕ) → LaterParts f s end ds r → OwnTold f s end ds r
  own_told ds None d = tt
  own_told ds (Some v) d = d.1

  -- with a yes each parent exists
  pub parented_parents : (v : ℕ) → ParentedIs f s end (Some v) → (es : List Entry) (self : Installed) → Imports f s end es self → Parents f s end es self
  parented_parents v q es self i = record {
    imported = i;
    exist = (parents_yes (store_limits s) (installed (store_limits s) es) self
        (of_true (q es self i).0)).exist;
  }
