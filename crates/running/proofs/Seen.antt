-- The bits of classes seen, from one own class to the next: they hold for both where what runs allows the same. Assumes nothing.
use Prim.Native.Nat.{ℕ, ◌+◌, ◌*◌, ◌/◌, ◌≤◌, ◌<◌}
use native.Mathlib.Omega.{arith}
use mathlib.Core.Path.{◌≡◌, refl, sym, ◌∙◌, ap, ap₂, subst}
use mathlib.Core.Bool.{Bool, true, false, ◌&&◌, ◌||◌}
use mathlib.Core.List.{List, [], ◌∷◌}
use mathlib.Core.Option.{Option, none, some}
use lib.ListN.{length}
use Rattle.rules.specs.Bytes.{Bytes, all, none_or}
use Rattle.rules.specs.Package.{Limits, Method, Class}
use Rattle.rules.specs.Store.{Entry, store_limits}
use Rattle.rules.specs.Classes.{Installed, installed, ClassAt, record_of, MethodAt, runs_up_to, allows_all_of}
use Rattle.rules.specs.Questions.{own}
use Rattle.rules.specs.Running.{running_allows}
use Rattle.bits.specs.Bits.{bit_at}
use Rattle.classes.specs.Say.{Judged}
use Rattle.classes.specs.Keys.{key, seen_length}
use Rattle.classes.proofs.Keys.{key_small}
use Rattle.chains.specs.Say.{Running, RunsIs}
use Rattle.chains.specs.Names.{Kept, AsStored, RunAlike}
use Rattle.chains.specs.declared.Names.{Names}
use Rattle.std.specs.Prelude.{None}
use Rattle.chains.proofs.Alike.{runs_alike}
use Rattle.running.specs.Walk.{SeenPass, BitsFor}
use Rattle.running.specs.declared.OwnClass.{OwnClass}
use Rattle.running.specs.declared.visited.Visit.{Visit}
use Rattle.running.proofs.Whole.{own_visit, nothing_runs}

-- the test of a method of class a
abbrev passes : Limits → List Installed → ClassAt → ClassAt → Method → Bool
passes l is a b m = m.static || none_or (runs_up_to is l.depth b m.name) (λ r. allows_all_of r (record { class = a; method = m }))

-- where what runs for two own classes allows the same, a class has the same answer for both
same_answer : (l : Limits) (is : List Installed) (b c a : ClassAt) → ((x : ℕ) (o : MethodAt) → none_or (runs_up_to is l.depth b x) (λ r. allows_all_of r o) ≡
    none_or (runs_up_to is l.depth c x) (λ r. allows_all_of r o)) → running_allows l is b a ≡ running_allows l is c a
same_answer l is b c a same = go (record_of a)
  where
    each : (ms : List Method) → all (passes l is a b) ms ≡ all (passes l is a c) ms
    each [] = refl
    each (m ∷ ms) = ap₂ ◌&&◌ (ap (λ (x : Bool). m.static || x) (same m.name (record { class = a; method = m }))) (each ms)

    go : (k : Option Class) → none_or k (λ k. all (passes l is a b) k.methods) ≡ none_or k (λ k. all (passes l is a c) k.methods)
    go none = refl
    go (some k) = each k.methods

module _ (f s : Bytes) (end d b : ℕ) where
  -- no class was seen
  seen_none : (seen : Bytes) → seen_length s ≤ length seen → ((j : ℕ) → j / 8 < end * 3 / 88 + 5 → bit_at seen j ≡ false) →
      SeenPass f s end d b seen
  seen_none seen z w = record {
    room = z;
    hold = λ h n e es self r x o k q.
        let i = key_small f s end es self r.running.judged.parents.imported.setting h x o n k q in
        absurd (true_false (sym e ∙ w (key h n) (omega (arith, i))));
  }
    where
      true_false : true ≡ false → ⊥
      true_false e = let y : ◌≡◌ {A = ℕ} 0 1 = cc in omega arith

  -- the bits that hold for it, or none
  pub bits_for : (x y : Bytes) (hold : Bool) → BitsFor x y end hold → (hold ≡ true → SeenPass f s end d b x) → seen_length s ≤ length y →
      SeenPass f s end d b y
  bits_for x y true e t z = subst (SeenPass f s end d b) (sym e) (t refl)
  bits_for x y false w t z = seen_none y z w

  -- where nothing runs any bits hold
  pub seen_nothing : (seen : Bytes) → seen_length s ≤ length seen → ((x : ℕ) → RunsIs f s end b x None) → SeenPass f s end d b seen
  seen_nothing seen z w = record {
    room = z;
    hold = λ h n e es self r x o k q a i.
        nothing_runs (store_limits s) (installed (store_limits s) es) (own self b) a (λ y. w y es self r.running);
  }

pub own_seen : (f s : Bytes) (o : OwnClass) (v : Visit) (seen : Bytes) → v ≡ own_visit o → SeenPass f s o.names.end o.domain o.names.own seen →
    SeenPass f s v.end v.domain v.own seen
own_seen f s o v seen e m = subst (λ (u : Visit). SeenPass f s u.end u.domain u.own seen) (sym e) m

pub seen_own : (f s : Bytes) (o : OwnClass) (v : Visit) (seen : Bytes) → v ≡ own_visit o → SeenPass f s v.end v.domain v.own seen →
    SeenPass f s o.names.end o.domain o.names.own seen
seen_own f s o v seen e m = subst (λ (u : Visit). SeenPass f s u.end u.domain u.own seen) e m

-- what is known of the own class before, where its chain goes on at a stored class: it is of kind 0, and the bits hold for it
pub record SeenKept (f s : Bytes) (end d : ℕ) (v : Names) (seen : Bytes) : Type 0 where
  pub first : AsStored f s v
  pub runs : 0 < v.home.from → (es : List Entry) (self : Installed) → Judged f s end es self → Running f s end v.own es self
  pub held : 0 < v.home.from → SeenPass f s end d v.own seen

module _ (f s : Bytes) (end d : ℕ) where
  -- before the first one nothing is
  pub kept_none : (v : Names) (seen : Bytes) → v.home.from ≡ 0 → SeenKept f s end d v seen
  kept_none v seen e = record {
    first = λ z. absurd (omega (arith, z, e));
    runs = λ z. absurd (omega (arith, z, e));
    held = λ z. absurd (omega (arith, z, e));
  }

  -- they hold for the next one too, where both run alike
  pub seen_alike : (names : List ℕ) (v w : Names) (seen : Bytes) → SeenKept f s end d v seen → v.end ≡ end → w.end ≡ end → AsStored f s w →
      Kept f s names w → RunAlike v w → SeenPass f s end d w.own seen
  seen_alike names v w seen t ev ew a k alike = record {
    room = (t.held alike.behind).room;
    hold = λ h n e es self r x o c q y below.
        let p = t.runs alike.behind es self r.running.judged in
        let passed = (t.held alike.behind).hold h n e es self (record { running = p; loads = r.loads }) x o c q y below in
        sym (same_answer (store_limits s) (installed (store_limits s) es) (own self v.own) (own self w.own) y
        (λ z m. runs_alike f s names end d v w alike ev ew t.first a k es self p r.running r.loads z m)) ∙ passed;
  }

  -- what is known of the next one
  pub kept_next : (b : ℕ) (w : Names) (seen : Bytes) → w.end ≡ end → w.own ≡ b → AsStored f s w →
      ((es : List Entry) (self : Installed) → Judged f s end es self → Running f s end b es self) → SeenPass f s w.end d w.own seen →
      SeenKept f s end d w seen
  kept_next b w seen e o a every m = record {
    first = a;
    runs = λ z es self j. subst (λ (n : ℕ). Running f s end n es self) (sym o) (every es self j);
    held = λ z. subst (λ (n : ℕ). SeenPass f s n d w.own seen) e m;
  }
