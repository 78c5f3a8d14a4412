-- An operation's number and bytes on a store that questions 1 and 2 refuse. Assumes nothing.
use Prim.Native.Nat.{ℕ}
use native.Mathlib.Omega.{arith}
use mathlib.Core.Path.{◌≡◌, ◌∙◌}
use mathlib.Core.Bool.{false}
use lib.ListN.{length}
use Rattle.rules.specs.Bytes.{Bytes, Aid}
use Rattle.rules.specs.Store.{store_opening, store_limits}
use Rattle.rules.specs.Operations.{entries, Operation, questions, number, after, query_questions, query_number, query_yes}
use Rattle.store.proofs.Sound.{kept, refused_after}
use Rattle.refusals.specs.declared.refusal.Refusal.{Refusal}
use Rattle.refusals.specs.Refusals.{number_of}
use Rattle.refusals.proofs.Numbers.{some_number}
use Rattle.sound.specs.Says.{Unopened}
use Rattle.loader.specs.Promises.{QueryPromise}

pub refused_number : (s : Bytes) (o : Operation) (f : Refusal) → Unopened s f → (number_of f ≡ number s o) × (s ≡ after s o)
unfolding number
refused_number s o f p =
    let e : number_of f ≡ number s o = p (questions (store_opening s) (length s) (entries s) o) in
    (e, refused_after s o (number_of f) (λ z. omega (arith, some_number f, z)) e)

-- a refused query says no
pub refused_query : (s : Bytes) (d a : Aid) (c n : ℕ) (f : Refusal) → Unopened s f → QueryPromise s d a c n (number_of f)
unfolding query_number query_yes
refused_query s d a c n f p =
    let e : number_of f ≡ query_number s d a c n = p (query_questions (store_limits s) (entries s) d a c n) in
    let no : query_yes s d a c n ≡ false = kept (query_number s d a c n) _ false (λ y. omega (arith, some_number f, e ∙ y)) in
    rw no (omega (arith, e))
