-- DEMAND 1, of the operations as functions of the store's bytes, any bytes, and of arguments, any bytes. Assumes nothing.
--   Each operation's number is 0 or one of the numbers that the documents list for it.
--   A number other than 0 leaves every byte of the buffer (a query only reads it); a load's figure is then 0, a query's answer no.
--   A load's figure is never above the depth limit of the store; demand 2 says what it is.
-- That the entry points answer so is what each promises in crates/loader/src/lib.rt, on all buffers. That they end is part of every such
-- promise: for each loop and each recursion under them the prover asks for a number that falls (the measures in crates/*/proofs).
use Prim.Native.Nat.{ℕ, ◌≤◌}
use mathlib.Core.Path.{◌≡◌}
use mathlib.Core.Bool.{false}
use lib.Dec.{T, eqb}
use Rattle.rules.specs.Bytes.{Bytes, Aid, any}
use Rattle.rules.specs.Store.{Opening, store_limits}
use Rattle.rules.specs.Operations.{Operation, load, number, after, depth_figure, fresh_number, fresh_bytes, query_number, query_yes}
use Rattle.rules.specs.Demands.{refusals_of, fresh_refusals, query_refusals, with_done}
use Rattle.rules.proofs.Claims.{number_listed, fresh_listed, query_listed, refused_leaves, fresh_leaves}
use Rattle.rules.proofs.Results.{figure_refused, figure_within, refused_query}

pub demand1 : (s : Bytes) (o : Operation) → T (any (eqb (number s o)) (with_done (refusals_of o))) × ((number s o ≡ 0 → ⊥) → after s o ≡ s)
demand1 s o = (number_listed s o, refused_leaves s o)

pub demand1_figure : (s : Bytes) (d : Aid) (f : Bytes) →
    ((number s (load d f) ≡ 0 → ⊥) → depth_figure s d f ≡ 0) × (depth_figure s d f ≤ (store_limits s).depth)
demand1_figure s d f = (figure_refused s d f, figure_within s d f)

pub demand1_fresh : (s : Bytes) (v : Opening) →
    T (any (eqb (fresh_number s v)) (with_done (fresh_refusals v))) × ((fresh_number s v ≡ 0 → ⊥) → fresh_bytes s v ≡ s)
demand1_fresh s v = (fresh_listed s v, fresh_leaves s v)

pub demand1_query : (s : Bytes) (d a : Aid) (c n : ℕ) →
    T (any (eqb (query_number s d a c n)) (with_done query_refusals)) × ((query_number s d a c n ≡ 0 → ⊥) → query_yes s d a c n ≡ false)
demand1_query s d a c n = (query_listed s d a c n, refused_query s d a c n)
