-- `loader::loader_query` keeps its promise. Assumes nothing.
use Prim.Native.Nat.{ℕ, ◌+◌, ◌*◌}
use mathlib.Core.Path.{◌∙◌, ap₂, subst}
use mathlib.Core.Bool.{Bool}
use Rattle.rules.specs.Bytes.{pick}
use Rattle.sound.specs.Says.{OpenedSays}
use Rattle.loader.specs.Promises.{QueryPromise}
use Rattle.loader.proofs.Numbers as numbers
use Rattle.loader.proofs.loader_query.Goals as goal

pub returns-in-Err : goal.returns-in-Err
returns-in-Err c =
    let a = c.args in
    rw c.number.ensures.0 (numbers.refused_query a.store.now a.domain.now a.«package».now a.class a.name _
    (subst (OpenedSays a.store.now) c.in-Err.is c.open_store.ensures))

pub query_on-requires : goal.query_on-requires
query_on-requires c =
    subst (OpenedSays c.args.store.now) c.in-Ok.is c.open_store.ensures

pub returns-in-Ok : goal.returns-in-Ok
returns-in-Ok c =
    let a = c.args in
    let told = c.query_told.ensures ∙ ap₂ (λ (n : ℕ) (b : Bool). n + 256 * pick b 1 0) c.query_on.ensures.0 c.query_on.ensures.1 in
    subst (λ (k : ℕ). QueryPromise a.store.now a.domain.now a.«package».now k a.name c.query_told.result) c.wide.ensures.0 told
