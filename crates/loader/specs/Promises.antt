-- What the load and the query promise besides number and bytes: the depth figure, and yes or no; and what answers an operation that cuts. Assumes nothing.
--
-- number + 256 × figure is the result of each operation; the figure is 0 but for a load and a query
-- LoadPromise s d f r         == r is the load's number with its depth figure
-- QueryPromise s d a c n r    == r is the query's number with 1 for yes and 0 for no
-- Cuts s u o r                == the operation o leaves the entries of the store s, which end at place u, without one; r is its refusal or that one's place
use Rattle.std.specs.Prelude.{ℕ, ◌+◌, ◌*◌, ◌≡◌, Bool, List, Result}
use Rattle.rules.specs.Bytes.{Bytes, Aid, pick}
use Rattle.rules.specs.Store.{Entry, store_limits}
use Rattle.rules.specs.Operations.{Operation, load, number, change, without, depth_figure, query_number, query_yes}
use Rattle.refusals.specs.declared.refusal.Refusal.{Refusal}
use Rattle.store.specs.declared.EntryPlace.{EntryPlace}
use Rattle.services.specs.Answers.{CutSays}

-- a load's result: its number, and the depth of the deepest own class where it is accepted
abbrev pub LoadPromise : Bytes → Aid → Bytes → ℕ → Type 0
LoadPromise s d f r = r ≡ number s (load d f) + 256 * depth_figure s d f

-- a query's result: its number, and 1 where that method allows the domain
abbrev pub QueryPromise : Bytes → Aid → Aid → ℕ → ℕ → ℕ → Type 0
QueryPromise s d a c n r = r ≡ query_number s d a c n + 256 * pick (query_yes s d a c n) 1 0

-- what an answer to an operation that cuts an entry out says: its refusal, or where that entry stands
abbrev pub Cuts : Bytes → ℕ → Operation → Result EntryPlace Refusal → Type 0
Cuts s u o r = (q : Entry → Bool) × (CutSays s u o q r × ((es : List Entry) → change (store_limits s) es o ≡ without q es))
