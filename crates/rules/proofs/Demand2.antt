-- DEMAND 2, of the operations as functions of the store's bytes, any bytes, and of arguments, any bytes. Assumes nothing.
--   An operation's number is 0 exactly where all its questions are answered yes (asked: specs/Demands.antt).
--   Otherwise it is the number of the first no: the questions before it are answered yes, and its own no (FirstNo).
--   These questions are the documents' list of the operation, in its order; of a file that does not read, up to 11.
--   A fresh call then leaves an empty store, of version 1, or of version 2 with the limits given; a load carries the depth of its deepest own class (Deepest: specs/Unbounded.antt);
--   a query says yes exactly where the method that the store has allows the domain.
use Prim.Native.Nat.{ℕ}
use mathlib.Core.Path.{◌≡◌}
use mathlib.Core.List.{[], ◌∷◌}
use mathlib.Core.Option.{none, some}
use lib.Dec.{T}
use lib.ListN.{length}
use Rattle.rules.specs.Bytes.{Bytes, Aid}
use Rattle.rules.specs.Package.{Package, read_file}
use Rattle.rules.specs.Entries.{Opening, WrittenFrom}
use Rattle.rules.specs.Store.{store_limits}
use Rattle.rules.specs.Classes.{installed}
use Rattle.rules.specs.Operations.{sound, entries, Operation, load, number, depth_figure, fresh_number, fresh_bytes, query_number, query_yes}
use Rattle.rules.specs.Unbounded.{Deepest}
use Rattle.rules.specs.Demands.{refusals_of, fresh_refusals, query_refusals, asked, asked_fresh, asked_query, numbers_in, HasFile, all_yes, FirstNo, stored_allows}
use Rattle.rules.proofs.Claims.{done_yes, yes_done, refused_first, fresh_done_yes, fresh_yes_done, fresh_refused_first, query_done_yes, query_yes_done, query_refused_first, asked_order, unread_order, fresh_order, query_order, yes_allows, allows_yes}
use Rattle.rules.proofs.Fresh.{fresh_empty}
use Rattle.rules.proofs.Results.{figure_deepest}

pub demand2 : (s : Bytes) (o : Operation) →
    (number s o ≡ 0 → T (all_yes (asked s o))) × (T (all_yes (asked s o)) → number s o ≡ 0) × ((number s o ≡ 0 → ⊥) → FirstNo (number s o) (asked s o))
demand2 s o = (done_yes s o, yes_done s o, refused_first s o)

pub demand2_order : (s : Bytes) → ((o : Operation) → HasFile s o → numbers_in (asked s o) ≡ refusals_of o)
    × ((d : Aid) (f : Bytes) → read_file (store_limits s) f ≡ none → numbers_in (asked s (load d f)) ≡ 1 ∷ 2 ∷ 3 ∷ 5 ∷ 10 ∷ 11 ∷ [])
    × ((v : Opening) → numbers_in (asked_fresh s v) ≡ fresh_refusals v) × ((d a : Aid) (c n : ℕ) → numbers_in (asked_query s d a c n) ≡ query_refusals)
demand2_order s = (asked_order s, unread_order s, fresh_order s, query_order s)

pub demand2_fresh : (s : Bytes) (v : Opening) →
    (fresh_number s v ≡ 0 → T (all_yes (asked_fresh s v)) × (WrittenFrom (fresh_bytes s v) v [] × (length (fresh_bytes s v) ≡ length s) × T (sound (fresh_bytes s v))))
    × (T (all_yes (asked_fresh s v)) → fresh_number s v ≡ 0)
    × ((fresh_number s v ≡ 0 → ⊥) → FirstNo (fresh_number s v) (asked_fresh s v))
demand2_fresh s v = (λ e. (fresh_done_yes s v e, fresh_empty s v e), fresh_yes_done s v, fresh_refused_first s v)

pub demand2_load : (s : Bytes) (d : Aid) (f : Bytes) → number s (load d f) ≡ 0 → (p : Package) × (read_file (store_limits s) f ≡ some p)
    × Deepest (installed (store_limits s) (entries s)) (record { domain = d; pack = p }) (depth_figure s d f)
demand2_load = figure_deepest

pub demand2_query : (s : Bytes) (d a : Aid) (c n : ℕ) →
    (query_number s d a c n ≡ 0 → T (all_yes (asked_query s d a c n)))
    × (T (all_yes (asked_query s d a c n)) → query_number s d a c n ≡ 0)
    × ((query_number s d a c n ≡ 0 → ⊥) → FirstNo (query_number s d a c n) (asked_query s d a c n))
    × (T (query_yes s d a c n) → (query_number s d a c n ≡ 0) × T (stored_allows s d a c n))
    × ((query_number s d a c n ≡ 0) × T (stored_allows s d a c n) → T (query_yes s d a c n))
demand2_query s d a c n = (query_done_yes s d a c n, query_yes_done s d a c n, query_refused_first s d a c n, yes_allows s d a c n, allows_yes s d a c n)
