-- REQUEST 12, limits chosen per card series: store version 2 opens with its limits. Assumes nothing.
--   The second fresh call is done exactly where the buffer has 64 to 65,535 bytes and each limit given lies in its range; it then leaves an
--   empty store of version 2 with these limits, and where it is refused every byte. The first goes on writing version 1.
--   A store that says version 2 and has a limit out of its range is not sound.
--   A sound store's limits are document 01's in version 1, and in version 2 those that stand behind its used field. Questions 11 and 14 read
--   them from the store (load_questions: specs/Operations.antt); no file says anything about them.
--   For all values of the limits: question 14's depth test is "every way up has at most so many classes", question 20 is the document's
--   sentence, and each code of a file that 16 takes is cut into instructions.
--   Demand 3 holds for every list of calls on a fresh store of version 2, the ledger written out in that version with the limits given.
--   A package whose classes are nine deep is loaded in a store of limit 16, with the figure 9, and refused with 14 in one of version 1.
use Prim.Native.Nat.{ℕ, ◌≤◌}
use mathlib.Core.Path.{◌≡◌}
use mathlib.Core.Bool.{true}
use mathlib.Core.Logic.{◌⊎◌}
use mathlib.Core.List.{List, [], Memᴰ}
use mathlib.Core.Option.{some}
use lib.Dec.{T}
use lib.ListN.{length, take}
use Rattle.rules.specs.Bytes.{Bytes, at}
use Rattle.rules.specs.Limits.{Limits, standard, InRange}
use Rattle.rules.specs.Package.{Method, Class, Package, read_file}
use Rattle.rules.specs.Store.{version1, version2, write, store_mark, store_limits, limits_at}
use Rattle.rules.specs.Classes.{Installed}
use Rattle.rules.specs.Questions.{own, depths_within, q14_parents, q16_splits, q20_running}
use Rattle.rules.specs.Operations.{sound, Operation, load, number, depth_figure, fresh_number, fresh_bytes}
use Rattle.rules.specs.Ledger.{ledger_after, Run, AsLedger}
use Rattle.rules.specs.Paths.{PathsAllow}
use Rattle.rules.specs.Unbounded.{DepthAtMost, Q20}
use Rattle.rules.specs.Splitting.{Splits}
use Rattle.rules.specs.CasesFiles.{D1}
use Rattle.rules.specs.CasesOpening.{limited, series, nine}
use Rattle.rules.proofs.Openings as openings
use Rattle.rules.proofs.Exact as exact
use Rattle.rules.proofs.Handlers.{file_splits}
use Rattle.rules.proofs.Demand3.{demand3}

pub request12 : (s : Bytes) (l : Limits) →
    (fresh_number s (version2 l) ≡ 0 → ((64 ≤ length s) × (length s ≤ 65535)) × InRange l × (fresh_bytes s (version2 l) ≡ write (version2 l) (length s) []))
    × ((64 ≤ length s) × (length s ≤ 65535) → InRange l → fresh_number s (version2 l) ≡ 0)
    × ((fresh_number s (version2 l) ≡ 0 → ⊥) → fresh_bytes s (version2 l) ≡ s)
request12 s l = (openings.fresh_limits_lem s l, openings.limits_fresh s l, openings.fresh_refused s l)

pub request12_first : (s : Bytes) → fresh_number s version1 ≡ 0 → fresh_bytes s version1 ≡ write version1 (length s) []
request12_first s e = openings.fresh_written s version1 e

pub request12_range : (s : Bytes) → take 5 s ≡ store_mark 2 → (InRange (limits_at s) → ⊥) → T (sound s) → ⊥
request12_range = openings.range_asked

pub request12_limits : (s : Bytes) → T (sound s) →
    ((take 5 s ≡ store_mark 1) × (store_limits s ≡ standard)) ⊎ ((take 5 s ≡ store_mark 2) × (store_limits s ≡ limits_at s) × InRange (limits_at s))
request12_limits = openings.limits_told

pub request12_walk : (l : Limits) (is : List Installed) (self : Installed) →
    (T (depths_within l is self) → (i : ℕ) (k : Class) → at self.pack.classes i ≡ some k → DepthAtMost is (own self i) l.depth)
    × (T (q14_parents l is self) → (T (q20_running l is self) → Q20 is self) × (Q20 is self → T (q20_running l is self)))
request12_walk l is self = ((exact.depth l is self).0, exact.running l is self)

pub request12_splitting : (l : Limits) (f : Bytes) (p : Package) → read_file l f ≡ some p → T (q16_splits p) →
    (k : Class) → Memᴰ k p.classes → (m : Method) → Memᴰ m k.methods → m.implemented ≡ true → Splits m.code
request12_splitting l f p r q k a m b e = (file_splits p q k a m b e).0

pub request12_lists : (s : Bytes) (l : Limits) → fresh_number s (version2 l) ≡ 0 → (os : List Operation) (ks : List ℕ) (t : Bytes)
    (r : Run (fresh_bytes s (version2 l)) os ks t) →
    AsLedger (version2 l) (length s) [] r × PathsAllow l (ledger_after (version2 l) (length s) [] os)
request12_lists s l = demand3 s (version2 l)

pub request12_witness : (number (series (limited 16 8 32767)) (load D1 nine) ≡ 0) × (depth_figure (series (limited 16 8 32767)) D1 nine ≡ 9)
    × (number (series version1) (load D1 nine) ≡ 14)
request12_witness = openings.nine_deep
