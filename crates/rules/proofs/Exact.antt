-- What single definitions are exactly, each both ways. Assumes nothing.
--
-- layout   == of a buffer of bytes the reader finds exactly the opening, its limits in their ranges, and the entries that it is written
--             from; so soundness speaks of these
-- policies == the test of two policies is the comparison of the AIDs that they allow, created or not
-- depth    == question 14's depth test is "every way up has at most so many classes", without a bound
-- running  == given 14, question 20 is the document's sentence, without a bound
-- calls    == of installed methods of a sound store, the computed calls are the calls that call paths are made of
use Prim.Native.Nat.{ℕ}
use mathlib.Core.Path.{◌≡◌}
use mathlib.Core.List.{List}
use mathlib.Core.Option.{some}
use lib.Dec.{T}
use lib.ListN.{length}
use Rattle.rules.specs.Bytes.{Bytes, Aid, all, at}
use Rattle.rules.specs.Package.{Limits, Class}
use Rattle.rules.specs.Store.{Opening, opening_limits, opening_range, Entry, WrittenFrom, opening_of, entries_of}
use Rattle.rules.specs.Classes.{Installed, installed, Rights, admits, admits_all_of}
use Rattle.rules.specs.Questions.{q1_size, own, depths_within, q14_parents, q20_running}
use Rattle.rules.specs.Operations.{sound_entries, sound}
use Rattle.rules.specs.Paths.{InstalledMethod, located, Calls}
use Rattle.rules.specs.Unbounded.{DepthAtMost, Q20}
use Rattle.rules.specs.Called.{calls_b}
use Rattle.rules.proofs.Opens.{is_byte}
use Rattle.rules.proofs.Paths.{admits_all}
use Rattle.rules.proofs.Policies.{all_admits}
use Rattle.rules.proofs.Unbounded.{depths_unbounded, unbounded_depths, q20_unbounded, unbounded_q20}
use Rattle.rules.proofs.LaidOut.{written_reads, reads_written, sound_written_from, written_from_sound}
use Rattle.rules.proofs.Called.{installed_calls_yes, installed_yes_calls}

pub layout : (s : Bytes) (v : Opening) (es : List Entry) → T (all is_byte s) →
    (T (opening_range v) → WrittenFrom s v es → (opening_of s ≡ some v) × (entries_of s ≡ some es))
    × (opening_of s ≡ some v → entries_of s ≡ some es → T (opening_range v) × WrittenFrom s v es)
layout s v es b = (written_reads s v es, reads_written s v es b)

pub layout_sound : (s : Bytes) → T (all is_byte s) →
    (T (sound s) → (v : Opening) × (es : List Entry) × T (q1_size s) × T (opening_range v) × WrittenFrom s v es × T (sound_entries v (length s) es))
    × ((v : Opening) (es : List Entry) → T (q1_size s) → T (opening_range v) → WrittenFrom s v es → T (sound_entries v (length s) es) → T (sound s))
layout_sound s b = (sound_written_from s b, written_from_sound s)

pub policies : (p q : Rights) → (T (admits_all_of p q) → (d : Aid) → T (admits q d) → T (admits p d)) × (((d : Aid) → T (admits q d) →
    T (admits p d)) → T (admits_all_of p q))
policies p q = (λ h d. admits_all p q d h, all_admits p q)

pub depth : (l : Limits) (is : List Installed) (self : Installed) →
    (T (depths_within l is self) → (i : ℕ) (k : Class) → at self.pack.classes i ≡ some k → DepthAtMost is (own self i) l.depth)
    × (((i : ℕ) (k : Class) → at self.pack.classes i ≡ some k → DepthAtMost is (own self i) l.depth) → T (depths_within l is self))
depth l is self = (depths_unbounded l is self, unbounded_depths l is self)

pub running : (l : Limits) (is : List Installed) (self : Installed) → T (q14_parents l is self) → (T (q20_running l is self) →
    Q20 is self) × (Q20 is self → T (q20_running l is self))
running l is self h = (q20_unbounded l is self h, unbounded_q20 l is self h)

pub calls : (v : Opening) (n : ℕ) (es : List Entry) → T (sound_entries v n es) → (m o : InstalledMethod (opening_limits v) es) →
    (Calls (installed (opening_limits v) es) (located m) (located o) → T (calls_b (opening_limits v) (installed (opening_limits v) es) (located m) (located o)))
    × (T (calls_b (opening_limits v) (installed (opening_limits v) es) (located m) (located o)) → Calls (installed (opening_limits v) es) (located m) (located o))
calls v n es h m o = (installed_calls_yes v n es h m o, installed_yes_calls v n es h m o)
