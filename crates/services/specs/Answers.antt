-- What the questions of a deletion, a removal and a query answer on a sound store. Assumes nothing.
--
-- CutSays s u o q r    == a deletion or removal: its number, or the place of the entry that the test q finds
-- ImportsSays g a r    == the file g imports the AID a
-- importer l a e       == e is a package of another AID that imports a
-- ImportedSays s k a r == question 8 is answered no, among the entries that end at place k
-- OtherSays g a r      == it does and has another AID
-- yes_said r           == a query's answer is yes
-- ClassOf g c          == a class of the file's package stands at place c
-- ClassAllows, FileAllows == the answer is that of a class's or a file's method of a name, where the package lies in domain e
use Rattle.std.specs.Prelude.{ℕ, ◌≡◌, Bool, false, ◌&&◌, not, List, Result, Ok, Err}
use Rattle.std.specs.Prelude.{Option as Optional}
use Rattle.std.proofs.Math.Option.{some}
use Rattle.fields.specs.Told.{told}
use Rattle.rules.specs.Bytes.{Bytes, Aid, any, at, some_and, ◌and_then◌, same}
use Rattle.rules.specs.Package.{Limits, format_of, Class, Package, class, read_file}
use Rattle.rules.specs.Store.{Entry, domain, loaded, first_entry, store_limits}
use Rattle.rules.specs.Classes.{installed, declared, meant, admits}
use Rattle.rules.specs.Questions.{q8_unused}
use Rattle.rules.specs.Operations.{Operation}
use Rattle.refusals.specs.declared.refusal.Refusal.{Refusal}
use Rattle.refusals.specs.Refusals.{number_of}
use Rattle.store.specs.declared.EntryPlace.{EntryPlace}
use Rattle.store.specs.Entries.{Entries, AllRead, place_of}
use Rattle.store.specs.Sound.{Over, Asked}
use Rattle.places.specs.Reads.{Reads, Ends}

-- a refusal, or from where up to where the entry stands that goes
abbrev pub CutSays : Bytes → ℕ → Operation → (Entry → Bool) → Result EntryPlace Refusal → Type 0
CutSays s u o q (Err e) = Asked s u o (number_of e)
CutSays s u o q (Ok p) = Asked s u o 0 × ((es : List Entry) → Over s u es → place_of q (first_entry s) es ≡ some (p.at, p.next))

-- a query's answer is yes
abbrev pub yes_said : Result Bool Refusal → Bool
yes_said (Ok b) = b
yes_said (Err e) = false

-- a file imports an AID
abbrev pub ImportsSays : Bytes → Aid → Bool → Type 0
ImportsSays g a r = (l : Limits) (p : Package) → read_file l g ≡ some p → r ≡ any (same a) p.imports

-- a package of another AID that imports it
abbrev pub otherImports : Aid → Package → Bool
otherImports a p = not (same a p.aid) && any (same a) p.imports

abbrev pub OtherSays : Bytes → Aid → Bool → Type 0
OtherSays g a r = (l : Limits) (p : Package) → read_file l g ≡ some p → r ≡ otherImports a p

abbrev pub importer : Limits → Aid → Entry → Bool
importer l a (domain k b) = false
importer l a (loaded d f) = some_and (read_file l f) (otherImports a)

-- 8, of whatever entries whose files read end at place k
abbrev pub ImportedSays : Bytes → ℕ → Aid → Bool → Type 0
ImportedSays s k a r = (es : List Entry) → Entries s (first_entry s) es k → AllRead (store_limits s) es → r ≡ not (q8_unused (installed (store_limits s) es) a)

-- a class of the package that a file reads as stands at place c
abbrev pub ClassOf : Bytes → ℕ → Type 0
ClassOf g c = (l : Limits) × (p : Package) × (read_file l g ≡ some p) × Ends (class (format_of l g) p.domains) g c

-- a class's method of a name allows the domain, of whatever class stands at place c of a file of domain e
abbrev pub ClassAllows : Bytes → Aid → ℕ → ℕ → Aid → Optional Bool → Type 0
ClassAllows g e c n d r = (l : Limits) (p : Package) → read_file l g ≡ some p → (k : Class) (j : ℕ) →
    Reads (class (format_of l g) p.domains) g c k j → told r ≡ (declared k n and_then λ m. some (admits (meant e m.policy) d))

-- the method of a class and a name allows the domain
abbrev pub FileAllows : Bytes → Aid → ℕ → ℕ → Aid → Optional Bool → Type 0
FileAllows g e c n d r = (l : Limits) (p : Package) → read_file l g ≡ some p →
    told r ≡ (at p.classes c and_then λ k. declared k n and_then λ m. some (admits (meant e m.policy) d))
