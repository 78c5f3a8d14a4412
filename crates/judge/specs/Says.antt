-- What judging a load and the packages of a store says: the questions of document 01 over the entries that end at a place. Assumes nothing.
--
-- figure_of r                == the depth figure of a load's answer
-- from k qs                 == the questions of a list from the one with number k on
-- asks s es d f p           == a load's questions from 11 on, of a file that reads as p
-- FileRead s end f es p     == over sound entries es that end at a place the file f reads as the package p
-- Asked14 s end d f es p    == and questions 12 to 14 were answered yes: what every later question may assume
-- AnswerIs qs depth r       == r is the answer to a list of questions, with the depth where all are answered yes
-- NumberFrom k s end d f r  == r is the number of a load's questions from k on, those before it answered yes
-- NumberBefore k m ..       == the same, of the questions from k on that stand before m: 0 where they are answered yes
-- file_asks s es d f         == a load's questions from 10 on
-- ParentsAnswer s end f r   == questions 10 to 14 of a file; TablesTold == what is found with a yes
-- DomainTold s end f x      == x tells where the AID of the loading domain stands, and whether 26 is asked of the file f
-- loading_of x               == the domain that a file which is judged is loaded into
-- SubsetTold s end d f b    == 26 of the file f, where b says that it is asked, is the load's
-- SubsetIs f b r            == r is the answer to 26 of the file f, where b says that it is asked
-- InsideAnswer s end d f r  == questions 10 to 19 of a file
-- FileSays, LoadSays        == a load's answer from 10 on, and whole
-- DomainYes l pre e         == question 3, and 4 or 5, of an entry behind others, and 26 of a package
-- DomainsYes s end          == of every entry of those that end at a place
-- PackageThere s x          == the entry of a package stands at places, and questions 3, 5 and 26 of it are answered yes
-- PackagesSay s end r       == whether all these entries are accepted
use Rattle.std.specs.Prelude.{ℕ, ◌+◌, ◌<◌, ◌≤◌, ◌≡◌, Bool, true, ◌||◌, not, List, [], ◌∷◌, ◌++◌, T, eqb, length, Result, Ok, Err}
use Rattle.std.proofs.Math.Option.{some}
use Rattle.rules.specs.Bytes.{Bytes, Aid, pick, aid}
use Rattle.rules.specs.Subset.{code_without_int}
use Rattle.rules.specs.Package.{Limits, Package, read_file}
use Rattle.rules.specs.Store.{Entry, domain, loaded, first_entry, store_limits, store_opening}
use Rattle.rules.specs.Classes.{installed}
use Rattle.rules.specs.Operations.{Question, first_no, package_questions, load_questions, accepted, sound_entries, deepest, deepest_of}
use Rattle.rules.specs.Code.{u2_at}
use Rattle.rules.specs.Questions.{q3_lengths, q4_new, q5_created, q10_marked, q12_new, q13_imports, q14_parents, all_codes, q26_subset}
use Rattle.store.specs.Entries.{part, EntryAt, Entries}
use Rattle.store.specs.Sound.{Over}
use Rattle.places.specs.Reads.{Ends}
use Rattle.homes.specs.Homes.{aid_at}
use Rattle.homes.specs.Found.{ImportPlaces}
use Rattle.chains.specs.Names.{names_length}
use Rattle.classes.specs.Keys.{seen_length}
use Rattle.slots.specs.Slots.{slots_length}
use Rattle.depths.specs.Depths.{OwnDepths, DepthsFit, depth_width}
use Rattle.refusals.specs.declared.refusal.Refusal.{Refusal}
use Rattle.refusals.specs.Refusals.{number_of, number_said}
use Rattle.judge.specs.declared.PackageEntry.{PackageEntry}
use Rattle.judge.specs.declared.LoadingDomain.{LoadingDomain}
use Rattle.judge.specs.declared.Judging.{Judging}

-- the used field of a store
abbrev pub used_at : Bytes → ℕ
used_at s = u2_at s 5

-- the tables of question 20 have room for the names of a chain and for every class of the store, and the first for the slots of 18 and 19
abbrev pub HasRoom : Bytes → List ℕ → List ℕ → Type 0
HasRoom s names seen = (names_length s ≤ length names) × (seen_length s ≤ length seen) × (slots_length ≤ length names)

-- the depth figure of a load's answer
abbrev pub figure_of : Result ℕ Refusal → ℕ
figure_of (Err e) = 0
figure_of (Ok d) = d

-- the questions of a list from the one with number k on
abbrev pub from : ℕ → List Question → List Question
from k [] = []
from k (q ∷ qs) = pick (eqb q.0 k) (q ∷ qs) (from k qs)

-- a load's questions from 11 on, of a file that reads as p
abbrev pub asks : Bytes → List Entry → Aid → Bytes → Package → List Question
asks s es d f p = package_questions (store_opening s) (length s) es d f (some p)

-- a file that reads, over sound entries that end at a place
pub record FileRead (s : Bytes) (end : ℕ) (f : Bytes) (es : List Entry) (p : Package) : Type 0 where
  pub over : Over s end es
  pub reads : read_file (store_limits s) f ≡ some p

-- one that passed 12 to 14, loaded by the domain d
pub record Asked14 (s : Bytes) (end : ℕ) (d : Aid) (f : Bytes) (es : List Entry) (p : Package) : Type 0 where
  pub read : FileRead s end f es p
  pub q12 : T (q12_new (installed (store_limits s) es) p)
  pub q13 : T (q13_imports (installed (store_limits s) es) p)
  pub q14 : T (q14_parents (store_limits s) (installed (store_limits s) es) (record { domain = d; pack = p }))

-- an answer to a list of questions: its number, and the depth figure where that is 0
pub record AnswerIs (qs : List Question) (depth : ℕ) (r : Result ℕ Refusal) : Type 0 where
  pub number : number_said r ≡ first_no qs
  pub figure : first_no qs ≡ 0 → figure_of r ≡ depth

-- what is required of a file that reads, and of one that passed 14
abbrev pub ReadSome : Bytes → Bytes → Type 0
ReadSome s f = (p : Package) × (read_file (store_limits s) f ≡ some p)

abbrev pub Asked14Some : Bytes → ℕ → Aid → Bytes → Type 0
Asked14Some s end d f = (es : List Entry) × (p : Package) × Asked14 s end d f es p

-- the number of a load's questions from k on, of a file that passed those up to 14
abbrev pub NumberFrom : ℕ → Bytes → ℕ → Aid → Bytes → ℕ → Type 0
NumberFrom k s end d f r = (es : List Entry) (p : Package) → Asked14 s end d f es p → r ≡ first_no (from k (asks s es d f p))

-- the number of the first no from k on before m; 0 where these are answered yes, and the number from m on is the one from k on
abbrev pub NumberBefore : ℕ → ℕ → Bytes → ℕ → Aid → Bytes → ℕ → Type 0
NumberBefore k m s end d f r = ((r ≡ 0 → ⊥) → NumberFrom k s end d f r) × (r ≡ 0 → (n : ℕ) → NumberFrom m s end d f n → NumberFrom k s end d f n)

-- a load's questions from 10 on, whatever the file
abbrev pub file_asks : Bytes → List Entry → Aid → Bytes → List Question
file_asks s es d f = from 10 (load_questions (store_opening s) (length s) es d f)

-- questions 10 to 14: the number of the first no, or that all are answered yes, with the depth of the deepest class
abbrev pub ParentsSay : Bytes → ℕ → Aid → Bytes → List Entry → Result ℕ Refusal → Type 0
ParentsSay s end d f es (Err e) = number_of e ≡ first_no (file_asks s es d f)
ParentsSay s end d f es (Ok depth) = (p : Package) × Asked14 s end d f es p × (q10_marked f ≡ true) × (depth ≡ deepest (store_limits s) es d p)

-- of whatever sound entries end at a place, and whatever domain loads the file
abbrev pub ParentsAnswer : Bytes → ℕ → Bytes → Result ℕ Refusal → Type 0
ParentsAnswer s end f r = (d : Aid) (es : List Entry) → Over s end es → ParentsSay s end d f es r

-- with a yes: the depths of the own classes, and the places of the imports
abbrev pub TablesTold : Bytes → ℕ → Bytes → List ℕ → List ℕ → Result ℕ Refusal → Type 0
TablesTold s end f own places (Err e) = Unit {0}
TablesTold s end f own places (Ok depth) = OwnDepths f s end own × DepthsFit (depth_width s) f own × ImportPlaces f s end places

-- 26 of the file that d loads, where b says that it is asked, is the load's: it is not asked only where it is known to be yes
abbrev pub SubsetTold : Bytes → ℕ → Aid → Bytes → Bool → Type 0
SubsetTold s end d f b = (es : List Entry) → Over s end es → (p : Package) → read_file (store_limits s) f ≡ some p →
    (not b || all_codes code_without_int p) ≡ q26_subset es d p

-- the domain that a file which is judged is loaded into
abbrev pub loading_of : Judging → LoadingDomain
loading_of x = record { aid = x.aid; subset = x.subset }

-- where the AID of a domain stands, and whether 26 is asked
pub record DomainTold (s : Bytes) (end : ℕ) (f : Bytes) (x : LoadingDomain) : Type 0 where
  pub there : Ends aid s x.aid
  pub asked : SubsetTold s end (aid_at s x.aid) f x.subset

-- 26 of whatever package the file reads as, where it is asked
abbrev pub SubsetIs : Bytes → Bool → Bool → Type 0
SubsetIs f b r = (l : Limits) (p : Package) → read_file l f ≡ some p → r ≡ (not b || all_codes code_without_int p)

-- questions 10 to 19 of a file that d loads: the number of the first no, or what 10 to 14 say, and that the number from 20 on is the one from 15 on
abbrev pub InsideAnswer : Bytes → ℕ → Aid → Bytes → Result ℕ Refusal → Type 0
InsideAnswer s end d f (Err e) = (es : List Entry) → Over s end es → number_of e ≡ first_no (file_asks s es d f)
InsideAnswer s end d f (Ok depth) = ParentsAnswer s end f (Ok depth) × ((n : ℕ) → NumberFrom 20 s end d f n → NumberFrom 15 s end d f n)

-- a load's answer from 10 on, and whole
abbrev pub FileSays : Bytes → ℕ → Aid → Bytes → Result ℕ Refusal → Type 0
FileSays s end d f r = (es : List Entry) → Over s end es → AnswerIs (file_asks s es d f) (deepest_of (store_limits s) es d (read_file (store_limits s) f)) r

abbrev pub LoadSays : Bytes → ℕ → Aid → Bytes → Result ℕ Refusal → Type 0
LoadSays s end d f r = (es : List Entry) → Over s end es →
    AnswerIs (load_questions (store_opening s) (length s) es d f) (deepest_of (store_limits s) es d (read_file (store_limits s) f)) r

-- 3 and 4 of a domain behind these entries, 3 and 5 of a package's, and 26 of a package
abbrev pub DomainYes : Limits → List Entry → Entry → Type 0
DomainYes l pre (domain k a) = T (q3_lengths (a ∷ [])) × T (q4_new pre a)
DomainYes l pre (loaded d f) = T (q3_lengths (d ∷ [])) × T (q5_created pre d) × ((p : Package) → read_file l f ≡ some p → T (q26_subset pre d p))

-- of every entry of those that end at a place
abbrev pub DomainsYes : Bytes → ℕ → Type 0
DomainsYes s end = (es pre post : List Entry) (e : Entry) → Entries s (first_entry s) es end → es ≡ pre ++ e ∷ post → DomainYes (store_limits s) pre e

-- whether an entry would have been accepted over those that end at a place
abbrev pub EntrySays : Bytes → ℕ → Entry → Bool → Type 0
EntrySays s at e r = (es : List Entry) → Over s at es → r ≡ accepted (store_opening s) (length s) es e

-- the entry of a package by its places
abbrev pub entry_of : Bytes → PackageEntry → Entry
entry_of s x = loaded (aid_at s (x.at + 3)) (part s x.file x.next)

-- it stands there, and questions 3, 5 and 26 of it are answered yes
pub record PackageThere (s : Bytes) (x : PackageEntry) : Type 0 where
  pub stands : EntryAt s x.at (entry_of s x) x.next
  pub domain : Ends aid s (x.at + 3)
  pub file : x.file ≤ x.next
  pub inside : x.at < x.file
  pub known : (pre : List Entry) → Over s x.at pre → (q3_lengths (aid_at s (x.at + 3) ∷ []) ≡ true) × (q5_created pre (aid_at s (x.at + 3)) ≡ true)
      × ((p : Package) → read_file (store_limits s) (part s x.file x.next) ≡ some p → q26_subset pre (aid_at s (x.at + 3)) p ≡ true)

-- whether each entry up to a place would have been accepted
abbrev pub PackagesSay : Bytes → ℕ → Bool → Type 0
PackagesSay s end r = (es : List Entry) → Entries s (first_entry s) es end → r ≡ sound_entries (store_opening s) (length s) es
