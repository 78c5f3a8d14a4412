-- What questions 1 and 2 of a buffer and a load say. Assumes nothing.
--
-- Room s n m j k        == tables of n, m, j and k numbers are large enough for the store
-- LaidAt s u             == s is the layout of entries that end at place u, and questions 3 to 5 of each are answered yes
-- LaidSays s r           == 1 and 2 up to the domains: the first no, or where the entries end
-- OpenedSays s r         == 1 and 2: the first no, or where the entries of a sound store end
-- JudgedSays s u d f r   == a load over entries that stand there: 2 where one of them is not accepted, else the load's answer
-- LoadingSays s d f r    == a load: the first no, or the end of the entries and the depth of the deepest class
use Rattle.std.specs.Prelude.{ℕ, ◌*◌, ◌≤◌, ◌≡◌, true, false, List, ◌⊎◌, length, Result, Ok, Err}
use Rattle.std.proofs.Math.Option.{some}
use Rattle.rules.specs.Bytes.{Bytes, Aid}
use Rattle.rules.specs.Store.{Entry, used, entries_of, first_entry, store_opening}
use Rattle.rules.specs.Questions.{q1_size}
use Rattle.rules.specs.Operations.{Question, on_store, load, number}
use Rattle.store.specs.Entries.{StandFrom, Holds}
use Rattle.store.specs.Sound.{SoundAt}
use Rattle.depths.specs.Depths.{depths_length}
use Rattle.chains.specs.Names.{names_length}
use Rattle.classes.specs.Keys.{seen_length}
use Rattle.slots.specs.Slots.{slots_length}
use Rattle.judge.specs.Says.{used_at, DomainsYes, PackagesSay, LoadSays}
use Rattle.refusals.specs.declared.refusal.Refusal.{Refusal}
use Rattle.refusals.specs.declared.refusal.Refusal.TheVariants as refused
use Rattle.refusals.specs.Refusals.{number_of}
use Rattle.sound.specs.declared.Loading.{Loading}

-- a layout whose domains are accepted
pub record LaidAt (s : Bytes) (u : ℕ) : Type 0 where
  pub size : q1_size s ≡ true
  pub small : length s ≤ 65535
  pub entries : List Entry
  pub reads : entries_of s ≡ some entries
  pub holds : Holds s entries
  pub ends : used (store_opening s) entries ≡ u
  pub field : used_at s ≡ u
  pub stand : StandFrom s (first_entry s) u
  pub domains : DomainsYes s u

-- a refusal of 1 or 2, whatever is asked behind them
abbrev pub Unopened : Bytes → Refusal → Type 0
Unopened s e = (qs : List Question) → number_of e ≡ on_store s qs

abbrev pub LaidSays : Bytes → Result ℕ Refusal → Type 0
LaidSays s (Err e) = Unopened s e
LaidSays s (Ok u) = LaidAt s u

abbrev pub OpenedSays : Bytes → Result ℕ Refusal → Type 0
OpenedSays s (Err e) = Unopened s e
OpenedSays s (Ok u) = SoundAt s u

abbrev pub JudgedSays : Bytes → ℕ → Aid → Bytes → Result ℕ Refusal → Type 0
JudgedSays s u d f r = (PackagesSay s u false × (r ≡ Err refused.StoreUnsound)) ⊎ (PackagesSay s u true × LoadSays s u d f r)

abbrev pub LoadingSays : Bytes → Aid → Bytes → Result Loading Refusal → Type 0
LoadingSays s d f (Err e) = number_of e ≡ number s (load d f)
LoadingSays s d f (Ok x) = SoundAt s x.used × LoadSays s x.used d f (Ok x.depth)

-- tables of n, m, j and k numbers are large enough for the store
pub record Room (s : Bytes) (n m j k : ℕ) : Type 0 where
  pub size : length s ≤ 65535
  pub index : length s ≤ 27 * n
  pub depths : depths_length s ≤ m
  pub names : names_length s ≤ j
  pub seen : seen_length s ≤ k
  pub slots : slots_length ≤ j
