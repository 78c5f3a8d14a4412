-- Questions 3, 4 and 5 of a store's entries, and 26 of its packages, asked of all of them before any other question. Assumes nothing.
--
-- domain_key e            == a domain's AID
-- least_domain            == the bytes of an accepted domain's entry at least: 3, an AID of 5
-- DomainsIs s end table  == the domains of the entries that end at place end have been entered, and nothing else
-- reads_without_int l f     == the file reads, each code splits, and no instruction is barred
-- domain_accepted l pre e  == 3 and 4 of a domain, 3 and 5 of a package's domain, over the entries pre; and, where that domain is of kind 3,
--                            that its file reads and keeps to the subset
-- domains_accepted l pre es == of each entry, over pre and the earlier ones
-- EntrySays s at e r      == domain_accepted, over whatever entries end at place at
-- AllSay s end r          == domains_accepted, of whatever entries end at place end
use Rattle.std.specs.Prelude.{ℕ, ◌+◌, ◌*◌, ◌≤◌, ◌≡◌, Bool, true, ◌&&◌, ◌||◌, not, List, [], ◌∷◌, ◌++◌, length}
use Rattle.std.proofs.Math.Option.{Option, none, some}
use Rattle.rules.specs.Bytes.{Bytes, Aid, some_and}
use Rattle.rules.specs.Subset.{code_without_int}
use Rattle.rules.specs.Package.{Limits, read_file}
use Rattle.rules.specs.Store.{Entry, domain, loaded, first_entry, store_limits}
use Rattle.rules.specs.Questions.{q3_lengths, q4_new, q5_created, q10_marked, all_codes, keeps_subset}
use Rattle.store.specs.Entries.{Entries}
use Rattle.sorted.specs.Sorted.{count}
use Rattle.index.specs.Index.{TableOf}

-- a domain's AID
abbrev pub domain_key : Entry → Option Aid
domain_key (domain k a) = some a
domain_key (loaded d f) = none

abbrev pub least_domain : ℕ
least_domain = 8

-- the domains of the entries that end at a place have been entered, and nothing else; there is room for every domain of the buffer
pub record DomainsIs (s : Bytes) (end : ℕ) (l : List ℕ) : Type 0 where
  pub table : TableOf domain_key s end l
  pub room : length s ≤ least_domain * length l
  pub few : least_domain * count l + (first_entry s) ≤ end

-- the file reads, each code splits, and no instruction is barred
unfoldable pub reads_without_int : Limits → Bytes → Bool
reads_without_int l f = q10_marked f && some_and (read_file l f) (all_codes code_without_int)

-- 3, 4 and 5 of an entry over others, and 26, which no file that 16 refuses passes
abbrev pub domain_accepted : Limits → List Entry → Entry → Bool
domain_accepted l pre (domain k a) = q3_lengths (a ∷ []) && q4_new pre a
domain_accepted l pre (loaded d f) = q3_lengths (d ∷ []) && (q5_created pre d && (not (keeps_subset pre d) || reads_without_int l f))

-- of each entry, over others and the earlier ones
abbrev pub domains_accepted : Limits → List Entry → List Entry → Bool
domains_accepted l pre [] = true
domains_accepted l pre (e ∷ es) = domain_accepted l pre e && domains_accepted l (pre ++ e ∷ []) es

-- of an entry, over whatever entries end at a place
abbrev pub EntrySays : Bytes → ℕ → Entry → Bool → Type 0
EntrySays s at e r = (pre : List Entry) → Entries s (first_entry s) pre at → r ≡ domain_accepted (store_limits s) pre e

-- of whatever entries end at a place
abbrev pub AllSay : Bytes → ℕ → Bool → Type 0
AllSay s end r = (es : List Entry) → Entries s (first_entry s) es end → r ≡ domains_accepted (store_limits s) [] es
