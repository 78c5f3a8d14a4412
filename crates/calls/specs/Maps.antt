-- What a walk over the calls of a file carries. Assumes nothing.
--
-- asker_at a i              == the same at another place; asker_from a n == with the group of references from number n on
-- domains_of s g            == the domains that the file g lists, read within the limits of the store s
-- rows_number self of k     == the number, in the domains of self and its own domain behind them, of slot k % 33 of package number k / 33, which is `of`
-- LoadingIs f s a          == a tells the number of the loading domain
-- AskerTrue f s a          == all that a tells of the file being judged
-- MapTrue f s end d m      == each number in the table m is true, where it is known, for the file loaded in d
use Rattle.std.specs.Prelude.{ℕ, ◌/◌, ◌%◌, ◌≡◌, List, [], ◌∷◌, ◌++◌, length}
use Rattle.std.proofs.Math.Option.{Option, none, some}
use Rattle.rules.specs.Bytes.{Bytes, Aid, aid}
use Rattle.rules.specs.Package.{Package, read_file}
use Rattle.rules.specs.Store.{Entry, store_limits}
use Rattle.rules.specs.Classes.{Installed, installed, package_numbered}
use Rattle.places.specs.Reads.{Ends}
use Rattle.policies.specs.Say.{slot_aid}
use Rattle.policies.specs.Numbers.{number_in}
use Rattle.policies.specs.Rows.{row_length, Known}
use Rattle.homes.specs.Homes.{aid_at}
use Rattle.references.specs.Setting.{Loading}
use Rattle.references.specs.Named.{GroupTrue}
use Rattle.references.specs.declared.Group.{Group}
use Rattle.calls.specs.declared.Asker.{Asker}

abbrev pub asker_at : Asker → ℕ → Asker
asker_at a i = record { group = a.group; domain = a.domain; loading = a.loading; at = i }

abbrev pub group_from : Group → ℕ → Group
group_from g n = record { end = g.end; at = g.at; count = g.count; first = n }

abbrev pub asker_from : Asker → ℕ → Asker
asker_from a n = record { group = group_from a.group n; domain = a.domain; loading = a.loading; at = a.at }

-- the domains of what is read
abbrev pub listed : Option Package → List Aid
listed none = []
listed (some p) = p.domains

abbrev pub domains_of : Bytes → Bytes → List Aid
domains_of s g = listed (read_file (store_limits s) g)

-- the domains that a package lists, and the domain that it lies in
abbrev pub package_domains : Option Installed → List Aid
package_domains none = []
package_domains (some y) = y.pack.domains

abbrev pub package_domain : Option Installed → Aid
package_domain none = []
package_domain (some y) = y.domain

abbrev pub rows_number : Installed → (ℕ → Option Installed) → ℕ → ℕ
rows_number self of k =
    number_in (self.pack.domains ++ self.domain ∷ [])
    (slot_aid (package_domains (of (k / row_length))) (package_domain (of (k / row_length))) (k % row_length))

abbrev pub LoadingIs : Bytes → Bytes → Asker → Type 0
LoadingIs f s a = let d = aid_at s a.domain in a.loading ≡ number_in (domains_of s f ++ d ∷ []) d

pub record AskerTrue (f s : Bytes) (a : Asker) : Type 0 where
  pub file : GroupTrue f a.group
  pub domain : Ends aid s a.domain
  pub loading : LoadingIs f s a

-- 16 packages
abbrev pub map_length : ℕ
map_length = 528

pub record MapTrue (f s : Bytes) (end : ℕ) (d : Aid) (m : List ℕ) : Type 0 where
  pub size : length m ≡ map_length
  pub known : (es : List Entry) (self : Installed) → Loading f s end es self → self.domain ≡ d →
      Known (rows_number self (package_numbered (installed (store_limits s) es) self)) m
