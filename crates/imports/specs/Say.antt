-- Questions 12 and 13 of a file over the entries that end at a place. Assumes nothing.
--
-- SettingThere, OfSetting == what a function over the file requires, and how it ensures
-- NewIs, ImportsIs        == questions 12 and 13
-- ImportThere f s end i   == the file's list of imports stands at place i
-- ImportHomeIs f s end k r == r is the home of the package installed under the AID of import k
use Rattle.std.specs.Prelude.{ℕ, ◌≡◌, Bool, List}
use Rattle.std.specs.Prelude.{Option as Optional}
use Rattle.homes.specs.declared.Home.{Home}
use Rattle.std.proofs.Math.Option.{some}
use Rattle.rules.specs.Bytes.{Bytes, Aid, at}
use Rattle.rules.specs.Store.{Entry, store_limits}
use Rattle.rules.specs.Classes.{Installed, installed}
use Rattle.rules.specs.Questions.{q12_new, q13_imports}
use Rattle.files.specs.Say.{ImportsAt}
use Rattle.homes.specs.Homes.{Setting, HomeSays}

-- the file is being judged over the entries that end there
abbrev pub SettingThere : Bytes → Bytes → ℕ → Type 0
SettingThere f s end = (es : List Entry) × (self : Installed) × Setting f s end es self

abbrev pub OfSetting : Bytes → Bytes → ℕ → (List Entry → Installed → Type 0) → Type 0
OfSetting f s end q = (es : List Entry) (self : Installed) → Setting f s end es self → q es self

-- 12
abbrev pub NewIs : Bytes → Bytes → ℕ → Bool → Type 0
NewIs f s end r = OfSetting f s end λ es self. r ≡ q12_new (installed (store_limits s) es) self.pack

-- 13
abbrev pub ImportsIs : Bytes → Bytes → ℕ → Bool → Type 0
ImportsIs f s end r = OfSetting f s end λ es self. r ≡ q13_imports (installed (store_limits s) es) self.pack

-- the list of imports stands at a place
abbrev pub ImportThere : Bytes → Bytes → ℕ → ℕ → Type 0
ImportThere f s end i = SettingThere f s end × ImportsAt f i

-- the home of the package of import k
abbrev pub ImportHomeIs : Bytes → Bytes → ℕ → ℕ → Optional Home → Type 0
ImportHomeIs f s end k r = OfSetting f s end λ es self. (a : Aid) → at self.pack.imports k ≡ some a → HomeSays s es a r
