-- A file loaded over the entries that end at a place, questions 12 to 14 answered yes: where 18 and 19 are asked. Assumes nothing.
--
-- Loading f s end es self == such a setting
-- Judged f s end       == there is one; OfJudged == a fact of every such setting
use Rattle.std.specs.Prelude.{ℕ, List, T}
use Rattle.rules.specs.Bytes.{Bytes}
use Rattle.rules.specs.Store.{Entry, store_limits}
use Rattle.rules.specs.Classes.{Installed, installed}
use Rattle.rules.specs.Questions.{q12_new}
use Rattle.homes.specs.Homes.{Setting, Imports}
use Rattle.classes.specs.Say as classes

-- question 12 was answered yes, and so were 13 and 14
pub record Loading (f s : Bytes) (end : ℕ) (es : List Entry) (self : Installed) : Type 0 where
  pub new : T (q12_new (installed (store_limits s) es) self.pack)
  pub judged : classes.Judged f s end es self

-- each import is installed, over sound entries
abbrev pub imports_of : {f s : Bytes} {end : ℕ} {es : List Entry} {self : Installed} → Loading f s end es self → Imports f s end es self
imports_of i = i.judged.parents.imported

abbrev pub setting_of : {f s : Bytes} {end : ℕ} {es : List Entry} {self : Installed} → Loading f s end es self → Setting f s end es self
setting_of i = (imports_of i).setting

abbrev pub Judged : Bytes → Bytes → ℕ → Type 0
Judged f s end = (es : List Entry) × (self : Installed) × Loading f s end es self

abbrev pub OfJudged : Bytes → Bytes → ℕ → (List Entry → Installed → Type 0) → Type 0
OfJudged f s end q = (es : List Entry) (self : Installed) → Loading f s end es self → q es self
