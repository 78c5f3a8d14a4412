-- Rows of numbers of domains in question 20, and the method beside which another is asked. Assumes nothing.
--
-- RowFor f s d g h row  == each number that the row knows is true of the files at homes g and h: of the first file's domains, its own behind them
-- RowTurned x y g h     == a row x for the file at home g and another file is, as y, one for the file at home h and that file
-- BesideIs f s end b h i r == the method at place i of the file at home h passes for own class b where the one told allows all that it allows
use Rattle.std.specs.Prelude.{ℕ, ◌≡◌, true, List, length, Some, None}
use Rattle.std.specs.Prelude.{Option as Optional}
use Rattle.std.proofs.Math.Option.{some}
use Rattle.rules.specs.Bytes.{Bytes}
use Rattle.rules.specs.Package.{Limits, Package, read_file}
use Rattle.rules.specs.Store.{Entry, store_limits}
use Rattle.rules.specs.Classes.{Installed, installed, MethodAt, allows_all_of}
use Rattle.rules.specs.Questions.{own}
use Rattle.policies.specs.Rows.{row_length, Known}
use Rattle.inclusion.specs.Rows.{row_number}
use Rattle.homes.specs.Homes.{file_of, aid_at, domain_place}
use Rattle.homes.specs.declared.Home.{Home}
use Rattle.chains.specs.Say.{Running, MethodIn}
use Rattle.chains.specs.declared.MethodSpot.{MethodSpot}
use Rattle.running.specs.Say.{method_passes}

pub record RowFor (f s : Bytes) (d : ℕ) (g h : Home) (row : List ℕ) : Type 0 where
  pub size : length row ≡ row_length
  pub known : (l : Limits) (p q : Package) → read_file l (file_of f s g) ≡ some p → read_file l (file_of f s h) ≡ some q →
      Known (row_number p.domains (aid_at s (domain_place g d)) q.domains (aid_at s (domain_place h d))) row

pub record RowTurned (x y : List ℕ) (g h : Home) : Type 0 where
  pub size : length y ≡ row_length
  pub turned : (f s : Bytes) (d : ℕ) (k : Home) → RowFor f s d g k x → RowFor f s d h k y

-- the method o passes where the one told, if one is told, allows all that it allows
abbrev pub Beside : Bytes → Bytes → ℕ → ℕ → List Entry → Installed → MethodAt → Optional MethodSpot → Type 0
Beside f s end b es self o (Some x) = (m : MethodAt) × MethodIn f s end es self x.home x.place m ×
    (allows_all_of m o ≡ method_passes (store_limits s) (installed (store_limits s) es) (own self b) o)
Beside f s end b es self o None = true ≡ method_passes (store_limits s) (installed (store_limits s) es) (own self b) o

abbrev pub BesideIs : Bytes → Bytes → ℕ → ℕ → Home → ℕ → Optional MethodSpot → Type 0
BesideIs f s end b h i r = (es : List Entry) (self : Installed) → Running f s end b es self → (o : MethodAt) → MethodIn f s end es self h i o →
    Beside f s end b es self o r
