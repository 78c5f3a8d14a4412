-- The class that a package number and a class number name in the file being judged. Its place is looked up once and kept in a row of 32
-- numbers for each package number: 0 where it is not known yet. Assumes nothing.
--
-- Judged f s end       == the file f is judged over the entries of s that end there; OfJudged == a fact of every such setting
-- t                    == the table of the places of the file's imports; home_of s end t p == the home of package number p
-- PackageThere f p     == the file has package number p: its own, 0, or an import's
-- NumberPlaced s t p   == p is 0, or the table has a place for it where a package's entry stands
-- Stands g c i         == i is the place that is reached when c classes of the file g are passed
-- ClassesFrom g c i    == the file g has its classes from number c on from place i on
-- ClassFrom g c i      == and class c is one of them: its record stands at i
-- ClassStands g c r    == r is the place of the record of class c of the file g, if it has that class
-- RowTrue g rows base  == the row from number `base` on tells places of class records of the file g
-- Beside rows new base == the numbers outside that row are the same
-- RowsTrue f s end t rows == row p is true of the file of package number p
use Rattle.std.specs.Prelude.{ℕ, zero, suc, ◌+◌, ◌-◌, ◌*◌, ◌≤◌, ◌<◌, ◌≡◌, List, length, drop, get_or}
use Rattle.std.specs.Prelude.{Some, None}
use Rattle.std.specs.Prelude.{Option as Optional}
use Rattle.std.proofs.Math.Option.{some}
use Rattle.rules.specs.Bytes.{Bytes, many}
use Rattle.rules.specs.Package.{Limits, format_of, most_imports, most_classes, Package, class, read_file}
use Rattle.rules.specs.Store.{Entry}
use Rattle.rules.specs.Classes.{Installed}
use Rattle.places.specs.Reads.{Reads}
use Rattle.files.specs.Say.{ClassesAt, ClassThere, AfterClass, ClassPlaced}
use Rattle.homes.specs.Homes.{Imports, own_home, PackageFrom, file_of}
use Rattle.homes.specs.Found.{home_at}
use Rattle.homes.specs.declared.Home.{Home}

-- a file judged over the entries that end at a place, each import installed
abbrev pub Judged : Bytes → Bytes → ℕ → Type 0
Judged f s end = (es : List Entry) × (self : Installed) × Imports f s end es self

-- a fact of every such setting
abbrev pub OfJudged : Bytes → Bytes → ℕ → (List Entry → Installed → Type 0) → Type 0
OfJudged f s end q = (es : List Entry) (self : Installed) → Imports f s end es self → q es self

-- the home of the package that a number stands for, by the table of the imports' places
abbrev pub home_of : Bytes → ℕ → List ℕ → ℕ → Home
home_of s end t zero = own_home end
home_of s end t (suc k) = home_at s t k

-- the file has this package number
abbrev pub PackageThere : Bytes → ℕ → Type 0
PackageThere f p = (l : Limits) (q : Package) → read_file l f ≡ some q → p ≤ length q.imports

-- a number that is not 0 has a place where a package's entry stands
pub record NumberPlaced (s : Bytes) (t : List ℕ) (p : ℕ) : Type 0 where
  pub few : p ≤ most_imports
  pub stands : (p ≡ 0 → ⊥) → PackageFrom s (get_or t (p - 1) 0)

-- c classes are passed
pub data Stands (g : Bytes) : ℕ → ℕ → Type 0 where
  first : {i : ℕ} → ClassesAt g i → Stands g 0 (i + 1)
  next : {c i j : ℕ} → Stands g c i → ClassThere g i → AfterClass g i j → Stands g (c + 1) j

-- the classes from number c on, read from a place to the end of the file
pub record ClassesFrom (g : Bytes) (c i : ℕ) : Type 0 where
  pub stands : Stands g c i
  pub left : (l : Limits) (p : Package) → read_file l g ≡ some p →
      Reads (many (length p.classes - c) (class (format_of l g) p.domains)) g i (drop c p.classes)
      (length g)

-- class c is there
pub record ClassFrom (g : Bytes) (c i : ℕ) : Type 0 where
  pub inside : i < length g
  pub rest : ClassesFrom g c i

-- its place, if the file has that class
abbrev pub ClassStands : Bytes → ℕ → Optional ℕ → Type 0
ClassStands g c (Some i) = ClassFrom g c i
ClassStands g c None = ClassPlaced g c None

-- what a row tells
pub record RowTrue (g : Bytes) (rows : List ℕ) (base : ℕ) : Type 0 where
  pub room : base + most_classes ≤ length rows
  pub told : (c : ℕ) → c < most_classes → 0 < get_or rows (base + c) 0 → ClassFrom g c (get_or rows (base + c) 0)

-- the other rows are as they were
pub record Beside (rows new : List ℕ) (base : ℕ) : Type 0 where
  pub below : (i : ℕ) → i < base → get_or new i 0 ≡ get_or rows i 0
  pub above : (i : ℕ) → base + most_classes ≤ i → get_or new i 0 ≡ get_or rows i 0

-- a row for the own file and for each import
abbrev pub rows_length : ℕ
rows_length = 512

pub record RowsTrue (f s : Bytes) (end : ℕ) (t rows : List ℕ) : Type 0 where
  pub size : length rows ≡ rows_length
  pub row : (p : ℕ) → p ≤ most_imports → RowTrue (file_of f s (home_of s end t p)) rows (most_classes * p)
