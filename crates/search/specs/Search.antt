-- What the search of a declaration requires and ensures. Assumes nothing.
--
-- SoughtThere f s x     == the class from which a name is sought is there, over the entries that end at its place
-- DeclaredThere f s end es self h c m y == the declaration y is told: its class's record and its method stand at places c and m of the file at home h
-- DeclaredIs            == the declaration told, if one is told
-- SearchIs f s x r      == r tells the declaration that the class and the name mean
use Rattle.std.specs.Prelude.{ℕ, ◌≡◌, List, Some, None}
use Rattle.std.specs.Prelude.{Option as Optional}
use Rattle.std.proofs.Math.Option.{Option, none, some}
use Rattle.rules.specs.Bytes.{Bytes}
use Rattle.rules.specs.Package.{Class, method}
use Rattle.rules.specs.Package as format
use Rattle.rules.specs.Store.{Entry, store_limits}
use Rattle.rules.specs.Classes.{Installed, installed, record_of, MethodAt}
use Rattle.rules.specs.Search.{search_up_to}
use Rattle.places.specs.Reads.{Reads}
use Rattle.homes.specs.Homes.{file_of, format_at, HomeIs}
use Rattle.homes.specs.declared.Home.{Home}
use Rattle.classes.specs.Say.{Judged, ClassIn, OfClass}
use Rattle.search.specs.declared.Sought.{Sought}
use Rattle.search.specs.declared.Declaration.{Declaration}

-- the class from which a name is sought
abbrev pub SoughtThere : Bytes → Bytes → Sought → Type 0
SoughtThere f s x = ClassIn (Judged f s x.end) f s x.end x.home x.number

-- the declaration y stands at these places
pub record DeclaredThere (f s : Bytes) (end : ℕ) (es : List Entry) (self : Installed) (h : Home) (c m : ℕ) (y : MethodAt) : Type 0 where
  pub lies : HomeIs f s end es self h y.class.home
  pub class : Class
  pub is : record_of y.class ≡ some class
  pub class_end : ℕ
  pub stands : Reads (format.class (format_at s (file_of f s h)) y.class.home.pack.domains) (file_of f s h) c class class_end
  pub method_end : ℕ
  pub method : Reads (method (format_at s (file_of f s h)) y.class.home.pack.domains) (file_of f s h) m y.method method_end

-- the declaration told, if one is told
abbrev pub DeclaredIs : Bytes → Bytes → ℕ → List Entry → Installed → Option MethodAt → Optional Declaration → Type 0
DeclaredIs f s end es self o (Some d) = (y : MethodAt) × (o ≡ some y) × DeclaredThere f s end es self d.home d.class d.method y
DeclaredIs f s end es self o None = o ≡ none

abbrev pub SearchIs : Bytes → Bytes → Sought → Optional Declaration → Type 0
SearchIs f s x r = OfClass (Judged f s x.end) f s x.end x.home x.number λ es self p k. DeclaredIs f s x.end es self
    (search_up_to (installed (store_limits s) es) (store_limits s).depth (record { home = p; number = x.number }) x.name) r
