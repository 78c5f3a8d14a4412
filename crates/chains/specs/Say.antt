-- What the functions over the methods of a chain require and ensure. Assumes nothing.
--
-- Running f s end b es self == the file f being judged over the entries es, questions 13 and 14 answered yes, and own class b of kind 0
-- MethodIn              == a method stands at a place of the file at home h
-- runs_at h i           == the method at place i of the file at home h, told
-- FirstIs, RunsIs       == the method told is the first non-static one of a name, the one that runs
-- IfImplemented         == the method at a place, told if it is implemented
use Rattle.std.specs.Prelude.{ℕ, ◌≡◌, true, false, List, T, Some, None}
use Rattle.std.specs.Prelude.{Option as Optional}
use Rattle.fields.specs.Told.{told}
use Rattle.std.proofs.Math.Option.{Option, none, some}
use Rattle.rules.specs.Bytes.{Bytes}
use Rattle.rules.specs.Package.{method}
use Rattle.rules.specs.Store.{Entry, store_limits}
use Rattle.rules.specs.Classes.{Installed, installed, ClassAt, is_kind0, declared_instance, MethodAt, runs_up_to}
use Rattle.rules.specs.Questions.{own}
use Rattle.rules.specs.Paths.{First}
use Rattle.places.specs.Reads.{Reads, Placed}
use Rattle.files.specs.Say as files
use Rattle.homes.specs.Homes.{file_of, format_at, HomeIs}
use Rattle.homes.specs.declared.Home.{Home}
use Rattle.classes.specs.Say.{Judged, AtClass}
use Rattle.chains.specs.declared.MethodSpot.{MethodSpot}

-- questions 13 and 14 were answered yes, and own class b is of kind 0
pub record Running (f s : Bytes) (end b : ℕ) (es : List Entry) (self : Installed) : Type 0 where
  pub judged : Judged f s end es self
  pub kind0 : T (is_kind0 (own self b))

-- methods: a class record stands at a place
abbrev pub RecordThere : Bytes → ℕ → Type 0
RecordThere g i = files.ClassThere g i

abbrev pub InstanceAt : Bytes → Bytes → Home → ℕ → ℕ → Optional ℕ → Type 0
InstanceAt f s h n name r = AtClass f s h n λ end es self x k. Placed (method (format_at s (file_of f s h)) x.pack.domains) (file_of f s h)
    (declared_instance k name)
    (told r)

-- the method o stands at place i of the file at home h
pub record MethodIn (f s : Bytes) (end : ℕ) (es : List Entry) (self : Installed) (h : Home) (i : ℕ) (o : MethodAt) : Type 0 where
  pub home : HomeIs f s end es self h o.class.home
  pub ends : ℕ
  pub reads : Reads (method (format_at s (file_of f s h)) o.class.home.pack.domains) (file_of f s h) i o.method ends

-- a method, told by its home and place
abbrev pub runs_at : Home → ℕ → Optional MethodSpot
runs_at h i = Some (record { home = h; place = i })

-- the method told is the first that declares a non-static one of the name, or there is none
abbrev pub FirstFound : Bytes → Bytes → ℕ → List Entry → Installed → ClassAt → ℕ → Optional MethodSpot → Type 0
FirstFound f s end es self c name (Some x) = (o : MethodAt) × First (installed (store_limits s) es) c name o × MethodIn f s end es self x.home x.place o
FirstFound f s end es self c name None = (o : MethodAt) → First (installed (store_limits s) es) c name o → ⊥

abbrev pub FirstIs : Bytes → Bytes → Home → ℕ → ℕ → Optional MethodSpot → Type 0
FirstIs f s h n name r = AtClass f s h n λ end es self x k. FirstFound f s end es self (record { home = x; number = n }) name r

-- a method stands at a place
abbrev pub MethodHere : Bytes → ℕ → Type 0
MethodHere g i = files.MethodThere g i

-- the method at place i of the file g, which lies at home h, if implemented
abbrev pub IfImplemented : Bytes → Home → ℕ → Optional MethodSpot → Type 0
IfImplemented g h i (Some x) = (x ≡ (record { home = h; place = i })) × files.ImplementedIs g i true
IfImplemented g h i None = files.ImplementedIs g i false

-- the method told is what runs
abbrev pub RunsAt : Bytes → Bytes → ℕ → List Entry → Installed → Option MethodAt → Optional MethodSpot → Type 0
RunsAt f s end es self o (Some x) = (m : MethodAt) × (o ≡ some m) × MethodIn f s end es self x.home x.place m
RunsAt f s end es self o None = o ≡ none

-- own class b of kind 0
abbrev pub RunningThere : Bytes → Bytes → ℕ → ℕ → Type 0
RunningThere f s end b = (es : List Entry) × (self : Installed) × Running f s end b es self

abbrev pub RunsIs : Bytes → Bytes → ℕ → ℕ → ℕ → Optional MethodSpot → Type 0
RunsIs f s end b name r = (es : List Entry) (self : Installed) → Running f s end b es self →
    RunsAt f s end es self (runs_up_to (installed (store_limits s) es) (store_limits s).depth (own self b) name) r
