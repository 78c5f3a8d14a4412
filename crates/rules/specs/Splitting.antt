-- Codes cut into instructions, and their handlers, without a bound and without a list, as the documents say them; no file version occurs.
-- Assumes nothing.
--
-- Reaches code k     == instruction by instruction from offset 0, the code is cut at offset k
-- Begins code k      == an instruction of the code begins at offset k
-- Splits code        == it is cut at its end: it splits into instructions from offset 0 to its end
-- HandlerGood code h == what question 24 asks of a handler; Q24 p == so of every handler of every code of a package
-- InHandler h k      == offset k lies in what a handler guards, or from its target on
-- MadeBy is m c o    == the call c, made by the method m, calls the method o
-- CallsInHandlers l es == each call inside a handler of an installed method is a call of that method on any path
use Rattle.std.specs.Prelude.{ℕ, ◌+◌, ◌≤◌, ◌<◌, ◌≡◌, true, ◌⊎◌, T, length}
use mathlib.Core.List.{List, Memᴰ}
use Rattle.std.proofs.Math.Option.{some}
use Rattle.rules.specs.Bytes.{Bytes, Aid}
use Rattle.rules.specs.Code.{instruction_length, Handler, Call, call_at}
use Rattle.rules.specs.Package.{Limits, Method, Class, Package}
use Rattle.rules.specs.Store.{Entry}
use Rattle.rules.specs.Classes.{Installed, installed, ClassAt, MethodAt, allows}
use Rattle.rules.specs.Paths.{InstalledMethod, located, IsOrBelow, Runs, Names, Direct, Dynamic, CallPath}

pub data Reaches (code : Bytes) : ℕ → Type 0 where
  first : Reaches code 0
  next : {k : ℕ} (n : ℕ) → Reaches code k → instruction_length code k ≡ some n → Reaches code (k + n)

abbrev pub Begins : Bytes → ℕ → Type 0
Begins code k = Reaches code k × (k < length code)

abbrev pub Splits : Bytes → Type 0
Splits code = Reaches code (length code)

-- start is below end, end at most the code length, start and target begin an instruction, and end begins one or equals the length
pub record HandlerGood (code : Bytes) (h : Handler) : Type 0 where
  pub order : h.start < h.end
  pub within : h.end ≤ length code
  pub start : Begins code h.start
  pub target : Begins code h.target
  pub end : Begins code h.end ⊎ (h.end ≡ length code)

abbrev pub Q24 : Package → Type 0
Q24 p = (k : Class) → Memᴰ k p.classes → (m : Method) → Memᴰ m k.methods → m.implemented ≡ true →
    (h : Handler) → Memᴰ h m.handlers → HandlerGood m.code h

abbrev pub InHandler : Handler → ℕ → Type 0
InHandler h k = ((h.start ≤ k) × (k < h.end)) ⊎ (h.target ≤ k)

-- 8C and 8D call the declaration meant, 8B and 8E the method that runs for an installed class at or below the one named
pub data MadeBy (is : List Installed) (m : MethodAt) (c : Call) : MethodAt → Type 0 where
  names : Direct c.kind → (x : ClassAt) (o : MethodAt) → Names is m.class.home c x o → MadeBy is m c o
  runs : Dynamic c.kind → (x : ClassAt) (t : MethodAt) → Names is m.class.home c x t →
      (b : ClassAt) → Memᴰ b.home is → IsOrBelow is b x →
      (o : MethodAt) → Runs is b t.method.name o → MadeBy is m c o

-- a call inside a handler is a call of its method on any path: it makes a path, and one with any path behind it; along it the last method
-- allows the first one's domain and all that the first one allows
abbrev pub CallsInHandlers : Limits → List Entry → Type 0
CallsInHandlers l es = (m o : InstalledMethod l es) (h : Handler) → Memᴰ h m.method.handlers → (k : ℕ) → InHandler h k →
    Begins m.method.code k → (c : Call) → Memᴰ c (call_at m.method.code k) → MadeBy (installed l es) (located m) c (located o) →
    CallPath l es m o × ((p : InstalledMethod l es) → CallPath l es o p → CallPath l es m p)
    × T (allows (located o) m.domain) × ((d : Aid) → T (allows (located m) d) → T (allows (located o) d))
