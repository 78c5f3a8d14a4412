-- A call inside a handler is a call of its method on any path, for files of both editions together. Assumes nothing.
use Prim.Native.Nat.{ℕ}
use mathlib.Core.Path.{◌≡◌, refl, subst}
use mathlib.Core.Bool.{Bool, true, false}
use mathlib.Core.List.{List, [], Memᴰ}
use mathlib.Core.Option.{some}
use lib.ListN.{length}
use Rattle.rules.specs.Bytes.{Bytes, flat, list_of}
use Rattle.rules.specs.Code.{split, Handler, Call, call_at, calls_of}
use Rattle.rules.specs.Package.{Limits}
use Rattle.rules.specs.Store.{Opening, opening_limits, Entry}
use Rattle.rules.specs.Classes.{Installed, installed, MethodAt}
use Rattle.rules.specs.Operations.{Operation, fresh_number, fresh_bytes}
use Rattle.rules.specs.Ledger.{ledger_after, Run}
use Rattle.rules.specs.Paths.{InstalledMethod, home_of, located, Calls, direct, dynamic, call, then_call}
use Rattle.rules.specs.Splitting.{Begins, MadeBy, names, runs, CallsInHandlers}
use Rattle.rules.proofs.Tests.{list_of_mem, flat_mem_is}
use Rattle.rules.proofs.Lists.{at_mem}
use Rattle.rules.proofs.Bounds.{flat_mem}
use Rattle.rules.proofs.Sound.{Sane}
use Rattle.rules.proofs.Paths.{home_installed}
use Rattle.rules.proofs.Whole.{fresh_sane, whole}
use Rattle.rules.proofs.Cuts.{listed_begins, begins_listed}
use Rattle.rules.proofs.Editions.{file_formed}
use Rattle.rules.proofs.Handlers.{package_cut}

-- the calls of a code that splits are those of its instructions
pub calls_begin : (code : Bytes) (ks : List ℕ) → split code ≡ some ks → (c : Call) →
    (Memᴰ c (calls_of code) → (k : ℕ) × Begins code k × Memᴰ c (call_at code k))
    × ((k : ℕ) → Begins code k → Memᴰ c (call_at code k) → Memᴰ c (calls_of code))
unfolding calls_of
calls_begin code ks e c = (to, back)
  where
    to : Memᴰ c (list_of (split code) (flat (call_at code))) → (k : ℕ) × Begins code k × Memᴰ c (call_at code k)
    to m =
        let x = list_of_mem (split code) (flat (call_at code)) c m in
        let y = flat_mem_is (call_at code) x.0 c x.2 in
        (y.0, listed_begins code x.0 x.1 y.0 y.1, y.2)

    back : (k : ℕ) → Begins code k → Memᴰ c (call_at code k) → Memᴰ c (list_of (split code) (flat (call_at code)))
    back k b m = rw e (flat_mem (call_at code) k c ks (begins_listed code ks e k b) m)

-- a method calls another exactly where one of its calls does
pub calls_made : (is : List Installed) (m o : MethodAt) → Calls is m o → (c : Call) × Memᴰ c (calls_of m.method.code) × MadeBy is m c o
calls_made is m o (direct c k d x _ e) = (c, k, names d x o e)
calls_made is m o (dynamic c k d x t e b i u o' r) = (c, k, runs d x t e b i u o' r)

pub made_calls : (is : List Installed) (m o : MethodAt) (c : Call) → Memᴰ c (calls_of m.method.code) → MadeBy is m c o → Calls is m o
made_calls is m o c k (names d x _ e) = direct c k d x o e
made_calls is m o c k (runs d x t e b i u o' r) = dynamic c k d x t e b i u o' r

-- of an installed method that has a handler, every call that its code makes anywhere is a call of the method
pub handler_calls : (l : Limits) (es : List Entry) → Sane l (installed l es) → (m o : InstalledMethod l es) (h : Handler) →
    Memᴰ h m.method.handlers → (k : ℕ) → Begins m.method.code k → (c : Call) → Memᴰ c (call_at m.method.code k) →
    MadeBy (installed l es) (located m) c (located o) → Calls (installed l es) (located m) (located o)
handler_calls l es sane m o h z k b c n made = go m.method.implemented refl
  where
    there : Memᴰ m.class m.pack.classes
    there = at_mem m.pack.classes m.number m.class m.class_is

    none : Memᴰ h [] → ⊥
    none m = elim m [ ]

    go : (b : Bool) → m.method.implemented ≡ b → Calls (installed l es) (located m) (located o)
    go false e =
        let formed = file_formed l m.file m.pack m.reads m.class there m.method m.method_in in
        absurd (none (subst (Memᴰ h) (formed.bare e) z))
    go true e =
        let inside = sane.each (home_of m) (home_installed l es m) in
        let cut = package_cut m.pack inside.q16 m.class there m.method m.method_in e in
        made_calls (installed l es) (located m) (located o) c ((calls_begin m.method.code cut.0 cut.1 c).1 k b n) made

-- of the ledger of a list of calls: a call inside a handler makes a path, and one with any path behind it, and along these demand 3 holds
pub handler_paths : (s : Bytes) (v : Opening) → fresh_number s v ≡ 0 → (os : List Operation) (ks : List ℕ) (t : Bytes) → Run (fresh_bytes s v) os ks t →
    CallsInHandlers (opening_limits v) (ledger_after v (length s) [] os)
handler_paths s v z os ks t r m o h x k i b c n made =
    let es = ledger_after v (length s) [] os in
    let calls = handler_calls (opening_limits v) es (fresh_sane s v z os) m o h x k b c n made in
    let path = call m o calls in
    let kept = (whole s v z os ks t r).1 m o path in
    (path, (λ p on. then_call m o p calls on), kept.0, kept.1)
