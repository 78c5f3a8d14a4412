-- Counting the methods of a file, class by class. Assumes nothing.
use Prim.Native.Nat.{ℕ, suc, ◌+◌, ◌-◌, ◌≤◌}
use native.Mathlib.Omega.{arith}
use mathlib.Core.Path.{◌≡◌, sym, ◌∙◌, subst}
use mathlib.Core.List.{List}
use mathlib.Core.Option.{some}
use lib.ListN.{length, get_or}
use Rattle.rules.specs.Bytes.{Bytes, Aid, u1, counted}
use Rattle.rules.specs.Package.{Limits, format_of, most_classes, most_methods, Class, Package, method, class, read_file}
use Rattle.places.specs.Reads.{Reads}
use Rattle.places.proofs.Steady.{steady_u1, steady_method, steady_class}
use Rattle.places.proofs.Inverse.{reads_counted, reads_u1}
use Rattle.places.proofs.Track.{track_more, track_done, many_length}
use Rattle.files.specs.Say.{MethodsAt, AfterClass, ClassesAt}
use Rattle.files.proofs.Loops.{ClassLoop, classes_start}
use Rattle.files.proofs.Walks.{classes_read}
use Rattle.inventory_rules.specs.Inventory.{sum_of, methods_in}

-- the methods of classes
abbrev pub methods_of_all : List Class → ℕ
methods_of_all ks = sum_of (λ k. length k.methods) ks

-- n methods are counted, those of the `left` classes from place c on are not
abbrev pub Counts : Bytes → ℕ → ℕ → ℕ → ℕ → Type 0
Counts f i n left c = ClassLoop methods_of_all (λ ks. n + methods_of_all ks) f i left c

-- none is counted
pub counts_start : (f : Bytes) (i n : ℕ) → n ≡ get_or f i 0 → Counts f i 0 n (i + 1)
counts_start f i n h l ds ks j r =
    let x = classes_start {f = methods_of_all} h l ds ks j r in
    (x.0, x.1, omega (arith, x.2))

-- the count byte of a class's methods
pub count_is : (f : Bytes) (c d : ℕ) → MethodsAt f c d → (l : Limits) (ds : List Aid) (k : Class) (j : ℕ) → Reads (class (format_of l f) ds) f c k j →
    get_or f d 0 ≡ length k.methods
count_is f c d h l ds k j r =
    let m = method (format_of l f) ds in
    let x = reads_counted most_methods u1 m steady_u1 f d k.methods j (h l ds k j r) in
    (reads_u1 f d x.number x.place x.count).byte ∙ sym (many_length m (steady_method (format_of l f) ds) x.number f x.place k.methods j x.list)

-- a class more
pub counts_more : (f : Bytes) (i n left rest c d e m : ℕ) → Counts f i n left c → left ≡ suc rest → MethodsAt f c d → m ≡ get_or f d 0 → AfterClass f c e →
    Counts f i (n + m) rest e
counts_more f i n left rest c d e m t h at m-is after =
    let next : Counts f i (n + m) (left - 1) e = λ l ds.
    track_more (class (format_of l f) ds) (steady_class (format_of l f) ds) f (counted most_classes u1 (class (format_of l f) ds)) i methods_of_all
    (λ ks. n + methods_of_all ks) left c (t l ds) (λ ks. n + m + methods_of_all ks) e (omega (arith, h)) (after l ds)
    (λ k j r ks. let z = m-is ∙ count_is f c d at l ds k j r in omega (arith, z)) in
    subst (λ (k : ℕ). Counts f i (n + m) k e) (omega (arith, h)) next

-- all of them
pub counts_done : (f : Bytes) (i n left c : ℕ) → Counts f i n left c → left ≤ 0 → ClassesAt f i → (l : Limits) (p : Package) → read_file l f ≡ some p →
    n ≡ methods_in p
counts_done f i n left c t h at l p r =
    let ds = p.domains in
    let x = classes_read at l p r in
    let y = track_done (class (format_of l f) ds) (steady_class (format_of l f) ds) f (counted most_classes u1 (class (format_of l f) ds)) i methods_of_all
    (λ ks. n + methods_of_all ks) left c (t l ds) h p.classes _ x in
    omega (arith, y.1)
