-- A line's length, and lines and sums one entry further. Assumes nothing.
use Prim.Native.Nat.{ℕ, ◌+◌, ◌*◌, ◌≤◌}
use native.Mathlib.Omega.{arith}
use mathlib.Core.Path.{◌≡◌, sym, ◌∙◌, ap}
use mathlib.Core.List.{List, [], ◌∷◌, ◌++◌, append_assoc}
use mathlib.Core.Option.{some}
use lib.ListN.{length, length-append, get_or}
use Rattle.rules.specs.Bytes.{Bytes, flat}
use Rattle.rules.specs.Package.{Limits, Package, read_file}
use Rattle.rules.specs.Store.{Entry, loaded}
use Rattle.store.proofs.Parts.{part_length}
use Rattle.store.proofs.Own.{own_by}
use Rattle.text.proofs.Puts.{hex_length}
use Rattle.text.proofs.Digits.{decimal_few}
use Rattle.inventory_rules.specs.Inventory.{sum_of, Line, methods_in, lines_of, line_text}

-- the text of the lines of entries
abbrev pub lines_text : Limits → List Entry → Bytes
lines_text l es = flat line_text (lines_of l es)

-- a file is longer than its AID
pub aid_short : (l : Limits) (f : Bytes) (p : Package) → read_file l f ≡ some p → length p.aid + 8 ≤ length f
aid_short l f p r =
    let o = own_by l f p r in
    omega (arith, ap length o.is, part_length f 8 (8 + get_or f 7 0) o.to, o.to)

-- a line is at most so long
pub line_length : (x : Line) → x.bytes ≤ 65535 → x.methods ≤ 65025 → length (line_text x) ≤ 2 * (length x.aid + length x.domain) + 14
line_length x b m =
    let a = hex_length x.aid in
    let d = hex_length x.domain in
    let bytes = decimal_few 4 x.bytes (omega arith) in
    let methods = decimal_few 4 x.methods (omega arith) in
    simp length-append (omega (arith, a, d, bytes, methods))

-- a sum with what is left, one entry further
pub sum_more : (f : Entry → ℕ) (n m : ℕ) {whole : ℕ} {rest others : List Entry} {e : Entry} → rest ≡ e ∷ others → n + sum_of f rest ≡ whole → m ≡ n + f e →
    m + sum_of f others ≡ whole
sum_more f n m are h more =
    let z = ap (λ (es : List Entry). n + sum_of f es) are in
    omega (arith, z, h, more)

-- a sum with nothing left
pub sum_end : (f : Entry → ℕ) (n : ℕ) {whole : ℕ} {rest : List Entry} → rest ≡ [] → n + sum_of f rest ≡ whole → n ≡ whole
sum_end f n none h =
    let z = ap (λ (es : List Entry). n + sum_of f es) none in
    omega (arith, z, h)

-- the lines put with those left, one package further
pub line_more : (l : Limits) (d g : Bytes) (p : Package) (n : ℕ) → read_file l g ≡ some p → n ≡ methods_in p → (front front' : Bytes) {whole : Bytes}
    {rest others : List Entry} → rest ≡ loaded d g ∷ others →
    front' ≡ front ++ line_text (record { aid = p.aid; domain = d; bytes = length g; methods = n }) →
    front ++ lines_text l rest ≡ whole → front' ++ lines_text l others ≡ whole
line_more l d g p n is counted front front' {others = others} are more h =
    let line : ℕ → Line = λ k. record { aid = p.aid; domain = d; bytes = length g; methods = k } in
    let one : line_text (line n) ++ lines_text l others ≡ lines_text l (loaded d g ∷ others) = rw (is, counted) in
    ap (λ (x : Bytes). x ++ lines_text l others) more ∙ append_assoc front (line_text (line n)) (lines_text l others)
    ∙ ap (λ (x : Bytes). front ++ x) (one ∙ ap (lines_text l) (sym are)) ∙ h
