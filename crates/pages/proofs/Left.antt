-- Walking the entries of a sound store, a line for each package: the start, a domain, a package, the end. Assumes nothing.
use Prim.Native.Nat.{ℕ, ◌+◌, ◌-◌, ◌*◌, ◌≤◌, ◌<◌}
use native.Mathlib.Omega.{arith}
use mathlib.Core.Path.{◌≡◌, refl, sym, ◌∙◌, ap, subst}
use mathlib.Core.List.{List, [], ◌++◌, append-nil}
use mathlib.Core.Option.{Option, some}
use lib.ListN.{length, take, length-append}
use Rattle.rules.specs.Bytes.{Bytes, list_of}
use Rattle.rules.specs.Package.{Package, read_file}
use Rattle.rules.specs.Store.{Entry, loaded, entry_bytes, store_limits, store_opening, first_entry}
use Rattle.rules.specs.Operations.{entries}
use Rattle.store.specs.Entries.{part, Entries, StandFrom, AllRead}
use Rattle.store.specs.Answers.{PartAt}
use Rattle.store.specs.Sound.{SoundAt}
use Rattle.std.specs.Prelude.{Some, None}
use Rattle.store.specs.declared.EntryPart.TheVariants as parts
use Rattle.store.proofs.Parts.{part_length}
use Rattle.store.proofs.Stand.{entry_next, entry_later, entries_to}
use Rattle.store.proofs.Sound.{sound_store}
use Rattle.homes.proofs.Homes.{all_read}
use Rattle.inventory_rules.specs.Inventory.{sum_of, Line, package_of, file_bytes_of, methods_of, entry_methods}
use Rattle.inventory_rules.proofs.Loads.{totals_same}
use Rattle.pages.specs.Says.{MethodsSay, LinePut, LinesSay}
use Rattle.pages.specs.declared.Listed.{Listed}
use Rattle.pages.proofs.Lines.{lines_text, aid_short, line_length, line_more, sum_more, sum_end}

-- the walk: what is put and counted, with what is left, is all
pub record Left (s : Bytes) (u : ℕ) (out : Bytes) (at packages bytes methods i : ℕ) : Type 0 where
  pub rest : List Entry
  pub stand : Entries s i rest u
  pub reads : AllRead (store_limits s) rest
  pub lines : take at out ++ lines_text (store_limits s) rest ≡ lines_text (store_limits s) (entries s)
  pub packages_are : packages + sum_of package_of rest ≡ sum_of package_of (entries s)
  pub bytes_are : bytes + sum_of file_bytes_of rest ≡ sum_of file_bytes_of (entries s)
  pub methods_are : methods + sum_of (entry_methods (store_limits s)) rest ≡ sum_of (entry_methods (store_limits s)) (entries s)
  pub room : at ≤ 2 * i
  pub few : (packages ≤ i) × (bytes ≤ i) × (methods ≤ 65025 * i)

-- the entries from there on stand
pub left_stand : {s : Bytes} {u : ℕ} {out : Bytes} {at packages bytes methods i : ℕ} → Left s u out at packages bytes methods i → StandFrom s i u
left_stand w = (w.rest, w.stand)

pub left_start : (s : Bytes) (u : ℕ) (out : Bytes) (i : ℕ) → SoundAt s u → i ≡ first_entry s → Left s u out 0 0 0 0 i
left_start s u out i h e =
    let x = sound_store s u h in
    let es : entries s ≡ x.es = ap (λ (o : Option (List Entry)). list_of o (λ ys. ys)) x.reads in
    record {
      rest = x.es;
      stand = subst (λ (k : ℕ). Entries s k x.es u) (sym e) x.over.stand;
      reads = all_read (store_opening s) (length s) [] x.es x.over.sound;
      lines = ap (lines_text (store_limits s)) (sym es);
      packages_are = ap (λ (ys : List Entry). 0 + sum_of package_of ys) (sym es) ∙ omega arith;
      bytes_are = ap (λ (ys : List Entry). 0 + sum_of file_bytes_of ys) (sym es) ∙ omega arith;
      methods_are = ap (λ (ys : List Entry). 0 + sum_of (entry_methods (store_limits s)) ys) (sym es) ∙ omega arith;
      room = omega arith;
      few = (omega arith, omega arith, omega arith);
    }

-- where a domain's entry ends
pub domain_in : {s : Bytes} {u : ℕ} {out : Bytes} {at packages bytes methods i : ℕ} → Left s u out at packages bytes methods i → {a j : ℕ} →
    PartAt s i u (Some (parts.Domain a j)) → (i < j) × (j ≤ u)
domain_in {s} {u} {i = i} w {j = j} p =
    let x = (p w.rest w.stand).1 in
    (omega (arith, entry_later s i _ j x.stands), (entries_to s j x.rest u x.after).0)

-- where a package's domain and file stand, and what the file reads as
pub record PackageIn (s : Bytes) (u i a f j : ℕ) : Type 0 where
  pub from : a ≤ f
  pub to : f ≤ j
  pub end : j ≤ u
  pub inside : u ≤ length s
  pub size : i + (4 + (length (part s a f) + length (part s f j))) ≡ j
  pub file : length (part s f j) ≡ j - f
  pub pack : Package
  pub reads : read_file (store_limits s) (part s f j) ≡ some pack

pub package_in : {s : Bytes} {u : ℕ} {out : Bytes} {at packages bytes methods i : ℕ} → Left s u out at packages bytes methods i → {a f j : ℕ} →
    PartAt s i u (Some (parts.Package a f j)) → PackageIn s u i a f j
package_in {s} {u} {i = i} w {a} {f} {j} p =
    let e = p w.rest w.stand in
    let x = e.2 in
    let d = part s a f in
    let g = part s f j in
    let to = entries_to s j x.rest u x.after in
    let next = entry_next s i (loaded d g) j x.stands in
    let size : length (entry_bytes (loaded d g)) ≡ 4 + (length d + length g) = simp length-append (omega arith) in
    let file = part_length s f j (omega (arith, to)) in
    let reads = subst (AllRead (store_limits s)) x.are w.reads in
    record {
      from = e.0;
      to = e.1;
      end = to.0;
      inside = to.1;
      size = omega (arith, next, size);
      file = file;
      pack = reads.0.0;
      reads = reads.0.1;
    }

-- a domain is passed
pub left_domain : {s : Bytes} {u : ℕ} {out : Bytes} {at packages bytes methods i : ℕ} → Left s u out at packages bytes methods i → {a j : ℕ} →
    PartAt s i u (Some (parts.Domain a j)) → Left s u out at packages bytes methods j
left_domain {s} {u} {out} {at} {packages} {bytes} {methods} {i} w {a} {j} p =
    let x = (p w.rest w.stand).1 in
    let later = entry_later s i _ j x.stands in
    let reads = subst (AllRead (store_limits s)) x.are w.reads in
    record {
      rest = x.rest;
      stand = x.after;
      reads = reads.1;
      lines = ap (λ (es : List Entry). take at out ++ lines_text (store_limits s) es) (sym x.are) ∙ w.lines;
      packages_are = sum_more package_of packages packages x.are w.packages_are (omega arith);
      bytes_are = sum_more file_bytes_of bytes bytes x.are w.bytes_are (omega arith);
      methods_are = sum_more (entry_methods (store_limits s)) methods methods x.are w.methods_are (omega arith);
      room = omega (arith, w.room);
      few = (omega (arith, w.few.0), omega (arith, w.few.1), omega (arith, w.few.2));
    }

-- a package's line is put, and the package counted
pub left_package : {s : Bytes} {u : ℕ} {out : Bytes} {at packages bytes methods i : ℕ} → Left s u out at packages bytes methods i → u ≤ 65535 →
    {a f j : ℕ} → PartAt s i u (Some (parts.Package a f j)) → {n : ℕ} → MethodsSay (part s f j) n → {out' : Bytes} {at' : ℕ} →
    LinePut out at (part s a f) (part s f j) n out' at' → Left s u out' at' (packages + 1) (bytes + (j - f)) (methods + n) j
left_package {s} {u} {out} {at} {packages} {bytes} {methods} {i} w short {a} {f} {j} p {n} counted {out'} {at'} put =
    let x = (p w.rest w.stand).2 in
    let l = store_limits s in
    let d = part s a f in
    let g = part s f j in
    let here = package_in w p in
    let pack = here.pack in
    let is = here.reads in
    let line : Line = record { aid = pack.aid; domain = d; bytes = length g; methods = n } in
    let told = put l pack is in
    let methods_told : methods + n ≡ methods + entry_methods l (loaded d g) = ap (λ (k : ℕ). methods + k) (counted.0 l pack is ∙ ap methods_of (sym is)) in
    let few = line_length line (omega (arith, here.size, here.end, short)) counted.1 in
    record {
      rest = x.rest;
      stand = x.after;
      reads = (subst (AllRead l) x.are w.reads).1;
      lines = line_more l d g pack n is (counted.0 l pack is) (take at out) (take at' out') x.are told.text w.lines;
      packages_are = sum_more package_of packages (packages + 1) x.are w.packages_are refl;
      bytes_are = sum_more file_bytes_of bytes (bytes + (j - f)) x.are w.bytes_are (omega (arith, here.file));
      methods_are = sum_more (entry_methods l) methods (methods + n) x.are w.methods_are methods_told;
      room = omega (arith, w.room, told.to, few, aid_short l g pack is, here.size);
      few = (omega (arith, w.few.0, here.size), omega (arith, w.few.1, here.size, here.file), omega (arith, w.few.2, here.size, counted.1));
    }

-- all entries are passed
pub left_end : {s : Bytes} {u : ℕ} {out : Bytes} {i : ℕ} (x : Listed) → Left s u out x.at x.packages x.bytes x.methods i → u ≤ 65535 →
    PartAt s i u None → LinesSay s u out x
left_end {s} {u} {out} {i} x w short p =
    let e = p w.rest w.stand in
    let l = store_limits s in
    record {
      lines = sym (append-nil (take x.at out)) ∙ ap (λ (es : List Entry). take x.at out ++ lines_text l es) (sym e.0) ∙ w.lines;
      sums = totals_same (sum_end package_of x.packages e.0 w.packages_are) (sum_end file_bytes_of x.bytes e.0 w.bytes_are)
          (sum_end (entry_methods l) x.methods e.0 w.methods_are);
      room = omega (arith, w.room, e.1);
      few = (omega (arith, w.few.0, e.1), omega (arith, w.few.1, e.1), omega (arith, w.few.2, e.1));
      inside = short;
    }
