-- The entry of a package: whether it would have been accepted, and the tables behind it. Assumes nothing.
use Prim.Native.Nat.{ℕ, ◌+◌, ◌/◌, ◌<◌}
use native.Mathlib.Omega.{arith}
use mathlib.Core.Path.{◌≡◌, sym, ◌∙◌, ap, subst}
use mathlib.Core.Bool.{true, false}
use mathlib.Core.List.{List, []}
use lib.Dec.{T, eqb, leb, leb→le}
use lib.ListN.{length}
use borrow.Author.Tests.{eq-eqb, ne_eqb}
use Rattle.rules.specs.Bytes.{Bytes, Aid}
use Rattle.rules.specs.Package.{Package}
use Rattle.rules.specs.Store.{Entry, first_entry, store_limits, store_opening}
use Rattle.rules.specs.Classes.{installed}
use Rattle.rules.specs.Questions.{q12_new}
use Rattle.rules.specs.Operations.{first_no}
use Rattle.rules.proofs.Tests.{and_l, is_true, of_true}
use Rattle.store.specs.Entries.{part, FilesStand}
use Rattle.store.specs.Sound.{Over, OverSome}
use Rattle.store.proofs.Stand.{entries_one}
use Rattle.store.proofs.Sound.{one_length}
use Rattle.index.specs.Index.{IndexIs, PackageStands}
use Rattle.homes.specs.Found.{Indexed}
use Rattle.homes.specs.Homes.{aid_at}
use Rattle.homes.proofs.Homes.{all_read}
use Rattle.depths.specs.Depths.{DepthsKept, DepthsFit, OwnDepths, FileKept, depth_width, depth_field}
use Rattle.depths.proofs.Kept.{depths_next}
use Rattle.judge.specs.Says.{Asked14, file_asks, entry_of, PackageThere, EntrySays}
use Rattle.judge.specs.declared.PackageEntry.{PackageEntry}
use Rattle.refusals.specs.declared.refusal.Refusal.{Refusal}
use Rattle.refusals.specs.Refusals.{number_of}
use Rattle.refusals.proofs.Numbers.{some_number}
use Rattle.judge.proofs.Loading.{behind_5}

-- n is the number of the questions of a package's entry from 10 on
abbrev pub NumberIs : Bytes → PackageEntry → ℕ → Type 0
NumberIs s x n = (es : List Entry) → Over s x.at es → n ≡ first_no (file_asks s es (aid_at s (x.at + 3)) (part s x.file x.next))

-- a package's entry, by that number
module _ (s : Bytes) (x : PackageEntry) (there : PackageThere s x) where
  abbrev d : Aid
  d = aid_at s (x.at + 3)

  abbrev f : Bytes
  f = part s x.file x.next

  entry_number : (n : ℕ) → NumberIs s x n → EntrySays s x.at (entry_of s x) (eqb n 0)
  entry_number n h es o =
      let known = there.known es o in
      ap (λ (k : ℕ). eqb k 0) (behind_5 s x.at d f es known.0 known.1 n (h es o))

  pub entry_yes : (n : ℕ) → n ≡ 0 → NumberIs s x n → EntrySays s x.at (entry_of s x) true
  entry_yes n z h = subst (EntrySays s x.at (entry_of s x)) (eq-eqb n 0 z) (entry_number n h)

  pub entry_no : (g : Refusal) → NumberIs s x (number_of g) → EntrySays s x.at (entry_of s x) false
  entry_no g h = subst (EntrySays s x.at (entry_of s x)) (ne_eqb (number_of g) 0 (λ z. omega (arith, some_number g, z))) (entry_number (number_of g) h)

  -- a package that was asked up to 14 may be entered
  pub package_stands : (es : List Entry) (p : Package) → Asked14 s x.at d f es p → PackageStands s x.at x.file x.next
  package_stands es p a = record {
    home = d;
    pack = p;
    stands = there.stands;
    from = there.file;
    long = leb→le 5 (length d) (and_l (leb 5 (length d)) (leb (length d) 16) (of_true (sym (one_length d) ∙ (there.known es a.read.over).0)));
    reads = a.read.reads;
    new = λ fs r all.
        let same : es ≡ fs = entries_one s (first_entry s) es fs x.at a.read.over.stand r in
        is_true _ (subst (λ (zs : List Entry). T (q12_new (installed (store_limits s) zs) p)) same a.q12);
  }

  -- the depths of its classes are kept behind it
  pub depths_behind : OverSome s x.at → {t t' ds : List ℕ} → DepthsKept s x.at t → DepthsFit (depth_width s) f ds → OwnDepths f s x.at ds →
      FileKept (depth_width s) f x.file ds t' →
      ((j : ℕ) → j < x.file / 5 → depth_field (depth_width s) t' j ≡ depth_field (depth_width s) t j) → length t' ≡ length t → DepthsKept s x.next t'
  depths_behind o {t} {t'} {ds} k fit own file same len =
      depths_next s x.at x.file x.next d t t' ds k there.stands there.inside there.file own file same len (o.0, o.1.stand)

-- the files of sound entries read
pub files_stand : (s : Bytes) (at : ℕ) → OverSome s at → FilesStand s at
files_stand s at o = (o.0, o.1.stand, all_read (store_opening s) (length s) [] o.0 o.1.sound)

pub indexed : (s : Bytes) (at : ℕ) (index : List ℕ) → OverSome s at → IndexIs s at index → Indexed s at index
indexed s at index o i = record { files = files_stand s at o; is = i }
