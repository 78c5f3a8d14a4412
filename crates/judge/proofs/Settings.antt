-- What the questions of a load are asked over: the settings that they require, and that the file reads. Assumes nothing.
use Prim.Native.Nat.{ℕ, ◌≤◌, ◌<◌}
use native.Mathlib.Omega.{arith}
use mathlib.Core.Path.{◌≡◌, ap}
use mathlib.Core.List.{List, []}
use mathlib.Core.Option.{some}
use lib.ListN.{length}
use Rattle.rules.specs.Bytes.{Bytes, Aid}
use Rattle.rules.specs.Package.{Limits, Package, read_file}
use Rattle.rules.specs.Store.{Entry, store_limits, first_entry}
use Rattle.rules.specs.Classes.{Installed, installed}
use Rattle.rules.proofs.Asked.{parents_yes}
use Rattle.store.specs.Sound.{OverSome}
use Rattle.rules.proofs.Limits.{first_entry_lem}
use Rattle.store.proofs.Stand.{entries_to}
use Rattle.imports.specs.Say.{SettingThere}
use Rattle.files.specs.Say.{Readable}
use Rattle.homes.specs.Homes.{Setting, Imports, Parents}
use Rattle.references.specs.Setting.{Loading, Judged}
use Rattle.judge.specs.Says.{used_at, FileRead, Asked14, ReadSome, Asked14Some}

-- a package in the domain that loads it
abbrev pub self_of : Aid → Package → Installed
self_of d p = record { domain = d; pack = p }

-- the settings that the questions ask for
pub setting : {s : Bytes} {end : ℕ} {f : Bytes} {es : List Entry} {p : Package} (d : Aid) → FileRead s end f es p → Setting f s end es (self_of d p)
setting {s} d r = record { stand = r.over.stand; size = length s; sound = r.over.sound; reads = r.reads }

module _ {s : Bytes} {end : ℕ} {d : Aid} {f : Bytes} (es : List Entry) (p : Package) (a : Asked14 s end d f es p) where
  pub imports : Imports f s end es (self_of d p)
  imports = record { setting = setting d a.read; imports = a.q13 }

  pub parents : Parents f s end es (self_of d p)
  parents = record { imported = imports; exist = (parents_yes (store_limits s) (installed (store_limits s) es) (self_of d p) a.q14).exist }

  pub loading : Loading f s end es (self_of d p)
  loading = record { new = a.q12; judged = record { parents = parents; q14 = a.q14 } }

module _ (s : Bytes) (end : ℕ) (d : Aid) (f : Bytes) where
  pub judged : Asked14Some s end d f → Judged f s end
  judged t = (t.0, self_of d t.1, loading t.0 t.1 t.2)

  -- the file reads
  pub read_some : Asked14Some s end d f → ReadSome s f
  read_some t = (t.1, t.2.read.reads)

  pub readable : Asked14Some s end d f → Readable f
  readable t = (store_limits s, t.1, t.2.read.reads)

-- sets of so many bits have one for each byte of a code within the limits of a store
pub code_room : (s f : Bytes) (n : ℕ) → ReadSome s f → (store_limits s).code ≤ n →
    (l : Limits) × (p : Package) × (read_file l f ≡ some p) × ((l.code ≤ n) × (l.code ≤ n))
code_room s f n t h = (store_limits s, t.0, t.1, (h, h))

-- the used field of a store lies inside it
pub used_inside : (s : Bytes) → OverSome s (used_at s) → 6 < length s
used_inside s o = let t = entries_to s (first_entry s) o.0 (used_at s) o.1.stand in omega (arith, t.0, t.1, (first_entry_lem s).0)

-- what questions 12 and 13 are asked over, whatever domain loads the file
pub setting_there : (s : Bytes) (end : ℕ) (f : Bytes) → OverSome s end → ReadSome s f → SettingThere f s end
setting_there s end f o t = (o.0, self_of [] t.0, setting [] (record { over = o.1; reads = t.1 }))

-- the greatest depth within the limits that were read
pub depth_limit : (s : Bytes) (l : Limits) → l ≡ store_limits s → l.depth ≡ (store_limits s).depth
depth_limit s l e = ap (λ (x : Limits). x.depth) e
