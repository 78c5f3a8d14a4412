-- `services::query_on` meets its contract, answer by answer. Assumes nothing.
use Prim.Native.Nat.{◌+◌, ◌≤◌}
use native.Mathlib.Omega.{arith}
use mathlib.Core.Path.{◌≡◌, sym, ◌∙◌, subst}
use mathlib.Core.Bool.{Bool, true}
use lib.ListN.{length}
use Rattle.rules.specs.Bytes.{aid_length}
use Rattle.files.specs.Say.{Readable}
use Rattle.store.specs.Entries.{part}
use Rattle.services.specs.Answers.{FileAllows}
use Rattle.std.specs.Prelude.{Some, None}
use Rattle.std.specs.Prelude.{Option as Optional}
use Rattle.services.proofs.Cuts as cuts
use Rattle.services.proofs.Queries as queries
use Rattle.services.proofs.query_on.Goals as goal
use Rattle.services.proofs.query_on.Goals.{After-file_allows, Else-not-length_ok, Else-not-length_ok-2, In-Some}

-- both AIDs have 5 to 16 bytes
domain-yes : (k : Else-not-length_ok) → aid_length (length k.args.domain.now) ≡ true
domain-yes k = sym k.length_ok.ensures ∙ k.if-not-length_ok.false

package-yes : (k : Else-not-length_ok-2) → aid_length (length k.args.«package».now) ≡ true
package-yes k = sym k.length_ok-2.ensures ∙ k.if-not-length_ok-2.false

-- the package that was found
found : (k : In-Some) →
    let a = k.args in
    queries.Found a.s.now a.domain.now a.«package».now a.used k.in-Some.b.at k.in-Some.b.from k.in-Some.b.to
found k =
    record {
      sound = k.requires;
      domain_length = domain-yes (goal.at.In-Some k).Else-not-length_ok;
      aid_length_lem = package-yes (goal.at.In-Some k).Else-not-length_ok-2;
      spot = k.find_package.result;
      told = k.find_package.ensures;
      is = k.in-Some.is;
    }

-- its file, within the store, and the domain before it
file : (k : In-Some) →
    let s = k.args.s.now in
    (k.in-Some.b.from ≤ k.in-Some.b.to) × (k.in-Some.b.to ≤ length s) × Readable (part s k.in-Some.b.from k.in-Some.b.to)
file k = let a = k.args in queries.query_file _ _ _ a.class a.name _ _ _ _ (found k)

before-file : (k : In-Some) → k.in-Some.b.at + 4 ≤ k.in-Some.b.from
before-file k = let a = k.args in (queries.query_domain _ _ _ a.class a.name _ _ _ _ (found k)).0

-- what the file's answer says
abbrev Says : In-Some → Optional Bool → Type 0
Says k v =
    let a = k.args in
    FileAllows (part a.s.now k.in-Some.b.from k.in-Some.b.to) (part a.s.now (k.in-Some.b.at + 4) k.in-Some.b.from) a.class a.name a.domain.now v

said : (k : After-file_allows) (v : Optional Bool) → k.file_allows.result ≡ v → Says (goal.at.After-file_allows k).In-Some v
said k v e = subst (Says (goal.at.After-file_allows k).In-Some) e k.file_allows.ensures

pub returns-then-not-length_ok : goal.returns-then-not-length_ok
returns-then-not-length_ok c =
    queries.query_3_domain _ _ _ _ _ c.args.used c.requires (sym c.length_ok.ensures ∙ c.if-not-length_ok.true)

pub returns-then-not-length_ok-2 : goal.returns-then-not-length_ok-2
returns-then-not-length_ok-2 c =
    let short = sym c.length_ok-2.ensures ∙ c.if-not-length_ok-2.true in
    queries.query_3_package _ _ _ _ _ c.args.used c.requires (domain-yes (goal.at.returns-then-not-length_ok-2 c).Else-not-length_ok) short

pub find_package-requires : goal.find_package-requires
find_package-requires c =
    cuts.sound_files c.args.s.now c.args.used c.requires

pub slice_bounds-file_allows-count : goal.slice_bounds-file_allows-count
slice_bounds-file_allows-count c =
    let f = file (goal.at.slice_bounds-file_allows-count c).In-Some in
    omega (arith, f.0, f.1)

pub slice_bounds-file_allows-start : goal.slice_bounds-file_allows-start
slice_bounds-file_allows-start c =
    let f = file (goal.at.slice_bounds-file_allows-start c).In-Some in
    omega (arith, f.0, f.1)

pub slice_bounds-file_allows-end : goal.slice_bounds-file_allows-end
slice_bounds-file_allows-end c =
    let f = file (goal.at.slice_bounds-file_allows-end c).In-Some in
    omega (arith, f.0, f.1)

pub overflow_add-b : goal.overflow_add-b
overflow_add-b c = omega (arith, (file (goal.at.overflow_add-b c).In-Some).0, (file (goal.at.overflow_add-b c).In-Some).1, before-file (goal.at.overflow_add-b c).In-Some)

pub slice_bounds-file_allows-count-in-Some : goal.slice_bounds-file_allows-count-in-Some
slice_bounds-file_allows-count-in-Some c = before-file (goal.at.slice_bounds-file_allows-count-in-Some c).In-Some

pub slice_bounds-file_allows-start-in-Some : goal.slice_bounds-file_allows-start-in-Some
slice_bounds-file_allows-start-in-Some c = omega (arith, (file (goal.at.slice_bounds-file_allows-start-in-Some c).In-Some).0, (file (goal.at.slice_bounds-file_allows-start-in-Some c).In-Some).1, before-file (goal.at.slice_bounds-file_allows-start-in-Some c).In-Some)

pub slice_bounds-file_allows-end-in-Some : goal.slice_bounds-file_allows-end-in-Some
slice_bounds-file_allows-end-in-Some c = omega (arith, (file (goal.at.slice_bounds-file_allows-end-in-Some c).In-Some).0, (file (goal.at.slice_bounds-file_allows-end-in-Some c).In-Some).1, before-file (goal.at.slice_bounds-file_allows-end-in-Some c).In-Some)

pub file_allows-requires : goal.file_allows-requires
file_allows-requires c = (file (goal.at.file_allows-requires c).In-Some).2

pub returns-in-Some-file_allows : goal.returns-in-Some-file_allows
returns-in-Some-file_allows c =
    queries.query_done _ _ _ _ _ _ _ _ _ (found (goal.at.returns-in-Some-file_allows c).In-Some) c.in-Some-file_allows.yes (said (goal.at.returns-in-Some-file_allows c).After-file_allows (Some c.in-Some-file_allows.yes) c.in-Some-file_allows.is)

pub returns-in-None-file_allows : goal.returns-in-None-file_allows
returns-in-None-file_allows c =
    queries.query_9 _ _ _ _ _ _ _ _ _ (found (goal.at.returns-in-None-file_allows c).In-Some) (said (goal.at.returns-in-None-file_allows c).After-file_allows None c.in-None-file_allows.is)

pub returns-in-None : goal.returns-in-None
returns-in-None c =
    let yes = domain-yes (goal.at.returns-in-None c).Else-not-length_ok in
    queries.query_7 _ _ _ _ _ c.args.used c.requires yes (package-yes (goal.at.returns-in-None c).Else-not-length_ok-2) c.find_package.result c.find_package.ensures c.in-None.is
