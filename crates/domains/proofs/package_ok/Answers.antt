-- `domains::package_ok` asks for the length, finds the domain, and asks for its kind. Assumes nothing.
use mathlib.Core.Path.{◌≡◌, sym, ◌∙◌}
use mathlib.Core.Bool.{true}
use lib.ListN.{length}
use Rattle.rules.specs.Bytes.{Bytes, Aid, aid_length}
use Rattle.store.specs.Entries.{part}
use Rattle.domains.proofs.Keys as keys
use Rattle.domains.proofs.package_ok.Goals as goal
use Rattle.domains.proofs.package_ok.Goals.{After-find, Start}

-- the entry's AID and file
abbrev aid : Start → Aid
aid b = part b.args.s.now b.args.from b.args.file

abbrev file : Start → Bytes
file b = part b.args.s.now b.args.file b.args.next

-- the AID has 5 to 16 bytes
long : (k : After-find) → aid_length (length (aid (goal.at.After-find k).Start)) ≡ true
long k = sym k.length_ok.ensures ∙ k.if-not-length_ok.false

-- first, so that rt names it where a package too many is taken
pub returns-then-s-p-ne3 : goal.returns-then-s-p-ne3
returns-then-s-p-ne3 c =
    keys.package_full c.args.s.now c.args.at c.args.table.now c.requires.domains_is (aid (goal.at.returns-then-s-p-ne3 c).Start) (file (goal.at.returns-then-s-p-ne3 c).Start)
    (long (goal.at.returns-then-s-p-ne3 c).After-find) c.in-Some.p c.in-Some.ensures c.if-s-p-ne3.true

pub returns-then-not-length_ok : goal.returns-then-not-length_ok
returns-then-not-length_ok c =
    keys.short_package c.args.s.now c.args.at c.args.table.now c.requires.domains_is (aid (goal.at.returns-then-not-length_ok c).Start) (file (goal.at.returns-then-not-length_ok c).Start)
    (sym c.length_ok.ensures ∙ c.if-not-length_ok.true)

pub find-requires : goal.find-requires
find-requires c =
    c.requires.domains_is.table.sorted

pub returns-in_default : goal.returns-in_default
returns-in_default c =
    keys.package_missing c.args.s.now c.args.at c.args.table.now c.requires.domains_is (aid (goal.at.returns-in_default c).Start) (file (goal.at.returns-in_default c).Start)
    (long (goal.at.returns-in_default c).After-find) c.in_default.ensures

pub bounds-s-p : goal.bounds-s-p
bounds-s-p c =
    keys.found_inside c.args.s.now c.args.at c.args.table.now c.requires.domains_is (aid (goal.at.bounds-s-p c).Start) c.in-Some.p c.in-Some.ensures

pub returns : goal.returns
returns c =
    keys.package_kept c.args.s.now c.args.at c.args.table.now c.requires.domains_is (aid (goal.at.returns c).Start) (file (goal.at.returns c).Start)
    (long (goal.at.returns c).After-find) c.in-Some.p c.in-Some.ensures c.if-s-p-ne3.false c.file_ok.result c.file_ok.ensures
