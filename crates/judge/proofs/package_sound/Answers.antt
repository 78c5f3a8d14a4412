-- `judge::package_sound` meets its contract: the questions of the package's entry, and what is kept of it where all are answered yes. Assumes nothing.
use Prim.Native.Nat.{◌+◌, ◌≤◌}
use native.Mathlib.Omega.{arith}
use mathlib.Core.Path.{◌≡◌, refl, sym, ap, subst}
use mathlib.Core.Bool.{true, false}
use lib.Dec.{T}
use lib.ListN.{length}
use Rattle.rules.specs.Bytes.{Bytes, Aid}
use Rattle.store.specs.Entries.{part}
use Rattle.homes.specs.Homes.{aid_at}
use Rattle.homes.specs.Found.{ImportPlaces}
use Rattle.homes.proofs.Domains.{aid_inside}
use Rattle.index.proofs.Entering.{zeros}
use Rattle.depths.specs.Depths.{OwnDepths, DepthsFit, depth_width}
use Rattle.judge.specs.Says.{HasRoom, Asked14Some, TablesTold, InsideAnswer}
use Rattle.std.specs.Prelude.{Ok}
use Rattle.refusals.specs.Refusals.{number_said}
use Rattle.judge.proofs.Entry as entry
use Rattle.judge.proofs.Loading as loading
use Rattle.judge.proofs.Settings as settings
use Rattle.judge.proofs.package_sound.Goals as goal
use Rattle.judge.proofs.package_sound.Goals.{After-running_answer, In-Ok, In-Ok-inside_answer, Start}

-- the domain and the file of the entry
abbrev domain : Start → Aid
domain b = aid_at b.args.s.now (b.args.x.at + 3)

abbrev file : Start → Bytes
file b = part b.args.s.now b.args.x.file b.args.x.next

-- the file lies in the store
inside-store : (b : Start) → (b.args.x.file ≤ b.args.x.next) × (b.args.x.next ≤ length b.args.s.now)
inside-store b = (b.requires.over_some.1.file, b.requires.over_some.1.stands.to)

-- the file passed 14, and the depths of its classes and the places of its imports are told
asked : (k : In-Ok) → Asked14Some k.args.s.now k.args.x.at (domain (goal.at.In-Ok k).Start) (file (goal.at.In-Ok k).Start)
asked k = loading.asked_14 _ _ _ _ _ k.parents_answer.ensures.parents_answer _ k.in-Ok.is k.requires.over_some.0

own : (k : In-Ok) →
    OwnDepths (file (goal.at.In-Ok k).Start) k.args.s.now k.args.x.at k.parents_answer.new.own × DepthsFit (depth_width k.args.s.now) (file (goal.at.In-Ok k).Start) k.parents_answer.new.own
    × ImportPlaces (file (goal.at.In-Ok k).Start) k.args.s.now k.args.x.at k.parents_answer.new.places
own k =
    subst (TablesTold k.args.s.now k.args.x.at (file (goal.at.In-Ok k).Start) _ _) k.in-Ok.is k.parents_answer.ensures.tables_told

-- 10 to 19, where 15 to 19 were answered yes
inside : (e : In-Ok-inside_answer) →
    InsideAnswer e.args.s.now e.args.x.at (domain (goal.at.In-Ok-inside_answer e).Start) (file (goal.at.In-Ok-inside_answer e).Start) (Ok e.in-Ok.field-0)
inside e =
    loading.inside_yes _ _ _ _ _ e.parents_answer.ensures.parents_answer _ e.in-Ok.is _ e.inside_answer.ensures (ap (number_said {A = Unit {0}}) e.in-Ok-inside_answer.is)

-- the number from 20 on is the entry's
later : (k : After-running_answer) →
    entry.NumberIs k.args.s.now k.args.x (number_said k.running_answer.result)
later k = loading.later_number _ _ _ _ _ (inside (goal.at.After-running_answer k).In-Ok-inside_answer) _ refl _ k.running_answer.ensures

-- room in the tables
room : (e : In-Ok-inside_answer) →
    let a = e.args in
    HasRoom a.s.now e.inside_answer.new.names e.inside_answer.new.seen
room e =
    (omega (arith, e.requires.s_len_bound.1.0, e.inside_answer.auto), omega (arith, e.requires.s_len_bound.1.1, e.inside_answer.auto), omega (arith, e.requires.s_len_bound.1.2, e.inside_answer.auto))

pub slice_bounds-g-count : goal.slice_bounds-g-count
slice_bounds-g-count c = omega (arith, inside-store (goal.at.slice_bounds-g-count c).Start)

pub slice_bounds-g-start : goal.slice_bounds-g-start
slice_bounds-g-start c = omega (arith, inside-store (goal.at.slice_bounds-g-start c).Start)

pub slice_bounds-g-end : goal.slice_bounds-g-end
slice_bounds-g-end c = omega (arith, inside-store (goal.at.slice_bounds-g-end c).Start)

pub overflow_add-aid : goal.overflow_add-aid
overflow_add-aid c = omega (arith, aid_inside c.requires.over_some.1.domain)

pub parents_answer-requires : goal.parents_answer-requires
parents_answer-requires c =
    record { over_some = c.requires.over_some.0; indexed = (entry.indexed _ _ _ c.requires.over_some.0 c.requires.index_is.0, c.requires.index_is.1, c.requires.s_len_bound.0); own_len = (refl, refl, zeros 15) }

-- the places of the entry and of its domain fit two bytes
places-small : (b : Start) → b.args.x.at + 3 ≤ 65535
places-small b = omega (arith, aid_inside b.requires.over_some.1.domain, b.requires.s_len_bound.0)

pub overflow_cast-judged : goal.overflow_cast-judged
overflow_cast-judged c = omega (arith, places-small (goal.at.overflow_cast-judged c).Start)

pub overflow_cast-judged-2 : goal.overflow_cast-judged-2
overflow_cast-judged-2 c = omega (arith, places-small (goal.at.overflow_cast-judged-2 c).Start)

pub inside_answer-requires : goal.inside_answer-requires
inside_answer-requires c =
    let index = entry.indexed _ _ _ c.requires.over_some.0 c.requires.index_is.0 in record { asked14some = (asked (goal.at.inside_answer-requires c).In-Ok, record { there = c.requires.over_some.1.domain; asked = λ es o p e. sym ((c.requires.over_some.1.known es o).2 p e) }); indexed = (index, (own (goal.at.inside_answer-requires c).In-Ok).2); s_len_bound = c.requires.s_len_bound }

-- what is promised of a no
none : {A : Type 0} → false ≡ true → A
none e = absurd (subst T (sym e) tt)

pub returns-in_default-inside_answer : goal.returns-in_default-inside_answer
returns-in_default-inside_answer c =
    let no = loading.inside_refused _ _ _ _ _ c.parents_answer.ensures.parents_answer _ c.in-Ok.is _ c.inside_answer.ensures _
    (ap (number_said {A = Unit {0}}) c.in_default-inside_answer.is) in
    record { entry_says = entry.entry_no _ _ c.requires.over_some.1 _ no; index_is_2 = none }

pub keep_depths-requires : goal.keep_depths-requires
keep_depths-requires c =
    record { from_le_to = ((inside-store (goal.at.keep_depths-requires c).Start).0, (inside-store (goal.at.keep_depths-requires c).Start).1, c.requires.index_is.1.room, c.requires.s_len_bound.0); readable = (settings.readable _ _ _ _ (asked (goal.at.keep_depths-requires c).In-Ok), (own (goal.at.keep_depths-requires c).In-Ok).1) }

pub running_answer-requires : goal.running_answer-requires
running_answer-requires c =
    record { asked14some = (asked (goal.at.running_answer-requires c).In-Ok, c.requires.over_some.1.domain); indexed = (entry.indexed _ _ _ c.requires.over_some.0 c.requires.index_is.0, (own (goal.at.running_answer-requires c).In-Ok).2); s_len_bound = (c.requires.s_len_bound.0, room (goal.at.running_answer-requires c).In-Ok-inside_answer) }

pub returns-in_default-running_answer : goal.returns-in_default-running_answer
returns-in_default-running_answer c =
    let a = c.args in
    let number = subst (entry.NumberIs a.s.now a.x) (ap (number_said {A = Unit {0}}) c.in_default-running_answer.is)
    (later (goal.at.returns-in_default-running_answer c).After-running_answer) in
    record { entry_says = entry.entry_no _ _ c.requires.over_some.1 _ number; index_is_2 = none }

pub enter_package-requires : goal.enter_package-requires
enter_package-requires c =
    record { index_is = (c.requires.index_is.0, entry.files_stand _ _ c.requires.over_some.0); package_stands = entry.package_stands _ _ c.requires.over_some.1 _ _ (asked (goal.at.enter_package-requires c).In-Ok).2; s_len_bound = c.requires.s_len_bound.0 }

pub returns-in_default : goal.returns-in_default
returns-in_default c =
    let first = loading.inside_first _ _ _ _ _ c.parents_answer.ensures.parents_answer _ c.in_default.is in
    record { entry_says = entry.entry_no _ _ c.requires.over_some.1 _ first; index_is_2 = none }

pub returns : goal.returns
returns c =
    let behind =
    entry.depths_behind _ _ c.requires.over_some.1 c.requires.over_some.0 c.requires.index_is.1 (own (goal.at.returns c).In-Ok).1 (own (goal.at.returns c).In-Ok).0 c.keep_depths.ensures.file_kept c.keep_depths.ensures.by_index (omega (arith, c.keep_depths.auto.t))
    in record { entry_says = entry.entry_yes _ _ c.requires.over_some.1 _ (ap (number_said {A = Unit {0}}) c.in-Ok-running_answer.is) (later (goal.at.returns c).After-running_answer); index_is_2 = λ e. (c.enter_package.ensures, behind) }
