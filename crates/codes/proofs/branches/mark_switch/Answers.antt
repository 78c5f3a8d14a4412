-- `codes::branches::mark_switch` meets its contract: the entries of each switch stand within the code. Assumes nothing.
use Prim.Native.Nat.{ℕ, ◌+◌, ◌*◌, ◌≤◌}
use native.Mathlib.Omega.{arith}
use lib.ListN.{length}
use mathlib.Core.Path.{◌≡◌, refl, sym, ap, ◌∙◌}
use mathlib.Core.Option.{Option, some}
use Rattle.rules.specs.Bytes.{list_of}
use Rattle.fields.specs.Told.{told as given}
use Rattle.rules.specs.Code.{Switch, targets_each, switch_entries}
use Rattle.instructions.specs.Table.{switch_of}
use Rattle.codes.specs.Marks.{entry_targets}
use Rattle.instructions.proofs.Sizes.{switch_75, switch_76, whole_size, switch_room, entry_2, offset_0}
use Rattle.codes.proofs.Targets.{entries_are}
use Rattle.codes.proofs.Adding.{adds_is, adds_nil}
use Rattle.codes.proofs.branches.mark_switch.Goals as goal
use Rattle.codes.proofs.branches.mark_switch.Goals.{In-Some, Start}

-- the head lies inside the code, and so do the entries behind it
head-inside : (b : Start) → b.args.at + b.args.head ≤ length b.args.code.now
head-inside b = whole_size _ _ b.args.form _ b.requires.lt_form.1 b.requires.lt_form.2

-- the number of entries
there : (k : In-Some) → switch_entries (switch_of k.args.form) k.args.code.now k.args.at ≡ some k.in-Some.n
there k = k.entries_of.ensures.0 ∙ ap given k.in-Some.is

room : (k : In-Some) (entry : ℕ) →
    let a = k.args in
    (switch_of a.form).entry ≡ entry → a.at + a.head + entry * k.in-Some.n ≤ length a.code.now
room k =
    switch_room _ _ _ _ k.requires.lt_form.1 k.requires.lt_form.0 k.requires.lt_form.2 _ (there k)

-- the targets of the entries, from the first one's offset behind the head
targets : (k : In-Some) (first offset entry : ℕ) →
    let a = k.args in
    first ≡ a.at + a.head + offset → (switch_of a.form).offset ≡ offset → (switch_of a.form).entry ≡ entry →
    targets_each k.in-Some.n a.code.now a.at first entry ≡ entry_targets (switch_of a.form) a.code.now a.at
targets k first offset entry f o e =
    let a = k.args in
    entries_are a.form a.code.now a.at k.in-Some.n first entry (there k) (omega (arith, k.requires.lt_form.1.head k.requires.lt_form.0)) (sym e)

pub entries_of-requires : goal.entries_of-requires
entries_of-requires c =
    (c.requires.lt_form.0, omega (arith, head-inside (goal.at.entries_of-requires c).Start, c.requires.lt_form.1.head c.requires.lt_form.0))

pub returns-in_default : goal.returns-in_default
returns-in_default c =
    let none = c.entries_of.ensures.0 ∙ ap given c.in_default.is in
    adds_is refl (sym (ap (λ (o : Option ℕ). list_of o (λ n. targets_each n c.args.code.now c.args.at
    (c.args.at + (switch_of c.args.form).head + (switch_of c.args.form).offset) (switch_of c.args.form).entry)) none)) (adds_nil _ c.args.targets.now)

pub overflow_add-at : goal.overflow_add-at
overflow_add-at c = omega (arith, head-inside (goal.at.overflow_add-at c).Start)

pub mark_each-requires : goal.mark_each-requires
mark_each-requires c =
    record { code_len_bound = c.requires.code_len_bound; le_step = (omega arith, omega arith, omega (arith, room (goal.at.mark_each-requires c).In-Some 2 (entry_2 _ c.requires.lt_form.0 c.if-form-lt6.true))) }

pub returns-then-form-lt6 : goal.returns-then-form-lt6
returns-then-form-lt6 c =
    adds_is refl (targets (goal.at.returns-then-form-lt6 c).In-Some _ 0 2 (omega arith) (offset_0 _ c.requires.lt_form.0 c.if-form-lt6.true) (entry_2 _ c.requires.lt_form.0 c.if-form-lt6.true)) c.mark_each.ensures

pub overflow_add-at-then-form-eq6 : goal.overflow_add-at-then-form-eq6
overflow_add-at-then-form-eq6 c = omega (arith, head-inside (goal.at.overflow_add-at-then-form-eq6 c).Start)

pub overflow_add-at-then-form-eq6-2 : goal.overflow_add-at-then-form-eq6-2
overflow_add-at-then-form-eq6-2 c = omega (arith, head-inside (goal.at.overflow_add-at-then-form-eq6-2 c).Start)

pub mark_each-requires-then-form-eq6 : goal.mark_each-requires-then-form-eq6
mark_each-requires-then-form-eq6 c =
    record { code_len_bound = c.requires.code_len_bound; le_step = (omega arith, omega arith, omega (arith, room (goal.at.mark_each-requires-then-form-eq6 c).In-Some 4 (ap (λ (w : Switch). w.entry) (switch_75 _ c.if-form-eq6.true)))) }

pub returns-then-form-eq6 : goal.returns-then-form-eq6
returns-then-form-eq6 c =
    let form = switch_75 _ c.if-form-eq6.true in
    adds_is refl (targets (goal.at.returns-then-form-eq6 c).In-Some _ 2 4 (omega arith) (ap (λ (w : Switch). w.offset) form) (ap (λ (w : Switch). w.entry) form)) c.mark_each-then-form-eq6.ensures

pub overflow_add-at-2 : goal.overflow_add-at-2
overflow_add-at-2 c = omega (arith, head-inside (goal.at.overflow_add-at-2 c).Start)

pub overflow_add-at-3 : goal.overflow_add-at-3
overflow_add-at-3 c = omega (arith, head-inside (goal.at.overflow_add-at-3 c).Start)

pub mark_each-requires-2 : goal.mark_each-requires-2
mark_each-requires-2 c =
    let form = switch_76 c.args.form (omega arith) in
    record { code_len_bound = c.requires.code_len_bound; le_step = (omega arith, omega arith, omega (arith, room (goal.at.mark_each-requires-2 c).In-Some 6 (ap (λ (w : Switch). w.entry) form))) }

pub returns : goal.returns
returns c =
    let form = switch_76 c.args.form (omega arith) in
    adds_is refl (targets (goal.at.returns c).In-Some _ 4 6 (omega arith) (ap (λ (w : Switch). w.offset) form) (ap (λ (w : Switch). w.entry) form)) c.mark_each-2.ensures
