-- `calls::allowed::callee_allows` meets its contract: a declaration of the class named by the row of its package, another by a table of its own.
-- Assumes nothing.
use native.Mathlib.Omega.{arith}
use Rattle.calls.proofs.Rights as rights
use Rattle.calls.proofs.Covers as covers
use Rattle.calls.proofs.allowed.callee_allows.Goals as goal

pub may_call-requires : goal.may_call-requires
may_call-requires c =
    let there = rights.callee_stands c.args.x c.requires.own_method.1 (rights.caller_judged c.requires.own_method.0) in
    record { own_method = (c.requires.own_method.0, there); asker_true = c.requires.asker_true; p_in_bounds = (omega (arith, c.if-x-lt16.true, c.requires.map_true.size), omega (arith, c.requires.map_true.size)) }

pub returns-then-x-lt16 : goal.returns-then-x-lt16
returns-then-x-lt16 c =
    let x = c.args.x in
    let everywhere = rights.caller_everywhere c.requires.own_method.0 in record { callee_allows = covers.callee_by_map x _ c.if-x-lt16.true c.requires.map_true c.may_call.ensures; map_true_2 = covers.map_kept x _ c.if-x-lt16.true c.requires.map_true c.may_call.ensures everywhere c.requires.own_method.1 (omega (arith, c.may_call.auto)) }

pub may_call_above-requires : goal.may_call_above-requires
may_call_above-requires c = record { own_method = c.requires.own_method; asker_true = c.requires.asker_true }

pub returns : goal.returns
returns c = record { callee_allows = c.may_call_above.ensures; map_true_2 = c.requires.map_true }
