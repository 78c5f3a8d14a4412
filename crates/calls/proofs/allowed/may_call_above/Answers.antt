-- `calls::allowed::may_call_above` meets its contract: nothing is known in the table at first. Assumes nothing.
use native.Mathlib.Omega.{arith}
use lib.ListN.{replicate}
use Rattle.policies.specs.Rows.{unknown}
use Rattle.calls.proofs.Rights as rights
use Rattle.calls.proofs.Covers as covers
use Rattle.calls.proofs.allowed.may_call_above.Goals as goal

pub may_call-requires : goal.may_call-requires
may_call-requires c =
    record { own_method = (c.requires.own_method.0, rights.callee_stands c.args.x c.requires.own_method.1 (rights.caller_judged c.requires.own_method.0)); asker_true = c.requires.asker_true; p_in_bounds = (omega arith, omega arith) }

pub returns : goal.returns
returns c =
    covers.callee_apart c.args.x (replicate 66 unknown) _ (covers.unknowns 66) c.may_call.ensures
