use Rattle.std.proofs.Common.{arith}
use Rattle.std.proofs.lemmas.Result.{err_from_is_err_and}
use Rattle.ap_outside.proofs.Gains.{gained_more, gained_to, part_begun, take_on}
use Rattle.ap_session.proofs.Unput.{less_begun}
use Rattle.ap_session.proofs.putting.put_whole.Goals as goal

pub returns-in_err-done-clause-part : goal.returns-in_err-done-clause-part
returns-in_err-done-clause-part g c =
    let p = err_from_is_err_and c.from_residual.result c.from_residual.ensures.1 in
    rw p.1 (part_begun _ _ _ _ _ c.loop-done.invariant.gained c.in_err-done.ensures.none)

pub returns-in_err-done-clause-unput : goal.returns-in_err-done-clause-unput
returns-in_err-done-clause-unput g c =
    let p = err_from_is_err_and c.from_residual.result c.from_residual.ensures.1 in
    rw p.1 (less_begun _ _ _ _ _ c.loop-done.invariant.gained c.in_err-done.ensures.none (omega arith))

pub loop-done-preserved : goal.loop-done-preserved
loop-done-preserved g c = record {
  within = omega (arith, c.in_ok-done.ensures.bound);
  gained = gained_to _ _ _ _ (gained_more _ _ _ _ _ c.loop-done.invariant.gained c.in_ok-done.ensures.gained) (take_on _ _ _);
  later = omega arith;
}
