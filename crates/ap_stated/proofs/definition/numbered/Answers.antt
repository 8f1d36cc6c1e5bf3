use Rattle.ap_stated.proofs.Defining.{numbered_next, numbered_all}
use Rattle.ap_stated.proofs.definition.numbered.Goals as goal

pub loop-i-preserved : goal.loop-i-preserved
loop-i-preserved c =
    numbered_next c.loop-i.owed _ c.args.clauses.now c.loop-i.i _ _ _ c.loop-i-test.true c.index-clauses-i.is c.in_ok-obligation.ensures c.in_ok-push.ensures.ok c.loop-i.invariant

pub returns : goal.returns
returns c = numbered_all c.loop-i.owed c.args.clauses.now c.loop-i.i _ c.loop-i-test.false c.loop-i.invariant
