use Rattle.std.proofs.Common.{sym, rules, arith}
use Rattle.ap_types.proofs.Scoped.{some_entered, none_entered}
use Rattle.ap_types.proofs.scopes.cut_by_none.Goals as goal

pub returns-then-not-is_empty : goal.returns-then-not-is_empty
returns-then-not-is_empty c =
    sym (some_entered c.args.contexts.now c.loop-context.context-index c.context-item.result c.args.mask c.loop-context-test.true c.context-item.is (search rules))

pub loop-context-preserved : goal.loop-context-preserved
loop-context-preserved c =
    none_entered c.args.contexts.now c.loop-context.context-index c.context-item.result c.facts.result.now c.loop-context-test.true c.context-item.is c.facts.ensures (search (rules, arith)) c.loop-context.invariant
