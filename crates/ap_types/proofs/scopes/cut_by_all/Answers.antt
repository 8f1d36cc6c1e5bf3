use Rattle.std.proofs.Common.{[]}
use Rattle.ap_types.proofs.Scoped.{cut_end}
use Rattle.ap_types.proofs.scopes.cut_by_all.Goals as goal

pub returns : goal.returns
returns c = cut_end [] c.args.contexts.now c.loop-context.context-index c.args.t.now c.args.mask c.loop-context.out c.loop-context-test.false c.loop-context.invariant
