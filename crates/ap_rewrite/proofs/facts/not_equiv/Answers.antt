use Rattle.ap_world.specs.World.{function_of}
use Rattle.ap_rewrite.proofs.FactsRelieve.{not_args, not_head, not_said}
use Rattle.ap_rewrite.proofs.facts.not_equiv.Goals as goal

pub cong-requires-clause-head : goal.cong-requires-clause-head
cong-requires-clause-head c = not_head (function_of c.args.w.now.entries) c.requires.ground c.not_symbol-head.result c.args.q c.from_ref.result.now c.not_symbol-head.ensures c.from_ref.ensures.value

pub cong-requires-clause-args : goal.cong-requires-clause-args
cong-requires-clause-args c = not_args c.args.w.now c.args.ctx.now c.args.q c.not_symbol-head.result c.from_ref.result.now c.not_symbol-head.ensures c.from_ref.ensures.value c.requires.stands c.requires.ctx

pub returns-clause-made : goal.returns-clause-made
returns-clause-made c = not_said c.args.ctx.now c.args.q c.not_symbol-head.result c.from_ref.result.now c.in_ok-r.r.says c.not_symbol-head.ensures c.from_ref.ensures.value c.in_ok-r.ensures.made
