use Rattle.ap_rewrite.proofs.Negated.{not_here, is_negation}
use Rattle.ap_rewrite.proofs.shaping.argument_of.Goals as goal

pub unreachable-requires : goal.unreachable-requires
unreachable-requires c = is_negation c.args.t.now c.requires.0 c.shape_of.result c.shape_of.ensures c.requires.1 c.in_default.not-Not

pub returns : goal.returns
returns c = not_here c.args.t.now c.in-Not.a.now c.in-Not.ensures
