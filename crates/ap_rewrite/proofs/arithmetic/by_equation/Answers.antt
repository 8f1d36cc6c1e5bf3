use Rattle.ap_rewrite.specs.Answering.{defs_in}
use Rattle.ap_rewrite.proofs.Refuted.{sides_known}
use Rattle.ap_rewrite.proofs.arithmetic.by_equation.Goals as goal

pub integers-requires-clause-left : goal.integers-requires-clause-left
integers-requires-clause-left g c = (sides_known (defs_in c.args.l.now.r.now) c.args.t.now c.args.a.now c.args.b.now c.requires.term c.requires.equation).0

pub integers-requires-clause-right : goal.integers-requires-clause-right
integers-requires-clause-right g c = (sides_known (defs_in c.args.l.now.r.now) c.args.t.now c.args.a.now c.args.b.now c.requires.term c.requires.equation).1

pub by_equal-requires-clause-left : goal.by_equal-requires-clause-left
by_equal-requires-clause-left g c = (sides_known (defs_in c.args.l.now.r.now) c.args.t.now c.args.a.now c.args.b.now c.requires.term c.requires.equation).0

pub by_equal-requires-clause-right : goal.by_equal-requires-clause-right
by_equal-requires-clause-right g c = (sides_known (defs_in c.args.l.now.r.now) c.args.t.now c.args.a.now c.args.b.now c.requires.term c.requires.equation).1
