use Rattle.ap_term.specs.Printed.{term_text}
use Rattle.ap_term.proofs.Compares.{decided_texts}
use Rattle.ap_term.proofs.compare.are_same.Goals as goal

pub returns-then-same_end : goal.returns-then-same_end
returns-then-same_end c h = decided_texts term_text c.args.a.now c.args.b.now c.args.x c.args.y (c.same_term.ensures.0 h) (c.same_end.ensures c.if-same_end.true)
