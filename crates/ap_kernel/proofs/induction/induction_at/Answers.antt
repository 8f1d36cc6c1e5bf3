use Rattle.ap_kernel.proofs.Listed.{induction_made}
use Rattle.ap_kernel.proofs.induction.induction_at.Goals as goal

pub returns : goal.returns
returns c =
    induction_made c.as_clauses.result c.args.literals.now c.args.places.now c.args.cases.now c.in_ok-pairs.pairs.0 c.in_ok-lists.lists c.in_ok-pairs.ensures c.in_ok-lists.ensures c.as_clauses.ensures
