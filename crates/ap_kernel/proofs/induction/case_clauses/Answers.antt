use Rattle.std.proofs.Common.{rules}
use Rattle.ap_kernel.specs.Induction.{moved_at}
use Rattle.ap_kernel.proofs.Listed.{case_made}
use Rattle.ap_kernel.proofs.induction.case_clauses.Goals as goal

pub returns : goal.returns
returns c =
    let s = c.args.s.now.0 in
    case_made c.with_choices.result c.args.literals.now s (moved_at s c.args.places.now) c.args.case.now c.in_ok-tests.tests c.in_ok-lists.lists c.in_ok-choices.choices
    (search rules) (search rules) (search rules) (search rules)
