use Rattle.std.proofs.Common.{◌≡◌, rules}
use Rattle.ap_world.specs.Shapes.{shape_of, choice}
use Rattle.ap_terminate.proofs.Casing.{branches_smaller}
use Rattle.ap_terminate.proofs.cases.branches.Goals as goal

pub returns-else-has_no_call-clause-smaller : goal.returns-else-has_no_call-clause-smaller
returns-else-has_no_call-clause-smaller c =
    let h : shape_of c.args.t.now ≡ choice c.in-If.test.now c.in-If.yes.now c.in-If.no.now = search rules in
    branches_smaller c.args.t.now c.in-If.test.now c.in-If.yes.now c.in-If.no.now h
