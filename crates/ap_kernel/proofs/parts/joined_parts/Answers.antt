use Rattle.std.proofs.Common.{◌≡◌, rules}
use Rattle.ap_world.specs.Shapes.{shape_of, choice}
use Rattle.ap_kernel.proofs.Walked.{choice_smaller}
use Rattle.ap_kernel.proofs.parts.joined_parts.Goals as goal

pub returns-then-is_nil_term-clause-smaller : goal.returns-then-is_nil_term-clause-smaller
returns-then-is_nil_term-clause-smaller c =
    let h : shape_of c.args.t.now ≡ choice c.in-If.a.now c.in-If.b.now c.in-If.c.now = search rules in
    choice_smaller c.args.t.now c.in-If.a.now c.in-If.b.now c.in-If.c.now h
