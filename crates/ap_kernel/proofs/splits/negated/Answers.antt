use Rattle.std.proofs.Common.{◌≡◌, ap, ◌∙◌, rules}
use Rattle.ap_world.specs.Clauses.{negate}
use Rattle.ap_world.specs.Shapes.{shape_of, negation}
use Rattle.ap_kernel.proofs.Splitting.{negated_by, negate_is, negate_other}
use Rattle.ap_kernel.proofs.splits.negated.Goals as goal

pub returns-in-Not : goal.returns-in-Not
returns-in-Not c =
    let h : shape_of c.args.t.now ≡ negation c.in-Not.a.now = search rules in
    let e : negate c.args.t.now ≡ c.in-Not.a.now = negate_is c.args.t.now ∙ ap (λ y. negated_by y c.args.t.now) h in
    rw e c.copy_term.ensures

pub returns-in_ok-copy_term-in_default : goal.returns-in_ok-copy_term-in_default
returns-in_ok-copy_term-in_default c =
    let e = negate_other c.args.t.now c.shape_of.result c.shape_of.ensures c.in_default.not-Not in
    rw e (search rules)
