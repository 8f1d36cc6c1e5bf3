use Rattle.std.proofs.Common.{◌≡◌, ◌&&◌, ap, sym, ◌∙◌, rules}
use Rattle.ap_term.specs.Equal.{term_eq}
use Rattle.ap_world.specs.Shapes.{shape_of, equation}
use Rattle.ap_kernel.proofs.SameTerms.{sides_are, equation_test, not_equation}
use Rattle.ap_kernel.proofs.equations.is_equation.Goals as goal

pub returns-then-is_same : goal.returns-then-is_same
returns-then-is_same c =
    let e : shape_of c.args.t.now ≡ equation c.in-Equal.x.now c.in-Equal.y.now = search rules in
    c.is_same-then-is_same.ensures ∙ sym (equation_test c.args.t.now c.args.a.now c.args.b.now ∙ ap (sides_are c.args.a.now c.args.b.now) e
    ∙ ap (λ p. p && term_eq c.args.b.now c.in-Equal.y.now) (sym c.is_same.ensures ∙ c.if-is_same.true))

pub returns-else-is_same : goal.returns-else-is_same
returns-else-is_same c =
    let e : shape_of c.args.t.now ≡ equation c.in-Equal.x.now c.in-Equal.y.now = search rules in
    c.if-is_same.false ∙ sym (equation_test c.args.t.now c.args.a.now c.args.b.now ∙ ap (sides_are c.args.a.now c.args.b.now) e
    ∙ ap (λ p. p && term_eq c.args.b.now c.in-Equal.y.now) (sym c.is_same.ensures ∙ c.if-is_same.false))

pub returns-in_default : goal.returns-in_default
returns-in_default c = not_equation c.args.t.now c.args.a.now c.args.b.now c.shape_of.result c.shape_of.ensures c.in_default.not-Equal
