use Rattle.std.proofs.Common.{Some, ap, sym, ◌∙◌}
use Rattle.ap_rewrite.proofs.Refuted.{two_of, equation_of, call_compares}
use Rattle.ap_rewrite.proofs.arithmetic.compared.Goals as goal

pub by_less-requires-clause-comparison : goal.by_less-requires-clause-comparison
by_less-requires-clause-comparison g c =
    call_compares c.args.t.now c.args.f.now c.args.us.now c.requires.call (sym c.primitive_of.ensures ∙ c.in-Some-Less.is ∙ ap Some c.in-Some-Less.field-0-is)

pub by_equation-requires-clause-equation : goal.by_equation-requires-clause-equation
by_equation-requires-clause-equation g c =
    equation_of c.args.t.now c.args.f.now c.args.us.now c.a-item.result c.b-item.result c.requires.call
    (two_of c.args.us.now c.a-item.result c.b-item.result c.in-len2.len_at_least c.in-len2.len_below c.a-item.is c.b-item.is)
    (sym c.primitive_of.ensures ∙ c.in-Some-Equal.is ∙ ap Some c.in-Some-Equal.field-0-is)
