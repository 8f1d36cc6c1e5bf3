use Rattle.ap_translate.proofs.Fails.{gives_err}
use Rattle.ap_stated.specs.Shapes.{as_defined}
use Rattle.ap_stated.proofs.Preparing.{formals_fail, formals_given}
use Rattle.ap_stated.proofs.translating.translated.Goals as goal

pub returns-in_err-formals-clause-made : goal.returns-in_err-formals-clause-made
returns-in_err-formals-clause-made c =
    gives_err c.from_residual.result c.in_err-formals.field-0.0 _ c.from_residual.ensures.1
    (formals_fail c.in_err-formals.field-0.0 c.args.w.now.entries (as_defined c.args.definition.now) c.in_err-formals.ensures.names)

pub returns-clause-made : goal.returns-clause-made
returns-clause-made c =
    formals_given c.parts.result c.args.w.now.entries (as_defined c.args.definition.now) c.in_ok-formals.formals c.in_ok-formals.ensures.names c.parts.ensures.made
