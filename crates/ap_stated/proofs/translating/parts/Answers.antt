use Rattle.std.proofs.Common.{◌≡◌, Ok, subst, refl, true}
use Rattle.ap_list.specs.Lists.{Each}
use Rattle.ap_world.specs.declared.entry.Defun.{Defun}
use Rattle.ap_world.specs.Sound.{known, components}
use Rattle.ap_world.specs.World.{Shown, function_of}
use Rattle.ap_translate.specs.Answers.{Fails}
use Rattle.ap_translate.proofs.Fails.{gives_err}
use Rattle.ap_stated.specs.Shapes.{as_defined}
use Rattle.ap_stated.specs.Translating.{prepared_definition, translated_measure}
use Rattle.ap_stated.specs.Prepared.{IsPrepared}
use Rattle.ap_stated.proofs.Preparing.{guard_fails, body_fails, measure_fails, parts_given, when_given, is_prepared}
use Rattle.ap_stated.proofs.translating.parts.Goals as goal

pub returns-in_err-guard-clause-made : goal.returns-in_err-guard-clause-made
returns-in_err-guard-clause-made c =
    gives_err c.from_residual.result c.in_err-guard.field-0.0 _ c.from_residual.ensures.1
    (guard_fails c.in_err-guard.field-0.0 c.args.w.now.entries (as_defined c.args.definition.now) c.args.formals c.in_err-guard.ensures)

pub returns-in_err-body-clause-made : goal.returns-in_err-body-clause-made
returns-in_err-body-clause-made c =
    gives_err c.from_residual-in_err-body.result c.in_err-body.field-0.0 _ c.from_residual-in_err-body.ensures.1
    (body_fails c.in_err-body.field-0.0 c.args.w.now.entries (as_defined c.args.definition.now) c.args.formals c.in_ok-guard.field-0 c.in_ok-guard.ensures c.in_err-body.ensures.made)

pub returns-in_err-measure-clause-made : goal.returns-in_err-measure-clause-made
returns-in_err-measure-clause-made c =
    let d = as_defined c.args.definition.now in
    gives_err c.from_residual-in_err-measure.result c.in_err-measure.field-0.0 _ c.from_residual-in_err-measure.ensures.1
    (measure_fails c.in_err-measure.field-0.0 c.args.w.now.entries d c.args.formals c.in_ok-guard.field-0 c.in_ok-body.body c.in_ok-guard.ensures c.in_ok-body.ensures.made
    (subst (λ (u : Shown). Fails c.in_err-measure.field-0.0 (translated_measure u.entries c.args.formals d.xargs.measure)) c.body.ensures.same c.in_err-measure.ensures.made))

pub returns-clause-made : goal.returns-clause-made
returns-clause-made c =
    let d = as_defined c.args.definition.now in
    parts_given c.prepared.result c.args.w.now.entries d c.args.formals c.in_ok-guard.field-0 c.in_ok-body.body c.in_ok-measure.measure c.in_ok-guard.ensures c.in_ok-body.ensures.made
    (subst (λ (u : Shown). translated_measure u.entries c.args.formals d.xargs.measure ≡ Ok c.in_ok-measure.measure) c.body.ensures.same c.in_ok-measure.ensures.made)
    c.prepared.ensures

pub returns-clause-name : goal.returns-clause-name
returns-clause-name c =
    when_given c.prepared.result (prepared_definition c.args.definition.now.name.now c.args.formals c.in_ok-body.body c.in_ok-measure.measure)
    (λ (d : Defun). d.name ≡ c.args.definition.now.name.now) c.prepared.ensures refl

pub returns-clause-prepared : goal.returns-clause-prepared
returns-clause-prepared c =
    let n = c.args.definition.now.name.now in
    let m = c.in_ok-measure.measure in
    when_given c.prepared.result (prepared_definition n c.args.formals c.in_ok-body.body m) (IsPrepared c.args.w.now.entries) c.prepared.ensures
    (is_prepared c.args.w.now.entries n c.args.formals c.in_ok-body.body m _ refl c.requires.distinct c.in_ok-body.ensures.speaks c.in_ok-body.ensures.known c.in_ok-measure.ensures.speaks
    (subst (λ (u : Shown). Each (λ t. known (function_of u.entries) t ≡ true) (components m)) c.body.ensures.same c.in_ok-measure.ensures.known))
