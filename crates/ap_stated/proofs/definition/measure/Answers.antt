use Rattle.std.proofs.Common.{◌∙◌, Err, ap}
use Rattle.ap_stated.proofs.Measuring.{nested, bad, lacking}
use Rattle.ap_stated.proofs.definition.measure.Goals as goal

pub returns-in-Err-NestedRecursion-clause-none : goal.returns-in-Err-NestedRecursion-clause-none
returns-in-Err-NestedRecursion-clause-none c =
    nested c.args.d.now (c.measure_for.ensures.nested.0 (c.in-Err-NestedRecursion.is ∙ ap Err c.in-Err-NestedRecursion.field-0-is))

pub returns-in-Err-BadMeasure-clause-none : goal.returns-in-Err-BadMeasure-clause-none
returns-in-Err-BadMeasure-clause-none c =
    bad c.args.d.now (c.measure_for.ensures.bad.0 (c.in-Err-BadMeasure.is ∙ ap Err c.in-Err-BadMeasure.field-0-is))

pub returns-in-Err-NoMeasure-clause-none : goal.returns-in-Err-NoMeasure-clause-none
returns-in-Err-NoMeasure-clause-none c =
    lacking c.args.d.now (c.measure_for.ensures.none.0 (c.in-Err-NoMeasure.is ∙ ap Err c.in-Err-NoMeasure.field-0-is))
