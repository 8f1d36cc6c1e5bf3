use Rattle.std.proofs.Common.{◌∙◌, map, rules}
use Rattle.ap_world.specs.World.{function_of}
use Rattle.ap_kernel.specs.Induction.{induction_at}
use Rattle.ap_kernel.proofs.Listed.{as_clause, made_by}
use Rattle.ap_kernel.proofs.induction.induction_by.Goals as goal

pub returns : goal.returns
returns c =
    made_by (function_of c.args.w.now.entries c.args.f.now) c.in-Some.function.now c.in-Some-measure.measure c.args.c.now c.args.actuals.now c.in_ok-places.places c.in_ok-goals.goals
    (search rules) (search rules) (search rules)
    (c.in_ok-goals.ensures ∙ (λ i. map as_clause (induction_at (c.as_slice-2.ensures i) (c.as_slice-3.ensures i) (c.as_slice-4.ensures i))))
