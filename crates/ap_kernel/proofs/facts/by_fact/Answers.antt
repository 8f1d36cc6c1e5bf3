use Rattle.std.proofs.Common.{◌≡◌, Some, slice_get, ap, ◌∙◌, subst}
use Rattle.ap_world.specs.Facts.{Facts}
use Rattle.ap_world.specs.World.{function_of}
use Rattle.ap_kernel.proofs.Typed.{fact_stands}
use Rattle.ap_kernel.proofs.Derived.{stands_by}
use Rattle.ap_kernel.proofs.DerivedEquivs.{fact_derived}
use Rattle.ap_kernel.proofs.facts.by_fact.Goals as goal

pub returns-clause-stands : goal.returns-clause-stands
returns-clause-stands c =
    let there : slice_get c.args.ctx.now.0 c.args.index ≡ Some c.fact_at-fact.result.now =
    subst (λ (fs : Facts). slice_get fs c.args.index ≡ Some c.fact_at-fact.result.now) c.facts.ensures c.fact_at-fact.ensures in
    stands_by c.args.w.now c.in_ok-answer.answer _ _ c.in_ok-answer.ensures.says (c.in_ok-answer.ensures.why ∙ ap Some c.in_ok-why.ensures)
    (fact_derived c.args.w.now c.args.ctx.now c.args.index _ _ c.requires.facts there)
    (fact_stands (function_of c.args.w.now.entries) c.recall_sound.ensures.total c.args.ctx.now c.args.index _ _ c.requires.facts there)
