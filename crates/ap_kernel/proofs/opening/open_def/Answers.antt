use Rattle.std.proofs.Common.{◌≡◌, Some, ap, ◌∙◌, rules}
use Rattle.ap_world.specs.World.{function_of}
use Rattle.ap_kernel.specs.Opening.{opened}
use Rattle.ap_kernel.proofs.OpeningStands.{open_stands}
use Rattle.ap_kernel.proofs.Derived.{stands_by}
use Rattle.ap_kernel.proofs.DerivedEquivs.{open_derived}
use Rattle.ap_kernel.proofs.opening.open_def.Goals as goal

pub returns-clause-stands : goal.returns-clause-stands
returns-clause-stands c =
    let leads : opened (function_of c.args.w.now.entries) c.args.call.now ≡ Some c.in-Some.rhs = search rules in
    stands_by c.args.w.now c.in_ok-answer.answer _ _ (search rules) (c.in_ok-answer.ensures.why ∙ ap Some c.in_ok-why.ensures)
    (open_derived c.args.w.now c.args.ctx.now c.args.call.now c.in-Some.rhs c.requires.facts c.requires.term leads)
    (open_stands c.args.w.now.entries c.recall_sound.ensures c.recall_distinct_names.ensures c.args.ctx.now c.args.call.now c.in-Some.rhs c.requires.facts c.requires.term leads)
