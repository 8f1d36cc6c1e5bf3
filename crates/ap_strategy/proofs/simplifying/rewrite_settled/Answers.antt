use Rattle.std.proofs.Common.{◌≡◌, ◌∙◌, ℕ, List, rules}
use Rattle.std.specs.Option.{option_map}
use Rattle.ap_term.specs.declared.term.Clause.{Clause}
use Rattle.ap_kernel.specs.declared.reductions.Reduction.{Reduction}
use Rattle.ap_clausify.specs.Splitting.{settled_left}
use Rattle.ap_rewrite.specs.Literals.{simplify_of}
use Rattle.ap_strategy.specs.Steps.{setting_by}
use Rattle.ap_strategy.specs.Reduced.{settled_says}
use Rattle.ap_strategy.proofs.simplifying.rewrite_settled.Goals as goal

pub returns-clause-made : goal.returns-clause-made
returns-clause-made c =
    let left = simplify_of (setting_by c.args.plan.now c.args.settings.now) c.args.plan.now.step_limit c.args.c in
    let made : option_map (λ (r : Reduction). r.says) c.in_ok-answer.answer ≡ option_map (λ (p : List Clause × ℕ). record { from = c.args.c; to = p.0 }) (settled_left left) = search rules in
    made ∙ settled_says c.args.c left
