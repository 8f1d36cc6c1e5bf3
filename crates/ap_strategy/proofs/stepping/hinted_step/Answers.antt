use Rattle.std.proofs.Common.{◌≡◌, ◌∙◌, Some, None, IfOk, sym, subst, rules}
use Rattle.ap_walk.specs.declared.act.Stepped.{Stepped}
use Rattle.ap_hints.specs.Known.{KnownHint}
use Rattle.ap_strategy.specs.Goals.{Goal, hint_for}
use Rattle.ap_strategy.specs.Hinted.{hint_known}
use Rattle.ap_strategy.proofs.Kept.{step_by, unhinted}
use Rattle.ap_strategy.proofs.stepping.hinted_step.Goals as goal

pub returns-in_default : goal.returns-in_default
returns-in_default g c =
    let t = c.args.task.now in
    let none : hint_for t.plan t.name ≡ None = search rules in
    subst (λ (x : Stepped Goal). IfOk c.open_step.result (λ s. s ≡ x)) (unhinted t none) c.open_step.ensures

pub hint_step-requires-clause-hint : goal.hint_step-requires-clause-hint
hint_step-requires-clause-hint g c =
    let t = c.args.task.now in
    let found : hint_for t.plan t.name ≡ Some c.in-Some.hint.now = search rules in
    subst (λ (g : Goal). KnownHint g.plan.world.entries c.in-Some.hint.now) (sym c.in_ok-with.ensures) (hint_known t.plan t.name c.in-Some.hint.now c.recall_goal.ensures.hints found)

pub returns : goal.returns
returns g c =
    let t = c.args.task.now in
    let found : hint_for t.plan t.name ≡ Some c.in-Some.hint.now = search rules in
    c.in_ok-stepped.ensures ∙ step_by t c.in_ok-with.with c.in-Some.hint.now c.in_ok-with.ensures found
