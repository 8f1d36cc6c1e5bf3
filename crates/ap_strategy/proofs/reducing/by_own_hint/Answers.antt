use Rattle.std.proofs.Common.{◌≡◌, ◌∙◌, Some, None, Option, IfOk, option_map, sym, ap, subst, rules}
use Rattle.ap_hints.specs.Known.{KnownHint}
use Rattle.ap_walk.specs.declared.act.Stepped.{Stepped}
use Rattle.ap_kernel.specs.declared.reductions.Inference.{Inference}
use Rattle.ap_strategy.specs.Goals.{Goal, hint_for}
use Rattle.ap_strategy.specs.Hinted.{hint_known}
use Rattle.ap_strategy.specs.Leads.{said_once, to_children}
use Rattle.ap_strategy.proofs.Kept.{unhinted}
use Rattle.ap_strategy.proofs.StepLeads.{own_by}
use Rattle.ap_strategy.proofs.reducing.by_own_hint.Goals as goal

pub returns-in_default-clause-made : goal.returns-in_default-clause-made
returns-in_default-clause-made g c =
    let t = c.args.task.now in
    let none : hint_for t.plan t.name ≡ None = search rules in
    subst (λ (x : Option Inference). IfOk c.by_opening.result (λ o. option_map said_once o ≡ x)) (ap (λ (s : Stepped Goal). to_children t.clause s.out) (unhinted t none)) c.by_opening.ensures.made

pub with_hint-requires : goal.with_hint-requires
with_hint-requires g c =
    let t = c.args.task.now in
    let found : hint_for t.plan t.name ≡ Some c.in-Some.hint.now = search rules in
    record { hint = subst (λ (g : Goal). KnownHint g.plan.world.entries c.in-Some.hint.now) (sym c.in_ok-with.ensures) (hint_known t.plan t.name c.in-Some.hint.now c.recall_goal.ensures.hints found) }

pub returns-clause-made : goal.returns-clause-made
returns-clause-made g c =
    let t = c.args.task.now in
    let found : hint_for t.plan t.name ≡ Some c.in-Some.hint.now = search rules in
    c.in_ok-reduction.ensures.made ∙ own_by t c.in_ok-with.with c.in-Some.hint.now c.in_ok-with.ensures found
