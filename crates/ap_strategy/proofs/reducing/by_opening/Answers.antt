use Rattle.std.proofs.Common.{◌≡◌, ◌∙◌, [], Option, IfOk, option_map, sym, ap, subst, true, false, rules}
use Rattle.ap_kernel.specs.declared.reductions.Inference.{Inference}
use Rattle.ap_strategy.specs.Goals.{Goal}
use Rattle.ap_strategy.specs.Leads.{said_once}
use Rattle.ap_strategy.specs.Steps.{is_alone, unrepeated}
use Rattle.ap_strategy.proofs.StepLeads.{seen, opening_none, opening_alone, opening_split}
use Rattle.ap_strategy.proofs.reducing.by_opening.Goals as goal

pub returns-in_default-clause-made : goal.returns-in_default-clause-made
returns-in_default-clause-made g c =
    let t = c.task.inside in
    let h : Goal = record { plan = t.plan.now; name = t.name; clause = t.clause; depth = t.depth; under = t.under; settings = t.settings; induct = t.induct; scheme = t.scheme } in
    subst (λ (x : Option Inference). IfOk c.by_later.result (λ o. option_map said_once o ≡ x))
    (sym (opening_none c.args.task.now c.in_ok-clause.clause c.in_ok-reduction.field-0
    (seen c.args.task.now h c.in_ok-clause.clause c.in_ok-reduction.field-0 c.task.view_is c.in_ok-clause.ensures c.in_ok-reduction.ensures.made) c.in_default.is))
    c.by_later.ensures.made

pub returns-then-is_alone-clause-made : goal.returns-then-is_alone-clause-made
returns-then-is_alone-clause-made g c =
    let t = c.task.inside in
    let h : Goal = record { plan = t.plan.now; name = t.name; clause = t.clause; depth = t.depth; under = t.under; settings = t.settings; induct = t.induct; scheme = t.scheme } in
    let listed : c.as_slice-2.result.now ≡ unrepeated [] c.in-Some.reduction.says.to = search rules in
    subst (λ (x : Option Inference). IfOk c.by_later-then-is_alone.result (λ o. option_map said_once o ≡ x))
    (sym (opening_alone c.args.task.now c.in_ok-clause.clause c.in_ok-reduction.field-0 c.in-Some.reduction
    (seen c.args.task.now h c.in_ok-clause.clause c.in_ok-reduction.field-0 c.task.view_is c.in_ok-clause.ensures c.in_ok-reduction.ensures.made) c.in-Some.is
    (sym (ap (λ (z : Goal). is_alone z.clause (unrepeated [] c.in-Some.reduction.says.to)) c.task.view_is) ∙ ap (is_alone h.clause) (sym listed) ∙ sym c.is_alone.ensures ∙ c.if-is_alone.true)))
    c.by_later-then-is_alone.ensures.made

pub returns-clause-made : goal.returns-clause-made
returns-clause-made g c =
    let t = c.task.inside in
    let h : Goal = record { plan = t.plan.now; name = t.name; clause = t.clause; depth = t.depth; under = t.under; settings = t.settings; induct = t.induct; scheme = t.scheme } in
    let listed : c.as_slice-2.result.now ≡ unrepeated [] c.in-Some.reduction.says.to = search rules in
    opening_split c.args.task.now c.in_ok-clause.clause c.in_ok-reduction.field-0 c.in-Some.reduction
    (seen c.args.task.now h c.in_ok-clause.clause c.in_ok-reduction.field-0 c.task.view_is c.in_ok-clause.ensures c.in_ok-reduction.ensures.made) c.in-Some.is
    (sym (ap (λ (z : Goal). is_alone z.clause (unrepeated [] c.in-Some.reduction.says.to)) c.task.view_is) ∙ ap (is_alone h.clause) (sym listed) ∙ sym c.is_alone.ensures ∙ c.if-is_alone.false)
