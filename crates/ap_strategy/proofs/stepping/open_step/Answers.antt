use Rattle.std.proofs.Common.{List, sym, ap, ◌∙◌, false}
use Rattle.ap_walk.specs.declared.act.Process.{Process}
use Rattle.ap_walk.specs.declared.act.Out.{Out}
use Rattle.ap_strategy.specs.Goals.{Goal}
use Rattle.ap_strategy.specs.Steps.{done}
use Rattle.ap_strategy.proofs.Kept.{opened_step}
use Rattle.ap_strategy.proofs.stepping.open_step.Goals as goal

pub returns : goal.returns
returns g c =
    let t = c.task.inside in
    let seen : Goal = record { plan = t.plan.now; name = t.name; clause = t.clause; depth = t.depth; under = t.under; settings = t.settings; induct = t.induct; scheme = t.scheme } in
    c.done.ensures
    ∙ ap (λ (ts : List Goal). done Process.Simplify false false (Out.Split ts)) c.in_ok-children.ensures
    ∙ opened_step c.args.task.now seen c.in_ok-clause.clause c.in_ok-clauses.field-0 c.in-Some.clauses c.as_slice.result.now c.task.view_is c.in_ok-clause.ensures c.in_ok-clauses.ensures.made c.in-Some.is c.as_slice.ensures
    (sym c.is_alone.ensures ∙ c.if-is_alone.false)
