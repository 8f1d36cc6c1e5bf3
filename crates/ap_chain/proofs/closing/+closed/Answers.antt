use Rattle.std.proofs.Common.{◌≡◌, ◌∙◌, ◌++◌, ◌∷◌, ◌<◌, [], length, List, take, rules, ap, sym, subst, add-one}
use Rattle.std.specs.Prelude.{is_some}
use Rattle.ap_list.specs.Lists.{Each}
use Rattle.ap_term.specs.declared.term.Clause.{Clause}
use Rattle.ap_walk.specs.Visits.{Visit}
use Rattle.ap_kernel.specs.declared.reductions.Reduction.{Reduction}
use Rattle.ap_kernel.specs.Reductions.{Reduces, claims, all_from}
use Rattle.ap_strategy.specs.Goals.{Goal}
use Rattle.ap_strategy.specs.Leads.{reduction_of}
use Rattle.ap_chain.specs.Closing.{Closes}
use Rattle.ap_chain.specs.Fitting.{IsAmong}
use Rattle.ap_chain.proofs.Closed.{close_more, from_more}
use Rattle.ap_chain.proofs.Going.{got_at, each_at, take_more, some_is, none_missing, some_there, step_there}
use Rattle.ap_chain.proofs.closing.+closed.Goals as goal

pub returns-in_default-clause-whole : goal.returns-in_default-clause-whole
returns-in_default-clause-whole g t c = λ fit any. absurd (c.in_default.ensures.goes fit any)

pub returns-in_default-2-clause-whole : goal.returns-in_default-2-clause-whole
returns-in_default-2-clause-whole g t c = λ fit any.
    absurd
    (none_missing c.in_ok-first.field-0 (λ (r : Reduction). Each (IsAmong c.in-Some.behind.now) r.says.to) c.in_default-2.is
    (step_there c.in-Some.mark.now c.in-Some.behind.now c.in_ok-first.field-0
    (c.in_ok-first.ensures.made ∙ ap (λ (v : Visit Goal). reduction_of v.task) c.mark.view_is) (c.in-Some.ensures.goes fit any)))

pub loop-goal-init : goal.loop-goal-init
loop-goal-init g t c =
    (subst (Each (Closes g.J.Planned.plan.world)) (sym c.new-rest.ensures) tt, ap (λ (rs : List Reduction). all_from (claims rs)) c.new-rest.ensures)

pub returns-in_default-3-clause-whole : goal.returns-in_default-3-clause-whole
returns-in_default-3-clause-whole g t c = λ fit any.
    let behind = c.in-Some.behind.now in
    let goes = c.in-Some.ensures.goes fit any in
    let low : c.loop-goal.goal-index < length c.as_slice-goal-items.result.now = search rules in
    let there = some_there c.in_ok-first.field-0 c.in-Some-2.first (λ (r : Reduction). Each (IsAmong behind) r.says.to) c.in-Some-2.is
    (step_there c.in-Some.mark.now behind c.in_ok-first.field-0
    (c.in_ok-first.ensures.made ∙ ap (λ (v : Visit Goal). reduction_of v.task) c.mark.view_is) goes) in
    let among = each_at (IsAmong behind) c.as_slice-goal-items.result.now c.loop-goal.goal-index c.goal-item.result
    (got_at c.as_slice-goal-items.result.now c.loop-goal.goal-index c.goal-item.result low c.goal-item.is)
    (subst (Each (IsAmong behind)) (sym (c.as_slice-goal-items.ensures ∙ c.to.ensures)) there) in
    sym (ap is_some c.in_default-3.is) ∙ c.in_ok-next.ensures.whole goes.2 among

pub loop-goal-preserved : goal.loop-goal-preserved
loop-goal-preserved g t c =
    let next = c.in-Some-3.next in
    let items = c.as_slice-goal-items.result.now in
    let i = c.loop-goal.goal-index in
    let low : i < length items = search rules in
    let more : c.push.new.self ≡ c.loop-goal.rest ++ next ∷ [] = search rules in
    let closes = some_is c.in_ok-next.field-0 next _ c.in-Some-3.is c.in_ok-next.ensures.closes in
    let from : next.says.from ≡ c.goal-item.result = some_is c.in_ok-next.field-0 next _ c.in-Some-3.is c.in_ok-next.ensures.from in (
      subst (Each (Closes g.J.Planned.plan.world)) (sym more) (close_more g.J.Planned.plan.world c.loop-goal.rest next c.loop-goal.invariant.0 closes),
      ap (λ (rs : List Reduction). all_from (claims rs)) more
          ∙ from_more c.loop-goal.rest next
          ∙ ap (λ (ds : List Clause). ds ++ next.says.from ∷ []) c.loop-goal.invariant.1
          ∙ ap (λ (d : Clause). take i items ++ d ∷ []) from
          ∙ sym (take_more items i c.goal-item.result (got_at items i c.goal-item.result low c.goal-item.is))
          ∙ ap (λ k. take k items) (sym (add-one i)),
    )

pub closing-requires-clause-first : goal.closing-requires-clause-first
closing-requires-clause-first g t c = some_is c.in_ok-first.field-0 c.in-Some-2.first (Reduces g.J.Planned.plan.world) c.in-Some-2.is c.in_ok-first.ensures.stands

pub closing-requires-clause-rest : goal.closing-requires-clause-rest
closing-requires-clause-rest g t c = c.loop-goal.invariant.0

pub returns-clause-from : goal.returns-clause-from
returns-clause-from g t c =
    c.in_ok-closing.ensures.from
    ∙ some_is c.in_ok-first.field-0 c.in-Some-2.first _ c.in-Some-2.is c.in_ok-first.ensures.from
    ∙ ap (λ (v : Visit Goal). v.task.clause) c.mark.view_is
    ∙ c.in-Some.ensures.first
