use Rattle.std.proofs.Common.{◌≡◌, ◌≤◌, [], false, cond, Some, None, ap, sym, ◌∙◌, subst}
use Rattle.ap_world.specs.Sound.{HasFunctions}
use Rattle.ap_world.specs.World.{Shown, function_of}
use Rattle.ap_events.specs.declared.end.EventEnd.{EventEnd}
use Rattle.ap_plain.specs.Drops.{DividedWalks}
use Rattle.ap_plain.specs.Ends.{walks_in}
use Rattle.ap_events.specs.Ends.{text_in, next_in, drops_in, world_in, Kept}
use Rattle.ap_events.specs.Books.{worked}
use Rattle.ap_events.proofs.Ending.{end_text, end_next, end_drops, end_world, end_kept}
use Rattle.ap_events.proofs.heads.event.Goals as goal

pub returns-clause-text : goal.returns-clause-text
returns-clause-text g c =
    let o = c.in_ok-outcome.outcome in
    ap text_in c.end_in.ensures ∙ end_text o.admitted c.into_world.result o.text o.drops ∙ c.in_ok-outcome.ensures.text
    ∙ ap (λ (w : Shown). (worked c.args.limits.now [] w c.args.f.now).text) c.in_ok-ruled.ensures

pub returns-clause-next : goal.returns-clause-next
returns-clause-next g c =
    let o = c.in_ok-outcome.outcome in
    ap next_in c.end_in.ensures ∙ end_next o.admitted c.into_world.result o.text o.drops
    ∙ ap (λ (w : Shown). cond o.admitted (Some w) None) c.into_world.ensures ∙ sym c.in_ok-outcome.ensures.next
    ∙ ap (λ (w : Shown). (worked c.args.limits.now [] w c.args.f.now).next) c.in_ok-ruled.ensures

pub returns-clause-refused : goal.returns-clause-refused
returns-clause-refused g c =
    let o = c.in_ok-outcome.outcome in
    subst (Kept c.args.w) (sym c.end_in.ensures)
    (end_kept o.admitted c.args.w c.into_world.result o.text o.drops (λ no. c.into_world.ensures ∙ c.in_ok-outcome.ensures.refused no ∙ c.in_ok-ruled.ensures))

pub returns-clause-drops : goal.returns-clause-drops
returns-clause-drops g c =
    let o = c.in_ok-outcome.outcome in
    subst (λ ds. DividedWalks ds (walks_in (worked c.args.limits.now [] c.args.w c.args.f.now).told)) (sym (ap drops_in c.end_in.ensures ∙ end_drops o.admitted c.into_world.result o.text o.drops))
    (subst (λ (w : Shown). DividedWalks o.drops (walks_in (worked c.args.limits.now [] w c.args.f.now).told)) c.in_ok-ruled.ensures c.in_ok-outcome.ensures.drops)

pub returns-clause-alone : goal.returns-clause-alone
returns-clause-alone g c = λ one.
    let o = c.in_ok-outcome.outcome in
    ap drops_in c.end_in.ensures ∙ end_drops o.admitted c.into_world.result o.text o.drops ∙ c.in_ok-outcome.ensures.alone one

pub returns-clause-ground : goal.returns-clause-ground
returns-clause-ground g c =
    let o = c.in_ok-outcome.outcome in
    subst (λ (w : Shown). HasFunctions (function_of w.entries)) (sym (ap world_in c.end_in.ensures ∙ end_world o.admitted c.into_world.result o.text o.drops ∙ c.into_world.ensures)) c.in_ok-outcome.ensures.ground
