use Rattle.std.proofs.Common.{◌≡◌, [], cond, Some, None, ap, sym, ◌∙◌, subst}
use Rattle.ap_world.specs.Sound.{HasFunctions}
use Rattle.ap_world.specs.World.{Shown, function_of}
use Rattle.ap_events.specs.Ends.{text_in, next_in, drops_in, world_in, Kept}
use Rattle.ap_events.specs.Books.{worked_again}
use Rattle.ap_events.proofs.Doing.{IsBacked}
use Rattle.ap_events.proofs.Ending.{end_text, end_next, end_drops, end_world, end_kept}
use Rattle.ap_events.proofs.heads.event_again.Goals as goal

pub work_again-requires-clause-functions : goal.work_again-requires-clause-functions
work_again-requires-clause-functions c = subst (λ (x : Shown). HasFunctions (function_of x.entries)) (sym c.in_ok-ruled.ensures) c.requires.functions

-- the world in which it was done before backs what is made
pub work_again-requires-clause-backed : goal.work_again-requires-clause-backed
work_again-requires-clause-backed c =
    subst (λ (x : Shown). IsBacked (worked_again [] x c.args.f.now) x) (sym c.in_ok-ruled.ensures)
    (c.args.from.now.entries, record { sound = c.recall_sound.ensures; before = c.requires.has.functions; made = c.requires.made })

pub returns-clause-text : goal.returns-clause-text
returns-clause-text c =
    let o = c.in_ok-outcome.outcome in
    ap text_in c.end_in.ensures ∙ end_text o.admitted c.into_world.result o.text o.drops ∙ c.in_ok-outcome.ensures.done.text
    ∙ ap (λ (w : Shown). (worked_again [] w c.args.f.now).text) c.in_ok-ruled.ensures

pub returns-clause-next : goal.returns-clause-next
returns-clause-next c =
    let o = c.in_ok-outcome.outcome in
    ap next_in c.end_in.ensures ∙ end_next o.admitted c.into_world.result o.text o.drops
    ∙ ap (λ (w : Shown). cond o.admitted (Some w) None) c.into_world.ensures ∙ sym c.in_ok-outcome.ensures.done.next
    ∙ ap (λ (w : Shown). (worked_again [] w c.args.f.now).next) c.in_ok-ruled.ensures

pub returns-clause-refused : goal.returns-clause-refused
returns-clause-refused c =
    let o = c.in_ok-outcome.outcome in
    subst (Kept c.args.w) (sym c.end_in.ensures)
    (end_kept o.admitted c.args.w c.into_world.result o.text o.drops (λ no. c.into_world.ensures ∙ c.in_ok-outcome.ensures.done.kept no ∙ c.in_ok-ruled.ensures))

pub returns-clause-alone : goal.returns-clause-alone
returns-clause-alone c =
    let o = c.in_ok-outcome.outcome in
    ap drops_in c.end_in.ensures ∙ end_drops o.admitted c.into_world.result o.text o.drops ∙ c.in_ok-outcome.ensures.alone

pub returns-clause-ground : goal.returns-clause-ground
returns-clause-ground c =
    let o = c.in_ok-outcome.outcome in
    subst (λ (w : Shown). HasFunctions (function_of w.entries)) (sym (ap world_in c.end_in.ensures ∙ end_world o.admitted c.into_world.result o.text o.drops ∙ c.into_world.ensures)) c.work_again.ensures.ground
