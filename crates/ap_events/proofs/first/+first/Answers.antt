use Rattle.std.proofs.Common.{◌≡◌, ◌+◌, ◌-◌, ◌<◌, ◌≤◌, ◌++◌, OnErr, true, false, [], Some, None, cond, ap, sym, ◌∙◌, subst, length, drop, arith, rules}
use Rattle.ap_world.specs.Sound.{HasFunctions, Sound}
use Rattle.ap_world.specs.World.{Shown, function_of}
use Rattle.ap_plain.specs.declared.end.Outcome.{Outcome}
use Rattle.ap_plain.specs.Ends.{Did}
use Rattle.ap_plain.proofs.Ending.{at_world}
use Rattle.ap_events.specs.Backing.{Backed}
use Rattle.ap_events.specs.Books.{first_event, again_event}
use Rattle.ap_events.specs.Joining.{back_in}
use Rattle.ap_events.specs.Nested.{Nesting, plain, hidden, group, closed, nesting_of, nothing, too_deep, agains, first_in, firsts, all, closing_by}
use Rattle.ap_events.proofs.Depths.{firsts_none, firsts_at, did_is}
use Rattle.ap_events.proofs.Doing.{Left, left_next, left_stops, left_ends, begins_next, closing_sound, closing_functions, closing_back, closing_backed, closing_next}
use Rattle.ap_events.proofs.Joined.{going_first, back_again, back_sound, back_functions, functions_begin, did_begin, settled, settled_error, closed_end, drops_end}
use Rattle.ap_events.proofs.Sounding.{worked_step, events_backed}
use Rattle.ap_events.proofs.Steps.{all_step}
use Rattle.ap_events.proofs.first.+first.Goals as goal

-- a form by what it holds

pub first_in-returns-then-depth-eq0-clause-done : goal.first_in-returns-then-depth-eq0-clause-done
first_in-returns-then-depth-eq0-clause-done g t c =
    did_is c.too_deep.result _ _ c.args.w.now c.args.w.now (firsts_none (first_event c.args.crew.now.limits.now c.args.earlier.now) (again_event c.args.earlier.now) c.args.depth c.args.f.now c.args.w.now (search rules))
    (at_world c.too_deep.result (too_deep c.args.f.now) c.args.w.now c.too_deep.ensures.done)

pub first_in-returns-in-Plain-clause-done : goal.first_in-returns-in-Plain-clause-done
first_in-returns-in-Plain-clause-done g t c =
    did_is c.first_event.result _ _ c.args.w.now c.first_event.new.w
    (firsts_at (first_event c.args.crew.now.limits.now c.args.earlier.now) (again_event c.args.earlier.now) c.args.depth c.args.f.now c.args.w.now plain (omega arith) c.in-Plain.ensures) c.first_event.ensures.done

pub first_in-returns-in-Hidden-clause-done : goal.first_in-returns-in-Hidden-clause-done
first_in-returns-in-Hidden-clause-done g t c =
    did_is c.first_in.result _ _ c.args.w.now c.first_in.new.w
    (firsts_at (first_event c.args.crew.now.limits.now c.args.earlier.now) (again_event c.args.earlier.now) c.args.depth c.args.f.now c.args.w.now (hidden c.in-Hidden.event.now) (omega arith) c.in-Hidden.ensures) c.first_in.ensures.done

pub first_in-returns-in-Group-clause-done : goal.first_in-returns-in-Group-clause-done
first_in-returns-in-Group-clause-done g t c =
    did_is c.first_all.result _ _ c.args.w.now c.first_all.new.w
    (firsts_at (first_event c.args.crew.now.limits.now c.args.earlier.now) (again_event c.args.earlier.now) c.args.depth c.args.f.now c.args.w.now (group c.in-Group.forms.now) (omega arith) c.in-Group.ensures) c.first_all.ensures.done

pub first_in-returns-in-Closed-clause-done : goal.first_in-returns-in-Closed-clause-done
first_in-returns-in-Closed-clause-done g t c =
    did_is c.first_closed.result _ _ c.args.w.now c.first_closed.new.w
    (firsts_at (first_event c.args.crew.now.limits.now c.args.earlier.now) (again_event c.args.earlier.now) c.args.depth c.args.f.now c.args.w.now (closed c.in-Closed.forms.now) (omega arith) c.in-Closed.ensures) c.first_closed.ensures.done

-- forms one after another

pub first_each-loop-form-init : goal.first_each-loop-form-init
first_each-loop-form-init g t c = record {
  left = going_first (all (firsts (first_event c.args.crew.now.limits.now c.args.earlier.now) (again_event c.args.earlier.now) c.args.depth) c.args.forms.now c.args.w.now) c.args.w.now c.nothing-done.result c.nothing-done.ensures;
  functions = c.requires.functions;
  alone = λ one. ap (λ (o : Outcome). o.drops) c.nothing-done.ensures;
}

pub first_each-loop-form-preserved : goal.first_each-loop-form-preserved
first_each-loop-form-preserved g t c =
    let h = firsts (first_event c.args.crew.now.limits.now c.args.earlier.now) (again_event c.args.earlier.now) c.args.depth in
    let steps = worked_step c.args.crew.now.limits.now c.args.earlier.now c.args.depth in
    let v = c.loop-form.w in
    let u = c.first_in.new.w in
    let i = c.loop-form.form-index in
    let fs = c.args.forms.now in
    let f = c.form-item.result in
    let inside : i < length fs = omega arith in
    let more = c.in_ok-join.ensures in
    let did = c.in_ok-next.ensures.done in
    record {
      left = left_next h steps fs c.args.w.now i f v inside c.form-item.is u c.loop-form.done c.in_ok-next.next c.join.new.all c.loop-form.invariant.left did more c.if-not-done.false;
      functions = functions_begin v u (did_begin (h f v) v u c.in_ok-next.next (steps f v).grows did) c.loop-form.invariant.functions;
      alone = λ one. ap (λ (o : Outcome). o.drops) more ∙ ap (λ ds. ds ++ c.in_ok-next.next.drops) (c.loop-form.invariant.alone one) ∙ c.in_ok-next.ensures.alone one;
    }

pub first_each-returns-then-not-done-clause-done : goal.first_each-returns-then-not-done-clause-done
first_each-returns-then-not-done-clause-done g t c =
    left_stops (firsts (first_event c.args.crew.now.limits.now c.args.earlier.now) (again_event c.args.earlier.now) c.args.depth) (worked_step c.args.crew.now.limits.now c.args.earlier.now c.args.depth) c.args.forms.now c.args.w.now
    c.loop-form.form-index c.form-item.result c.loop-form.w (omega arith) c.form-item.is
    c.first_in.new.w c.loop-form.done c.in_ok-next.next c.join.new.all c.loop-form.invariant.left c.in_ok-next.ensures.done c.in_ok-join.ensures c.if-not-done.true

pub first_each-returns-clause-done : goal.first_each-returns-clause-done
first_each-returns-clause-done g t c =
    left_ends (firsts (first_event c.args.crew.now.limits.now c.args.earlier.now) (again_event c.args.earlier.now) c.args.depth) c.args.forms.now c.args.w.now c.loop-form.form-index c.loop-form.w c.loop-form.done (omega arith) c.loop-form.invariant.left

-- the world goes back

pub first_all-settle-requires : goal.first_all-settle-requires
first_all-settle-requires g t c =
    back_sound c.args.w.now c.first_each-done.new.w c.in_ok-before.before c.first_each-done.ensures.grown c.in_ok-before.ensures.0 (subst (λ (x : Shown). Sound x.entries) c.world.ensures c.recall_sound.ensures)

pub first_all-returns-clause-done : goal.first_all-returns-clause-done
first_all-returns-clause-done g t c =
    settled c.first_each-done.result c.settle.result (all (firsts (first_event c.args.crew.now.limits.now c.args.earlier.now) (again_event c.args.earlier.now) c.args.depth) c.args.forms.now c.args.w.now) c.args.w.now c.first_each-done.new.w c.settle.new.w c.in_ok-before.before
    c.settle.ensures.same (back_again c.args.w.now c.first_each-done.new.w c.in_ok-before.before c.first_each-done.ensures.grown c.in_ok-before.ensures.0 c.in_ok-before.ensures.1)
    c.first_each-done.ensures.done c.settle.ensures.admitted c.settle.ensures.refused

pub first_all-returns-clause-error : goal.first_all-returns-clause-error
first_all-returns-clause-error g t c =
    settled_error c.first_each-done.result c.settle.result c.args.w.now c.first_each-done.new.w c.settle.new.w c.in_ok-before.before
    c.settle.ensures.same (back_again c.args.w.now c.first_each-done.new.w c.in_ok-before.before c.first_each-done.ensures.grown c.in_ok-before.ensures.0 c.in_ok-before.ensures.1)
    c.settle.ensures.error

-- an `encapsulate`

pub first_closed-close-requires-clause-sound : goal.first_closed-close-requires-clause-sound
first_closed-close-requires-clause-sound g t c =
    closing_sound (firsts (first_event c.args.crew.now.limits.now c.args.earlier.now) (again_event c.args.earlier.now) c.args.depth) (worked_step c.args.crew.now.limits.now c.args.earlier.now c.args.depth) c.args.forms.now c.args.w.now c.first_all.new.w c.in_ok-first.first
    c.in_ok-before.before c.in_ok-first.ensures.done c.in_ok-before.ensures.0 c.in_ok-before.ensures.1 (subst (λ (x : Shown). Sound x.entries) c.world.ensures c.recall_sound.ensures)

pub first_closed-close-requires-clause-functions : goal.first_closed-close-requires-clause-functions
first_closed-close-requires-clause-functions g t c =
    closing_functions (firsts (first_event c.args.crew.now.limits.now c.args.earlier.now) (again_event c.args.earlier.now) c.args.depth) (worked_step c.args.crew.now.limits.now c.args.earlier.now c.args.depth) c.args.forms.now c.args.w.now c.first_all.new.w c.in_ok-first.first
    c.in_ok-before.before c.in_ok-first.ensures.done c.in_ok-before.ensures.0 c.in_ok-before.ensures.1 c.requires.functions

pub first_closed-close-requires-clause-backed : goal.first_closed-close-requires-clause-backed
first_closed-close-requires-clause-backed g t c =
    let h = firsts (first_event c.args.crew.now.limits.now c.args.earlier.now) (again_event c.args.earlier.now) c.args.depth in
    let steps = worked_step c.args.crew.now.limits.now c.args.earlier.now c.args.depth in
    let v = c.first_all.new.w in
    let next = closing_next h steps c.args.forms.now c.args.w.now v c.in_ok-first.first c.in_ok-before.before c.in_ok-first.ensures.done c.in_ok-before.ensures.0 c.in_ok-before.ensures.1 in
    closing_backed h steps c.args.forms.now c.args.w.now v c.in_ok-first.first c.in_ok-before.before c.in_ok-first.ensures.done c.in_ok-before.ensures.0 c.in_ok-before.ensures.1
    (agains (again_event c.args.earlier.now) c.args.depth)
    (λ yes. events_backed c.args.crew.now.limits.now c.args.earlier.now c.have_distinct_names.ensures c.args.depth c.args.forms.now c.args.w.now v
    (subst (λ (x : Shown). Sound x.entries) c.world-2.ensures c.recall_sound-2.ensures) (next yes))

pub first_closed-returns-clause-done : goal.first_closed-returns-clause-done
first_closed-returns-clause-done g t c =
    let h = firsts (first_event c.args.crew.now.limits.now c.args.earlier.now) (again_event c.args.earlier.now) c.args.depth in
    closed_end c.close.result c.args.w.now (back_in c.in_ok-before.before c.first_all.new.w) c.first_all.new.w c.close.new.w c.in_ok-first.first (all h c.args.forms.now c.args.w.now) (all (agains (again_event c.args.earlier.now) c.args.depth) c.args.forms.now)
    (closing_back h (worked_step c.args.crew.now.limits.now c.args.earlier.now c.args.depth) c.args.forms.now c.args.w.now c.first_all.new.w c.in_ok-first.first c.in_ok-before.before c.in_ok-first.ensures.done c.in_ok-before.ensures.0 c.in_ok-before.ensures.1)
    c.in_ok-first.ensures.done c.close.ensures.done

pub first_closed-returns-clause-alone : goal.first_closed-returns-clause-alone
first_closed-returns-clause-alone g t c = drops_end c.close.result c.in_ok-first.first (c.args.crew.now.workers ≤ 1) c.close.ensures.alone c.in_ok-first.ensures.alone

pub first_closed-returns-clause-error : goal.first_closed-returns-clause-error
first_closed-returns-clause-error g t c =
    let h = firsts (first_event c.args.crew.now.limits.now c.args.earlier.now) (again_event c.args.earlier.now) c.args.depth in
    subst (λ (x : Shown). OnErr c.close.result (c.close.new.w ≡ x))
    (closing_back h (worked_step c.args.crew.now.limits.now c.args.earlier.now c.args.depth) c.args.forms.now c.args.w.now c.first_all.new.w c.in_ok-first.first c.in_ok-before.before c.in_ok-first.ensures.done c.in_ok-before.ensures.0 c.in_ok-before.ensures.1)
    c.close.ensures.error

pub first_each-returns-in_err-join-clause-grown : goal.first_each-returns-in_err-join-clause-grown
first_each-returns-in_err-join-clause-grown g t c =
    begins_next (firsts (first_event c.args.crew.now.limits.now c.args.earlier.now) (again_event c.args.earlier.now) c.args.depth) (worked_step c.args.crew.now.limits.now c.args.earlier.now c.args.depth) c.args.forms.now c.args.w.now
    c.loop-form.form-index c.form-item.result c.loop-form.w (omega arith) c.form-item.is c.first_in.new.w c.loop-form.done c.in_ok-next.next c.loop-form.invariant.left c.in_ok-next.ensures.done
