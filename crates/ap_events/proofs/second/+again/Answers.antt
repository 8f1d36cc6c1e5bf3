use Rattle.std.proofs.Common.{◌≡◌, ◌+◌, ◌<◌, ◌++◌, true, false, [], ap, sym, ◌∙◌, subst, length, drop, arith, rules}
use Rattle.ap_world.specs.Sound.{Sound}
use Rattle.ap_world.specs.World.{Shown}
use Rattle.ap_plain.specs.declared.end.Outcome.{Outcome}
use Rattle.ap_plain.specs.Ends.{Did}
use Rattle.ap_plain.proofs.Ending.{at_world}
use Rattle.ap_events.specs.Books.{again_event}
use Rattle.ap_events.specs.Nested.{Nesting, plain, hidden, group, closed, nesting_of, nothing, too_deep, again_in, agains, all}
use Rattle.ap_events.proofs.Depths.{agains_none, agains_at, did_is}
use Rattle.ap_events.proofs.Doing.{IsBacked, backed_at, Left, backed_first, begins_next, left_next, left_stops, left_ends, backed_next}
use Rattle.ap_events.proofs.Joined.{Going, going_first, back_again, back_sound, functions_begin, settled, settled_error, nothing_did, did_begin}
use Rattle.ap_events.proofs.Sounding.{redone_step}
use Rattle.ap_events.proofs.second.+again.Goals as goal

-- a form by what it holds

pub again_in-returns-then-depth-eq0-clause-done : goal.again_in-returns-then-depth-eq0-clause-done
again_in-returns-then-depth-eq0-clause-done t c =
    did_is c.too_deep.result _ _ c.args.w.now c.args.w.now (agains_none (again_event c.args.earlier.now) c.args.depth c.args.f.now c.args.w.now (search rules))
    (at_world c.too_deep.result (too_deep c.args.f.now) c.args.w.now c.too_deep.ensures.done)

pub again_in-again_event-requires-clause-backed : goal.again_in-again_event-requires-clause-backed
again_in-again_event-requires-clause-backed t c =
    backed_at _ _ c.args.w.now (sym (agains_at (again_event c.args.earlier.now) c.args.depth c.args.f.now c.args.w.now plain (omega arith) c.in-Plain.ensures)) c.requires.backed

pub again_in-returns-in-Plain-clause-done : goal.again_in-returns-in-Plain-clause-done
again_in-returns-in-Plain-clause-done t c =
    did_is c.again_event.result _ _ c.args.w.now c.again_event.new.w
    (agains_at (again_event c.args.earlier.now) c.args.depth c.args.f.now c.args.w.now plain (omega arith) c.in-Plain.ensures) c.again_event.ensures.done

pub again_in-returns-in-Group-clause-done : goal.again_in-returns-in-Group-clause-done
again_in-returns-in-Group-clause-done t c =
    did_is c.again_all.result _ _ c.args.w.now c.again_all.new.w
    (agains_at (again_event c.args.earlier.now) c.args.depth c.args.f.now c.args.w.now (group c.in-Group.forms.now) (omega arith) c.in-Group.ensures) c.again_all.ensures.done

pub again_in-returns-in-Closed-clause-done : goal.again_in-returns-in-Closed-clause-done
again_in-returns-in-Closed-clause-done t c =
    did_is c.again_all-in-Closed.result _ _ c.args.w.now c.again_all-in-Closed.new.w
    (agains_at (again_event c.args.earlier.now) c.args.depth c.args.f.now c.args.w.now (closed c.in-Closed.forms.now) (omega arith) c.in-Closed.ensures) c.again_all-in-Closed.ensures.done

pub again_in-returns-in-Hidden-clause-done : goal.again_in-returns-in-Hidden-clause-done
again_in-returns-in-Hidden-clause-done t c =
    subst (λ d. Did d c.args.w.now c.args.w.now c.nothing.result)
    (sym (agains_at (again_event c.args.earlier.now) c.args.depth c.args.f.now c.args.w.now (hidden c.in-Hidden._event.now) (omega arith) c.in-Hidden.ensures))
    (nothing_did c.args.w.now c.nothing.result c.nothing.ensures)

pub again_in-again_all-requires : goal.again_in-again_all-requires
again_in-again_all-requires t c = (
  search rules,
  (
    c.requires.functions,
    backed_at _ _ c.args.w.now (sym (agains_at (again_event c.args.earlier.now) c.args.depth c.args.f.now c.args.w.now (group c.in-Group.forms.now) (omega arith) c.in-Group.ensures)) c.requires.backed,
  ),
)

-- forms one after another

pub again_each-loop-form-init : goal.again_each-loop-form-init
again_each-loop-form-init t c = record {
  left = going_first (all (agains (again_event c.args.earlier.now) c.args.depth) c.args.forms.now c.args.w.now) c.args.w.now c.nothing-done.result c.nothing-done.ensures;
  backed = c.requires.backed;
  functions = c.requires.functions;
  alone = ap (λ (o : Outcome). o.drops) c.nothing-done.ensures;
}

pub again_each-again_in-requires : goal.again_each-again_in-requires
again_each-again_in-requires t c = (
  search rules,
  (
    c.loop-form.invariant.functions,
    backed_first (agains (again_event c.args.earlier.now) c.args.depth) (redone_step c.args.earlier.now c.args.depth) c.args.forms.now c.args.w.now c.loop-form.form-index c.form-item.result c.loop-form.w
        (omega arith) c.form-item.is c.loop-form.invariant.backed,
  ),
)

pub again_each-loop-form-preserved : goal.again_each-loop-form-preserved
again_each-loop-form-preserved t c =
    let g = agains (again_event c.args.earlier.now) c.args.depth in
    let v = c.loop-form.w in
    let u = c.again_in.new.w in
    let i = c.loop-form.form-index in
    let fs = c.args.forms.now in
    let f = c.form-item.result in
    let inside : i < length fs = omega arith in
    let more = c.in_ok-join.ensures in
    let did = c.in_ok-next.ensures.done in
    let yes = c.if-not-done.false in
    record {
      left = left_next g (redone_step c.args.earlier.now c.args.depth) fs c.args.w.now i f v inside c.form-item.is u c.loop-form.done c.in_ok-next.next c.join.new.all c.loop-form.invariant.left did more yes;
      backed = backed_next g (redone_step c.args.earlier.now c.args.depth) fs c.args.w.now i f v inside c.form-item.is u c.loop-form.done c.in_ok-next.next c.join.new.all c.loop-form.invariant.left did more yes c.loop-form.invariant.backed;
      functions = functions_begin v u (did_begin (g f v) v u c.in_ok-next.next (redone_step c.args.earlier.now c.args.depth f v).grows did) c.loop-form.invariant.functions;
      alone = ap (λ (o : Outcome). o.drops) more ∙ ap (λ ds. ds ++ c.in_ok-next.next.drops) c.loop-form.invariant.alone ∙ c.in_ok-next.ensures.alone;
    }

pub again_each-returns-then-not-done-clause-done : goal.again_each-returns-then-not-done-clause-done
again_each-returns-then-not-done-clause-done t c =
    left_stops (agains (again_event c.args.earlier.now) c.args.depth) (redone_step c.args.earlier.now c.args.depth) c.args.forms.now c.args.w.now c.loop-form.form-index c.form-item.result c.loop-form.w (omega arith) c.form-item.is
    c.again_in.new.w c.loop-form.done c.in_ok-next.next c.join.new.all c.loop-form.invariant.left c.in_ok-next.ensures.done c.in_ok-join.ensures c.if-not-done.true

pub again_each-returns-clause-done : goal.again_each-returns-clause-done
again_each-returns-clause-done t c =
    left_ends (agains (again_event c.args.earlier.now) c.args.depth) c.args.forms.now c.args.w.now c.loop-form.form-index c.loop-form.w c.loop-form.done (omega arith) c.loop-form.invariant.left

-- the world goes back
pub again_all-settle-requires : goal.again_all-settle-requires
again_all-settle-requires t c =
    back_sound c.args.w.now c.again_each-done.new.w c.in_ok-before.before c.again_each-done.ensures.grown c.in_ok-before.ensures.0 (subst (λ (x : Shown). Sound x.entries) c.world.ensures c.recall_sound.ensures)

pub again_all-returns-clause-done : goal.again_all-returns-clause-done
again_all-returns-clause-done t c =
    settled c.again_each-done.result c.settle.result (all (agains (again_event c.args.earlier.now) c.args.depth) c.args.forms.now c.args.w.now) c.args.w.now c.again_each-done.new.w c.settle.new.w c.in_ok-before.before
    c.settle.ensures.same (back_again c.args.w.now c.again_each-done.new.w c.in_ok-before.before c.again_each-done.ensures.grown c.in_ok-before.ensures.0 c.in_ok-before.ensures.1)
    c.again_each-done.ensures.done c.settle.ensures.admitted c.settle.ensures.refused

pub again_all-returns-clause-error : goal.again_all-returns-clause-error
again_all-returns-clause-error t c =
    settled_error c.again_each-done.result c.settle.result c.args.w.now c.again_each-done.new.w c.settle.new.w c.in_ok-before.before
    c.settle.ensures.same (back_again c.args.w.now c.again_each-done.new.w c.in_ok-before.before c.again_each-done.ensures.grown c.in_ok-before.ensures.0 c.in_ok-before.ensures.1)
    c.settle.ensures.error

pub again_in-again_all-requires-in-Closed : goal.again_in-again_all-requires-in-Closed
again_in-again_all-requires-in-Closed t c = (
  search rules,
  (
    c.requires.functions,
    backed_at _ _ c.args.w.now (sym (agains_at (again_event c.args.earlier.now) c.args.depth c.args.f.now c.args.w.now (closed c.in-Closed.forms.now) (omega arith) c.in-Closed.ensures)) c.requires.backed,
  ),
)

pub again_each-returns-in_err-join-clause-grown : goal.again_each-returns-in_err-join-clause-grown
again_each-returns-in_err-join-clause-grown t c =
    begins_next (agains (again_event c.args.earlier.now) c.args.depth) (redone_step c.args.earlier.now c.args.depth) c.args.forms.now c.args.w.now
    c.loop-form.form-index c.form-item.result c.loop-form.w (omega arith) c.form-item.is c.again_in.new.w c.loop-form.done c.in_ok-next.next c.loop-form.invariant.left c.in_ok-next.ensures.done
