-- Each round takes the next task that is left, with one look of each seat.
use Rattle.std.proofs.Common.{◌<◌, [], ◌∷◌, length, refl, sym, ◌∙◌, ap, subst, arith, inl, inr, length-append}
use Rattle.std.proofs.lemmas.List.{nil_from_length}
use Rattle.ap_walk.specs.Walks.{full}
use Rattle.ap_walk.proofs.Bounds.{zero_open}
use Rattle.ap_speculate.specs.Jobs.{Both, Stays, LookedOn}
use Rattle.ap_speculate.proofs.Pairs.{both_same, both_as}
use Rattle.ap_speculate.proofs.Seats.{LookedBy, stays_same, no_look, by_stays, by_on, looked_more, looked_less}
use Rattle.ap_speculate.proofs.Walking.{IsFirst, Visited, first_of_one, all_to_come, goes_on, ends_there, ends_all, one_less, one_longer}
use Rattle.ap_speculate.proofs.job.walk.Given.{Over}
use Rattle.ap_speculate.proofs.job.walk.Goals as goal
use Rattle.ap_speculate.proofs.job.walk.Goals.{After-look_at_all, In_ok-visit}

-- the seats after the looks of a round
seats_stay : (g : Over) (c : After-look_at_all g) → Both Stays c.args.seats.now c.look_at_all.new.seats
seats_stay g c = looked_less (length c.loop-task.so_far.marks) c.args.seats.now c.loop-task.seats c.look_at_all.new.seats c.loop-task.invariant.seats c.look_at_all.ensures.stays

-- the visit of a round
visited : (g : Over) (c : In_ok-visit g)
    → Visited g.S.Step.step_of g.S.Step.depth c.args.rule (full g.S.Step.step_of g.S.Step.depth c.args.rule c.args.task) c.loop-task.left.items c.pop.new.self.items c.in-Some.task c.in_ok-act.field-0
    c.loop-task.so_far c.visit.new.so_far c.mark_of-mark.result
visited g c = record {
  to_come = c.loop-task.invariant.to_come;
  next_is = c.in-Some.ensures.items;
  taken = c.in_ok-act.ensures;
  told = c.mark_of-mark.ensures;
  visited = c.in_ok-visit.ensures.walked;
}

-- one look of each seat for each mark
seats_looked : (g : Over) (c : In_ok-visit g) → Both (LookedBy (length c.visit.new.so_far.marks)) c.args.seats.now c.look_at_all.new.seats
seats_looked g c =
    looked_more (length c.loop-task.so_far.marks) (length c.visit.new.so_far.marks) c.args.seats.now c.loop-task.seats c.look_at_all.new.seats (one_longer _ _ _ _ _ _ _ _ _ _ _ (visited g c))
    c.loop-task.invariant.seats c.look_at_all.ensures.stays c.in_default-look_at_all.ensures.looked

pub returns-in_err-push-clause-stays : goal.returns-in_err-push-clause-stays
returns-in_err-push-clause-stays g c = both_same Stays stays_same c.args.seats.now

pub loop-task-init : goal.loop-task-init
loop-task-init g c = record {
  through = refl;
  opened = zero_open c.args.rule;
  to_come =
      all_to_come g.S.Step.step_of g.S.Step.depth g.met.S.Step.deeper c.args.rule c.args.task c.new.result c.new-left.result.items c.push.new.self.items c.new.ensures c.new-left.ensures.items
      c.in_ok-push.ensures.items;
  some = inr (let l = ap (λ s. length s) c.in_ok-push.ensures.items in omega (arith, length-append c.new-left.result.items (c.args.task ∷ [])));
  seats = subst (λ l. Both (LookedBy (length l)) c.args.seats.now c.args.seats.now) (sym c.new.ensures) (both_same (LookedBy 0) no_look c.args.seats.now);
  first = first_of_one g.S.Step.step_of c.args.first c.args.task c.new-left.result.items c.push.new.self.items c.requires c.new-left.ensures.items c.in_ok-push.ensures.items;
}

pub returns-in-Some-look_at_all-clause-stays : goal.returns-in-Some-look_at_all-clause-stays
returns-in-Some-look_at_all-clause-stays g c = seats_stay g (goal.at.returns-in-Some-look_at_all-clause-stays g c).After-look_at_all

pub returns-in_err-act-clause-stays : goal.returns-in_err-act-clause-stays
returns-in_err-act-clause-stays g c = seats_stay g (goal.at.returns-in_err-act-clause-stays g c).After-look_at_all

pub returns-in_err-visit-clause-stays : goal.returns-in_err-visit-clause-stays
returns-in_err-visit-clause-stays g c = seats_stay g (goal.at.returns-in_err-visit-clause-stays g c).After-look_at_all

pub returns-in_err-leave-clause-stays : goal.returns-in_err-leave-clause-stays
returns-in_err-leave-clause-stays g c = seats_stay g (goal.at.returns-in_err-leave-clause-stays g c).After-look_at_all

pub returns-in_default-end : goal.returns-in_default-end
returns-in_default-end g c =
    let v = (goal.at.returns-in_default-end g c).In_ok-visit in
    let more = one_longer _ _ _ _ _ _ _ _ _ _ _ (visited g v) in
    let some : 0 < length c.visit.new.so_far.marks = omega arith in
    record {
      stays = seats_stay g (goal.at.returns-in_default-end g c).After-look_at_all;
      done = (
        ends_there g.S.Step.step_of g.S.Step.depth g.met.S.Step.deeper (visited g v) c.in_default-end.not-Through,
        both_as (LookedBy (length c.visit.new.so_far.marks)) (LookedOn (length c.visit.new.so_far.marks)) (by_on (length c.visit.new.so_far.marks) some) c.args.seats.now c.look_at_all.new.seats (seats_looked g v),
      );
      dropped = tt;
    }

pub loop-task-smaller : goal.loop-task-smaller
loop-task-smaller g c =
    one_less g.S.Step.step_of g.S.Step.depth g.met.S.Step.deeper (visited g (goal.at.loop-task-smaller g c).In_ok-visit) c.leave.new.left.items c.in_ok-leave.ensures

pub loop-task-preserved : goal.loop-task-preserved
loop-task-preserved g c =
    let v = (goal.at.loop-task-preserved g c).In_ok-visit in
    let more = one_longer _ _ _ _ _ _ _ _ _ _ _ (visited g v) in
    record {
      through = c.in-Through.is;
      opened = c.in_ok-visit.ensures.opened c.in-Through.is;
      to_come = goes_on g.S.Step.step_of g.S.Step.depth g.met.S.Step.deeper (visited g v) c.leave.new.left.items c.in-Through.is c.in_ok-leave.ensures;
      some = inl (omega arith);
      seats = seats_looked g v;
      first = subst (IsFirst g.S.Step.step_of c.args.task c.leave.new.left.items) (sym c.take.ensures.after) tt;
    }

pub returns-clause-stays : goal.returns-clause-stays
returns-clause-stays g c = both_as (LookedBy (length c.loop-task.so_far.marks)) Stays (by_stays (length c.loop-task.so_far.marks)) c.args.seats.now c.loop-task.seats c.loop-task.invariant.seats

pub returns-clause-done : goal.returns-clause-done
returns-clause-done g c =
    let none = nil_from_length c.loop-task.left.items (sym c.loop-task.left.ok.0 ∙ c.in_default.ensures.cases.0) in
    let some : 0 < length c.loop-task.so_far.marks = elim c.loop-task.invariant.some [ inl s ↦ s | inr s ↦ absurd (let l = ap (λ l. length l) none in omega arith) ] in (
      ends_all g.S.Step.step_of g.S.Step.depth g.met.S.Step.deeper c.args.rule (full g.S.Step.step_of g.S.Step.depth c.args.rule c.args.task) c.loop-task.left.items c.loop-task.so_far c.loop-task.invariant.to_come
          none c.loop-task.invariant.through,
      both_as (LookedBy (length c.loop-task.so_far.marks)) (LookedOn (length c.loop-task.so_far.marks)) (by_on (length c.loop-task.so_far.marks) some) c.args.seats.now c.loop-task.seats c.loop-task.invariant.seats,
    )
