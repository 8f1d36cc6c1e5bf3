use Rattle.std.proofs.Common.{◌∙◌, refl, ◌<◌, length, ap, arith}
use Rattle.ap_term.specs.Metered.{mapped}
use Rattle.ap_rewrite.specs.Literals.{rewritten_to}
use Rattle.ap_rewrite.specs.Answering.{setting_of}
use Rattle.ap_rewrite.proofs.Simplified.{stage_begin, stage_place, stage_out, stage_turned, turned_place, turned_true, turned_proved, turned_stage}
use Rattle.ap_rewrite.proofs.simplifying.rewrite_literals.Goals as goal

pub loop-place-init : goal.loop-place-init
loop-place-init g c = (stage_begin c.args.r.now.w.now (setting_of c.args.r.now) c.args.c c.args.steps.now.left c.in_ok-so_far.so_far c.in_ok-so_far.ensures.made c.in_ok-so_far.ensures.stands, refl)

pub advance-requires-clause-place : goal.advance-requires-clause-place
advance-requires-clause-place g c =
    let fits : c.loop-place.place < length c.args.c.0 = omega arith in
    stage_place _ _ _ _ _ _ _ fits c.loop-place.invariant.0

pub returns-in_default-clause-is : goal.returns-in_default-clause-is
returns-in_default-clause-is g c =
    let fits : c.loop-place.place < length c.args.c.0 = omega arith in
    ap (mapped (rewritten_to c.args.c)) (stage_out _ _ _ _ _ _ _ fits c.loop-place.invariant.0 c.advance.new.steps.left (rw c.in_default.is at c.in_ok-next.ensures.is))

pub is_proved-requires : goal.is_proved-requires
is_proved-requires g c =
    let fits : c.loop-place.place < length c.args.c.0 = omega arith in
    turned_place _ _ _ _ _ _ _
    (stage_turned _ _ _ _ _ _ _ fits c.loop-place.invariant.0 c.in-Some.next c.advance.new.steps.left (rw c.in-Some.is at c.in_ok-next.ensures.is) (rw c.in-Some.is at c.in_ok-next.ensures.stands)) fits

pub close-requires-clause-holds : goal.close-requires-clause-holds
close-requires-clause-holds g c =
    let fits : c.loop-place.place < length c.args.c.0 = omega arith in
    turned_true _ _ _ _ _ _ _
    (stage_turned _ _ _ _ _ _ _ fits c.loop-place.invariant.0 c.in-Some.next c.advance.new.steps.left (rw c.in-Some.is at c.in_ok-next.ensures.is) (rw c.in-Some.is at c.in_ok-next.ensures.stands))
    c.is_proved.result c.is_proved.ensures c.if-is_proved.true

pub returns-then-is_proved-clause-is : goal.returns-then-is_proved-clause-is
returns-then-is_proved-clause-is g c =
    let fits : c.loop-place.place < length c.args.c.0 = omega arith in
    turned_proved _ _ _ _ _ _ _
    (stage_turned _ _ _ _ _ _ _ fits c.loop-place.invariant.0 c.in-Some.next c.advance.new.steps.left (rw c.in-Some.is at c.in_ok-next.ensures.is) (rw c.in-Some.is at c.in_ok-next.ensures.stands))
    c.is_proved.result c.is_proved.ensures c.in_ok-closed.closed c.if-is_proved.true c.in_ok-closed.ensures.made

pub loop-place-preserved : goal.loop-place-preserved
loop-place-preserved g c =
    let fits : c.loop-place.place < length c.args.c.0 = omega arith in (
      turned_stage _ _ _ _ _ _ _
          (stage_turned _ _ _ _ _ _ _ fits c.loop-place.invariant.0 c.in-Some.next c.advance.new.steps.left (rw c.in-Some.is at c.in_ok-next.ensures.is) (rw c.in-Some.is at c.in_ok-next.ensures.stands))
          c.is_proved.result c.is_proved.ensures c.if-is_proved.false,
      c.advance.ensures.kept ∙ c.loop-place.invariant.1,
    )
