use Rattle.ap_translate.specs.Kept.{arm_size}
use Rattle.ap_translate.proofs.Kept.{full, pushed, counted}
use Rattle.ap_translate.proofs.arms.push_arm.Goals as goal

pub returns-in-None-clause-value : goal.returns-in-None-clause-value
returns-in-None-clause-value c = full arm_size c.args.all.arms c.args.next c.args.all.nodes c.requires.is c.in-None.ensures.past

pub returns-in_ok-push-in-Some-clause-value : goal.returns-in_ok-push-in-Some-clause-value
returns-in_ok-push-in-Some-clause-value c =
    pushed arm_size c.args.all.arms c.push.new.self c.args.next c.args.all.nodes c.in-Some.nodes c.requires.is c.in-Some.ensures.some c.in-Some.ensures.low c.in_ok-push-in-Some.ensures.ok

pub returns-in_ok-push-in-Some-clause-counted : goal.returns-in_ok-push-in-Some-clause-counted
returns-in_ok-push-in-Some-clause-counted c = record {
  is = counted arm_size c.args.all.arms c.push.new.self c.args.next c.args.all.nodes c.in-Some.nodes c.requires.is c.in-Some.ensures.some c.in_ok-push-in-Some.ensures.ok;
  low = c.in-Some.ensures.low;
}
