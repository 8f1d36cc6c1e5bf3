use Rattle.ap_translate.specs.Kept.{piece_size}
use Rattle.ap_translate.proofs.Kept.{full, pushed, counted}
use Rattle.ap_translate.proofs.build.push_piece.Goals as goal

pub returns-in-None-clause-value : goal.returns-in-None-clause-value
returns-in-None-clause-value c = full piece_size c.args.all.pieces c.args.next c.args.all.nodes c.requires.is c.in-None.ensures.past

pub returns-in_ok-push-in-Some-clause-value : goal.returns-in_ok-push-in-Some-clause-value
returns-in_ok-push-in-Some-clause-value c =
    pushed piece_size c.args.all.pieces c.push.new.self c.args.next c.args.all.nodes c.in-Some.nodes c.requires.is c.in-Some.ensures.some c.in-Some.ensures.low c.in_ok-push-in-Some.ensures.ok

pub returns-in_ok-push-in-Some-clause-counted : goal.returns-in_ok-push-in-Some-clause-counted
returns-in_ok-push-in-Some-clause-counted c = record {
  is = counted piece_size c.args.all.pieces c.push.new.self c.args.next c.args.all.nodes c.in-Some.nodes c.requires.is c.in-Some.ensures.some c.in_ok-push-in-Some.ensures.ok;
  low = c.in-Some.ensures.low;
}
