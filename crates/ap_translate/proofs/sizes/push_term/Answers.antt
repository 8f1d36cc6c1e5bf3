use Rattle.ap_term.specs.Terms.{term_size}
use Rattle.ap_translate.proofs.Kept.{full, pushed, counted}
use Rattle.ap_translate.proofs.sizes.push_term.Goals as goal

pub returns-in-None-clause-value : goal.returns-in-None-clause-value
returns-in-None-clause-value c = full term_size c.args.row.terms c.args.next c.args.row.nodes c.requires.is c.in-None.ensures.past

pub returns-in_ok-push-in-Some-clause-value : goal.returns-in_ok-push-in-Some-clause-value
returns-in_ok-push-in-Some-clause-value c =
    pushed term_size c.args.row.terms c.push.new.self c.args.next c.args.row.nodes c.in-Some.nodes c.requires.is c.in-Some.ensures.some c.in-Some.ensures.low c.in_ok-push-in-Some.ensures.ok

pub returns-in_ok-push-in-Some-clause-counted : goal.returns-in_ok-push-in-Some-clause-counted
returns-in_ok-push-in-Some-clause-counted c = record {
  is = counted term_size c.args.row.terms c.push.new.self c.args.next c.args.row.nodes c.in-Some.nodes c.requires.is c.in-Some.ensures.some c.in_ok-push-in-Some.ensures.ok;
  low = c.in-Some.ensures.low;
}
