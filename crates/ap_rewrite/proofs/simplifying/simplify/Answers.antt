use Rattle.ap_rewrite.proofs.Simplified.{left_one, left_split, left_steps, out_steps}
use Rattle.ap_rewrite.proofs.simplifying.simplify.Goals as goal

pub split_left-requires-clause-one : goal.split_left-requires-clause-one
split_left-requires-clause-one g c = left_one c.args.c _ c.in-Some.q _ (rw c.in-Some.is at c.in_ok-q.ensures.is)

pub returns-clause-made : goal.returns-clause-made
returns-clause-made g c = left_split c.args.c _ c.in-Some.q _ _ (rw c.in-Some.is at c.in_ok-q.ensures.is) c.in_ok-answer.ensures.made

pub returns-clause-steps : goal.returns-clause-steps
returns-clause-steps g c = left_steps c.args.c _ c.in-Some.q _ _ (rw c.in-Some.is at c.in_ok-q.ensures.is) c.in_ok-answer.ensures.steps

pub returns-in_default-clause-steps : goal.returns-in_default-clause-steps
returns-in_default-clause-steps g c = out_steps c.args.c _ (rw c.in_default.is at c.in_ok-q.ensures.is)
