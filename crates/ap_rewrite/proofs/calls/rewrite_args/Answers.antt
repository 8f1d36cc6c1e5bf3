use Rattle.std.proofs.Common.{◌∙◌, refl, ◌≡◌, [], drop, rules, arith}
use Rattle.std.proofs.lemmas.List.{drop_all}
use Rattle.ap_rewrite.specs.Answering.{setting_of, inner_of, seen_at}
use Rattle.ap_rewrite.proofs.Arguments.{args_begin, argument_done, argument_out, all_done, from_place}
use Rattle.ap_rewrite.proofs.calls.rewrite_args.Goals as goal

pub loop-u-init : goal.loop-u-init
loop-u-init g c = (args_begin _ _ _ _ _ (search rules), refl)

pub loop-u-preserved : goal.loop-u-preserved
loop-u-preserved g c = (
  argument_done _ _ (setting_of c.args.l.now.r.now) (inner_of c.args.l.now.r.now c.args.l.now.levels) (seen_at c.args.at.now) _ _ _ _ _ _ _ _ _ c.in-Some.q
      (from_place c.args.us.now c.loop-u.u-index _ (omega arith) c.u-item.is) c.loop-u.invariant.0
      (rw c.in-Some.is at c.in_ok-q.ensures.is) (rw c.in-Some.is at c.in_ok-q.ensures.from) c.in_ok-push.ensures.ok,
  c.deeper.ensures.kept ∙ c.loop-u.invariant.1,
)

pub returns-in_default-clause-is : goal.returns-in_default-clause-is
returns-in_default-clause-is g c =
    argument_out _ _ (setting_of c.args.l.now.r.now) (inner_of c.args.l.now.r.now c.args.l.now.levels) (seen_at c.args.at.now) _ _ _ _ _ _ _
    (from_place c.args.us.now c.loop-u.u-index _ (omega arith) c.u-item.is) c.loop-u.invariant.0 (rw c.in_default.is at c.in_ok-q.ensures.is)

pub returns-clause-is : goal.returns-clause-is
returns-clause-is g c =
    let none : drop c.loop-u.u-index c.args.us.now ≡ [] = drop_all c.loop-u.u-index c.args.us.now (omega arith) in
    (all_done _ _ (setting_of c.args.l.now.r.now) (inner_of c.args.l.now.r.now c.args.l.now.levels) (seen_at c.args.at.now) _ _ _ _ _ none c.loop-u.invariant.0).0

pub returns-clause-from : goal.returns-clause-from
returns-clause-from g c =
    let none : drop c.loop-u.u-index c.args.us.now ≡ [] = drop_all c.loop-u.u-index c.args.us.now (omega arith) in
    ((all_done _ _ (setting_of c.args.l.now.r.now) (inner_of c.args.l.now.r.now c.args.l.now.levels) (seen_at c.args.at.now) _ _ _ _ _ none c.loop-u.invariant.0).1, c.loop-u.invariant.0.each)
