use Rattle.std.proofs.Common.{◌≡◌, ◌≤◌, Some, length, ap, arith, rules}
use Rattle.ap_induct.specs.Choosing.{scheme_of}
use Rattle.ap_induct.proofs.Followed.{scheme_few}
use Rattle.ap_strategy.specs.Goals.{defs_of}
use Rattle.ap_strategy.proofs.stepping.cases.Goals as goal

pub returns-clause-few : goal.returns-clause-few
returns-clause-few g c =
    let t = c.args.task.now in
    let s = c.in-Some.found in
    let made : scheme_of (defs_of t.plan) t.settings.theory t.clause t.scheme ≡ Some (s.call, s.reduction.says) = search rules in
    let few : length s.reduction.says.to ≤ 1024 = scheme_few (defs_of t.plan) t.settings.theory t.clause t.scheme (s.call, s.reduction.says) c.recall_goal.ensures.clause c.recall_goal.ensures.scheme made in
    let moved : c.into_parts-clauses.result.1 ≡ s.reduction.says.to = search rules in
    let same : length c.into_parts-clauses.result.1 ≡ length s.reduction.says.to = ap length moved in
    omega arith
