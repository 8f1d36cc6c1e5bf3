use Rattle.std.proofs.Common.{◌≡◌, ◌≤◌, length, rules}
use Rattle.ap_clausify.proofs.LeavesCapped.{next_capped, next_some, last_capped, full_capped}
use Rattle.ap_clausify.proofs.leaves.leaves_of.Goals as goal

pub returns-then-all-limit : goal.returns-then-all-limit
returns-then-all-limit c =
    let full : c.loop-t.all ≡ c.args.limit = search rules in
    full_capped c.args.limit c.args.ts.now c.loop-t.t-index c.loop-t.all full c.loop-t.invariant.rest

pub loop-t-preserved : goal.loop-t-preserved
loop-t-preserved c =
    let some : 1 ≤ c.args.limit = search rules in
    let fits : c.args.limit ≤ 4294967295 = search rules in
    let s = next_some c.args.limit c.loop-t.all c.leaves.result c.saturating_mul.result c.at_most-all.result c.t-item.result some c.loop-t.invariant.some c.leaves.ensures c.saturating_mul.ensures c.at_most-all.ensures in
    record {
      some = s.0;
      fits = s.1;
      rest = next_capped c.args.limit c.args.ts.now c.loop-t.t-index c.loop-t.all c.leaves.result c.saturating_mul.result c.at_most-all.result c.t-item.result some fits (search rules) c.t-item.is
          c.loop-t.invariant.some c.loop-t.invariant.fits c.leaves.ensures c.saturating_mul.ensures c.at_most-all.ensures c.loop-t.invariant.rest;
    }

pub returns : goal.returns
returns c =
    let past : length c.args.ts.now ≤ c.loop-t.t-index = search rules in
    last_capped c.args.limit c.args.ts.now c.loop-t.t-index c.loop-t.all past c.loop-t.invariant.fits c.loop-t.invariant.rest
