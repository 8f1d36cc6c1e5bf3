use Rattle.std.proofs.Common.{◌≡◌, ◌<◌, length, rules, arith}
use Rattle.ap_term.specs.Order.{variables_in, functions_in, constants_in}
use Rattle.ap_term.proofs.KeptCounts.{next_sum, next_hash, next_or}
use Rattle.ap_term.proofs.LeavesCapped.{next_capped, next_some}
use Rattle.ap_term.proofs.kept.kept_of.Goals as goal

pub loop-t-preserved : goal.loop-t-preserved
loop-t-preserved c =
    let within : c.loop-t.t-index < length c.args.ts.now = search rules in
    let s = next_some c.loop-t.leaves c.counted-more.result.leaves c.saturating_mul-leaves.result c.t-item.result c.loop-t.invariant.some c.counted-more.ensures.leaves c.saturating_mul-leaves.ensures in
    record {
      variables = next_sum variables_in c.args.ts.now c.loop-t.t-index c.loop-t.variables c.counted-more.result.variables c.saturating_add-variables.result c.t-item.result within c.t-item.is c.counted-more.ensures.variables c.saturating_add-variables.ensures c.loop-t.invariant.variables;
      functions = next_sum functions_in c.args.ts.now c.loop-t.t-index c.loop-t.functions c.counted-more.result.functions c.saturating_add-functions.result c.t-item.result within c.t-item.is c.counted-more.ensures.functions c.saturating_add-functions.ensures c.loop-t.invariant.functions;
      constants = next_sum constants_in c.args.ts.now c.loop-t.t-index c.loop-t.constants c.counted-more.result.constants c.saturating_add-constants.result c.t-item.result within c.t-item.is c.counted-more.ensures.constants c.saturating_add-constants.ensures c.loop-t.invariant.constants;
      variables_fit = omega (arith, c.saturating_add-variables.ensures);
      functions_fit = omega (arith, c.saturating_add-functions.ensures);
      constants_fit = omega (arith, c.saturating_add-constants.ensures);
      leaves_fit = s.1;
      some = s.0;
      leaves = next_capped c.args.ts.now c.loop-t.t-index c.loop-t.leaves c.counted-more.result.leaves c.saturating_mul-leaves.result c.t-item.result within c.t-item.is c.loop-t.invariant.some c.loop-t.invariant.leaves_fit c.counted-more.ensures.leaves c.saturating_mul-leaves.ensures c.loop-t.invariant.leaves;
      hash = next_hash c.args.ts.now c.loop-t.t-index c.loop-t.hash c.counted-more.result.hash c.mixed-hash.result _ c.t-item.result within c.t-item.is c.counted-more.ensures.hash c.mixed-hash.ensures c.loop-t.invariant.hash;
      has_if = next_or c.args.ts.now c.loop-t.t-index c.loop-t.has_if c.counted-more.result.has_if _ c.t-item.result within c.t-item.is c.counted-more.ensures.has_if c.loop-t.invariant.has_if;
    }
