use Rattle.std.proofs.Common.{◌≡◌, arith}
use Rattle.ap_value.specs.Counts.{node_count}
use Rattle.ap_eval.proofs.spending.spend.Goals as goal

pub returns-else-count-limit : goal.returns-else-count-limit
returns-else-count-limit c =
    let counted : c.in-Some.count ≡ node_count c.args.v.now = c.in-Some.ensures.fits in
    omega (arith, counted)
