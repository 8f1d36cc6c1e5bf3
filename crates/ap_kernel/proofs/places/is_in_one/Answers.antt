use Rattle.std.proofs.Common.{◌≡◌, ◌<◌, true, false, map, length, rules, arith}
use Rattle.ap_kernel.specs.Induction.{count_true, occurs}
use Rattle.ap_kernel.proofs.Walked.{counted_one, counted_none}
use Rattle.ap_kernel.proofs.places.is_in_one.Goals.{then-occurs, else-occurs}
use Rattle.ap_kernel.proofs.places.is_in_one.Goals as goal

pub loop-t-preserved : goal.loop-t-preserved
loop-t-preserved c =
    let within : c.loop-t.t-index < length c.args.terms.now = search rules in
    let total = count_true (map (occurs c.args.x.now) c.args.terms.now) in
    let fits = c.loop-t.invariant.1 in
    elim c.if-occurs.branch [
      | then-occurs w ↦
          let there : occurs c.args.x.now c.t-item.result ≡ true = search rules in
          let more = counted_one c.args.x.now c.args.terms.now c.loop-t.t-index c.loop-t.count total c.t-item.result within c.t-item.is there c.loop-t.invariant.0 in
          (omega (arith, w.count-is, more), omega (arith, w.count-is))
      | else-occurs w ↦
          let apart : occurs c.args.x.now c.t-item.result ≡ false = search rules in
          let more = counted_none c.args.x.now c.args.terms.now c.loop-t.t-index c.loop-t.count total c.t-item.result within c.t-item.is apart c.loop-t.invariant.0 in
          (omega (arith, w.count-is, more), omega (arith, w.count-is))
    ]
