use Rattle.std.proofs.Common.{length, take, ◌-◌, ◌<◌, ◌≤◌, refl, arith}
use Rattle.ap_rules.proofs.Keeping.{one_too_many, no_more_left}
use Rattle.ap_rules.proofs.carrying.cut.Goals as goal

pub loop-groups-init : goal.loop-groups-init
loop-groups-init c = λ rs k. (rs, k, refl)

pub loop-groups-preserved : goal.loop-groups-preserved
loop-groups-preserved c = λ rs k.
    let i = c.loop-groups.invariant rs k in
    let more : c.args.kept < length c.loop-groups.heads = omega arith in
    (take (length i.0 - 1) i.0, c.remove_last.ensures.keeps i.0 i.1, one_too_many c.loop-groups.groups c.loop-groups.heads i.0 rs c.args.kept i.1 more i.2)

pub returns : goal.returns
returns c = λ rs k.
    let i = c.loop-groups.invariant rs k in
    let few : length c.loop-groups.heads ≤ c.args.kept = omega arith in
    no_more_left c.loop-groups.groups c.loop-groups.heads i.0 rs c.args.kept i.1 few i.2
