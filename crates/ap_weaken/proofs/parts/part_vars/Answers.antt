use Rattle.std.proofs.Common.{◌≡◌, length, rules}
use Rattle.ap_weaken.specs.Irrelevance.{grown, part_vars}
use Rattle.ap_weaken.proofs.Chains.{ends_early}
use Rattle.ap_weaken.proofs.parts.part_vars.Goals as goal

pub returns-then-len-count : goal.returns-then-len-count
returns-then-len-count c =
    let is : c.grow.new.names ≡ grown c.args.literals.now c.loop-left.names = search rules in
    let same : length c.grow.new.names ≡ length c.loop-left.names = search rules in
    ends_early c.args.literals.now c.loop-left.left c.loop-left.names c.grow.new.names (part_vars c.args.literals.now c.args.t.now) c.loop-left.invariant is same
