use Rattle.std.proofs.Common.{◌≡◌, drop, map}
use Rattle.ap_list.specs.Lists.{all_true}
use Rattle.ap_weaken.specs.Irrelevance.{part_vars, is_outside}
use Rattle.ap_weaken.proofs.parts.is_irrelevant.Given as goal

-- those that are left decide
abbrev pub invariant-loop-u : goal.invariant-loop-u
invariant-loop-u l = all_true (map (is_outside (part_vars l.literals l.t)) (drop l.u-index l.literals)) ≡ all_true (map (is_outside (part_vars l.literals l.t)) l.literals)
