use Rattle.std.proofs.Common.{ap, rules}
use Rattle.ap_world.specs.declared.entry.Mask.{Mask}
use Rattle.ap_rewrite.proofs.bounding.integers.Goals as goal

pub returns-clause-within : goal.returns-clause-within
returns-clause-within g c = record {
  left = search rules;
  right = search rules;
  left_exact = ap (λ (m : Mask). m.0) c.in_ok-left.ensures.made;
  right_exact = ap (λ (m : Mask). m.0) c.in_ok-right.ensures.made;
  left_within = search rules;
  right_within = search rules;
}
