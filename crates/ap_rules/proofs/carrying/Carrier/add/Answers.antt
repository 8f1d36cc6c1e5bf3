use Rattle.std.proofs.Common.{◌++◌, ap, ◌∙◌}
use Rattle.ap_rules.proofs.Keeping.{linear_more}
use Rattle.ap_rules.proofs.carrying.Carrier.add.Goals as goal

pub returns-clause-ok : goal.returns-clause-ok
returns-clause-ok c = λ W y made linear k. record {
  rewrites = c.in_default.ensures.ok W y made k.rewrites;
  linear = linear_more W y c.args.self.now.rules.linear c.add_linear.new.linear c.args.self.now.linear_starts c.add_linear.new.starts
      (c.in_ok-add_linear.ensures.rules ∙ ap (λ gs. c.args.self.now.rules.linear ++ gs) linear) c.in_ok-add_linear.ensures.starts k.linear;
}
