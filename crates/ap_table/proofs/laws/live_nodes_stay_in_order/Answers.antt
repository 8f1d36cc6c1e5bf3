use Rattle.ap_table.proofs.Ordering.{order_root, order_step, first_is}
use Rattle.ap_table.proofs.laws.live_nodes_stay_in_order.Goals as goal

pub returns : goal.returns
returns g c = record {
  root = order_root;
  step = λ rule. order_step g.S.Step.step_of g.S.Step.depth rule;
  first = first_is;
}
