use Rattle.ap_term.proofs.PrintedApart.{terms_apart}
use Rattle.ap_term.proofs.StrictOrder.{less-same, less-transitive, less-neither}
use Rattle.ap_term.proofs.order.term_order_is_total.Goals as goal

pub returns : goal.returns
returns c = record {
  strict = less-same;
  transitive = less-transitive;
  total = less-neither;
  apart = λ a b f g h k. terms_apart a b f g (less-neither a b h k);
}
