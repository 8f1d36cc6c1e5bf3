use Rattle.ap_term.proofs.PrintedApart.{terms_apart}
use Rattle.ap_term.proofs.order.terms_print_apart.Goals as goal

pub returns : goal.returns
returns c = terms_apart
