use Rattle.ap_session.proofs.Seconds.{keeps_done_again}
use Rattle.ap_session.proofs.laws.certified_books_are_done_again.Goals as goal

pub returns : goal.returns
returns c = keeps_done_again
