use Rattle.ap_session.proofs.Counting.{certificates_count, demos_count}
use Rattle.ap_session.proofs.laws.events_are_counted_once.Goals as goal

pub returns-clause-certificate : goal.returns-clause-certificate
returns-clause-certificate c = certificates_count c.singles_are_held.ensures.held

pub returns-clause-demo : goal.returns-clause-demo
returns-clause-demo c = demos_count c.singles_are_held.ensures.plain
