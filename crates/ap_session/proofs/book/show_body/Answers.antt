use Rattle.ap_books.specs.Bodies.{body_by}
use Rattle.ap_session.specs.Working.{admits, ends}
use Rattle.ap_session.proofs.Leading.{behind_same}
use Rattle.ap_session.proofs.book.show_body.Goals as goal

pub returns-in-Err-clause-behind : goal.returns-in-Err-clause-behind
returns-in-Err-clause-behind g c = behind_same c.args.admitting.now (body_by admits ends c.args.events.now c.args.admitting.now.working).log
