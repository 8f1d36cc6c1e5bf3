use Rattle.ap_cert.proofs.Whole.{only_cert, only_refusal}
use Rattle.ap_cert.proofs.reading.read_cert.Goals as goal

pub returns-clause-only : goal.returns-clause-only
returns-clause-only c = only_cert c.answer.result c.args.text.now c.args.book.now c.answer.ensures

pub returns-clause-only_fault : goal.returns-clause-only_fault
returns-clause-only_fault c = only_refusal c.answer.result c.args.text.now c.args.book.now c.answer.ensures
