use Rattle.ap_reader.proofs.Answered.{once, first, apart, some}
use Rattle.ap_reader.proofs.text.one_answer.Goals as goal

pub returns : goal.returns
returns c = record { once = once; first = first; apart = apart; some = some }
