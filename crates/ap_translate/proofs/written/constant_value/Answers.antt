use Rattle.ap_translate.proofs.Agreeing.{written_term}
use Rattle.ap_translate.proofs.written.constant_value.Goals as goal

pub returns-clause-term : goal.returns-clause-term
returns-clause-term c = written_term c.args.f.now c.value_of.result c.value_of.ensures
