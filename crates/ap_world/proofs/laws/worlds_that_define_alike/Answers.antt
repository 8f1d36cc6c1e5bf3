use Rattle.ap_world.proofs.Alike.{value_alike, call_alike, known_alike, valid_alike, valid_back, call_back}
use Rattle.ap_world.proofs.laws.worlds_that_define_alike.Goals as goal

pub returns-clause-values : goal.returns-clause-values
returns-clause-values c = value_alike

pub returns-clause-calls : goal.returns-clause-calls
returns-clause-calls c = call_alike

pub returns-clause-known : goal.returns-clause-known
returns-clause-known c = known_alike

pub returns-clause-valid : goal.returns-clause-valid
returns-clause-valid c = valid_alike

pub returns-clause-back : goal.returns-clause-back
returns-clause-back c = valid_back

pub returns-clause-calls_back : goal.returns-clause-calls_back
returns-clause-calls_back c = call_back
