use Rattle.ap_world.proofs.Fuel.{value_unique, call_unique}
use Rattle.ap_world.proofs.laws.value_is_unique.Goals as goal

pub returns-clause-terms : goal.returns-clause-terms
returns-clause-terms c = value_unique

pub returns-clause-calls : goal.returns-clause-calls
returns-clause-calls c = call_unique
