use Rattle.ap_world.proofs.Instances.{known_subst, known_match, instances_keep}
use Rattle.ap_world.proofs.laws.instances_keep_values.Goals as goal

pub returns-clause-values : goal.returns-clause-values
returns-clause-values c = instances_keep

pub returns-clause-known : goal.returns-clause-known
returns-clause-known c = known_subst

pub returns-clause-matches : goal.returns-clause-matches
returns-clause-matches c = known_match
