use Rattle.ap_world.proofs.Alikes.{alike_is}
use Rattle.ap_world.proofs.Included.{without_clash, clash_without}
use Rattle.ap_world.proofs.laws.clashes_are_others.Goals as goal

pub returns-clause-alike : goal.returns-clause-alike
returns-clause-alike c = alike_is

pub returns-clause-clashes : goal.returns-clause-clashes
returns-clause-clashes c = λ W K distinct. (without_clash W K, clash_without W K distinct)
