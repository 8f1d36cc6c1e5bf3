use Rattle.ap_table.specs.Core.{root}
use Rattle.ap_table.proofs.Once.{once}
use Rattle.ap_table.proofs.laws.nodes_are_claimed_once.Goals as goal

pub returns : goal.returns
returns g c rule t es k allowed = once g.S.Step.step_of g.S.Step.depth rule es (root t) k allowed
