use Rattle.ap_rules.proofs.RenamesFound.{permutative}
use Rattle.ap_rules.proofs.laws.permutative_renames.Goals as goal

pub returns : goal.returns
returns c = permutative
