use Rattle.ap_weaken.proofs.Followed.{fertilize_follows, generalize_follows, irrelevance_follows}
use Rattle.ap_weaken.proofs.laws.clauses_follow.Goals as goal

pub returns-clause-fertilized : goal.returns-clause-fertilized
returns-clause-fertilized c = fertilize_follows

pub returns-clause-generalized : goal.returns-clause-generalized
returns-clause-generalized c = generalize_follows

pub returns-clause-irrelevant : goal.returns-clause-irrelevant
returns-clause-irrelevant c = irrelevance_follows
