use Rattle.ap_rewrite.proofs.LiteralsReduce.{literals_reduce}
use Rattle.ap_rewrite.proofs.laws.literals_reduce.Goals as goal

pub returns : goal.returns
returns c = literals_reduce
