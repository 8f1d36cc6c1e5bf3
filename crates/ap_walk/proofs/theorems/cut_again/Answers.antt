use Rattle.ap_walk.proofs.Cuts.{cut_again, cut_append, cut_cut}
use Rattle.ap_walk.proofs.theorems.cut_again.Goals as goal

pub returns : goal.returns
returns g c = record {
  twice = λ rule. cut_again rule;
  followed = λ rule. cut_cut rule;
  joined = λ rule. cut_append rule;
}
