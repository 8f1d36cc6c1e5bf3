use Rattle.ap_types.proofs.kept.+settled.Given as goal

abbrev pub decreases-settled : goal.decreases-settled
decreases-settled l = l.rounds
