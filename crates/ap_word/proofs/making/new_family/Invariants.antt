use Rattle.ap_word.specs.Words.{family_of}
use Rattle.ap_word.proofs.making.new_family.Given as goal

abbrev pub ghosts-tell : goal.ghosts-tell
ghosts-tell g a = record { truth = family_of (g.X.Tallies.tallies a.of.now) a.revert a.goal_limit }
