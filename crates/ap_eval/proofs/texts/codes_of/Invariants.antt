use Rattle.std.proofs.Common.{◌≡◌, ◌++◌}
use Rattle.ap_world.specs.Units.{codes_in}
use Rattle.ap_eval.proofs.texts.codes_of.Given as goal

-- the codes so far and those that are left make the whole
abbrev pub invariant-loop-rest : goal.invariant-loop-rest
invariant-loop-rest l = l.codes ++ codes_in l.rest ≡ codes_in l.v
