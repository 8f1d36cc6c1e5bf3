use Rattle.std.proofs.Common.{◌≡◌, length}
use Rattle.ap_term.specs.Atoms.{after_digits}
use Rattle.ap_term.proofs.atoms.after_digits.Given as goal

abbrev pub invariant-loop-rest : goal.invariant-loop-rest
invariant-loop-rest l = after_digits l.rest ≡ after_digits l.text

abbrev pub decreases-loop-rest : goal.decreases-loop-rest
decreases-loop-rest l = length l.rest
