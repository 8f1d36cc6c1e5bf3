use Rattle.ap_rewrite.proofs.ArithmeticSound.{nothing_sound, polynomials_sound, worlds_sound}
use Rattle.ap_rewrite.proofs.laws.arithmetic_is_sound.Goals as goal

pub returns-clause-nothing : goal.returns-clause-nothing
returns-clause-nothing c = nothing_sound

pub returns-clause-polynomials : goal.returns-clause-polynomials
returns-clause-polynomials c = polynomials_sound

pub returns-clause-world : goal.returns-clause-world
returns-clause-world c = worlds_sound
