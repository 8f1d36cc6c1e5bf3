use Rattle.std.proofs.Common.{◌≡◌, drop}
use Rattle.ap_term.specs.Atoms.{all_dots}
use Rattle.ap_term.proofs.atoms.all_dots.Given as goal

abbrev pub invariant-loop-c : goal.invariant-loop-c
invariant-loop-c l = all_dots (drop l.c-index l.text) ≡ all_dots l.text
