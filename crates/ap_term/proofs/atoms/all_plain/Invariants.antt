use Rattle.std.proofs.Common.{◌≡◌, drop}
use Rattle.ap_term.specs.Atoms.{all_plain}
use Rattle.ap_term.proofs.atoms.all_plain.Given as goal

abbrev pub invariant-loop-c : goal.invariant-loop-c
invariant-loop-c l = all_plain (drop l.c-index l.text) ≡ all_plain l.text
