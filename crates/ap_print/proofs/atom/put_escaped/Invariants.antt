use Rattle.std.proofs.Common.{◌≡◌, ◌++◌, drop}
use Rattle.ap_term.specs.Printed.{escaped}
use Rattle.ap_print.proofs.atom.put_escaped.Given as goal

abbrev pub invariant-loop-c : goal.invariant-loop-c
invariant-loop-c l = l.text ++ escaped l.close (drop l.c-index l.codes) ≡ l.initial.text ++ escaped l.close l.codes
