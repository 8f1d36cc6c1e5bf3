use Rattle.std.proofs.Common.{◌≡◌, ◌++◌, map, drop}
use Rattle.ap_term.specs.Printed.{spaced, term_text}
use Rattle.ap_print.proofs.term.+terms.Given as goal

abbrev pub invariant-put_terms-loop-x : goal.invariant-put_terms-loop-x
invariant-put_terms-loop-x l = l.text ++ spaced (map term_text (drop l.x-index l.xs)) ≡ l.initial.text ++ spaced (map term_text l.xs)
