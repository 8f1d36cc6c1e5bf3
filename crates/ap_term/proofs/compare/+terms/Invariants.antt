use Rattle.std.proofs.Common.{◌≡◌, ℕ, List, ◌++◌, map, drop}
use Rattle.ap_term.specs.Compared.{bytes_order}
use Rattle.ap_term.specs.Printed.{term_text}
use Rattle.ap_term.specs.Starts.{arguments_text}
use Rattle.ap_term.proofs.compare.+terms.Given as goal

-- what is left compares as the whole
abbrev pub invariant-compare_arguments-loop-i : goal.invariant-compare_arguments-loop-i
invariant-compare_arguments-loop-i l =
    (s t : List ℕ)
    → bytes_order (arguments_text (map term_text l.xs) ++ s) (arguments_text (map term_text l.ys) ++ t)
    ≡ bytes_order (arguments_text (map term_text (drop l.i l.xs)) ++ s) (arguments_text (map term_text (drop l.i l.ys)) ++ t)
