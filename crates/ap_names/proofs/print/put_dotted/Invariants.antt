use Rattle.std.proofs.Common.{◌≡◌, ◌++◌, drop}
use Rattle.ap_names.specs.Printed.{dotted}
use Rattle.ap_names.proofs.print.put_dotted.Given as goal

abbrev pub invariant-loop-number : goal.invariant-loop-number
invariant-loop-number l = l.text ++ dotted (drop l.number-index l.numbers) ≡ l.initial.text ++ dotted l.numbers
