use Rattle.std.proofs.Common.{◌≡◌, ◌++◌, replicate}
use Rattle.ap_names.proofs.print.put_primes.Given as goal

abbrev pub invariant-loop : goal.invariant-loop
invariant-loop l = l.text ≡ l.initial.text ++ replicate l.counter 39
