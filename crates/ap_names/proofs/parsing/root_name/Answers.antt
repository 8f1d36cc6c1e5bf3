use Rattle.ap_names.proofs.Named.{no_root, the_root}
use Rattle.ap_names.proofs.parsing.root_name.Goals as goal

pub returns-in_err-primes : goal.returns-in_err-primes
returns-in_err-primes c = rw c.from_residual.ensures (no_root c.args.text.now c.in_err-primes.ensures)

pub returns : goal.returns
returns c = rw (c.new.ensures, c.new-2.ensures) (the_root c.args.text.now c.in_ok-primes.primes c.in_ok-primes.ensures)
