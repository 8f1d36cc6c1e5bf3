use Rattle.ap_names.specs.Reads.{HasNoNumbers, IsNumbersHead}
use Rattle.ap_names.proofs.Named.{no_placed_numbers, no_placed_primes, the_placed}
use Rattle.ap_names.proofs.parsing.placed_name.Goals as goal

pub returns-in_default : goal.returns-in_default
returns-in_default c =
    let none : HasNoNumbers c.args.text.now = rw c.in_default.is at c.in_ok-path.ensures in
    no_placed_numbers c.args.text.now c.requires none

pub returns-in_default-primes : goal.returns-in_default-primes
returns-in_default-primes c =
    let head : IsNumbersHead c.args.text.now c.in-Some.path c.in-Some.rest.now = rw c.in-Some.is at c.in_ok-path.ensures in
    no_placed_primes c.args.text.now c.in-Some.path c.in-Some.rest.now c.requires head c.in_default-primes.ensures

pub returns : goal.returns
returns c =
    let head : IsNumbersHead c.args.text.now c.in-Some.path c.in-Some.rest.now = rw c.in-Some.is at c.in_ok-path.ensures in
    rw c.new.ensures (the_placed c.args.text.now c.in-Some.path c.in-Some.rest.now c.in-Some-primes.primes head c.in-Some-primes.ensures)
