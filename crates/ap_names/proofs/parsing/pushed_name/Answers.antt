use Rattle.ap_names.specs.Reads.{HasNoNumbers, IsNumbersHead}
use Rattle.ap_names.proofs.Named.{no_pushed_numbers, no_pushed_end, the_pushed, emptied, filled}
use Rattle.ap_names.proofs.parsing.pushed_name.Goals as goal

pub returns-in_default : goal.returns-in_default
returns-in_default c =
    let none : HasNoNumbers c.args.text.now = rw c.in_default.is at c.in_ok-induction.ensures in
    no_pushed_numbers c.args.text.now none

pub returns-then-not-is_empty : goal.returns-then-not-is_empty
returns-then-not-is_empty c =
    let head : IsNumbersHead c.args.text.now c.in-Some.induction c.in-Some.rest.now = rw c.in-Some.is at c.in_ok-induction.ensures in
    no_pushed_end c.args.text.now c.in-Some.induction c.in-Some.rest.now head (filled c.in-Some.rest.now c.if-not-is_empty.ensures)

pub returns : goal.returns
returns c =
    let head : IsNumbersHead c.args.text.now c.in-Some.induction c.in-Some.rest.now = rw c.in-Some.is at c.in_ok-induction.ensures in
    rw c.new.ensures (the_pushed c.args.text.now c.in-Some.induction c.in-Some.rest.now head (emptied c.in-Some.rest.now c.if-not-is_empty.ensures))
