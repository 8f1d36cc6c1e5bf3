use Rattle.std.proofs.Common.{[]}
use Rattle.ap_names.specs.Reads.{HasNoNumbers, IsNumbersHead, HasNoDotted, AddsDotted}
use Rattle.ap_names.proofs.Named.{no_case_numbers, no_case_slash, no_case_number, no_case_path, no_case_primes, the_case}
use Rattle.ap_names.proofs.parsing.case_name.Goals as goal

pub returns-in_default : goal.returns-in_default
returns-in_default c =
    let none : HasNoNumbers c.args.text.now = rw c.in_default.is at c.in_ok-induction.ensures in
    no_case_numbers c.args.text.now none

pub returns-in_default-after_byte : goal.returns-in_default-after_byte
returns-in_default-after_byte c =
    let head : IsNumbersHead c.args.text.now c.in-Some.induction c.in-Some.under.now = rw c.in-Some.is at c.in_ok-induction.ensures in
    no_case_slash _ c.in-Some.induction c.in-Some.under.now head c.in_default-after_byte.ensures

pub returns-in_default-number : goal.returns-in_default-number
returns-in_default-number c =
    let head : IsNumbersHead c.args.text.now c.in-Some.induction c.in-Some.under.now = rw c.in-Some.is at c.in_ok-induction.ensures in
    no_case_number _ c.in-Some.induction c.in-Some.under.now c.in-Some-after_byte.cased.now head c.in-Some-after_byte.ensures c.in_default-number.ensures

pub returns-in_default-2 : goal.returns-in_default-2
returns-in_default-2 c =
    let head : IsNumbersHead c.args.text.now c.in-Some.induction c.in-Some.under.now = rw c.in-Some.is at c.in_ok-induction.ensures in
    let none : HasNoDotted c.in-Some-number.placed.now = rw c.in_default-2.is at c.in_ok-path.ensures in
    no_case_path _ c.in-Some.induction c.in-Some.under.now c.in-Some-after_byte.cased.now c.in-Some-number.case c.in-Some-number.placed.now
    head c.in-Some-after_byte.ensures c.in-Some-number.ensures none

pub returns-in_default-primes : goal.returns-in_default-primes
returns-in_default-primes c =
    let head : IsNumbersHead c.args.text.now c.in-Some.induction c.in-Some.under.now = rw c.in-Some.is at c.in_ok-induction.ensures in
    let dots : AddsDotted [] c.in-Some-number.placed.now c.in-Some-2.path c.in-Some-2.rest.now = rw (c.in-Some-2.is, c.new.ensures) at c.in_ok-path.ensures in
    no_case_primes _ c.in-Some.induction c.in-Some.under.now c.in-Some-after_byte.cased.now c.in-Some-number.case c.in-Some-number.placed.now c.in-Some-2.path c.in-Some-2.rest.now
    head c.in-Some-after_byte.ensures c.in-Some-number.ensures dots c.in_default-primes.ensures

pub returns : goal.returns
returns c =
    let head : IsNumbersHead c.args.text.now c.in-Some.induction c.in-Some.under.now = rw c.in-Some.is at c.in_ok-induction.ensures in
    let dots : AddsDotted [] c.in-Some-number.placed.now c.in-Some-2.path c.in-Some-2.rest.now = rw (c.in-Some-2.is, c.new.ensures) at c.in_ok-path.ensures in
    the_case _ c.in-Some.induction c.in-Some.under.now c.in-Some-after_byte.cased.now c.in-Some-number.case c.in-Some-number.placed.now c.in-Some-2.path c.in-Some-2.rest.now c.in-Some-primes.primes
    head c.in-Some-after_byte.ensures c.in-Some-number.ensures dots c.in-Some-primes.ensures
