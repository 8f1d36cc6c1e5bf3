use Rattle.std.proofs.Common.{◌≡◌, true, false, rules, arith}
use Rattle.ap_term.specs.Equal.{term_eq}
use Rattle.ap_term.proofs.Seen.{seen, deeper}
use Rattle.ap_kernel.proofs.PartsSwapped.{part_itself, part_of_var, part_of_quote, part_of_call}
use Rattle.ap_kernel.proofs.swapping.+finding.Goals as goal

pub contains-returns-then-is_same : goal.contains-returns-then-is_same
contains-returns-then-is_same t c =
    let same : term_eq c.args.t.now c.args.u.now ≡ true = search rules in
    part_itself c.args.t.now c.args.u.now same

pub contains-returns-in-Var : goal.contains-returns-in-Var
contains-returns-in-Var t c =
    let apart : term_eq c.args.t.now c.args.u.now ≡ false = search rules in
    part_of_var c.args.t.now c.args.u.now c.in-Var.field-0 (seen c.u.view_is c.in-Var.is) apart

pub contains-returns-in-Quote : goal.contains-returns-in-Quote
contains-returns-in-Quote t c =
    let apart : term_eq c.args.t.now c.args.u.now ≡ false = search rules in
    part_of_quote c.args.t.now c.args.u.now c.in-Quote.field-0 (seen c.u.view_is c.in-Quote.is) apart

pub contains-returns-in-Call : goal.contains-returns-in-Call
contains-returns-in-Call t c =
    let apart : term_eq c.args.t.now c.args.u.now ≡ false = search rules in
    part_of_call c.args.t.now c.args.u.now c.in-Call.field-0 c.in-Call.us c.some_contains.result (seen c.u.view_is c.in-Call.is) apart (search rules)

pub contains-some_contains-requires : goal.contains-some_contains-requires
contains-some_contains-requires t c = let d = deeper c.u.view_is c.in-Call.is c.as_slice.ensures in (omega (arith, c.decreases), tt)
