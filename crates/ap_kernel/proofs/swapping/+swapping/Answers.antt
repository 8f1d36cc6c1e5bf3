use Rattle.std.proofs.Common.{◌≡◌, None, Some, map, rules, arith}
use Rattle.ap_list.specs.Lists.{lookup_by}
use Rattle.ap_term.specs.Equal.{term_eq}
use Rattle.ap_term.specs.declared.term.Term.{Call}
use Rattle.ap_term.proofs.Seen.{seen, deeper}
use Rattle.ap_kernel.specs.Swapping.{swapped}
use Rattle.ap_kernel.proofs.PartsSwapped.{swapped_there, var_kept, quote_kept, call_kept}
use Rattle.ap_kernel.proofs.swapping.+swapping.Goals as goal

pub swapped-returns-in-Some : goal.swapped-returns-in-Some
swapped-returns-in-Some t c =
    let there : lookup_by term_eq c.args.pairs.now c.args.t.now ≡ Some c.in-Some.by.now = search rules in
    let e = swapped_there c.args.pairs.now c.args.t.now c.in-Some.by.now there in
    rw e c.copy_term.ensures

pub swapped-returns-in-Var : goal.swapped-returns-in-Var
swapped-returns-in-Var t c =
    let none : lookup_by term_eq c.args.pairs.now c.args.t.now ≡ None = search rules in
    let e = var_kept c.args.pairs.now c.args.t.now c.in-Var.field-0 (seen c.t.view_is c.in-Var.is) none in
    rw e c.copy_term-in-Var.ensures

pub swapped-returns-in-Quote : goal.swapped-returns-in-Quote
swapped-returns-in-Quote t c =
    let none : lookup_by term_eq c.args.pairs.now c.args.t.now ≡ None = search rules in
    let e = quote_kept c.args.pairs.now c.args.t.now c.in-Quote.field-0 (seen c.t.view_is c.in-Quote.is) none in
    rw e c.copy_term-in-Quote.ensures

pub swapped-returns-in_ok-copy_symbol-in-Call : goal.swapped-returns-in_ok-copy_symbol-in-Call
swapped-returns-in_ok-copy_symbol-in-Call t c =
    let none : lookup_by term_eq c.args.pairs.now c.args.t.now ≡ None = search rules in
    let e : swapped c.args.pairs.now c.args.t.now ≡ Call c.in-Call.f (map (swapped c.args.pairs.now) c.in-Call.ts) = call_kept c.args.pairs.now c.args.t.now c.in-Call.f c.in-Call.ts (seen c.t.view_is c.in-Call.is) none in
    rw e (search rules)

pub swapped-swapped_all-requires : goal.swapped-swapped_all-requires
swapped-swapped_all-requires t c = let d = deeper c.t.view_is c.in-Call.is c.as_slice.ensures in (omega (arith, c.decreases), tt)
