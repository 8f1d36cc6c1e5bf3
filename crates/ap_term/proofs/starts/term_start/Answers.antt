use Rattle.std.proofs.Common.{◌++◌, inl, inr, refl, map}
use Rattle.ap_term.specs.Printed.{symbol_text, value_text, term_text}
use Rattle.ap_term.specs.Starts.{term_opens, arguments_text}
use Rattle.ap_term.proofs.Folds.{var_opens, var_text, quote_opens, constant_text, call_opens, call_text}
use Rattle.ap_term.proofs.Parts.{whole_start, opened_start}
use Rattle.ap_term.proofs.Wholes.{symbol_whole}
use Rattle.ap_term.proofs.Seen.{seen}
use Rattle.ap_term.proofs.starts.term_start.Goals as goal

pub returns-in-Var-clause-start : goal.returns-in-Var-clause-start
returns-in-Var-clause-start c =
    let t = c.args.t.now in
    whole_start (term_opens t) (term_text t) (symbol_text c.in-Var.x) (var_opens t c.in-Var.x (seen c.t.view_is c.in-Var.is)) (var_text t c.in-Var.x (seen c.t.view_is c.in-Var.is))
    (symbol_whole c.in-Var.x)

pub returns-in-Quote-clause-start : goal.returns-in-Quote-clause-start
returns-in-Quote-clause-start c =
    let t = c.args.t.now in
    let v = c.in-Quote.field-0 in
    opened_start (term_opens t) (term_text t) 39 (value_text v) (quote_opens t v (seen c.t.view_is c.in-Quote.is)) (constant_text t v (seen c.t.view_is c.in-Quote.is)) (inl refl)

pub returns-in-Call-clause-start : goal.returns-in-Call-clause-start
returns-in-Call-clause-start c =
    let t = c.args.t.now in
    let f = c.in-Call.field-0 in
    let ts = c.in-Call.field-1 in
    opened_start (term_opens t) (term_text t) 40 (symbol_text f ++ arguments_text (map term_text ts))
    (call_opens t f ts (seen c.t.view_is c.in-Call.is)) (call_text t f ts (seen c.t.view_is c.in-Call.is)) (inr refl)
