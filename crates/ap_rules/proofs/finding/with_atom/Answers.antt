use Rattle.std.proofs.Common.{◌∙◌}
use Rattle.std.proofs.lemmas.Result.{IfOk-weaker}
use Rattle.ap_term.proofs.Seen.{seen}
use Rattle.ap_rules.specs.Linear.{may_match}
use Rattle.ap_rules.specs.Placed.{is_of}
use Rattle.ap_rules.proofs.Merging.{atom_more, var_more, quote_more}
use Rattle.ap_rules.proofs.finding.with_atom.Goals as goal

pub returns-in-Call : goal.returns-in-Call
returns-in-Call c =
    let gs = c.args.rules.now in
    IfOk-weaker c.merged.result _ _
    (λ is merged xs e. merged (may_match xs) (is_of c.in-Call.f) gs (c.as_slice.ensures ∙ e) c.places_of.ensures ∙ atom_more gs xs c.args.atom.now c.in-Call.f c.in-Call.field-1 (seen c.atom.view_is c.in-Call.is))
    c.merged.ensures

pub returns-in-Var : goal.returns-in-Var
returns-in-Var c = λ xs e. e ∙ var_more c.args.rules.now xs c.args.atom.now c.in-Var.field-0 (seen c.atom.view_is c.in-Var.is)

pub returns-in-Quote : goal.returns-in-Quote
returns-in-Quote c = λ xs e. e ∙ quote_more c.args.rules.now xs c.args.atom.now c.in-Quote.field-0 (seen c.atom.view_is c.in-Quote.is)
