use Rattle.std.proofs.Common.{ap, sym, ◌∙◌}
use Rattle.std.specs.Prelude.{slice_get}
use Rattle.std.specs.Option.{option_map}
use Rattle.ap_term.specs.declared.term.Term.{Call}
use Rattle.ap_bank.specs.Banks.{held_term, terms_at}
use Rattle.ap_bank.proofs.Banked.{held_at}
use Rattle.ap_bank.proofs.bank.Bank.view.Goals as goal

pub returns-in-Var : goal.returns-in-Var
returns-in-Var c = ap (held_term c.self.inside.terms) (sym c.in-Var.is) ∙ held_at c.self.inside.nodes.keys c.self.inside.terms c.self.invariant.banked c.args.id.0 c.index-held.result.now c.index-held.ensures ∙ ap (λ ts. slice_get ts c.args.id.0) c.self.view_is

pub returns-in-Quote : goal.returns-in-Quote
returns-in-Quote c = ap (held_term c.self.inside.terms) (sym c.in-Quote.is) ∙ held_at c.self.inside.nodes.keys c.self.inside.terms c.self.invariant.banked c.args.id.0 c.index-held.result.now c.index-held.ensures ∙ ap (λ ts. slice_get ts c.args.id.0) c.self.view_is

pub returns-in-Call : goal.returns-in-Call
returns-in-Call c =
    ap (λ is. option_map (Call c.in-Call.f) (terms_at c.args.self.now is)) c.as_slice.ensures
    ∙ ap (λ ts. option_map (Call c.in-Call.f) (terms_at ts c.in-Call.ids)) (sym c.self.view_is) ∙ ap (held_term c.self.inside.terms) (sym c.in-Call.is) ∙ held_at c.self.inside.nodes.keys c.self.inside.terms c.self.invariant.banked c.args.id.0 c.index-held.result.now c.index-held.ensures ∙ ap (λ ts. slice_get ts c.args.id.0) c.self.view_is
