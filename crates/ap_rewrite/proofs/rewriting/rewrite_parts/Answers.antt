use Rattle.std.proofs.Common.{◌≡◌, true, List, sym, ap, ◌∙◌, subst}
use Rattle.ap_term.specs.declared.term.Term.{Term, Call}
use Rattle.ap_term.proofs.Seen.{seen}
use Rattle.ap_world.specs.Sound.{known}
use Rattle.ap_rewrite.specs.Answering.{defs_in, setting_of, inner_of, seen_at}
use Rattle.ap_rewrite.proofs.Levels.{var_is, quote_is, call_is, same_got, same_start}
use Rattle.ap_rewrite.proofs.rewriting.rewrite_parts.Goals as goal

pub returns-in_ok-q-in-Var-clause-is : goal.returns-in_ok-q-in-Var-clause-is
returns-in_ok-q-in-Var-clause-is g c =
    var_is (setting_of c.args.l.now.r.now) (inner_of c.args.l.now.r.now c.args.l.now.levels) c.args.mode (seen_at c.args.at.now) c.args.t.now c.args.steps.now.left _ _ (seen c.t.view_is c.in-Var.is) c.in_ok-q-in-Var.ensures.is

pub returns-in_ok-q-in-Quote-clause-is : goal.returns-in_ok-q-in-Quote-clause-is
returns-in_ok-q-in-Quote-clause-is g c =
    quote_is (setting_of c.args.l.now.r.now) (inner_of c.args.l.now.r.now c.args.l.now.levels) c.args.mode (seen_at c.args.at.now) c.args.t.now c.args.steps.now.left _ _ (seen c.t.view_is c.in-Quote.is) c.in_ok-q-in-Quote.ensures.is

pub rewrite_call-requires-clause-term : goal.rewrite_call-requires-clause-term
rewrite_call-requires-clause-term g c = (seen c.t.view_is c.in-Call.is) ∙ ap (λ (us : List Term). Call c.in-Call.f us) (sym c.as_slice.ensures)

pub rewrite_call-requires-clause-call : goal.rewrite_call-requires-clause-call
rewrite_call-requires-clause-call g c = subst (λ (u : Term). known (defs_in c.args.l.now.r.now) u ≡ true) ((seen c.t.view_is c.in-Call.is) ∙ ap (λ (us : List Term). Call c.in-Call.f us) (sym c.as_slice.ensures)) c.requires.term

pub returns-in-Call-clause-is : goal.returns-in-Call-clause-is
returns-in-Call-clause-is g c =
    same_got _ _ _ _
    (call_is (setting_of c.args.l.now.r.now) (inner_of c.args.l.now.r.now c.args.l.now.levels) c.args.mode (seen_at c.args.at.now) c.args.t.now c.args.steps.now.left _ _
    ((seen c.t.view_is c.in-Call.is) ∙ ap (λ (us : List Term). Call c.in-Call.f us) (sym c.as_slice.ensures)))
    c.rewrite_call.ensures.is

pub returns-in-Call-clause-from : goal.returns-in-Call-clause-from
returns-in-Call-clause-from g c = same_start _ _ _ _ _ _ (sym ((seen c.t.view_is c.in-Call.is) ∙ ap (λ (us : List Term). Call c.in-Call.f us) (sym c.as_slice.ensures))) c.rewrite_call.ensures.from
