use Rattle.std.proofs.Common.{◌≡◌, true, sym, ap, ◌∙◌, subst}
use Rattle.ap_value.specs.Values.{val_of}
use Rattle.ap_term.specs.declared.term.Term.{Term}
use Rattle.ap_world.specs.declared.entry.Mask.{Mask}
use Rattle.ap_world.specs.World.{function_of}
use Rattle.ap_world.specs.Typing.{types}
use Rattle.ap_world.specs.Sound.{known}
use Rattle.ap_kernel.specs.declared.objects.Sequent.{Sequent}
use Rattle.ap_kernel.specs.Masks.{has_only}
use Rattle.ap_rewrite.specs.Leading.{leads_made, Serves}
use Rattle.ap_rewrite.proofs.ConstantTypes.{turned_only}
use Rattle.ap_rewrite.proofs.Settled.{only_leads, only_serves}
use Rattle.ap_rewrite.proofs.Negated.{not_quote_known}
use Rattle.ap_rewrite.proofs.shaping.not_constant.Goals as goal

pub types_of-requires-clause-term : goal.types_of-requires-clause-term
types_of-requires-clause-term c = subst (λ u. known (function_of c.args.w.now.entries) u ≡ true) (sym c.requires.negation) (not_quote_known (function_of c.args.w.now.entries) c.requires.ground c.args.v.now)

pub by_type-requires-clause-term : goal.by_type-requires-clause-term
by_type-requires-clause-term c = subst (λ u. known (function_of c.args.w.now.entries) u ≡ true) (sym c.requires.negation) (not_quote_known (function_of c.args.w.now.entries) c.requires.ground c.args.v.now)

pub by_type-requires-clause-exact : goal.by_type-requires-clause-exact
by_type-requires-clause-exact c = ap (λ (m : Mask). m.0) c.in_ok-mask.ensures.made

pub by_type-requires-clause-value : goal.by_type-requires-clause-value
by_type-requires-clause-value c =
    only_leads c.in_ok-mask.mask (val_of c.negation_of-value.result)
    (turned_only c.args.w.now c.args.ctx.now.0 c.args.v.now c.negation_of-value.result c.in_ok-mask.mask
    (ap (λ (m : Mask). m.0) c.in_ok-mask.ensures.made ∙ ap (types c.args.w.now c.args.ctx.now.0) c.requires.negation) c.negation_of-value.ensures.value)

pub in_mode-requires-clause-serves : goal.in_mode-requires-clause-serves
in_mode-requires-clause-serves c =
    subst (λ (s : Sequent). Serves s.mode c.args.mode) (sym c.in_ok-first.ensures.made)
    (only_serves c.in_ok-mask.mask (val_of c.negation_of-value.result) c.args.mode
    (turned_only c.args.w.now c.args.ctx.now.0 c.args.v.now c.negation_of-value.result c.in_ok-mask.mask
    (ap (λ (m : Mask). m.0) c.in_ok-mask.ensures.made ∙ ap (types c.args.w.now c.args.ctx.now.0) c.requires.negation) c.negation_of-value.ensures.value))

pub returns-clause-made : goal.returns-clause-made
returns-clause-made c =
    c.in_ok-q.ensures.made ∙ ap (λ (s : Sequent). leads_made s.ctx c.args.mode s.lhs s.rhs) c.in_ok-first.ensures.made
    ∙ ap (leads_made c.args.ctx.now c.args.mode c.args.t.now) c.negation_of-value.ensures.constant
