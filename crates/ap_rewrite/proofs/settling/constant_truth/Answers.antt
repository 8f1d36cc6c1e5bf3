use Rattle.std.proofs.Common.{◌≡◌, true, refl, sym, ap, ◌∙◌, subst}
use Rattle.ap_value.specs.Values.{val_of}
use Rattle.ap_term.specs.declared.term.Term.{Term}
use Rattle.ap_term.proofs.Equals.{term_eq-true}
use Rattle.ap_world.specs.declared.entry.Mask.{Mask}
use Rattle.ap_world.specs.World.{function_of}
use Rattle.ap_kernel.specs.declared.objects.Mode.TheVariants.{Iff}
use Rattle.ap_kernel.specs.declared.objects.Sequent.{Sequent}
use Rattle.ap_kernel.specs.Masks.{leads_to}
use Rattle.ap_rewrite.specs.Leading.{leads_made, Serves}
use Rattle.ap_rewrite.proofs.Settled.{constant_known, constant_leads, led_under, iff_serves}
use Rattle.ap_rewrite.proofs.settling.constant_truth.Goals as goal

pub refl-requires-clause-term : goal.refl-requires-clause-term
refl-requires-clause-term c = constant_known (function_of c.args.w.now.entries) c.args.t.now c.requires.constant

pub returns-then-same-clause-made : goal.returns-then-same-clause-made
returns-then-same-clause-made c =
    c.in_ok-q.ensures.made ∙ ap (leads_made c.args.ctx.now Iff c.args.t.now) (term_eq-true c.args.t.now _ (sym c.is_same-same.ensures ∙ c.if-same.true) ∙ c.t_term-truth.ensures)

pub types_of-requires-clause-term : goal.types_of-requires-clause-term
types_of-requires-clause-term c = constant_known (function_of c.args.w.now.entries) c.args.t.now c.requires.constant

pub by_type-requires-clause-term : goal.by_type-requires-clause-term
by_type-requires-clause-term c = constant_known (function_of c.args.w.now.entries) c.args.t.now c.requires.constant

pub by_type-requires-clause-exact : goal.by_type-requires-clause-exact
by_type-requires-clause-exact c = ap (λ (m : Mask). m.0) c.in_ok-mask.ensures.made

pub by_type-requires-clause-value : goal.by_type-requires-clause-value
by_type-requires-clause-value c =
    subst (λ v. leads_to c.in_ok-mask.mask (val_of v) ≡ true) (sym c.t_value.ensures)
    (constant_leads c.args.w.now c.args.ctx.now.0 c.args.t.now c.in_ok-mask.mask c.requires.constant (ap (λ (m : Mask). m.0) c.in_ok-mask.ensures.made))

pub in_mode-requires-clause-serves : goal.in_mode-requires-clause-serves
in_mode-requires-clause-serves c = iff_serves c.in_ok-first.first.says.mode Iff refl

pub returns-clause-made : goal.returns-clause-made
returns-clause-made c = c.in_ok-q-2.ensures.made ∙ led_under c.in_ok-first.first.says c.args.ctx.now c.args.t.now c.in_ok-mask.mask _ c.in_ok-first.ensures.made c.t_value.ensures
