use Rattle.std.proofs.Common.{◌≡◌, true, pos, sym, ◌∙◌, subst}
use Rattle.ap_value.specs.declared.value.Value.{Int, Sym}
use Rattle.ap_value.specs.Values.{val_of}
use Rattle.ap_world.specs.Names.{nil_name, t_name}
use Rattle.ap_kernel.specs.Masks.{leads_to, typed_mode}
use Rattle.ap_rewrite.specs.Leading.{Serves}
use Rattle.ap_rewrite.proofs.Settled.{only_leads, only_serves, without_nil_leads, only_nil, only_t, only_zero}
use Rattle.ap_rewrite.proofs.settling.settled_value.Goals as goal

pub returns-then-lacks-clause-leads : goal.returns-then-lacks-clause-leads
returns-then-lacks-clause-leads c = subst (λ v. leads_to c.args.mask (val_of v) ≡ true) (sym c.t_value.ensures) (without_nil_leads c.args.mask (sym c.lacks.ensures ∙ c.if-lacks.true))

pub returns-then-lacks-2-clause-leads : goal.returns-then-lacks-2-clause-leads
returns-then-lacks-2-clause-leads c =
    subst (λ v. leads_to c.args.mask (val_of v) ≡ true) (sym c.nil_value.ensures) (only_leads c.args.mask (val_of (Sym nil_name)) (only_nil c.args.mask (sym c.lacks-2.ensures ∙ c.if-lacks-2.true)))

pub returns-then-lacks-2-clause-serves : goal.returns-then-lacks-2-clause-serves
returns-then-lacks-2-clause-serves c =
    subst (λ v. Serves (typed_mode c.args.mask (val_of v)) c.args.mode) (sym c.nil_value.ensures)
    (only_serves c.args.mask (val_of (Sym nil_name)) c.args.mode (only_nil c.args.mask (sym c.lacks-2.ensures ∙ c.if-lacks-2.true)))

pub returns-then-lacks-3-clause-leads : goal.returns-then-lacks-3-clause-leads
returns-then-lacks-3-clause-leads c =
    subst (λ v. leads_to c.args.mask (val_of v) ≡ true) (sym c.t_value-then-lacks-3.ensures) (only_leads c.args.mask (val_of (Sym t_name)) (only_t c.args.mask (sym c.lacks-3.ensures ∙ c.if-lacks-3.true)))

pub returns-then-lacks-3-clause-serves : goal.returns-then-lacks-3-clause-serves
returns-then-lacks-3-clause-serves c =
    subst (λ v. Serves (typed_mode c.args.mask (val_of v)) c.args.mode) (sym c.t_value-then-lacks-3.ensures)
    (only_serves c.args.mask (val_of (Sym t_name)) c.args.mode (only_t c.args.mask (sym c.lacks-3.ensures ∙ c.if-lacks-3.true)))

pub returns-then-lacks-4-clause-leads : goal.returns-then-lacks-4-clause-leads
returns-then-lacks-4-clause-leads c = only_leads c.args.mask (val_of (Int (pos 0))) (only_zero c.args.mask (sym c.lacks-4.ensures ∙ c.if-lacks-4.true))

pub returns-then-lacks-4-clause-serves : goal.returns-then-lacks-4-clause-serves
returns-then-lacks-4-clause-serves c = only_serves c.args.mask (val_of (Int (pos 0))) c.args.mode (only_zero c.args.mask (sym c.lacks-4.ensures ∙ c.if-lacks-4.true))
