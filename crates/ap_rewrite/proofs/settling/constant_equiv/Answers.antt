use Rattle.std.proofs.Common.{◌≡◌, true, sym, ap, ◌∙◌, subst}
use Rattle.ap_world.specs.World.{function_of}
use Rattle.ap_world.specs.Sound.{known}
use Rattle.ap_world.proofs.Knowing.{known_quote}
use Rattle.ap_rewrite.specs.Leading.{leads_made}
use Rattle.ap_rewrite.proofs.Settled.{becomes_there, becomes_says, constant_stays}
use Rattle.ap_rewrite.proofs.settling.constant_equiv.Goals as goal

pub constant_truth-requires-clause-constant : goal.constant_truth-requires-clause-constant
constant_truth-requires-clause-constant c = becomes_there c.args.mode c.args.v.now c.args.t.now c.requires.constant (sym c.becomes_true-becomes.ensures ∙ c.if-becomes.true)

pub refl-requires-clause-term : goal.refl-requires-clause-term
refl-requires-clause-term c = subst (λ u. known (function_of c.args.w.now.entries) u ≡ true) (sym c.requires.constant) (known_quote (function_of c.args.w.now.entries) c.args.v.now)

pub returns-then-becomes-clause-made : goal.returns-then-becomes-clause-made
returns-then-becomes-clause-made c =
    c.in_ok-truth.ensures.made ∙ becomes_says c.args.ctx.now c.args.mode c.args.t.now c.args.v.now (sym c.becomes_true-becomes.ensures ∙ c.if-becomes.true)

pub returns-clause-made : goal.returns-clause-made
returns-clause-made c =
    c.in_ok-same.ensures.made ∙ ap (leads_made c.args.ctx.now c.args.mode c.args.t.now)
    (c.requires.constant ∙ sym (constant_stays c.args.mode c.args.v.now (sym c.becomes_true-becomes.ensures ∙ c.if-becomes.false)))
