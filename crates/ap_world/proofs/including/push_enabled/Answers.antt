use Rattle.std.proofs.Common.{◌++◌, ◌∷◌, [], ap, ◌∙◌}
use Rattle.ap_world.proofs.Theories.{besides_enabled, besides_disabled}
use Rattle.ap_world.proofs.including.push_enabled.Goals as goal

pub returns-then-not-enables : goal.returns-then-not-enables
returns-then-not-enables c = besides_disabled c.args.theory.now c.args.out.now c.args.rune.now c.enables.result c.enables.ensures.enabled c.if-not-enables.true

pub returns : goal.returns
returns c =
    c.in_ok-push.ensures.ok ∙ ap (λ s. c.args.out.now ++ s ∷ []) c.in_ok-copied.ensures
    ∙ besides_enabled c.args.theory.now c.args.out.now c.args.rune.now c.enables.result c.enables.ensures.enabled c.if-not-enables.false
