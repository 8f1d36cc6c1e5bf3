use Rattle.std.proofs.Common.{◌≡◌, Bool, false, ◌↔◌, ◌∙◌, subst, sym}
use Rattle.std.specs.Prelude.{Contains}
use Rattle.ap_world.proofs.Theories.{enabled_is, disabled_listed}
use Rattle.ap_world.proofs.theory.Theory.enables.Goals as goal

pub returns-clause-enabled : goal.returns-clause-enabled
returns-clause-enabled c = c.is_enabled.ensures ∙ enabled_is c.args.self.now c.args.rune.now c.kind.result c.symbol.result.now c.kind.ensures c.symbol.ensures

pub returns-clause-listed : goal.returns-clause-listed
returns-clause-listed c =
    subst (λ (b : Bool). (b ≡ false) ↔ Contains c.args.self.now.disabled c.args.rune.now)
    (sym (c.is_enabled.ensures ∙ enabled_is c.args.self.now c.args.rune.now c.kind.result c.symbol.result.now c.kind.ensures c.symbol.ensures))
    (disabled_listed c.args.self.now.disabled c.args.rune.now)
