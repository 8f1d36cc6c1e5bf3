use Rattle.std.proofs.Common.{◌≡◌, ap, ◌∙◌, sym}
use Rattle.std.proofs.lemmas.Result.{IfOk-weaker}
use Rattle.ap_world.specs.Including.{besides, merged}
use Rattle.ap_world.proofs.Theories.{merged_none, merged_some}
use Rattle.ap_world.proofs.including.merged.Goals as goal

pub returns-then-is_empty : goal.returns-then-is_empty
returns-then-is_empty c =
    let h = c.args.theory.now in
    let k = c.args.other.now in
    IfOk-weaker c.copy_theory.result (λ t. t ≡ h) (λ t. t ≡ merged h k)
    (λ t e. e ∙ merged_none h k (ap (besides h.disabled) (sym c.disabled.ensures) ∙ sym c.in_ok-more.ensures ∙ c.is_empty.ensures.0 c.if-is_empty.true)) c.copy_theory.ensures

pub returns : goal.returns
returns c =
    let h = c.args.theory.now in
    let k = c.args.other.now in
    IfOk-weaker c.disabling.result (λ t. t ≡ record { disabled = c.append.new.self }) (λ t. t ≡ merged h k)
    (λ t e. e ∙ merged_some h k c.in_ok-runes.runes c.in_ok-more.more c.append.new.self (c.in_ok-runes.ensures ∙ c.disabled-2.ensures)
    (c.in_ok-more.ensures ∙ ap (besides h.disabled) c.disabled.ensures) c.in_ok-append.ensures.ok) c.disabling.ensures
