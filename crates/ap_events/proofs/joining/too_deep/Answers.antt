use Rattle.std.proofs.Common.{IfOk, subst}
use Rattle.ap_world.specs.World.{Shown}
use Rattle.ap_stated.specs.declared.refusing.Refusal.{Refusal}
use Rattle.ap_plain.specs.Ends.{refused_alone, Did}
use Rattle.ap_events.specs.Nested.{head_text}
use Rattle.ap_events.proofs.joining.too_deep.Goals as goal

pub returns-in-Some-clause-done : goal.returns-in-Some-clause-done
returns-in-Some-clause-done c =
    subst (λ o. IfOk c.refused_head.result (λ e. (w : Shown) → Did (refused_alone (head_text o) Refusal.NotSupported) w w e)) c.in-Some.ensures c.refused_head.ensures.done

pub returns-in-None-clause-done : goal.returns-in-None-clause-done
returns-in-None-clause-done c =
    subst (λ o. IfOk c.refused_alone.result (λ e. (w : Shown) → Did (refused_alone (head_text o) Refusal.NotSupported) w w e)) c.in-None.ensures c.refused_alone.ensures.done
