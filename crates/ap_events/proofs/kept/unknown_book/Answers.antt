use Rattle.std.proofs.Common.{IfOk, subst, ◌∙◌}
use Rattle.ap_world.specs.World.{Shown}
use Rattle.ap_stated.specs.declared.refusing.Refusal.{Refusal}
use Rattle.ap_plain.specs.Ends.{refused_alone, Did}
use Rattle.ap_events.proofs.kept.unknown_book.Goals as goal

pub returns-clause-done : goal.returns-clause-done
returns-clause-done c =
    subst (λ title. IfOk c.refused_alone.result (λ e. (w : Shown) → Did (refused_alone title Refusal.NoSuchBook) w w e)) (c.as_slice.ensures ∙ c.in_ok-title.ensures) c.refused_alone.ensures.done
