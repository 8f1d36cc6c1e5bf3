use Rattle.std.proofs.Common.{ap, ◌∙◌}
use Rattle.std.specs.Option.{option_copied}
use Rattle.ap_world.specs.Prescribing.{is_name}
use Rattle.ap_world.specs.Kept.{with_place}
use Rattle.ap_world.proofs.Places.{symbol_eq-turned}
use Rattle.ap_world.proofs.tables.Tables.remove_last.Goals as goal

pub returns-in-Some-clause-places : goal.returns-in-Some-clause-places
returns-in-Some-clause-places c = λ f places place h.
    c.remove_last-in-Some.ensures f places place
    (h ∙ ap (λ b. with_place b place places) (ap (λ o. is_name f (option_copied o)) c.in-Some.is ∙ symbol_eq-turned f c.in-Some.function.now))
