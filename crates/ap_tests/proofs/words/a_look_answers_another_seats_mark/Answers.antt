use Rattle.std.proofs.Common.{ap, ◌∙◌}
use Rattle.ap_word.specs.declared.family.View.{View}
use Rattle.ap_tests.proofs.Stops.{stops_by_second}
use Rattle.ap_tests.proofs.words.a_look_answers_another_seats_mark.Goals as goal

pub mark-requires-clause-stops : goal.mark-requires-clause-stops
mark-requires-clause-stops g c = stops_by_second _ (ap (λ (v : View). v.family) c.split.ensures.table.1 ∙ c.in_ok-word.ensures.view)
