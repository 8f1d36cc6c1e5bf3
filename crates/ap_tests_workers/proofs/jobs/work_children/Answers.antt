use Rattle.std.proofs.Common.{List, Option, sym, subst, ◌∙◌}
use Rattle.ap_word.specs.Seats.{TableId}
use Rattle.ap_tests_workers.specs.Held.{SeatsOf}
use Rattle.ap_tests_workers.proofs.jobs.work_children.Goals as goal

pub put-requires : goal.put-requires
put-requires g c = subst (λ (ws : List (Option TableId)). SeatsOf ws c.claim-a.result) (sym (c.claim-c.ensures.words ∙ c.claim-b.ensures.words)) c.claim-a.ensures.of
