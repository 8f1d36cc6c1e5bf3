use Rattle.std.proofs.Common.{List, Option, sym, subst}
use Rattle.ap_list.specs.Lists.{Each}
use Rattle.ap_word.specs.Seats.{TableId}
use Rattle.ap_table.specs.Worded.{IsOf, FoundOf}
use Rattle.ap_speculate.proofs.sharing.work_alone.Goals as goal

pub work_claimed-requires-clause-words : goal.work_claimed-requires-clause-words
work_claimed-requires-clause-words g c =
    subst (λ (ws : List (Option TableId)). Each (IsOf ws) c.in-Found.job.seats) (sym c.claim_step.ensures.words) (subst (FoundOf c.loop.state.words) c.in-Found.is c.claim_step.ensures.of)
