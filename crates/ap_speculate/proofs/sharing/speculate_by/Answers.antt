use Rattle.ap_speculate.proofs.sharing.speculate_by.Goals as goal

pub returns-then-root_done : goal.returns-then-root_done
returns-then-root_done g c = record { done = c.root_done.ensures.0 c.if-root_done.true }
