use Rattle.ap_world.proofs.TotalMeaning.{models}
use Rattle.ap_world.proofs.Assumed.{assume_known, assume_holds, fact_says}
use Rattle.ap_kernel.proofs.assuming.assumed_facts_hold.Goals as goal

pub returns-clause-known : goal.returns-clause-known
returns-clause-known c = assume_known

pub returns-clause-hold : goal.returns-clause-hold
returns-clause-hold c = λ D total ground e fs u s k hs h.
    let (A, m) = models D total in
    assume_holds D A m ground e fs u s k hs (fact_says D A m e u s h)
