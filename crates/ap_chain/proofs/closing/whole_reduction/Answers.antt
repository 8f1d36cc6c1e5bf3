use Rattle.std.proofs.Common.{◌∙◌, List, sym, subst}
use Rattle.ap_walk.specs.Visits.{Visit}
use Rattle.ap_strategy.specs.Goals.{Goal}
use Rattle.ap_chain.specs.Fitting.{IsAmong, Fit}
use Rattle.ap_chain.proofs.Turns.{proved_fits}
use Rattle.ap_chain.proofs.closing.whole_reduction.Goals as goal

pub returns-clause-whole : goal.returns-clause-whole
returns-clause-whole g c = λ p.
    let fits = proved_fits _ _ p in
    c.closed.ensures.whole
    (subst Fit (sym (c.as_slice.ensures ∙ c.in_ok-marks.ensures)) fits.0)
    (subst (λ (vs : List (Visit Goal)). IsAmong vs c.args.clause.now) (sym (c.as_slice.ensures ∙ c.in_ok-marks.ensures)) fits.1)
