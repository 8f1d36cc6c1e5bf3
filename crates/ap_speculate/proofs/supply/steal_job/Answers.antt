use Rattle.std.proofs.Common.{◌∙◌}
use Rattle.ap_speculate.proofs.Siding.{sided_set, set_back}
use Rattle.ap_speculate.proofs.supply.steal_job.Goals as goal

pub loop-dealer-preserved : goal.loop-dealer-preserved
loop-dealer-preserved g c =
    sided_set c.loop-dealer.dealer-index c.loop-dealer.dealer-items c.dealer-item.result c.steal.new.self c.steal.ensures.same ∙ c.loop-dealer.invariant

pub returns-in-Some-clause-same : goal.returns-in-Some-clause-same
returns-in-Some-clause-same g c =
    set_back c.args.others.now.len c.loop-dealer.dealer-index c.loop-dealer.dealer-items _ c.dealer-item.result c.steal.new.self (c.loop-dealer.auto.dealer-items ∙ c.deref_mut-dealer-items.ensures.len) c.steal.ensures.same ∙
    c.loop-dealer.invariant
