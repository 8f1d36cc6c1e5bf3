use Rattle.ap_types.proofs.Unspoken.{marks_next}
use Rattle.ap_types.proofs.places.mark_facts.Goals as goal

pub loop-fact-preserved : goal.loop-fact-preserved
loop-fact-preserved c =
    marks_next c.args.facts.now c.loop-fact.fact-index c.loop-fact-item.result c.args.spoken_of.now c.loop-fact.spoken_of c.mark_fact.new.spoken_of c.loop-fact-test.true c.loop-fact-item.is c.loop-fact.invariant c.mark_fact.ensures
