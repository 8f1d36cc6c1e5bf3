use Rattle.std.proofs.Common.{zip}
use Rattle.ap_translate.specs.Instances.{kept_in_turn}
use Rattle.ap_translate.proofs.Counted.{turn_back, turns_done}
use Rattle.ap_translate.proofs.instance.instance_in_turn.Goals as goal

pub loop-name-preserved : goal.loop-name-preserved
loop-name-preserved c =
    let p = turn_back c.loop-name.left.now c.in-Some.rest.now c.in-Some.name.now c.loop-name.values.now c.in-Some-split_last.more.now c.in-Some-split_last.kept.now c.loop-name.inner
    c.in_ok-inner.inner (kept_in_turn (zip c.args.names.now c.args.terms.now) c.args.term) c.loop-name.invariant.paired c.in-Some.ensures.cases.0 c.in-Some-split_last.ensures.cases.0
    c.in_ok-inner.ensures c.loop-name.invariant.told in
    record {
      told = p.0;
      paired = p.1;
    }

pub returns : goal.returns
returns c = turns_done c.loop-name.left.now c.loop-name.values.now c.loop-name.inner _ c.in_default.ensures.cases c.loop-name.invariant.told
