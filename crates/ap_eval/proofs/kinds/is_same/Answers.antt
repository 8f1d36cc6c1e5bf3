use Rattle.ap_value.specs.Values.{val_of}
use Rattle.ap_eval.proofs.Sameness.{test_is}
use Rattle.ap_eval.proofs.kinds.is_same.Goals as goal

pub returns : goal.returns
returns c = test_is c.same.result (val_of c.args.a.now) (val_of c.args.b.now) c.same.ensures.meant
