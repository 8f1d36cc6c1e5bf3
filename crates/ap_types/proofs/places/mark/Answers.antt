use Rattle.std.proofs.Common.{arith, rules}
use Rattle.ap_types.proofs.Unspoken.{marked}
use Rattle.ap_types.proofs.places.mark.Goals as goal

pub returns : goal.returns
returns c = marked c.args.spoken_of.now c.place_of.result c.args.t.now c.place_of.ensures.is (search (rules, arith))
