use Rattle.std.proofs.lemmas.Result.{on_ok_weaker}
use Rattle.ap_kernel.proofs.LetGo.{one_on, many_on}
use Rattle.ap_kernel.proofs.derivations.hand_on.Goals as goal

pub returns-in-One : goal.returns-in-One
returns-in-One c = on_ok_weaker c.push.result (one_on c.args.left.now c.push.new.self c.args.d c.in-One.a c.in-One._row c.in-One.is) c.push.ensures.ok

pub returns-in-Many : goal.returns-in-Many
returns-in-Many c = on_ok_weaker c.append.result (many_on c.args.left.now c.append.new.self c.in-Many.from c.args.d c.in-Many._row c.in-Many.is) c.append.ensures.ok
