use Rattle.std.proofs.Common.{◌≡◌, ◌+◌, rules}
use Rattle.ap_kernel.specs.Weighing.{below, weight}
use Rattle.ap_kernel.proofs.LetGo.{one_less, apart_less}
use Rattle.ap_kernel.proofs.derivations.let_all_go.Goals as goal

pub loop-next-smaller-in_default-try_into_inner : goal.loop-next-smaller-in_default-try_into_inner
loop-next-smaller-in_default-try_into_inner c = one_less c.loop-next.left c.pop.new.self c.in-Some.next c.in-Some.ensures

pub loop-next-smaller-else-is_err : goal.loop-next-smaller-else-is_err
loop-next-smaller-else-is_err c =
    let weighs : weight c.hand_on.new.left ≡ weight c.pop.new.self + below c.in-Ok.inner = search rules in
    apart_less c.loop-next.left c.pop.new.self c.hand_on.new.left c.in-Some.next c.in-Ok.inner c.in-Some.ensures c.in-Ok.ensures.ok weighs
