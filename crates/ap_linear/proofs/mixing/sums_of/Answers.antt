use Rattle.std.proofs.Common.{◌≡◌, ◌-◌, ◌++◌, [], ◌∷◌, None, Some, rules, arith}
use Rattle.ap_linear.specs.Ranked.{head, sum_of_two, sums_of}
use Rattle.ap_linear.proofs.Ranks.{sums_none, sums_turn}
use Rattle.ap_linear.proofs.mixing.sums_of.Goals as goal

pub returns-in_default : goal.returns-in_default
returns-in_default c =
    let some = c.loop-count-test.true in
    let none : sum_of_two c.args.k (head c.loop-count.left.now) c.args.l (head c.loop-count.right.now) ≡ None = search rules in
    sums_none c.loop-count.count (c.loop-count.count - 1) c.args.k c.args.l c.loop-count.left.now c.loop-count.right.now c.loop-count.out (sums_of c.args.atoms c.args.k c.args.xs.now c.args.l c.args.ys.now) (omega arith) none c.loop-count.invariant

pub loop-count-preserved : goal.loop-count-preserved
loop-count-preserved c =
    let some = c.loop-count-test.true in
    let sum : sum_of_two c.args.k (head c.loop-count.left.now) c.args.l (head c.loop-count.right.now) ≡ Some c.in-Some.c = search rules in
    let made : c.push.new.self ≡ c.loop-count.out ++ c.in-Some.c ∷ [] = search rules in
    sums_turn c.loop-count.count (c.loop-count.count - 1) c.args.k c.args.l c.loop-count.left.now c.loop-count.right.now c.tail-left.result.now c.tail-right.result.now c.loop-count.out c.push.new.self c.in-Some.c
    (sums_of c.args.atoms c.args.k c.args.xs.now c.args.l c.args.ys.now) (omega arith) sum c.tail-left.ensures c.tail-right.ensures made c.loop-count.invariant
