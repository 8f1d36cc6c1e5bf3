use Rattle.std.proofs.Common.{◌≡◌, ◌-◌, suc, ap, rules, arith, ◌∙◌, sym}
use Rattle.ap_linear.specs.Ranked.{eliminated, left_after}
use Rattle.ap_linear.proofs.eliminating.left_after.Goals as goal

pub loop-left-preserved : goal.loop-left-preserved
loop-left-preserved c =
    let i = c.loop-left.left in
    let n = c.args.atoms in
    let some = c.loop-left-test.true in
    let next : i ≡ suc (i - 1) = omega arith in
    let made : c.in_ok-out.out ≡ eliminated n (i - 1) c.loop-left.out = search rules in
    ap (left_after n (i - 1)) made ∙ sym (ap (λ m. left_after n m c.loop-left.out) next) ∙ c.loop-left.invariant
