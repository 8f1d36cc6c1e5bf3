use Rattle.std.proofs.Common.{◌≡◌, ◌≤◌, ◌++◌, pos, int_lt, true, refl, length, take, subst, sym, rules}
use Rattle.ap_linear.specs.Ranked.{coefficient, with_negative, with_positive}
use Rattle.ap_linear.proofs.Walks.{rest-of, none-left, take-short}
use Rattle.ap_linear.proofs.Turns.{positive-turn}
use Rattle.ap_linear.proofs.eliminating.add_with_positive.Goals as goal

pub loop-left-preserved-in_ok-add_with_negative : goal.loop-left-preserved-in_ok-add_with_negative
loop-left-preserved-in_ok-add_with_negative c =
    let n = c.args.atoms in
    let x = c.args.rank in
    let p = c.p-item.result in
    let rs = c.args.rows.now in
    let positive : int_lt (pos 0) (coefficient x p) ≡ true = search rules in
    let made : c.add_with_negative.new.out ≡ take 64 (c.loop-left.out ++ with_negative n x p rs) = search rules in
    let whole = rest-of c.loop-left.left.now p c.in-len1-up.len_at_least c.p-item.is in
    record {
      kept = subst (λ ws. length ws ≤ 64) (sym made) (take-short 64 (c.loop-left.out ++ with_negative n x p rs));
      rows = positive-turn n x rs c.loop-left.out c.add_with_negative.new.out p _ c.loop-left.left.now _ whole positive made c.loop-left.invariant.rows;
    }

pub returns : goal.returns
returns c = none-left (λ ps. with_positive c.args.atoms c.args.rank ps c.args.rows.now) c.loop-left.out c.loop-left.left.now _ refl c.in_default.len_below c.loop-left.invariant.kept c.loop-left.invariant.rows
