use Rattle.std.proofs.Common.{◌≡◌, ◌<◌, ◌≤◌, ◌++◌, [], pos, int_lt, unsigned_abs, true, refl, length, subst, sym, rules}
use Rattle.ap_linear.specs.Ranked.{coefficient, or_fewer, meeting, with_negative}
use Rattle.ap_linear.proofs.Walks.{rest-of, none-left, all-kept}
use Rattle.ap_linear.proofs.Turns.{one-more, negative-turn}
use Rattle.ap_linear.proofs.eliminating.add_with_negative.Goals as goal

pub returns-then-len-ge-KEPT : goal.returns-then-len-ge-KEPT
returns-then-len-ge-KEPT c =
    let full : 64 ≤ length c.loop-left.out = search rules in
    all-kept c.loop-left.out _ _ full c.loop-left.invariant.kept c.loop-left.invariant.rows

pub loop-left-preserved-in_ok-push_row : goal.loop-left-preserved-in_ok-push_row
loop-left-preserved-in_ok-push_row c =
    let n = c.args.atoms in
    let x = c.args.rank in
    let p = c.args.p.now in
    let q = c.q-item.result in
    let k = c.unsigned_abs-c.result in
    let d = c.unsigned_abs.result in
    let fewer : length c.loop-left.out < 64 = search rules in
    let negative : int_lt (coefficient x q) (pos 0) ≡ true = search rules in
    let size : d ≡ unsigned_abs (coefficient x q) = search rules in
    let made : c.push_row.new.out ≡ c.loop-left.out ++ or_fewer (meeting n k p d q) [] = search rules in
    let whole = rest-of c.loop-left.left.now q c.in-len1-up.len_at_least c.q-item.is in
    record {
      kept = subst (λ ws. length ws ≤ 64) (sym made) (one-more c.loop-left.out (meeting n k p d q) fewer);
      least = c.loop-left.invariant.least;
      is = c.loop-left.invariant.is;
      rows = negative-turn n x p q c.loop-left.out c.push_row.new.out _ c.loop-left.left.now _ k d whole negative c.loop-left.invariant.is size made c.loop-left.invariant.rows;
    }

pub returns : goal.returns
returns c = none-left (λ qs. with_negative c.args.atoms c.args.rank c.args.p.now qs) c.loop-left.out c.loop-left.left.now _ refl c.in_default.len_below c.loop-left.invariant.kept c.loop-left.invariant.rows
