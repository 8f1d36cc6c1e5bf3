use Rattle.std.proofs.Common.{◌≡◌, ◌+◌, ◌-◌, suc, length, take, drop, ap, sym, subst, rules, arith}
use Rattle.ap_poly.specs.Elimination.{rows_of}
use Rattle.ap_linear.specs.Ranked.{AllListed}
use Rattle.ap_linear.proofs.Walks.{shifted-none, rest-of}
use Rattle.ap_linear.proofs.Ranks.{ranked-next}
use Rattle.ap_linear.proofs.rows.rows_of.Goals as goal

pub loop-left-init : goal.loop-left-init
loop-left-init c = record { count = omega arith; listed = c.requires.listed; rows = rw c.new-rows.ensures (shifted-none (rows_of c.args.polys.now)) }

pub row_of-requires-clause-listed : goal.row_of-requires-clause-listed
row_of-requires-clause-listed c =
    let left = c.loop-left.left.now in
    let whole = rest-of left c.p-item.result c.in-len1-up.len_at_least c.p-item.is in
    (subst (AllListed c.args.atoms.now) (sym whole) c.loop-left.invariant.listed).0

pub loop-left-preserved : goal.loop-left-preserved
loop-left-preserved c =
    let left = c.loop-left.left.now in
    let rest = take (length left - 1) (drop 1 left) in
    let p = c.p-item.result in
    let whole = rest-of left p c.in-len1-up.len_at_least c.p-item.is in
    let longer : suc (length rest) ≡ length left = ap length whole in
    let count = c.loop-left.invariant.count in
    let next : c.loop-left.before + 1 ≡ suc c.loop-left.before = omega arith in
    record {
      count = omega arith;
      listed = (subst (AllListed c.args.atoms.now) (sym whole) c.loop-left.invariant.listed).1;
      rows = ranked-next c.args.atoms.now c.loop-left.rows c.push.new.self c.in_ok-row.row c.loop-left.before (c.loop-left.before + 1) p rest left (rows_of c.args.polys.now) whole next (search rules) (search rules) c.loop-left.invariant.rows;
    }
