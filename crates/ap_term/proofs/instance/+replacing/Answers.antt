use Rattle.std.proofs.Common.{arith, rules, ◌≡◌, ◌<◌, length}
use Rattle.ap_term.proofs.Seen.{deeper}
use Rattle.ap_term.proofs.Pushes.{mapped_more}
use Rattle.ap_term.specs.Terms.{subst_of}
use Rattle.ap_term.proofs.instance.+replacing.Goals as goal

pub subst-subst_all-requires : goal.subst-subst_all-requires
subst-subst_all-requires t c = let d = deeper c.t.view_is c.in-Call.is c.as_slice-in-Call.ensures in (omega (arith, c.decreases), tt)

pub subst_all-loop-t-preserved : goal.subst_all-loop-t-preserved
subst_all-loop-t-preserved t c =
    let within : c.loop-t.t-index < length c.args.ts.now = search rules in
    mapped_more (subst_of c.args.s.now.0) c.args.ts.now c.loop-t.t-index c.t-item.result c.in_ok-subst.field-0 c.loop-t.out c.push.new.self within c.t-item.is c.in_ok-subst.ensures c.in_ok-push.ensures.ok c.loop-t.invariant
