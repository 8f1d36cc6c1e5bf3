use Rattle.std.proofs.Common.{List, reverse, sym, subst}
use Rattle.ap_list.specs.Lists.{Each}
use Rattle.ap_rules.specs.declared.linear.LinearRule.{LinearRule}
use Rattle.ap_rules.specs.Linear.{LinearHolds}
use Rattle.ap_kernel.proofs.Typed.{each_at}
use Rattle.ap_rewrite.specs.Answering.{defs_in}
use Rattle.ap_rewrite.specs.Refuting.{IsToldBy}
use Rattle.ap_rewrite.proofs.Told.{all_told}
use Rattle.ap_rewrite.proofs.LinearUsed.{each_back}
use Rattle.ap_rewrite.proofs.linear_rules.used_each.Goals as goal

pub used-requires-clause-rule : goal.used-requires-clause-rule
used-requires-clause-rule g c =
    each_at (LinearHolds (defs_in c.args.l.now.r.now)) c.args.l.now.r.now.rules.now.linear _ c.in-Some.g.now
    (each_back (LinearHolds (defs_in c.args.l.now.r.now)) c.args.l.now.r.now.rules.now.linear
    (subst (λ (gs : List LinearRule). Each (LinearHolds (defs_in c.args.l.now.r.now)) (reverse gs)) (sym c.requires.level.ready.index.linear)
    (c.linear_rules_hold.ensures c.args.l.now.r.now.w.now.entries c.recall_sound.ensures c.requires.level.ready.ground)))
    (sym c.in-Some.ensures)

pub used-requires-clause-told : goal.used-requires-clause-told
used-requires-clause-told g c =
    each_at (IsToldBy c.args.l.now.r.now.w.now.entries) c.args.l.now.r.now.rules.now.linear _ c.in-Some.g.now
    (subst (Each (IsToldBy c.args.l.now.r.now.w.now.entries)) (sym c.requires.level.ready.index.linear) (all_told c.args.l.now.r.now.w.now.entries c.recall_distinct_names.ensures))
    (sym c.in-Some.ensures)
