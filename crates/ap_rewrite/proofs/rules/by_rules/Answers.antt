use Rattle.std.proofs.Common.{◌∙◌}
use Rattle.ap_rewrite.specs.Answering.{setting_of, inner_of, seen_at}
use Rattle.ap_rewrite.proofs.Indexing.{by_index, rules_found}
use Rattle.ap_rewrite.proofs.rules.by_rules.Goals as goal

pub each_rule-requires-clause-rules : goal.each_rule-requires-clause-rules
each_rule-requires-clause-rules g c =
    rules_found c.args.l.now.r.now.w.now c.args.f.now _ (c.by_head-gs.ensures ∙ c.requires.level.ready.index.rewrites c.args.f.now)
    (c.rules_are_parts.ensures _ c.recall_distinct_names.ensures) (c.rules_hold.ensures.rules _ c.recall_sound.ensures c.requires.level.ready.ground)

pub returns-clause-is : goal.returns-clause-is
returns-clause-is g c =
    rw (← by_index c.search_by_head.ensures (setting_of c.args.l.now.r.now) (inner_of c.args.l.now.r.now c.args.l.now.levels) c.args.mode (seen_at c.args.at.now) c.args.t.now c.args.f.now c.args.us.now c.args.steps.now.left
    _ c.requires.call (c.by_head-gs.ensures ∙ c.requires.level.ready.index.rewrites c.args.f.now)) c.each_rule.ensures.is
