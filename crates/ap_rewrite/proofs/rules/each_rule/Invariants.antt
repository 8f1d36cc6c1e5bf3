use Rattle.std.proofs.Common.{◌≡◌, map, drop}
use Rattle.ap_list.specs.Lists.{Each}
use Rattle.ap_term.specs.Metered.{first_that}
use Rattle.ap_rules.specs.Made.{rule_in}
use Rattle.ap_rewrite.specs.Rewriting.{try_rule}
use Rattle.ap_rewrite.specs.Answering.{setting_of, inner_of, seen_at, IsRuleOf}
use Rattle.ap_rewrite.proofs.rules.each_rule.Given as goal

-- what is left to be tried gives what all of them give; and the memo stays
abbrev pub invariant-loop-g : goal.invariant-loop-g
invariant-loop-g g l = record {
  is : first_that (map (try_rule (setting_of l.l.r.now) (inner_of l.l.r.now l.l.levels) l.mode (seen_at l.at) l.t) (map rule_in l.gs)) l.fn.steps.left
      ≡ first_that (map (try_rule (setting_of l.l.r.now) (inner_of l.l.r.now l.l.levels) l.mode (seen_at l.at) l.t) (map rule_in (drop l.g-index l.gs))) l.steps.left;
  rules : Each (IsRuleOf l.l.r.now.w.now) (map rule_in (drop l.g-index l.gs));
  kept : l.steps.memo ≡ l.fn.steps.memo;
}
