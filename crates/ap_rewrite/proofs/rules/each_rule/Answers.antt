use Rattle.std.proofs.Common.{◌≡◌, ◌∙◌, Some, map, ap, subst, arith}
use Rattle.std.proofs.lemmas.List.{drop_all}
use Rattle.ap_list.specs.Lists.{Each}
use Rattle.ap_rules.specs.Made.{rule_in}
use Rattle.ap_rewrite.specs.declared.rewriter.Tried.TheVariants.{Applied, PassedBy}
use Rattle.ap_rewrite.specs.Rewriting.{try_rule}
use Rattle.ap_rewrite.specs.Answering.{setting_of, inner_of, seen_at, IsRuleOf}
use Rattle.ap_rewrite.proofs.Arguments.{from_place}
use Rattle.ap_rewrite.proofs.Ruled.{search_out, search_some, search_next, search_end}
use Rattle.ap_rewrite.proofs.rules.each_rule.Goals as goal

pub try_rule-requires-clause-rule : goal.try_rule-requires-clause-rule
try_rule-requires-clause-rule g c =
    (subst (Each (IsRuleOf c.args.l.now.r.now.w.now)) (ap (map rule_in) (from_place c.args.gs.now c.loop-g.g-index c.g-item.result (omega arith) c.g-item.is)) c.loop-g.invariant.rules).0

pub loop-g-preserved : goal.loop-g-preserved
loop-g-preserved g c =
    let there : c.in_ok-try_rule.field-0 ≡ Some PassedBy = c.in-Some-PassedBy.is ∙ ap Some c.in-Some-PassedBy.field-0-is in
    record {
      is = search_next (try_rule (setting_of c.args.l.now.r.now) (inner_of c.args.l.now.r.now c.args.l.now.levels) c.args.mode (seen_at c.args.at.now) c.args.t.now) _ _ _ _ _ c.try_rule.new.steps.left
          (ap (map rule_in) (from_place c.args.gs.now c.loop-g.g-index c.g-item.result (omega arith) c.g-item.is)) c.loop-g.invariant.is (rw there at c.in_ok-try_rule.ensures.is);
      rules = (subst (Each (IsRuleOf c.args.l.now.r.now.w.now)) (ap (map rule_in) (from_place c.args.gs.now c.loop-g.g-index c.g-item.result (omega arith) c.g-item.is)) c.loop-g.invariant.rules).1;
      kept = c.try_rule.ensures.kept ∙ c.loop-g.invariant.kept;
    }

pub returns-in-None-clause-is : goal.returns-in-None-clause-is
returns-in-None-clause-is g c =
    search_out (try_rule (setting_of c.args.l.now.r.now) (inner_of c.args.l.now.r.now c.args.l.now.levels) c.args.mode (seen_at c.args.at.now) c.args.t.now) _ _ _ _ _ c.try_rule.new.steps.left
    (ap (map rule_in) (from_place c.args.gs.now c.loop-g.g-index c.g-item.result (omega arith) c.g-item.is)) c.loop-g.invariant.is (rw c.in-None.is at c.in_ok-try_rule.ensures.is)

pub returns-in-Some-Applied-clause-is : goal.returns-in-Some-Applied-clause-is
returns-in-Some-Applied-clause-is g c =
    let there : c.in_ok-try_rule.field-0 ≡ Some (Applied c.in-Some-Applied.q) = c.in-Some-Applied.is ∙ ap Some c.in-Some-Applied.field-0-is in
    search_some (try_rule (setting_of c.args.l.now.r.now) (inner_of c.args.l.now.r.now c.args.l.now.levels) c.args.mode (seen_at c.args.at.now) c.args.t.now) _ _ _ _ _ c.try_rule.new.steps.left
    (ap (map rule_in) (from_place c.args.gs.now c.loop-g.g-index c.g-item.result (omega arith) c.g-item.is)) c.loop-g.invariant.is c.in-Some-Applied.q.says.rhs (rw there at c.in_ok-try_rule.ensures.is)

pub returns-clause-is : goal.returns-clause-is
returns-clause-is g c =
    search_end (try_rule (setting_of c.args.l.now.r.now) (inner_of c.args.l.now.r.now c.args.l.now.levels) c.args.mode (seen_at c.args.at.now) c.args.t.now) _ _ _
    (ap (map rule_in) (drop_all c.loop-g.g-index c.args.gs.now (omega arith))) c.loop-g.invariant.is
