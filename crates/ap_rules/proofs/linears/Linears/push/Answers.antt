use Rattle.std.proofs.Common.{sym, ◌∙◌}
use Rattle.ap_rules.proofs.Placing.{placed_more, placed_still}
use Rattle.ap_rules.proofs.linears.Linears.push.Goals as goal

pub invariant_of-self-in_default-add_place : goal.invariant_of-self-in_default-add_place
invariant_of-self-in_default-add_place c =
    placed_more c.self.inside.places.entries c.add_place.new.places.entries c.in-Some.head c.self.inside.rules c.push.new.self c.args.rule c.len-place.result
    (sym c.in_ok-head.ensures ∙ c.in-Some.is) c.len-place.ensures c.in_ok-push.ensures.ok c.in_default-add_place.ensures.ok c.self.invariant

pub invariant_of-self-in_default : goal.invariant_of-self-in_default
invariant_of-self-in_default c =
    placed_still c.self.inside.places.entries c.self.inside.rules c.push.new.self c.args.rule (sym c.in_ok-head.ensures ∙ c.in_default.is) c.in_ok-push.ensures.ok c.self.invariant
