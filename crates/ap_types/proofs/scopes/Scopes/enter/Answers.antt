use Rattle.std.proofs.Common.{◌≡◌, [], OnOk, subst, rules}
use Rattle.ap_world.specs.Facts.{Facts}
use Rattle.ap_world.specs.Assume.{assume}
use Rattle.ap_types.specs.Scopes.{in_scope}
use Rattle.ap_types.specs.Spoken.{Marks, AreApart}
use Rattle.ap_types.proofs.Scoped.{one_entered, enter_notes}
use Rattle.ap_types.proofs.scopes.Scopes.enter.Goals as goal

pub invariant_of-self : goal.invariant_of-self
invariant_of-self c =
    enter_notes c.push.result c.self.inside.spoken_of c.mark_facts.new.spoken_of c.self.inside.contexts c.push.new.self c.in_ok-scope.scope c.self.invariant
    (subst (λ fs. Marks c.self.inside.spoken_of c.mark_facts.new.spoken_of (AreApart fs)) c.facts.ensures c.mark_facts.ensures) c.push.ensures.ok c.push.ensures.err

pub returns-clause-facts : goal.returns-clause-facts
returns-clause-facts c =
    let is : c.in_ok-scope.scope.0 ≡ assume [] c.args.test.now c.args.sign = search rules in
    subst (λ cs. OnOk c.push.result ((fs : Facts) → in_scope fs c.push.new.self ≡ assume (in_scope fs cs) c.args.test.now c.args.sign)) c.self.view_is
    (one_entered c.push.result c.self.inside.contexts c.push.new.self c.in_ok-scope.scope c.args.test.now c.args.sign is c.push.ensures.ok)
