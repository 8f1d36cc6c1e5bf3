use Rattle.std.proofs.Common.{◌≡◌, true, false, Some, nat_lt, length, subst, rules}
use Rattle.ap_world.specs.World.{Shown, are_distinct}
use Rattle.ap_induct.specs.Choosing.{scheme_of}
use Rattle.ap_induct.proofs.Followed.{scheme_follows}
use Rattle.ap_strategy.specs.Goals.{defs_of}
use Rattle.ap_strategy.proofs.Grounded.{sound_lent}
use Rattle.ap_strategy.proofs.StepLeads.{induct_to}
use Rattle.ap_strategy.proofs.reducing.of_induction.Goals as goal

pub returns-clause-made : goal.returns-clause-made
returns-clause-made g c =
    let t = c.args.task.now in
    let s = c.in-Some.found in
    let few : nat_lt 9 (length t.name.induction) ≡ false = search rules in
    let found : scheme_of (defs_of t.plan) t.settings.theory t.clause t.scheme ≡ Some (s.call, s.reduction.says) = search rules in
    let lent : c.world-w.result.now ≡ t.plan.world = search rules in
    induct_to t (s.call, s.reduction.says) few found
    (scheme_follows t.plan.world.entries (sound_lent c.world-w.result.now t.plan.world lent c.recall_sound.ensures)
    (subst (λ (w : Shown). are_distinct w.entries ≡ true) lent c.recall_distinct_names.ensures) c.recall_goal.ensures.functions t.settings.theory t.clause t.scheme (s.call, s.reduction.says)
    c.recall_goal.ensures.clause c.recall_goal.ensures.scheme found).0
