use Rattle.std.proofs.Common.{◌<◌, length, rules}
use Rattle.ap_term.specs.Terms.{subst_of}
use Rattle.ap_term.proofs.Pushes.{mapped_more}
use Rattle.ap_world.specs.Clauses.{negate}
use Rattle.ap_kernel.proofs.induction.negated_instances.Goals as goal

pub loop-t-preserved : goal.loop-t-preserved
loop-t-preserved c =
    let within : c.loop-t.t-index < length c.args.terms.now = search rules in
    mapped_more (λ t. negate (subst_of c.args.s.now.0 t)) c.args.terms.now c.loop-t.t-index c.t-item.result c.in_ok-negated_instance.field-0 c.loop-t.out c.push.new.self
    within c.t-item.is c.in_ok-negated_instance.ensures c.in_ok-push.ensures.ok c.loop-t.invariant
