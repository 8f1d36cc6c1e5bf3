use Rattle.std.proofs.Common.{◌≡◌, IfOk, map, subst}
use Rattle.ap_term.specs.Terms.{subst_of}
use Rattle.ap_world.specs.Clauses.{negate}
use Rattle.ap_kernel.proofs.induction.negated_under.Goals as goal

pub returns : goal.returns
returns c = subst (λ z. IfOk c.negated_instances.result (λ us. us ≡ map (λ t. negate (subst_of z t)) c.args.literals.now)) c.in_ok-moved.ensures c.negated_instances.ensures
