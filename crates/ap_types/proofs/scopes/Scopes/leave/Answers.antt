use Rattle.std.proofs.Common.{sym, subst}
use Rattle.ap_types.specs.Scopes.{entered}
use Rattle.ap_types.specs.Spoken.{Unspoken}
use Rattle.ap_types.proofs.Scoped.{leave_notes}
use Rattle.ap_types.proofs.scopes.Scopes.leave.Goals as goal

pub invariant_of-self : goal.invariant_of-self
invariant_of-self c =
    subst (λ cs. Unspoken c.self.inside.spoken_of (entered cs)) (sym c.truncate.ensures) (leave_notes c.self.inside.spoken_of c.self.inside.contexts c.args.kept c.self.invariant)
