use Rattle.std.proofs.Common.{ap, subst}
use Rattle.ap_rules.specs.Index.{IsIndex}
use Rattle.ap_rules.proofs.Keeping.{is_index}
use Rattle.ap_rules.proofs.worlds.Ruled.rules.Goals as goal

pub returns : goal.returns
returns c =
    let k = c.self.inside.carrier in
    subst (IsIndex k.rules) (ap (λ w. w.entries) c.self.view_is) (is_index c.self.inside.world.entries k c.self.invariant)
