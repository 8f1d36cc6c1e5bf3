use Rattle.std.proofs.Common.{[], ◌∷◌, sym, ap, subst}
use Rattle.ap_world.specs.Meaning.{Valid}
use Rattle.ap_world.specs.World.{function_of}
use Rattle.ap_rules.proofs.worlds.Ruled.add_theorem.Goals as goal

pub add_theorem-added-requires-clause-valid : goal.add_theorem-added-requires-clause-valid
add_theorem-added-requires-clause-valid c =
    subst (λ W. Valid (function_of W) (c.args.term ∷ [])) (sym (ap (λ w. w.entries) c.self.view_is)) c.requires.valid
