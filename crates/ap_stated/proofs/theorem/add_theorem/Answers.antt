use Rattle.std.proofs.Common.{subst}
use Rattle.ap_world.specs.Sound.{Sound}
use Rattle.ap_world.specs.World.{Shown}
use Rattle.ap_stated.proofs.Standing.{theorem_valid}
use Rattle.ap_stated.proofs.theorem.add_theorem.Goals as goal

pub add_theorem-requires-clause-valid : goal.add_theorem-requires-clause-valid
add_theorem-requires-clause-valid c =
    theorem_valid c.args.w.now c.args.theorem (subst (λ (u : Shown). Sound u.entries) c.world.ensures c.recall_sound.ensures) c.requires.functions c.requires.stated c.requires.valid.0
