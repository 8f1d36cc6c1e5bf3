use Rattle.std.proofs.Common.{◌≡◌, true, subst}
use Rattle.ap_world.specs.Sound.{Sound}
use Rattle.ap_world.specs.World.{Shown, are_distinct}
use Rattle.ap_plain.proofs.attempting.recall_sound.Goals as goal

pub returns-clause-sound : goal.returns-clause-sound
returns-clause-sound c = subst (λ (u : Shown). Sound u.entries) c.world-world.ensures c.recall_sound.ensures

pub returns-clause-distinct : goal.returns-clause-distinct
returns-clause-distinct c = subst (λ (u : Shown). are_distinct u.entries ≡ true) c.world-world.ensures c.recall_distinct_names.ensures
