use Rattle.ap_world.proofs.Adding.{sound-theorem}
use Rattle.ap_world.proofs.world.World.add_theorem.Goals as goal

pub add-requires : goal.add-requires
add-requires c =
    λ _.
    sound-theorem c.args.self.now.entries (record { name = c.args.name; term = c.args.term; classes = c.args.classes })
    c.recall_sound.ensures c.requires.known c.requires.valid
