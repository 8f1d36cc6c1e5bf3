use Rattle.ap_world.proofs.Adding.{sound-constant}
use Rattle.ap_world.proofs.world.World.add_constant.Goals as goal

pub add-requires : goal.add-requires
add-requires c = λ _. sound-constant c.args.self.now.entries c.args.name c.args.value c.recall_sound.ensures
