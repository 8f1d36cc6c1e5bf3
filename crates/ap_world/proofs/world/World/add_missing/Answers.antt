use Rattle.std.proofs.Common.{ap, ◌∙◌}
use Rattle.ap_world.specs.World.{are_distinct}
use Rattle.ap_world.proofs.world.World.add_missing.Goals as goal

pub add_missing-requires : goal.add_missing-requires
add_missing-requires c = ap are_distinct c.entries.ensures ∙ c.recall_distinct_names.ensures
