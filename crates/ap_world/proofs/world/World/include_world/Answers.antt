use Rattle.std.proofs.Common.{◌≡◌, false}
use Rattle.ap_world.specs.Including.{has_clash}
use Rattle.ap_world.proofs.Included.{without_clash, included_sound}
use Rattle.ap_world.proofs.world.World.include_world.Goals as goal

pub add_missing-requires : goal.add_missing-requires
add_missing-requires c =
    let W = c.args.self.now.entries in
    let K = c.args.kept.now.entries in
    let free : has_clash W K ≡ false = cc in
    included_sound W K c.recall_sound.ensures c.recall_sound-2.ensures c.recall_distinct_names.ensures (without_clash W K free)
