use Rattle.ap_world.proofs.Covering.{covers_world, covers_book}
use Rattle.ap_world.proofs.Included.{without_clash, included_sound, included_distinct}
use Rattle.ap_world.proofs.laws.included_worlds_are_sound.Goals as goal

pub returns-clause-sound : goal.returns-clause-sound
returns-clause-sound c = λ W K sound kept distinct h. included_sound W K sound kept distinct (without_clash W K h)

pub returns-clause-distinct : goal.returns-clause-distinct
returns-clause-distinct c = included_distinct

pub returns-clause-covers : goal.returns-clause-covers
returns-clause-covers c = λ W K h. (covers_world W K, covers_book W K (without_clash W K h))
