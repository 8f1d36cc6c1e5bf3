-- What is dropped in the walks of events.
use Rattle.std.specs.Prelude.{List}
use Rattle.ap_table.specs.declared.link.DropNote.{DropNote}
use Rattle.ap_attempt.specs.Attempts.{RootedWalk}
use Rattle.ap_attempt.specs.Drops.{Divided}
use Rattle.ap_strategy.specs.Goals.{Goal}
use Rattle.ap_strategy.specs.Steps.{step_of, depth_of}

-- notes that divide in order into a part for each walk, each note one that its walk may make
abbrev pub DividedWalks : List DropNote → List (RootedWalk Goal) → Type 0
DividedWalks notes walks = Divided step_of depth_of (λ g. g.name) notes walks
