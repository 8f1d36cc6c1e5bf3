use Rattle.std.proofs.Common.{◌≡◌, List, length, take}
use Rattle.ap_world.specs.Rules.{Rule}
use Rattle.ap_rules.specs.Carried.{Keeps}
use Rattle.ap_rules.proofs.carrying.cut.Given as goal

-- the first rules are still there
abbrev pub invariant-loop-groups : goal.invariant-loop-groups
invariant-loop-groups l = (rs : List Rule) → Keeps l.initial.groups l.initial.heads rs → (qs : List Rule) × Keeps l.groups l.heads qs × (take l.kept qs ≡ take l.kept rs)

abbrev pub decreases-loop-groups : goal.decreases-loop-groups
decreases-loop-groups l = length l.heads
