use Rattle.std.proofs.Common.{◌≡◌, true, take}
use Rattle.ap_list.specs.Lists.{Each}
use Rattle.ap_world.specs.World.{are_distinct}
use Rattle.ap_events.proofs.kept.have_distinct_names.Given as goal

-- those of the books that are passed
abbrev pub invariant-loop-book : goal.invariant-loop-book
invariant-loop-book l = Each (λ b. are_distinct b.1.entries ≡ true) (take l.book-index l.earlier)
