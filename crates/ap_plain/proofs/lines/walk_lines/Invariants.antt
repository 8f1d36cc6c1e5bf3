use Rattle.std.proofs.Common.{◌≡◌, ◌+◌, ◌<◌, ◌^◌, ◌++◌, length}
use Rattle.ap_attempt.specs.Laws.{mark_count}
use Rattle.ap_plain.specs.Lines.{walks_text}
use Rattle.ap_plain.proofs.lines.walk_lines.Given as goal

-- the lines so far stand before those of the walks that are left
abbrev pub invariant-loop-left : goal.invariant-loop-left
invariant-loop-left g l = record {
  few : mark_count l.left + 1 < 2 ^ 32;
  told : l.text ++ walks_text l.left ≡ walks_text l.walks;
}

abbrev pub decreases-loop-left : goal.decreases-loop-left
decreases-loop-left g l = length l.left
