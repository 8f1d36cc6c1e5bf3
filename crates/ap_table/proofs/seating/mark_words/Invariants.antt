use Rattle.std.proofs.Common.{◌≡◌, ◌≤◌, take, List}
use Rattle.ap_table.specs.Core.{Node, root, replay_from}
use Rattle.ap_table.specs.Shown.{turns}
use Rattle.ap_table.specs.Seated.{AreSeated}
use Rattle.ap_table.specs.Worded.{words_of, AreWorded}
use Rattle.ap_table.proofs.seating.mark_words.Given as goal

abbrev pub invariant-loop-at : goal.invariant-loop-at
invariant-loop-at g l = record {
  past : l.from ≤ l.at;
  seated : AreSeated g.S.Step.step_of g.S.Step.depth l.nodes.rule (replay_from g.S.Step.step_of g.S.Step.depth l.nodes.rule (root l.nodes.root) (turns (take l.at l.nodes.history))) l.seats.items;
  words : words_of l.seats.items ≡ words_of l.fn.seats.items;
  worded : (ns : List (Node g.row.S-Task.Denot)) → AreWorded ns l.fn.seats.items → AreWorded ns l.seats.items;
}
