use Rattle.std.proofs.Common.{◌≡◌, map, string_bytes, drop}
use Rattle.ap_books.specs.Plan.{planned, plan_of}
use Rattle.ap_books.proofs.planning.plan.Given as goal

-- what is left, behind the names so far, gives the whole
abbrev pub invariant-loop-word : goal.invariant-loop-word
invariant-loop-word l = record {
  left : planned (map string_bytes (drop l.word-index l.words)) l.names ≡ plan_of (map string_bytes l.words);
}
