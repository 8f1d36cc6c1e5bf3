-- Where a walk ends, and how many marks it has.
use Rattle.std.proofs.Common.{ℕ, ◌+◌, ◌≤◌, List, length, arith, sym, subst}
use Rattle.ap_walk.specs.declared.act.Stepped.{Stepped}
use Rattle.ap_walk.specs.declared.rule.Tally.{Tally}
use Rattle.ap_walk.specs.declared.rule.Rule.{Rule}
use Rattle.ap_walk.specs.declared.mark.Walked.{Walked}
use Rattle.ap_walk.specs.Visits.{Visit, Tells}
use Rattle.ap_walk.specs.Tallies.{IsOpen, zero_tally}
use Rattle.ap_walk.specs.Walks.{walk, all_marks, cut}
use Rattle.ap_walk.specs.Laws.{StopsAt, CountsFrom}
use Rattle.ap_walk.proofs.Stops.{cut_stops, cut_counts}
use Rattle.ap_walk.proofs.Trees.{walk_is_cut_of_all}

-- a walk may begin at the empty tally
pub zero_open : (rule : Rule) → IsOpen rule zero_tally
zero_open rule = record { in_goals = omega arith; below_limit = omega (arith, rule.limited.0); below_revert = λ _. omega (arith, rule.reverting.0) }

few_from : {T : Type 0} (rule : Rule) (t : Tally) (w : Walked T) → StopsAt rule w → CountsFrom t w → t.goals + length w.marks ≤ rule.goal_limit
few_from rule t w stops counts = omega (arith, stops.within, counts)

pub cut_few : {T : Type 0} (rule : Rule) (t : Tally) (xs : List (Visit T)) → IsOpen rule t → t.goals + length (cut rule t xs).marks ≤ rule.goal_limit
cut_few rule t xs is = few_from rule t (cut rule t xs) (cut_stops rule t xs is) (cut_counts rule t xs)

module _ {T : Type 0} (step : T → Stepped T) (depth : T → ℕ) (tells : (task : T) → Tells (step task).act.process (step task).out) (rule : Rule) where
  pub walk_stops : (task : T) (t : Tally) → IsOpen rule t → StopsAt rule (walk step depth rule task t)
  walk_stops task t is = subst (StopsAt rule) (sym (walk_is_cut_of_all step depth tells rule task t)) (cut_stops rule t (all_marks step depth task) is)

  pub walk_few : (task : T) (t : Tally) → IsOpen rule t → t.goals + length (walk step depth rule task t).marks ≤ rule.goal_limit
  walk_few task t is =
      subst (λ w. t.goals + length w.marks ≤ rule.goal_limit) (sym (walk_is_cut_of_all step depth tells rule task t)) (cut_few rule t (all_marks step depth task) is)

  pub walk_few_from_zero : (task : T) → length (walk step depth rule task zero_tally).marks ≤ rule.goal_limit
  walk_few_from_zero task = omega (arith, walk_few task zero_tally (zero_open rule))
