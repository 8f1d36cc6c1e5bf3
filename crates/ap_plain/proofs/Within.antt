-- Limits that are equal as numbers are equal.
use Rattle.std.proofs.Common.{◌≡◌, ℕ, Bool, true, false, true≢false, Some, arith, refl, sym, ◌∙◌, ap}
use Rattle.std.proofs.Math.Bridge.{le_prop}
use Rattle.std.proofs.lemmas.Bool.Decides.{nat_tests}
use Rattle.ap_plain.specs.declared.limits.Limits.{Limits}
use Rattle.ap_plain.specs.Bounds.{WithinLimits}
use Rattle.ap_plain.specs.Limits.{are_limits, limits_by, limits_of}

once : (steps goals revert : ℕ) (a b : WithinLimits steps goals revert) → a ≡ b
once steps goals revert a b = λ i. record {
  steps_some = le_prop a.steps_some b.steps_some i;
  steps_few = le_prop a.steps_few b.steps_few i;
  goals_some = le_prop a.goals_some b.goals_some i;
  goals_few = le_prop a.goals_few b.goals_few i;
  revert_some = le_prop a.revert_some b.revert_some i;
  revert_few = le_prop a.revert_few b.revert_few i;
}

abbrev limits : (steps goals revert : ℕ) → WithinLimits steps goals revert → Limits
limits steps goals revert within = record { steps = steps; goals = goals; revert = revert; within = within }

pub are : (steps goals revert : ℕ) → WithinLimits steps goals revert → are_limits steps goals revert ≡ true
are steps goals revert w =
    let a = w.steps_some in let b = w.steps_few in let c = w.goals_some in let d = w.goals_few in let e = w.revert_some in let f = w.revert_few in
    grind (arith, nat_tests)

pub limits_some : (steps goals revert : ℕ) (w : WithinLimits steps goals revert) → Some (limits steps goals revert w) ≡ limits_of steps goals revert
limits_some steps goals revert w = go (are_limits steps goals revert) refl
  where
    go : (b : Bool) (h : are_limits steps goals revert ≡ b) → Some (limits steps goals revert w) ≡ limits_by steps goals revert b h
    go true h = ap (λ v. Some (limits steps goals revert v)) (once steps goals revert w _)
    go false h = absurd (true≢false (sym (are steps goals revert w) ∙ h))
