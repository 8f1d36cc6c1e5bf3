-- The limits of a session.
use Rattle.std.specs.Prelude.{◌≡◌, ℕ, Bool, true, false, ◌&&◌, nat_le, Option, Some, None}
use Rattle.std.proofs.Common.{arith, refl}
use Rattle.std.proofs.lemmas.Bool.Decides.{nat_tests}
use Rattle.ap_plain.specs.Bounds.{WithinLimits}
use Rattle.ap_plain.specs.declared.limits.Limits.{Limits}

abbrev pub are_limits : ℕ → ℕ → ℕ → Bool
are_limits steps goals revert =
    nat_le 1 steps && nat_le steps 1000000 && nat_le 1 goals && nat_le goals 100000 && nat_le 2 revert && nat_le revert 100

pub are_within : (steps goals revert : ℕ) → are_limits steps goals revert ≡ true → WithinLimits steps goals revert
are_within steps goals revert h = record {
  steps_some = grind (arith, nat_tests);
  steps_few = grind (arith, nat_tests);
  goals_some = grind (arith, nat_tests);
  goals_few = grind (arith, nat_tests);
  revert_some = grind (arith, nat_tests);
  revert_few = grind (arith, nat_tests);
}

-- these numbers as limits, where they are
abbrev pub limits_by : (steps goals revert : ℕ) (good : Bool) → are_limits steps goals revert ≡ good → Option Limits
limits_by steps goals revert true h = Some (record { steps = steps; goals = goals; revert = revert; within = are_within steps goals revert h })
limits_by steps goals revert false h = None

abbrev pub limits_of : ℕ → ℕ → ℕ → Option Limits
limits_of steps goals revert = limits_by steps goals revert (are_limits steps goals revert) refl
