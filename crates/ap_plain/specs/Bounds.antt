-- How many steps a clause may spend, how many goals an attempt may visit, and at how many pushes its first walk reverts.
use Rattle.std.specs.Prelude.{◌≤◌, ℕ}

-- steps are 1 to 1,000,000, goals 1 to 100,000, and the revert count is 2 to 100
pub record WithinLimits (steps goals revert : ℕ) : Type 0 where
  pub steps_some : 1 ≤ steps
  pub steps_few : steps ≤ 1000000
  pub goals_some : 1 ≤ goals
  pub goals_few : goals ≤ 100000
  pub revert_some : 2 ≤ revert
  pub revert_few : revert ≤ 100
