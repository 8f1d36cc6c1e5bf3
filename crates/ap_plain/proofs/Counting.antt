-- How many goals walks visit that stand one after another.
use Rattle.std.proofs.Common.{◌≡◌, ℕ, ◌+◌, length, List, [], ◌∷◌, ◌++◌, arith}
use Rattle.ap_attempt.specs.Attempts.{RootedWalk}
use Rattle.ap_strategy.specs.Goals.{Goal}
use Rattle.ap_plain.specs.Counts.{goals_of}

pub goals_both : (ws vs : List (RootedWalk Goal)) → goals_of (ws ++ vs) ≡ goals_of ws + goals_of vs
goals_both [] vs = omega arith
goals_both (w ∷ ws) vs = let e = goals_both ws vs in omega (arith, e)
