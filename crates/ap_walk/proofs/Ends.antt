-- The tests by which a walk ends: what each says, and that fewer counts pass where more do.
use Rattle.std.proofs.Common.{◌≡◌, ℕ, ◌<◌, Bool, true, false, ◌&&◌, nat_le, if◌then◌else◌, arith}
use Rattle.std.proofs.lemmas.Bool.Decides.{nat_tests}
use Rattle.ap_walk.specs.declared.rule.Tally.{Tally}
use Rattle.ap_walk.specs.declared.rule.Rule.{Rule}
use Rattle.ap_walk.specs.declared.rule.End.{End}
use Rattle.ap_walk.specs.Visits.{Visit}
use Rattle.ap_walk.specs.Tallies.{AtMost, can_revert, end_at, tally_at, tally_by, mark_end, end_by}

pub at_most_same : (t : Tally) → AtMost t t
at_most_same t = record { pushes = omega arith; goals = omega arith }

abbrev tested : Bool → ℕ → ℕ → ℕ → ℕ → End
tested b r p g l = if b && nat_le r p then End.Revert else if nat_le l g then End.Limit else End.Through

passes_pushes : (b : Bool) (r p g l : ℕ) → tested b r p g l ≡ End.Through → b ≡ true → p < r
passes_pushes true r p g l h _ = grind (arith, nat_tests)
passes_pushes false r p g l h e = cc

passes_goals : (b : Bool) (r p g l : ℕ) → tested b r p g l ≡ End.Through → g < l
passes_goals b r p g l h = grind (arith, nat_tests)

passed : (b : Bool) (r p g l : ℕ) → (b ≡ true → p < r) → g < l → tested b r p g l ≡ End.Through
passed b r p g l hp hg = grind (arith, nat_tests)

-- a tally at which a walk goes through has too few of each count for its rule
pub through_pushes : (rule : Rule) (t : Tally) → end_at rule t ≡ End.Through → can_revert rule ≡ true → t.pushes < rule.revert
unfolding end_at
through_pushes rule t = passes_pushes (can_revert rule) rule.revert t.pushes t.goals rule.goal_limit

pub through_goals : (rule : Rule) (t : Tally) → end_at rule t ≡ End.Through → t.goals < rule.goal_limit
unfolding end_at
through_goals rule t = passes_goals (can_revert rule) rule.revert t.pushes t.goals rule.goal_limit

-- where a walk goes through, it does with fewer counts too
pub earlier_through : (rule : Rule) (z t : Tally) → AtMost z t → end_at rule t ≡ End.Through → end_at rule z ≡ End.Through
unfolding end_at
earlier_through rule z t m h =
    passed (can_revert rule) rule.revert z.pushes z.goals rule.goal_limit
    (λ e. let below = passes_pushes (can_revert rule) rule.revert t.pushes t.goals rule.goal_limit h e in omega (arith, m.pushes))
    (let below = passes_goals (can_revert rule) rule.revert t.pushes t.goals rule.goal_limit h in omega (arith, m.goals))

-- one more mark keeps the order of two tallies
at_most_by : (b : Bool) (z t : Tally) → AtMost z t → AtMost (tally_by b z) (tally_by b t)
at_most_by true z t m = record { pushes = omega (arith, m.pushes); goals = omega (arith, m.goals) }
at_most_by false z t m = record { pushes = omega (arith, m.pushes); goals = omega (arith, m.goals) }

earlier_by : (b : Bool) (rule : Rule) (children : ℕ) (z t : Tally) → AtMost z t → end_by b rule children t ≡ End.Through → end_by b rule children z ≡ End.Through
earlier_by true rule children z t m h = cc
earlier_by false rule children z t m h = earlier_through rule z t m h

module _ {T : Type 0} (rule : Rule) (mark : Visit T) where
  pub at_most_at : (z t : Tally) → AtMost z t → AtMost (tally_at mark z) (tally_at mark t)
  at_most_at z t m = at_most_by _ z t m

  pub earlier_mark : (z t : Tally) → AtMost z t → mark_end rule mark (tally_at mark t) ≡ End.Through → mark_end rule mark (tally_at mark z) ≡ End.Through
  earlier_mark z t m h = earlier_by _ rule mark.children (tally_at mark z) (tally_at mark t) (at_most_at z t m) h
