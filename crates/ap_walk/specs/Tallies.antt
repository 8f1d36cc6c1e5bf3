-- What a walk counts, and the tests by which it ends.
use Rattle.std.specs.Prelude.{ℕ, ◌+◌, ◌<◌, ◌≤◌, Bool, true, false, ◌&&◌, not, nat_le, if◌then◌else◌, IsTrue}
use Rattle.ap_walk.specs.declared.act.Process.{Process}
use Rattle.ap_walk.specs.declared.act.Out.{Out}
use Rattle.ap_walk.specs.declared.rule.Tally.{Tally}
use Rattle.ap_walk.specs.declared.rule.Rule.{Rule}
use Rattle.ap_walk.specs.declared.rule.End.{End}
use Rattle.ap_walk.specs.Visits.{Visit, reason_of}

-- nothing visited yet
abbrev pub zero_tally : Tally
zero_tally = record { pushes = 0; goals = 0 }

-- pushes revert a walk under this rule: it is the initial one, and `:otf-flg` isn't set
abbrev pub can_revert : Rule → Bool
can_revert rule = rule.initial && not rule.otf

-- a walk under this rule may go on from this tally
pub record IsOpen (rule : Rule) (tally : Tally) : Type 0 where
  pub in_goals : tally.pushes ≤ tally.goals
  pub below_limit : tally.goals < rule.goal_limit
  pub below_revert : IsTrue (can_revert rule) → tally.pushes < rule.revert

-- neither count of the first tally is above that of the second
pub record AtMost (low high : Tally) : Type 0 where
  pub pushes : low.pushes ≤ high.pushes
  pub goals : low.goals ≤ high.goals

-- how a walk that didn't stop goes on from a tally: it reverts where the rule does and pushes are as many, or
-- else it ends where goals are the limit. (From an open tally no count comes past its bound, so that the
-- tests by order are those by equality: `end_when`.)
unfoldable pub end_at : Rule → Tally → End
end_at rule tally =
    if can_revert rule && nat_le rule.revert tally.pushes then End.Revert
    else if nat_le rule.goal_limit tally.goals then End.Limit
    else End.Through

-- one goal more, and one push more where the task is pushed
abbrev pub tally_after : {T : Type 0} → Out T → Tally → Tally
tally_after (Out.Split children) tally = record { pushes = tally.pushes; goals = tally.goals + 1 }
tally_after Out.Push tally = record { pushes = tally.pushes + 1; goals = tally.goals + 1 }
tally_after (Out.Stop reason) tally = record { pushes = tally.pushes; goals = tally.goals + 1 }

-- how a walk ends at a task whose visit left this tally: a stop is tested first
abbrev pub end_after : {T : Type 0} → Rule → Out T → Tally → End
end_after rule (Out.Split children) tally = end_at rule tally
end_after rule Out.Push tally = end_at rule tally
end_after rule (Out.Stop reason) tally = End.Stopped reason

-- the mark is that of a task that was pushed
abbrev pub is_push : Process → Bool
is_push Process.Push = true
is_push _ = false

-- the mark is that of a task at which the attempt stopped
abbrev pub is_stop : Process → Bool
is_stop Process.Stop = true
is_stop _ = false

-- one goal more, and one push more where there was one
abbrev pub tally_by : Bool → Tally → Tally
tally_by true tally = record { pushes = tally.pushes + 1; goals = tally.goals + 1 }
tally_by false tally = record { pushes = tally.pushes; goals = tally.goals + 1 }

-- the tally after a visit, as its mark alone tells it
abbrev pub tally_at : {T : Type 0} → Visit T → Tally → Tally
tally_at mark tally = tally_by (is_push mark.act.process) tally

-- a stop is tested first, and its reason is known by its number
abbrev pub end_by : Bool → Rule → ℕ → Tally → End
end_by true rule children tally = End.Stopped (reason_of children)
end_by false rule children tally = end_at rule tally

-- how a walk ends at a visit that left this tally, as its mark alone tells it
abbrev pub mark_end : {T : Type 0} → Rule → Visit T → Tally → End
mark_end rule mark tally = end_by (is_stop mark.act.process) rule mark.children tally
