-- An attempt on a goal: its walk, and then, turn by turn, the walks of a pool of tasks. The tree below a
-- task is given by `step` and `depth`. `inducted task k` is the induction of a task that was pushed as
-- number k, `original` is what the root reverts to, and `refuses` says that no induction may be made.
use Rattle.std.specs.Prelude.{ℕ, zero, suc, ◌+◌, ◌-◌, ◌≤◌, Bool, true, false, List, [], ◌∷◌, ◌++◌, map, Option, Some, None}
use Rattle.std.proofs.Common.{arith}
use Rattle.ap_walk.specs.declared.act.Reason.{Reason}
use Rattle.ap_walk.specs.declared.act.Stepped.{Stepped}
use Rattle.ap_walk.specs.declared.rule.Rule.{Rule}
use Rattle.ap_walk.specs.declared.rule.End.{End}
use Rattle.ap_walk.specs.declared.mark.Walked.{Walked}
use Rattle.ap_walk.specs.Tallies.{zero_tally}
use Rattle.ap_walk.specs.Walks.{walk}
use Rattle.ap_walk.specs.Laws.{pushed}
use Rattle.ap_attempt.specs.declared.verdict.Verdict.{Verdict}
use Rattle.ap_attempt.specs.declared.turn.Turn.{Turn}
use Rattle.ap_attempt.specs.declared.turn.Next.{Next}

-- a walk that an attempt made: of which task, under which rule, and the walk
pub record RootedWalk (T : Type 0) : Type 0 where
  pub root : T
  pub rule : Rule
  pub walked : Walked T

-- the course of an attempt: its verdict, and its walks in the order in which they are made
pub record Course (T : Type 0) : Type 0 where
  pub verdict : Verdict
  pub walks : List (RootedWalk T)

-- the walks alone
abbrev pub walks_of : {T : Type 0} → Course T → List (Walked T)
walks_of course = map (λ w. w.walked) course.walks

-- the inductions of pushed tasks, in order, the first one pushed as number k
abbrev pub inductions : {T : Type 0} → (T → ℕ → T) → ℕ → List T → List T
inductions inducted k [] = []
inductions inducted k (task ∷ tasks) = inducted task k ∷ inductions inducted (k + 1) tasks

pub one_to : (n : ℕ) → 1 ≤ suc n
one_to n = omega arith

pub within_limit : (n limit : ℕ) → n ≤ limit → limit ≤ 200002 → n ≤ 200002
within_limit n limit below within = omega arith

pub left_within : (limit goals : ℕ) → limit - goals ≤ limit
left_within limit goals = omega arith

-- the rule of a walk that isn't initial, with the goals that are left as its limit; none where none are left
abbrev pub rule_for : (rule : Rule) (left : ℕ) → left ≤ rule.goal_limit → Option Rule
rule_for rule zero within = None
rule_for rule (suc n) within =
    Some (record rule { initial = false; goal_limit = suc n; limited = (one_to n, within_limit (suc n) rule.goal_limit within rule.limited.1) })

-- the rule of the walk after one that was under a rule and visited so many goals
abbrev pub rule_after : Rule → ℕ → Option Rule
rule_after rule goals = rule_for rule (rule.goal_limit - goals) (left_within rule.goal_limit goals)

-- What an attempt does where a pool is to be proved: where the pool is empty the root is proved; else the
-- attempt fails where induction is refused, and else where no goals are left; else the first task is walked.
abbrev pub with_pool : {T : Type 0} → Bool → Option Rule → List T → Next T
with_pool refuses left [] = Next.Done Verdict.Qed
with_pool true left (task ∷ rest) = Next.Done (Verdict.Failed Reason.DoNotInduct)
with_pool false None (task ∷ rest) = Next.Done (Verdict.Failed Reason.GoalLimit)
with_pool false (Some rule) (task ∷ rest) = Next.Walk (record { task = task; rule = rule; rest = rest })

-- What follows a walk: where it stopped, or came to the limit, the attempt fails. After a revert the pool is
-- the induction of the original as number 1. Else the inductions of what was pushed stand in order before the
-- rest of the pool.
abbrev pub after_walk : {T : Type 0} → End → (List T → Next T) → T → List T → List T → Next T
after_walk (End.Stopped reason) pool original own rest = Next.Done (Verdict.Failed reason)
after_walk End.Limit pool original own rest = Next.Done (Verdict.Failed Reason.GoalLimit)
after_walk End.Revert pool original own rest = pool (original ∷ [])
after_walk End.Through pool original own rest = pool (own ++ rest)

abbrev pub next_turn : {T : Type 0} → (T → ℕ → T) → T → Bool → Rule → Walked T → List T → Next T
next_turn inducted original refuses rule w rest =
    after_walk w.end (with_pool refuses (rule_after rule w.tally.goals)) (inducted original 1) (inductions inducted 1 (pushed w.marks)) rest

-- an attempt that makes no walk any more
abbrev pub decided : {T : Type 0} → Verdict → Course T
decided verdict = record { verdict = verdict; walks = [] }

-- what is next: a verdict, or a turn
abbrev pub follow : {T : Type 0} → Next T → (Turn T → Course T) → Course T
follow (Next.Done verdict) turns = decided verdict
follow (Next.Walk turn) turns = turns turn

-- a walk that an attempt begins with
abbrev pub walked_first : {T : Type 0} → RootedWalk T → Course T → Course T
walked_first w course = record { verdict = course.verdict; walks = w ∷ course.walks }

-- the walk that a turn makes
abbrev pub turn_walk : {T : Type 0} → Turn T → Walked T → RootedWalk T
turn_walk turn w = record { root = turn.task; rule = turn.rule; walked = w }

module _ {T : Type 0} (step : T → Stepped T) (depth : T → ℕ) (inducted : T → ℕ → T) (original : T) (refuses : Bool) where
  -- a turn, and the turns after it, which `turns` gives
  abbrev pub one_turn : (Turn T → Course T) → Turn T → Course T
  one_turn turns turn =
      let w = walk step depth turn.rule turn.task zero_tally in
      walked_first (turn_walk turn w) (follow (next_turn inducted original refuses turn.rule w turn.rest) turns)

  -- the turns while at most n goals are left
  unfoldable pub turns_within : ℕ → Turn T → Course T
  turns_within zero turn = decided (Verdict.Failed Reason.GoalLimit)
  turns_within (suc n) turn = one_turn (turns_within n) turn

  -- A turn, and all that follow it. The rule's limit is what goals are left, and each walk visits one at least.
  abbrev pub turns_from : Turn T → Course T
  turns_from turn = turns_within turn.rule.goal_limit turn

  -- an attempt is the turn of its root, with nothing else in the pool
  abbrev pub attempt : Rule → T → Course T
  attempt rule root = turns_from (record { task = root; rule = rule; rest = [] })
