-- Attempts on what an event owes, and what they print.
use Rattle.std.specs.Prelude.{◌≡◌, ℕ, ◌≤◌, Bool, true, List, [], ◌∷◌, ◌++◌}
use Rattle.std.proofs.Common.{arith}
use Rattle.ap_world.specs.World.{Shown}
use Rattle.ap_walk.specs.declared.rule.Rule.{Rule}
use Rattle.ap_walk.specs.declared.mark.Walked.{Walked}
use Rattle.ap_attempt.specs.declared.verdict.Verdict.{Verdict}
use Rattle.ap_attempt.specs.Attempts.{Course, RootedWalk, walks_of, attempt}
use Rattle.ap_hints.specs.declared.hint.Hints.{Hints}
use Rattle.ap_strategy.specs.declared.plan.Plan.{Plan}
use Rattle.ap_strategy.specs.Goals.{Goal, clause_goal, inducted}
use Rattle.ap_strategy.specs.Steps.{step_of, depth_of}
use Rattle.ap_plain.specs.declared.limits.Limits.{Limits}
use Rattle.ap_stated.specs.declared.owed.Owed.{Owed}
use Rattle.ap_plain.specs.declared.attempting.Trial.{Trial}
use Rattle.ap_plain.specs.Counts.{goals_of}
use Rattle.ap_plain.specs.Drops.{DividedWalks}
use Rattle.ap_plain.specs.Lines.{walks_text, checkpoints_text}

pub goals_fit : (goals : ℕ) → goals ≤ 100000 → goals ≤ 200002
goals_fit goals few = omega arith

-- the rule of an attempt's first walk, by whether its event asks for `:otf-flg`
abbrev pub first_rule : Limits → Bool → Rule
first_rule limits otf = record {
  initial = true;
  otf = otf;
  revert = limits.revert;
  goal_limit = limits.goals;
  limited = (limits.within.goals_some, goals_fit limits.goals limits.within.goals_few);
  reverting = (limits.within.revert_some, limits.within.revert_few);
}

-- what an event's goals are worked by, where it gives these hints
abbrev pub plan_for : Limits → Shown → Hints → Plan
plan_for limits w hs = record { world = w; hints = hs; step_limit = limits.steps }

-- the attempt that starts from a goal, its first walk by this rule; a hint of its plan may forbid induction
abbrev pub attempt_from : Rule → Goal → Course Goal
attempt_from rule g = attempt step_of depth_of inducted g g.plan.hints.do_not_induct rule g

-- attempts: their lines, what they came to, and their walks
pub record Tried : Type 0 where
  pub lines : List ℕ
  pub verdict : Verdict
  pub walks : List (RootedWalk Goal)

-- where an attempt fails its checkpoints follow its lines
abbrev pub unproved_text : Verdict → List (Walked Goal) → List ℕ
unproved_text Verdict.Qed ws = []
unproved_text (Verdict.Failed r) ws = checkpoints_text ws

abbrev pub told : Course Goal → Tried
told a = record { lines = walks_text (walks_of a) ++ unproved_text a.verdict (walks_of a); verdict = a.verdict; walks = a.walks }

unfoldable pub tried_from : Rule → Goal → Tried
tried_from rule g = told (attempt_from rule g)

-- nothing is left to be tried
abbrev pub all_proved : Tried
all_proved = record { lines = []; verdict = Verdict.Qed; walks = [] }

-- lines and walks before those of other attempts
abbrev pub before : List ℕ → List (RootedWalk Goal) → Tried → Tried
before lines walks t = record { lines = lines ++ t.lines; verdict = t.verdict; walks = walks ++ t.walks }

-- the others are tried where it is `Qed`
abbrev pub where_qed : Verdict → Tried → Tried
where_qed Verdict.Qed others = others
where_qed (Verdict.Failed r) others = record { lines = []; verdict = Verdict.Failed r; walks = [] }

abbrev pub then_tried : List ℕ → Tried → Tried → Tried
then_tried heading a others = before (heading ++ a.lines) a.walks (where_qed a.verdict others)

-- the attempts on clauses that are owed, in order, up to the first that fails, the first walk of each by this rule; the
-- line of each stands before its own
abbrev pub tried : Rule → Plan → List Owed → Tried
tried rule plan [] = all_proved
tried rule plan (o ∷ os) = then_tried o.heading (tried_from rule (clause_goal plan o.clause)) (tried rule plan os)

-- a call made these attempts, counts the goals that they visited, and notes what was dropped in them
pub record Tries (t : Tried) (r : Trial) : Type 0 where
  pub lines : r.lines ≡ t.lines
  pub verdict : r.verdict ≡ t.verdict
  pub goals : r.goals ≡ goals_of t.walks
  pub drops : DividedWalks r.drops t.walks
