-- Marks that are enough to reduce each of their goals' clauses to none, and those of an attempt that is proved.
use Rattle.std.specs.Prelude.{◌≡◌, Bool, true, List, [], ◌∷◌}
use Rattle.ap_list.specs.Lists.{Each, AnyOf}
use Rattle.ap_term.specs.declared.term.Clause.{Clause}
use Rattle.ap_walk.specs.declared.act.Out.{Out}
use Rattle.ap_walk.specs.declared.mark.Walked.{Walked}
use Rattle.ap_walk.specs.declared.rule.Rule.{Rule}
use Rattle.ap_walk.specs.Visits.{Visit, IsSplit}
use Rattle.ap_attempt.specs.declared.verdict.Verdict.{Verdict}
use Rattle.ap_attempt.specs.Attempts.{attempt, walks_of}
use Rattle.ap_strategy.specs.Goals.{Goal, inducted}
use Rattle.ap_strategy.specs.Steps.{step_of, depth_of}

-- the mark is of a goal of this clause; and of an induction
abbrev pub IsOf : Clause → Visit Goal → Type 0
IsOf c v = v.task.clause.0 ≡ c.0

abbrev pub IsInductionOf : Clause → Visit Goal → Type 0
IsInductionOf c v = (v.task.clause.0 ≡ c.0) × (v.task.induct ≡ true)

-- among these marks is one of a goal of the clause
abbrev pub IsAmong : List (Visit Goal) → Clause → Type 0
IsAmong vs c = AnyOf (IsOf c) vs

-- a goal of this clause, of whose step this comes, has among the marks those of its children's clauses; where it was pushed, an
-- induction of its clause; and the attempt doesn't stop at it
abbrev pub IsMet : List (Visit Goal) → Clause → Out Goal → Type 0
IsMet vs c (Out.Split gs) = Each (λ (g : Goal). IsAmong vs g.clause) gs
IsMet vs c Out.Push = AnyOf (IsInductionOf c) vs
IsMet vs c (Out.Stop reason) = ⊥

-- each goal has what it wants behind its own mark
abbrev pub Fit : List (Visit Goal) → Type 0
Fit [] = Unit {0}
Fit (v ∷ vs) = (v.act ≡ (step_of v.task).act) × IsMet vs v.task.clause (step_of v.task).out × Fit vs

-- the first mark, if there is one, is of a goal of the clause
abbrev pub StartsWith : Clause → List (Visit Goal) → Type 0
StartsWith c [] = Unit {0}
StartsWith c (v ∷ vs) = v.task.clause ≡ c

-- there is a first mark, its goal is split, and the marks fit
abbrev pub Begins : List (Visit Goal) → Type 0
Begins [] = ⊥
Begins (v ∷ vs) = IsSplit (step_of v.task).out × Fit (v ∷ vs)

-- the goal of this mark is split, and has what it wants among these, which fit
abbrev pub Goes : Visit Goal → List (Visit Goal) → Type 0
Goes v vs = IsSplit (step_of v.task).out × IsMet vs v.task.clause (step_of v.task).out × Fit vs

-- the walks are those of an attempt on a goal of the clause, and it is proved
pub record IsProvedBy (c : Clause) (ws : List (Walked Goal)) : Type 0 where
  pub rule : Rule
  pub root : Goal
  pub refuses : Bool
  pub clause : root.clause ≡ c
  pub walks : ws ≡ walks_of (attempt step_of depth_of inducted root refuses rule root)
  pub qed : (attempt step_of depth_of inducted root refuses rule root).verdict ≡ Verdict.Qed
