-- Words of what attempts keep.
use Rattle.std.specs.Prelude.{◌≡◌, ◌+◌, ℕ, false, List, [], ◌∷◌, length}
use Rattle.ap_list.specs.Lists.{Each}
use Rattle.ap_names.specs.Names.{Name, pushed_of}
use Rattle.ap_walk.specs.declared.act.Stepped.{Stepped}
use Rattle.ap_walk.specs.declared.rule.Rule.{Rule}
use Rattle.ap_walk.specs.declared.mark.Walked.{Walked}
use Rattle.ap_walk.specs.Tallies.{zero_tally}
use Rattle.ap_walk.specs.Walks.{walk}

-- how many marks walks have together
abbrev pub mark_count : {T : Type 0} → List (Walked T) → ℕ
mark_count [] = 0
mark_count (w ∷ ws) = length w.marks + mark_count ws

-- the walk of some task under a rule that isn't initial
pub record IsLater {T : Type 0} (step : T → Stepped T) (depth : T → ℕ) (w : Walked T) : Type 0 where
  pub rule : Rule
  pub task : T
  pub not_initial : rule.initial ≡ false
  pub is : w ≡ walk step depth rule task zero_tally

-- P holds of each element but the first
abbrev pub EachAfterFirst : {A : Type 0} → (A → Type 0) → List A → Type 0
EachAfterFirst P [] = Unit {0}
EachAfterFirst P (x ∷ xs) = Each P xs

-- the names that a walk's pushed tasks are pushed as, in order, the first one as number k
abbrev pub push_names : {T : Type 0} → (T → Name) → ℕ → List T → List Name
push_names name k [] = []
push_names name k (task ∷ tasks) = pushed_of (name task) k ∷ push_names name (k + 1) tasks
