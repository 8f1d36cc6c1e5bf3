-- What the finished children of a node come to, as it is kept.
use Rattle.std.specs.Prelude.{◌≡◌, ℕ, zero, suc, ◌+◌, ◌≤◌, ◌<◌, Bool, true, false, ◌||◌, ◌&&◌, nat_eq, nat_le, nat_lt, cond, min, ◌⊎◌, List, [], ◌∷◌, length, Option, Some, None}
use Rattle.std.specs.List.{slice_get}
use Rattle.ap_list.specs.Lists.{AnyOf}
use Rattle.ap_walk.specs.declared.rule.Rule.{Rule}
use Rattle.ap_walk.specs.declared.rule.Tally.{Tally}
use Rattle.ap_walk.specs.declared.rule.End.{End}
use Rattle.ap_word.specs.Stops.{NONE, reaches}
use Rattle.ap_table.specs.Core.{numbers_of}
use Rattle.ap_table.specs.Laws.{FrontDone}
use Rattle.ap_table.specs.declared.link.Link.{Link}
use Rattle.ap_table.specs.declared.stored.Told.{Told}
use Rattle.ap_table.specs.declared.stored.Sum.{Sum}
use Rattle.ap_table.specs.declared.stored.Stored.{Stored}
use Rattle.ap_table.specs.declared.stored.Stage.{Stage}
use Rattle.ap_table.specs.declared.stored.Stage.TheVariants as stage

-- the tally of a walk that goes through
abbrev pub through_tally : End → Tally → Option Tally
through_tally End.Through t = Some t
through_tally End.Revert t = None
through_tally End.Limit t = None
through_tally (End.Stopped r) t = None

module _ {T : Type 0} where
  -- a finished node's tally, where its walk goes through
  abbrev pub stage_sum : Stage T → Option (Option Tally)
  stage_sum (stage.Put v) = Some (through_tally v.end v.tally)
  stage_sum (stage.Closed s) = Some s
  stage_sum _ = None

  abbrev pub kept_sum : Option (Stored T) → Option (Option Tally)
  kept_sum None = None
  kept_sum (Some c) = stage_sum c.stage

  -- what one node comes to; a hidden one counts as unfinished
  abbrev pub sum_at : Option ℕ → List (Stored T) → ℕ → Option (Option Tally)
  sum_at None nodes k = kept_sum (slice_get nodes k)
  sum_at (Some h) nodes k = cond (nat_eq h k) None (kept_sum (slice_get nodes k))

  -- what count nodes from the first on come to
  unfoldable pub sums_of : Option ℕ → List (Stored T) → ℕ → ℕ → List (Option (Option Tally))
  sums_of h nodes first zero = []
  sums_of h nodes first (suc c) = sum_at h nodes first ∷ sums_of h nodes (first + 1) c

-- what a sibling counts; a walk that ended counts as one that ended alone
abbrev pub weight : Option (Option Tally) → Sum
weight None = record { pushes = 0; goals = 0; ended = 0 }
weight (Some None) = record { pushes = 0; goals = 0; ended = 1 }
weight (Some (Some t)) = record { pushes = t.pushes; goals = t.goals; ended = 0 }

-- the first u of f, added up
unfoldable pub total : (Option (Option Tally) → ℕ) → List (Option (Option Tally)) → ℕ → ℕ
total f os zero = 0
total f [] (suc u) = 0
total f (o ∷ os) (suc u) = f o + total f os u

abbrev pub pushes_of : Option (Option Tally) → ℕ
pushes_of o = (weight o).pushes

abbrev pub goals_of : Option (Option Tally) → ℕ
goals_of o = (weight o).goals

abbrev pub ended_of : Option (Option Tally) → ℕ
ended_of o = (weight o).ended

-- siblings that come to this end the walk of their family
unfoldable pub sum_stops : Rule → Sum → Bool
sum_stops rule s = nat_le 1 s.ended || reaches (numbers_of rule).revert s.pushes || nat_le rule.goal_limit s.goals

-- what the first u siblings come to
abbrev pub sum_first : List (Option (Option Tally)) → ℕ → Sum
sum_first os u = record { pushes = total pushes_of os u; goals = total goals_of os u; ended = total ended_of os u }

-- no more pushes than goals
abbrev pub InGoals : Option (Option Tally) → Type 0
InGoals o = pushes_of o ≤ goals_of o

-- stop is the least place by which the siblings stop, if any, and sum what those before it come to
pub record IsTold (rule : Rule) (os : List (Option (Option Tally))) (k : Told) : Type 0 where
  pub sum : k.sum ≡ sum_first os (min k.stop (length os))
  pub before : sum_stops rule k.sum ≡ false
  pub stop : (k.stop ≡ NONE) ⊎ ((k.stop < length os) × (sum_stops rule (sum_first os (k.stop + 1)) ≡ true))
  pub front : FrontDone os k.front

abbrev pub nothing_told : Told
nothing_told = record { stop = NONE; front = 0; sum = record { pushes = 0; goals = 0; ended = 0 } }

-- the tally of a node's walk, where that goes through, once its children's family is whole or stops
abbrev pub closed_sum : Rule → Told → Option Tally
closed_sum rule t = cond (nat_eq t.stop NONE && nat_lt (t.sum.goals + 1) rule.goal_limit) (Some (record { pushes = t.sum.pushes; goals = t.sum.goals + 1 })) None

-- a family is above a node with this path
abbrev pub OnPath : List Link → ℕ → Type 0
OnPath path k = AnyOf (λ l. l.family ≡ k) path

abbrev pub Within : List Link → List Link → Type 0
Within path others = (k : ℕ) → OnPath path k → OnPath others k

module _ {T : Type 0} where
  -- the node's children are in the table
  abbrev pub HasKids : Stage T → Type 0
  HasKids stage.Expanded = Unit {0}
  HasKids (stage.Closed s) = Unit {0}
  HasKids _ = ⊥

  -- what is kept of a node's children is so; a hidden node counts as unfinished
  pub record FamilyKept (rule : Rule) (h : Option ℕ) (nodes : List (Stored T)) (c : Stored T) : Type 0 where
    pub told : IsTold rule (sums_of h nodes c.first c.count) c.told
    pub fits : c.first + c.count ≤ length nodes

  -- node k stands among the children of the nearest family above it where the path says
  abbrev pub Placed : List (Stored T) → ℕ → List Link → Type 0
  Placed nodes k [] = Unit {0}
  Placed nodes k (l ∷ ls) = (m : Stored T) × (slice_get nodes l.family ≡ Some m) × HasKids m.stage × (m.first + l.place ≡ k) × (l.place < m.count)

  pub record Kids (rule : Rule) (h : Option ℕ) (nodes : List (Stored T)) : Type 0 where
    pub family : (k : ℕ) (c : Stored T) → slice_get nodes k ≡ Some c → HasKids c.stage → FamilyKept rule h nodes c
    pub placed : (k : ℕ) (c : Stored T) → slice_get nodes k ≡ Some c → Placed nodes k c.path

  -- each family's word is its known stop, but on a path, where it may be above it
  abbrev pub WordsBut : List Link → List (Stored T) → Type 0
  WordsBut path nodes = (k : ℕ) (c : Stored T) → slice_get nodes k ≡ Some c → HasKids c.stage → (c.word ≡ c.told.stop) ⊎ ((c.told.stop ≤ c.word) × (c.word ≤ NONE) × OnPath path k)

  abbrev pub stage_expanded : Stage T → Bool
  stage_expanded stage.Expanded = true
  stage_expanded _ = false

  -- a node can be closed by what its children tell
  abbrev pub closes_at : Stored T → Told → Bool
  closes_at c d = stage_expanded c.stage && (nat_eq d.front c.count || nat_lt d.stop d.front)
