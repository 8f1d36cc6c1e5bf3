-- The clauses that wait while one of their cases is split.
use Rattle.std.specs.Prelude.{◌≡◌, ℕ, ◌+◌, ◌*◌, ◌<◌, List, [], ◌∷◌, length, take, drop, slice_get, Some, None}
use Rattle.ap_list.specs.Lists.{Each}
use Rattle.ap_term.specs.declared.term.Clause.{Clause}
use Rattle.ap_world.specs.World.{Shown, function_of}
use Rattle.ap_kernel.specs.Reductions.{KnownClause, Reduces, claims, all_from, all_to}
use Rattle.ap_clausify.specs.declared.states.Frame.{Frame}
use Rattle.ap_clausify.specs.declared.states.Task.{Task}
use Rattle.ap_clausify.specs.declared.states.Task.TheVariants as task
use Rattle.ap_clausify.specs.declared.states.State.{State}
use Rattle.ap_clausify.specs.declared.states.Turn.{Turn}
use Rattle.ap_clausify.specs.declared.states.Turn.TheVariants as turn
use Rattle.ap_clausify.specs.Scanning.{Ready}
use Rattle.ap_clausify.specs.Splitting.{Left, before, then_rest, each_split, split_of, settled_left}

-- how a clause is split, each clause that is left tidied
abbrev pub by_steps : Clause → ℕ → Left
by_steps c n = settled_left (split_of n c)

-- what the cases that are done are reduced to
abbrev pub done_clauses : Frame → List Clause
done_clauses f = all_to (claims f.done)

-- what comes of the clause, its next case being due
abbrev pub due : Frame → ℕ → Left
due f n = before (done_clauses f) (each_split by_steps (drop (length f.done) f.split.says.to) n)

-- what comes of the clause by what comes of its next case
abbrev pub resumed : Frame → Left → Left
resumed f o = before (done_clauses f) (then_rest o (each_split by_steps (drop (length f.done + 1) f.split.says.to)))

-- what comes of the first of the clauses that wait by what comes of the clause at hand
abbrev pub outcome : List Frame → Left → Left
outcome [] o = o
outcome (f ∷ fs) o = resumed f (outcome fs o)

-- the first of the clauses that wait, or the one at hand
abbrev pub origin : List Frame → Clause → Clause
origin [] c = c
origin (f ∷ fs) c = f.split.says.from

-- a clause that waits: there is one reduction for each of its first cases, and each case may be searched from
-- the literal on that was split
pub record Waits (w : Shown) (f : Frame) : Type 0 where
  pub split : Reduces w f.split
  pub done : Each (Reduces w) f.done
  pub from : all_from (claims f.done) ≡ take (length f.done) f.split.says.to
  pub ready : Each (λ c. Ready c f.literal f.tidy) f.split.says.to

-- each clause that waits, waits for the next one, the last for the clause at hand
abbrev pub Linked : Shown → List Frame → Clause → Type 0
Linked w [] c = Unit {0}
Linked w (f ∷ fs) c = Waits w f × (slice_get f.split.says.to (length f.done) ≡ Some (origin fs c)) × Linked w fs c

-- the clause at hand, what comes of it, and what is known of it
abbrev pub at_hand : Task → Clause
at_hand (task.Open k) = k.clause
at_hand (task.Done r) = r.says.from

abbrev pub comes : Task → ℕ → Left
comes (task.Open k) n = by_steps k.clause n
comes (task.Done r) n = Some (r.says.to, n)

abbrev pub IsAtHand : Shown → Task → Type 0
IsAtHand w (task.Open k) = KnownClause (function_of w.entries) k.clause × Ready k.clause k.cursor k.tidy
IsAtHand w (task.Done r) = Reduces w r

-- a bound on the turns that are left
abbrev pub weight : Task → ℕ
weight (task.Open k) = 1
weight (task.Done r) = 0

-- the next state: what comes of the first clause stays the same
pub record GoesOn (w : Shown) (fs : List Frame) (c : Clause) (o : Left) (bound : ℕ) (s : State) (n : ℕ) : Type 0 where
  pub linked : Linked w s.frames (at_hand s.task)
  pub holds : IsAtHand w s.task
  pub origin : origin s.frames (at_hand s.task) ≡ origin fs c
  pub outcome : outcome s.frames (comes s.task n) ≡ outcome fs o
  pub falls : 2 * n + (length s.frames + weight s.task) < bound

-- what a turn leaves: the next state, the end, or that the steps ran out
abbrev pub Goes : Shown → List Frame → Clause → Left → ℕ → Turn → ℕ → Type 0
Goes w fs c o bound (turn.On s) n = GoesOn w fs c o bound s n
Goes w fs c o bound (turn.Through r) n = Reduces w r × (r.says.from ≡ origin fs c) × (outcome fs o ≡ Some (r.says.to, n))
Goes w fs c o bound turn.Out n = (outcome fs o ≡ None) × (n ≡ 0)
