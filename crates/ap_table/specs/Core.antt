-- The core: nodes, the six steps, and what a list of steps leaves. A family is known by the number of the
-- node whose children it holds.
use Rattle.std.specs.Prelude.{◌≡◌, ℕ, zero, suc, ◌+◌, Bool, true, false, cond, min, List, [], ◌∷◌, ◌++◌, length, Option, Some, None}
use Rattle.std.specs.List.{slice_get}
use Rattle.ap_walk.specs.declared.act.Stepped.{Stepped}
use Rattle.ap_walk.specs.declared.rule.Rule.{Rule}
use Rattle.ap_walk.specs.declared.rule.End.{End}
use Rattle.ap_walk.specs.declared.mark.Walked.{Walked}
use Rattle.ap_walk.specs.Visits.{Visit, out_children, visit_of}
use Rattle.ap_walk.specs.Tallies.{zero_tally, can_revert}
use Rattle.ap_walk.specs.Walks.{cut, full}
use Rattle.ap_table.specs.declared.link.Link.{Link}
use Rattle.ap_table.specs.declared.link.License.{License}
use Rattle.ap_word.specs.declared.family.Counted.{Counted}
use Rattle.ap_word.specs.declared.family.Numbers.{Numbers}
use Rattle.ap_word.specs.Stops.{NONE, nothing_counted, stops, add, stops_by, known_stop}

-- how far a node is: it can be claimed, is being worked, has its children in the table, has its walk put, has
-- the walk that its children's make, or was dropped
pub data Phase (T : Type 0) : Type 0 where
  free : Phase T
  claimed : Phase T
  expanded : Phase T
  put : Walked T → Phase T
  closed : Walked T → Phase T
  dropped : License → Phase T

-- a task, the families above it from its own up to the root's, the number of its first child, and the
-- word of its children's family
pub record Node (T : Type 0) : Type 0 where
  pub task : T
  pub path : List Link
  pub first : ℕ
  pub phase : Phase T
  pub word : ℕ

-- one step of any actor
pub data Turn : Type 0 where
  claim : ℕ → Turn
  expand : ℕ → Turn
  finish : ℕ → Turn
  drop : ℕ → License → Turn
  mark : ℕ → ℕ → Turn
  look : ℕ → Turn

abbrev pub numbers_of : Rule → Numbers
numbers_of rule = record { revert = cond (can_revert rule) (Some rule.revert) None; goal_limit = rule.goal_limit }

abbrev pub is_stopped : End → Bool
is_stopped End.Through = false
is_stopped End.Revert = false
is_stopped End.Limit = false
is_stopped (End.Stopped r) = true

abbrev pub above : List Link → Option ℕ
above [] = None
above (l ∷ ls) = Some l.family

module _ {T : Type 0} where
  abbrev pub counted_of : Walked T → Counted
  counted_of w = record { pushes = w.tally.pushes; goals = w.tally.goals; stopped = is_stopped w.end }

  -- what the finished of some siblings count
  abbrev pub counts_of : List (Option (Walked T)) → List (Option Counted)
  counts_of [] = []
  counts_of (None ∷ ws) = None ∷ counts_of ws
  counts_of (Some w ∷ ws) = Some (counted_of w) ∷ counts_of ws

  abbrev pub with_kept : Walked T → Option (List (Walked T)) → Option (List (Walked T))
  with_kept w None = None
  with_kept w (Some ws) = Some (w ∷ ws)

  -- the siblings that are kept, where all are finished up to the first that stops the family
  unfoldable pub kept : Numbers → Counted → List (Option (Walked T)) → Option (List (Walked T))
  kept numbers s [] = Some []
  kept numbers s (None ∷ ws) = None
  kept numbers s (Some w ∷ ws) = cond (stops numbers (add s (counted_of w))) (Some (w ∷ [])) (with_kept w (kept numbers (add s (counted_of w)) ws))

  abbrev pub marks_of : List (Walked T) → List (Visit T)
  marks_of [] = []
  marks_of (w ∷ ws) = w.marks ++ marks_of ws

  abbrev pub phase_walk : Phase T → Option (Walked T)
  phase_walk free = None
  phase_walk claimed = None
  phase_walk expanded = None
  phase_walk (put w) = Some w
  phase_walk (closed w) = Some w
  phase_walk (dropped l) = None

  abbrev pub node_walk : Option (Node T) → Option (Walked T)
  node_walk None = None
  node_walk (Some n) = phase_walk n.phase

  -- the results of count nodes from the first on
  unfoldable pub walks_of : List (Node T) → ℕ → ℕ → List (Option (Walked T))
  walks_of ns first zero = []
  walks_of ns first (suc c) = node_walk (slice_get ns first) ∷ walks_of ns (first + 1) c

  -- node k as f makes it
  unfoldable pub change : List (Node T) → ℕ → (Node T → Node T) → List (Node T)
  change [] k f = []
  change (n ∷ ns) zero f = f n ∷ ns
  change (n ∷ ns) (suc k) f = n ∷ change ns k f

  abbrev pub set_phase : List (Node T) → ℕ → Phase T → List (Node T)
  set_phase ns k p = change ns k (λ n. record n { phase = p })

  abbrev pub parent_of : Option (Node T) → Option ℕ
  parent_of None = None
  parent_of (Some n) = above n.path

  abbrev pub child : ℕ → List Link → ℕ → T → Node T
  child k path place c = record { task = c; path = record { family = k; place = place } ∷ path; first = 0; phase = free; word = NONE }

  -- the children of node k, as new nodes
  abbrev pub new_nodes : ℕ → List Link → ℕ → List T → List (Node T)
  new_nodes k path place [] = []
  new_nodes k path place (c ∷ cs) = child k path place c ∷ new_nodes k path (place + 1) cs

  abbrev pub on_closed : (List (Node T) → Option ℕ → List (Node T)) → List (Node T) → ℕ → Option (List (Node T)) → List (Node T)
  on_closed go ns p None = ns
  on_closed go ns p (Some ms) = go ms (parent_of (slice_get ms p))

  abbrev pub root : T → List (Node T)
  root t = record { task = t; path = []; first = 0; phase = free; word = NONE } ∷ []

module _ {T : Type 0} (step : T → Stepped T) (depth : T → ℕ) (rule : Rule) where
  abbrev pub children : T → List T
  children t = out_children (step t).out

  -- the true tallies of siblings
  abbrev pub tallies : List T → List Counted
  tallies [] = []
  tallies (c ∷ cs) = counted_of (full step depth rule c) ∷ tallies cs

  -- the family of a task's children stops by this place
  abbrev pub Stops : T → ℕ → Type 0
  Stops t i = stops_by (numbers_of rule) (tallies (children t)) i ≡ true

  -- the result of a node whose kept children have these
  abbrev pub joined_walk : T → List (Walked T) → Walked T
  joined_walk t ws = cut rule zero_tally (visit_of t (step t) ∷ marks_of ws)

  abbrev pub kept_of : List (Node T) → Node T → Option (List (Walked T))
  kept_of ns n = kept (numbers_of rule) nothing_counted (walks_of ns n.first (length (children n.task)))

  -- the least place by which the finished children of a node stop their family
  abbrev pub known_of : List (Node T) → Node T → Option ℕ
  known_of ns n = known_stop (numbers_of rule) (counts_of (walks_of ns n.first (length (children n.task))))

  abbrev pub close_with : List (Node T) → ℕ → Node T → Option (List (Walked T)) → Option (List (Node T))
  close_with ns p n None = None
  close_with ns p n (Some ws) = Some (set_phase ns p (closed (joined_walk n.task ws)))

  abbrev pub close_phase : List (Node T) → ℕ → Node T → Phase T → Option (List (Node T))
  close_phase ns p n free = None
  close_phase ns p n claimed = None
  close_phase ns p n (put w) = None
  close_phase ns p n (closed w) = None
  close_phase ns p n (dropped l) = None
  close_phase ns p n expanded = close_with ns p n (kept_of ns n)

  abbrev pub close_node : List (Node T) → ℕ → Option (Node T) → Option (List (Node T))
  close_node ns p None = None
  close_node ns p (Some n) = close_phase ns p n n.phase

  -- closes node p, where it can be closed, and then its parent
  unfoldable pub close_up : ℕ → List (Node T) → Option ℕ → List (Node T)
  close_up zero ns p = ns
  close_up (suc f) ns None = ns
  close_up (suc f) ns (Some p) = on_closed (close_up f) ns p (close_node ns p (slice_get ns p))

  abbrev pub put_node : List (Node T) → ℕ → Option (Node T) → List (Node T)
  put_node ns k None = ns
  put_node ns k (Some n) = close_up (k + 1) (set_phase ns k (put (full step depth rule n.task))) (above n.path)

  abbrev pub expand_node : List (Node T) → ℕ → Option (Node T) → List (Node T)
  expand_node ns k None = ns
  expand_node ns k (Some n) = change ns k (λ m. record m { first = length ns; phase = expanded; word = NONE }) ++ new_nodes k n.path 0 (children n.task)

  abbrev pub apply : List (Node T) → Turn → List (Node T)
  apply ns (claim k) = set_phase ns k claimed
  apply ns (expand k) = expand_node ns k (slice_get ns k)
  apply ns (finish k) = put_node ns k (slice_get ns k)
  apply ns (drop k l) = set_phase ns k (dropped l)
  apply ns (mark f i) = change ns f (λ n. record n { word = min n.word i })
  apply ns (look f) = ns

  unfoldable pub replay_from : List (Node T) → List Turn → List (Node T)
  replay_from ns [] = ns
  replay_from ns (e ∷ es) = replay_from (apply ns e) es

  -- the nodes after these steps
  abbrev pub replay : T → List Turn → List (Node T)
  replay t es = replay_from (root t) es
