-- What the kept nodes stand for.
use Rattle.std.specs.Prelude.{◌≡◌, ℕ, zero, suc, ◌+◌, ◌*◌, ◌≤◌, ◌<◌, List, [], ◌∷◌, length, Option, Some, None}
use Rattle.std.specs.List.{slice_get}
use Rattle.ap_walk.specs.declared.act.Stepped.{Stepped}
use Rattle.ap_walk.specs.declared.rule.Rule.{Rule}
use Rattle.ap_walk.specs.declared.rule.Tally.{Tally}
use Rattle.ap_walk.specs.declared.rule.End.{End}
use Rattle.ap_walk.specs.declared.mark.Walked.{Walked}
use Rattle.ap_walk.specs.Visits.{Visit, out_children, visit_of}
use Rattle.ap_table.specs.declared.link.Link.{Link}
use Rattle.ap_table.specs.declared.stored.Entry.{Entry}
use Rattle.ap_table.specs.declared.stored.Entry.TheVariants as entry
use Rattle.ap_table.specs.declared.stored.Stored.{Stored}
use Rattle.ap_table.specs.declared.stored.Stage.{Stage}
use Rattle.ap_table.specs.declared.stored.Stage.TheVariants as stage
use Rattle.ap_word.specs.Stops.{NONE}
use Rattle.ap_table.specs.Core.{Phase, Node, free, claimed, expanded, put, closed, dropped, Turn, claim, expand, finish, drop, mark, root, replay_from}
use Rattle.ap_table.specs.Sound.{AreAllowed}
use Rattle.ap_table.specs.Order.{IsOrder}
use Rattle.ap_table.specs.Sums.{Kids, WordsBut, nothing_told}

-- what contracts see of a table
pub record Run (T : Type 0) : Type 0 where
  pub root : T
  pub rule : Rule
  pub history : List Entry

abbrev pub turn_of : Entry → Turn
turn_of (entry.Claimed k) = claim k
turn_of (entry.Expanded k) = expand k
turn_of (entry.Put k) = finish k
turn_of (entry.Dropped k l) = drop k l
turn_of (entry.Marked f i) = mark f i

abbrev pub turns : List Entry → List Turn
turns [] = []
turns (e ∷ es) = turn_of e ∷ turns es

module _ {T : Type 0} where
  -- a walk's tally where it goes through, and else nothing
  abbrev pub SumShows : Option Tally → Walked T → Type 0
  SumShows None w = w.end ≡ End.Through → ⊥
  SumShows (Some t) w = (w.end ≡ End.Through) × (w.tally ≡ t)

  abbrev pub StageShows : T → ℕ → ℕ → Stage T → Phase T → Type 0
  StageShows t count wanted (stage.Free copy) free = copy ≡ t
  StageShows t count wanted stage.Claimed claimed = Unit {0}
  StageShows t count wanted stage.Expanded expanded = count ≡ wanted
  StageShows t count wanted (stage.Put v) (put w) = v ≡ w
  StageShows t count wanted (stage.Closed s) (closed w) = SumShows s w × (count ≡ wanted)
  StageShows t count wanted (stage.Dropped x) (dropped y) = x ≡ y
  StageShows t count wanted _ _ = ⊥

  -- a node whose children are in the table keeps its own mark
  abbrev pub OwnShows : Option (Visit T) → Visit T → Phase T → Type 0
  OwnShows o v free = Unit {0}
  OwnShows o v claimed = Unit {0}
  OwnShows o v expanded = o ≡ Some v
  OwnShows o v (put w) = Unit {0}
  OwnShows o v (closed w) = o ≡ Some v
  OwnShows o v (dropped l) = Unit {0}

  -- kept node k as f makes it
  unfoldable pub alter : List (Stored T) → ℕ → (Stored T → Stored T) → List (Stored T)
  alter [] k f = []
  alter (c ∷ cs) zero f = f c ∷ cs
  alter (c ∷ cs) (suc k) f = c ∷ alter cs k f

  -- entries that a node may still have
  abbrev pub stage_room : Stage T → ℕ
  stage_room (stage.Free c) = 5
  stage_room stage.Claimed = 4
  stage_room _ = 0

  abbrev pub rooms : List (Stored T) → ℕ
  rooms [] = 0
  rooms (c ∷ cs) = stage_room c.stage + rooms cs

  -- the root, as a kept node
  abbrev pub kept_root : T → Stored T
  kept_root t = record { task = t; path = []; own = None; first = 0; count = 0; stage = stage.Free t; word = NONE; told = nothing_told }

  -- the children of a node, as new kept nodes
  unfoldable pub fresh : ℕ → List Link → ℕ → List T → List (Stored T)
  fresh k path place [] = []
  fresh k path place (c ∷ cs) = record { task = c; path = record { family = k; place = place } ∷ path; own = None; first = 0; count = 0; stage = stage.Free c; word = NONE; told = nothing_told } ∷ fresh k path (place + 1) cs

module _ {T : Type 0} (step : T → Stepped T) where
  pub record Shows (c : Stored T) (n : Node T) : Type 0 where
    pub task : c.task ≡ n.task
    pub path : c.path ≡ n.path
    pub first : c.first ≡ n.first
    pub word : c.word ≡ n.word
    pub stage : StageShows n.task c.count (length (out_children (step n.task).out)) c.stage n.phase
    pub own : OwnShows c.own (visit_of n.task (step n.task)) n.phase

  -- a node that was put can't be expanded any more: it has three families above it, or fewer than two children, or there is no room for these
  abbrev pub NoMore : List (Stored T) → Type 0
  NoMore nodes = (k : ℕ) (c : Stored T) (v : Walked T) → slice_get nodes k ≡ Some c → c.stage ≡ stage.Put v → 2 ≤ length (out_children (step c.task).out) → length c.path < 3 → length nodes + length (out_children (step c.task).out) ≤ 1000000 → ⊥

  abbrev pub AllShow : List (Stored T) → List (Node T) → Type 0
  AllShow [] [] = Unit {0}
  AllShow [] (n ∷ ns) = ⊥
  AllShow (c ∷ cs) [] = ⊥
  AllShow (c ∷ cs) (n ∷ ns) = Shows c n × AllShow cs ns

module _ {T : Type 0} (step : T → Stepped T) (depth : T → ℕ) where
  -- the nodes that a table's history leaves
  abbrev pub nodes_of : Run T → List (Node T)
  nodes_of r = replay_from step depth r.rule (root r.root) (turns r.history)

  -- live is the list of the free and claimed nodes, capacity that of the history. The words of families on
  -- a path may still be above their known stops, and so many entries are to come
  pub record IsTableBut (path : List Link) (left : ℕ) (r : Run T) (nodes : List (Stored T)) (live : List ℕ) (capacity : ℕ) : Type 0 where
    pub shows : AllShow step nodes (nodes_of r)
    pub order : IsOrder (nodes_of r) live
    pub allowed : AreAllowed step depth r.rule (root r.root) (turns r.history)
    pub room : length r.history + rooms nodes + left ≤ 5 * length nodes
    pub reserved : 5 * length nodes ≤ capacity
    pub few : length nodes ≤ 1000000
    pub kids : Kids r.rule None nodes
    pub words : WordsBut path nodes
    pub puts : NoMore step nodes

  abbrev pub IsTable : Run T → List (Stored T) → List ℕ → ℕ → Type 0
  IsTable = IsTableBut [] 0
