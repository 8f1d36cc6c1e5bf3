-- What the end of a table answers: the walk of its root, and the notes of what was dropped.
use Rattle.std.specs.Prelude.{◌≡◌, ℕ, zero, suc, ◌+◌, ◌-◌, ◌≤◌, ◌<◌, true, cond, List, [], ◌∷◌, ◌++◌, length, Option, Some, None}
use Rattle.std.specs.List.{slice_get}
use Rattle.ap_names.specs.Names.{Name}
use Rattle.ap_walk.specs.declared.act.Stepped.{Stepped}
use Rattle.ap_walk.specs.declared.rule.Rule.{Rule}
use Rattle.ap_walk.specs.declared.mark.Walked.{Walked}
use Rattle.ap_walk.specs.Visits.{Visit}
use Rattle.ap_walk.specs.Walks.{full}
use Rattle.ap_table.specs.declared.link.License.{License}
use Rattle.ap_table.specs.declared.link.DropNote.{DropNote}
use Rattle.ap_table.specs.declared.stored.Entry.{Entry}
use Rattle.ap_table.specs.declared.stored.Entry.TheVariants as entry
use Rattle.ap_table.specs.declared.stored.Stored.{Stored}
use Rattle.ap_table.specs.declared.stored.Stage.{Stage}
use Rattle.ap_table.specs.declared.stored.Stage.TheVariants as stage
use Rattle.ap_table.specs.Core.{Node, phase_walk, above, children}
use Rattle.ap_table.specs.Sound.{Licensed}
use Rattle.ap_table.specs.Live.{done_at}
use Rattle.ap_table.specs.Sums.{HasKids}
use Rattle.ap_table.specs.Shown.{Run, nodes_of}

-- just the notes of the drops of a history, in their order
abbrev pub AreNotes : (ℕ → License → DropNote → Type 0) → List Entry → List DropNote → Type 0
AreNotes one [] [] = Unit {0}
AreNotes one [] (d ∷ ds) = ⊥
AreNotes one (entry.Dropped k l ∷ es) [] = ⊥
AreNotes one (entry.Dropped k l ∷ es) (d ∷ ds) = one k l d × AreNotes one es ds
AreNotes one (entry.Claimed k ∷ es) ds = AreNotes one es ds
AreNotes one (entry.Expanded k ∷ es) ds = AreNotes one es ds
AreNotes one (entry.Put k ∷ es) ds = AreNotes one es ds
AreNotes one (entry.Marked f i ∷ es) ds = AreNotes one es ds

module _ {T : Type 0} (step : T → Stepped T) (depth : T → ℕ) (rule : Rule) (name : T → Name) where
  -- the note of a node by a licence for it: it names the node's task, and the child at the licence's index of
  -- the task whose children are the licence's family
  pub record IsLicensedNote (ns : List (Node T)) (k : ℕ) (l : License) (d : DropNote) : Type 0 where
    pub node : Node T
    pub at : slice_get ns k ≡ Some node
    pub licensed : Licensed step depth rule ns node.path l
    pub parent : Node T
    pub parent_at : slice_get ns l.family ≡ Some parent
    pub sibling : T
    pub sibling_at : slice_get (children step depth rule parent.task) l.index ≡ Some sibling
    pub is : d ≡ record { dropped = name node.task; stopped = name sibling; license = l }

module _ {T : Type 0} (step : T → Stepped T) (depth : T → ℕ) where
  -- the root is done
  abbrev pub HasEnded : Run T → Type 0
  HasEnded r = (n : Node T) × (w : Walked T) × (slice_get (nodes_of step depth r) 0 ≡ Some n) × (phase_walk n.phase ≡ Some w)

  -- the serial walk of the root's task, and just the notes of the drops, each licensed
  abbrev pub Ends : (T → Name) → Run T → Walked T → List DropNote → Type 0
  Ends name r w notes = (w ≡ full step depth r.rule r.root) × AreNotes (IsLicensedNote step depth r.rule name (nodes_of step depth r)) r.history notes

-- The same, of the kept nodes.
module _ {T : Type 0} where
  pub record IsKeptNote (name : T → Name) (nodes : List (Stored T)) (k : ℕ) (l : License) (d : DropNote) : Type 0 where
    pub node : Stored T
    pub at : slice_get nodes k ≡ Some node
    pub parent : Stored T
    pub parent_at : slice_get nodes l.family ≡ Some parent
    pub sibling : Stored T
    pub sibling_at : slice_get nodes (parent.first + l.index) ≡ Some sibling
    pub is : d ≡ record { dropped = name node.task; stopped = name sibling.task; license = l }

  -- the nodes whose names a note has are there
  pub record CanNote (nodes : List (Stored T)) (k : ℕ) (l : License) : Type 0 where
    pub node : Stored T
    pub at : slice_get nodes k ≡ Some node
    pub parent : Stored T
    pub parent_at : slice_get nodes l.family ≡ Some parent
    pub sibling : Stored T
    pub sibling_at : slice_get nodes (parent.first + l.index) ≡ Some sibling

  -- each drop can be noted
  abbrev pub CanNoteAll : List (Stored T) → List Entry → Type 0
  CanNoteAll nodes [] = Unit {0}
  CanNoteAll nodes (entry.Dropped k l ∷ es) = CanNote nodes k l × CanNoteAll nodes es
  CanNoteAll nodes (entry.Claimed k ∷ es) = CanNoteAll nodes es
  CanNoteAll nodes (entry.Expanded k ∷ es) = CanNoteAll nodes es
  CanNoteAll nodes (entry.Put k ∷ es) = CanNoteAll nodes es
  CanNoteAll nodes (entry.Marked f i ∷ es) = CanNoteAll nodes es

  -- the marks of count nodes from the first on, up to the first that isn't done
  unfoldable pub done_front : (ℕ → List (Visit T)) → List (Stored T) → ℕ → ℕ → List (Visit T)
  done_front one nodes first zero = []
  done_front one nodes first (suc c) = cond (done_at nodes first) (one first ++ done_front one nodes (first + 1) c) []

  -- a node's own mark, or none
  abbrev pub own_marks : Option (Visit T) → List (Visit T)
  own_marks None = []
  own_marks (Some v) = v ∷ []

  abbrev pub stage_marks : (ℕ → List (Visit T)) → List (Stored T) → Stored T → Stage T → List (Visit T)
  stage_marks one nodes c (stage.Free copy) = []
  stage_marks one nodes c stage.Claimed = []
  stage_marks one nodes c stage.Expanded = []
  stage_marks one nodes c (stage.Put w) = w.marks
  stage_marks one nodes c (stage.Closed s) = own_marks c.own ++ done_front one nodes c.first c.count
  stage_marks one nodes c (stage.Dropped l) = []

  abbrev pub stored_marks : (ℕ → List (Visit T)) → List (Stored T) → Option (Stored T) → List (Visit T)
  stored_marks one nodes None = []
  stored_marks one nodes (Some c) = stage_marks one nodes c c.stage

  -- the marks that are kept of node k and of the nodes so many levels below it
  unfoldable pub marks_at : List (Stored T) → ℕ → ℕ → List (Visit T)
  marks_at nodes zero k = []
  marks_at nodes (suc levels) k = stored_marks (marks_at nodes levels) nodes (slice_get nodes k)

  -- four levels are enough for every node that is done
  abbrev pub MakesUp : List (Stored T) → Type 0
  MakesUp nodes = (k : ℕ) → done_at nodes k ≡ true → marks_at nodes 4 k ≡ stored_marks (marks_at nodes 4) nodes (slice_get nodes k)

  -- a node's children come after it, and stand below it alone
  pub record Tree (nodes : List (Stored T)) (k : ℕ) (c : Stored T) : Type 0 where
    pub fits : c.first + c.count ≤ length nodes
    pub after : (j : ℕ) → c.first ≤ j → j < c.first + c.count → k < j
    pub up : (j : ℕ) (m : Stored T) → c.first ≤ j → j < c.first + c.count → slice_get nodes j ≡ Some m → above m.path ≡ Some k

  abbrev pub Trees : List (Stored T) → Type 0
  Trees nodes = (k : ℕ) (c : Stored T) → slice_get nodes k ≡ Some c → HasKids c.stage → Tree nodes k c

  abbrev pub and_slot : Option (Option (List (Visit T))) → List (Visit T) → List (Visit T)
  and_slot None more = []
  and_slot (Some None) more = []
  and_slot (Some (Some marks)) more = marks ++ more

  -- what the last of the slots below top and those before it hold, up to the first that is empty
  unfoldable pub slots_front : List (Option (List (Visit T))) → ℕ → ℕ → List (Visit T)
  slots_front slots top zero = []
  slots_front slots top (suc c) = and_slot (slice_get slots (top - 1)) (slots_front slots (top - 1) c)

  abbrev pub stage_piece : List (Option (List (Visit T))) → ℕ → Stored T → Stage T → Option (List (Visit T))
  stage_piece slots total c (stage.Free copy) = None
  stage_piece slots total c stage.Claimed = None
  stage_piece slots total c stage.Expanded = None
  stage_piece slots total c (stage.Put w) = Some w.marks
  stage_piece slots total c (stage.Closed s) = Some (own_marks c.own ++ slots_front slots (total - c.first) c.count)
  stage_piece slots total c (stage.Dropped l) = None

  -- the piece of a node, by the slots of those behind it
  abbrev pub piece_of : List (Option (List (Visit T))) → ℕ → Stored T → Option (List (Visit T))
  piece_of slots total c = stage_piece slots total c c.stage

  -- the marks of a node that is done
  abbrev pub slot : List (Stored T) → ℕ → Option (List (Visit T))
  slot nodes k = cond (done_at nodes k) (Some (marks_at nodes 4 k)) None

  -- each node from one on that stands below none from it on has its marks in its slot; the last node's slot is the first
  abbrev pub Slots : List (Stored T) → ℕ → List (Option (List (Visit T))) → Type 0
  Slots nodes from slots = (j : ℕ) (c : Stored T) → from ≤ j → slice_get nodes j ≡ Some c → ((p : ℕ) → above c.path ≡ Some p → p < from) → slice_get slots (length nodes - (j + 1)) ≡ Some (slot nodes j)
