-- What each call does to the table's nodes.
use Rattle.std.specs.Prelude.{◌≡◌, ◌≢◌, ℕ, ◌+◌, ◌≤◌, ◌<◌, List, [], ◌∷◌, ◌++◌, length, Option, Some, None}
use Rattle.std.specs.List.{slice_get}
use Rattle.ap_list.specs.Lists.{AnyOf}
use Rattle.ap_walk.specs.declared.act.Stepped.{Stepped}
use Rattle.ap_walk.specs.declared.rule.Rule.{Rule}
use Rattle.ap_walk.specs.Visits.{out_children}
use Rattle.ap_table.specs.declared.link.License.{License}
use Rattle.ap_table.specs.declared.link.Link.{Link}
use Rattle.ap_table.specs.declared.stored.Entry.{Entry}
use Rattle.ap_table.specs.declared.stored.Entry.TheVariants as entry
use Rattle.ap_table.specs.declared.stored.NodeJob.{NodeJob}
use Rattle.ap_table.specs.declared.stored.NodeClaim.{NodeClaim}
use Rattle.ap_table.specs.declared.stored.NodeClaim.TheVariants as claim
use Rattle.ap_table.specs.declared.stored.NodeGrown.{NodeGrown}
use Rattle.ap_table.specs.declared.stored.NodeGrown.TheVariants as grown
use Rattle.ap_table.specs.declared.stored.NodeTaken.{NodeTaken}
use Rattle.ap_table.specs.declared.stored.NodeTaken.TheVariants as taken
use Rattle.ap_table.specs.Core.{Node, free, claimed, phase_walk, known_of}
use Rattle.ap_walk.specs.declared.mark.Walked.{Walked}
use Rattle.ap_table.specs.Order.{IsFirst}
use Rattle.ap_table.specs.Sound.{Names, IsFree}
use Rattle.ap_table.specs.Shown.{Run, nodes_of}

-- no node is free
abbrev pub NoneFree : {T : Type 0} → List (Node T) → Type 0
NoneFree ns = (k : ℕ) (n : Node _) → slice_get ns k ≡ Some n → n.phase ≢ free

abbrev pub longer : {T : Type 0} → Run T → Entry → Run T
longer r e = record r { history = r.history ++ e ∷ [] }

-- a mark, where a family is known to stop
abbrev pub one_mark : ℕ → Option ℕ → List Entry
one_mark family None = []
one_mark family (Some i) = entry.Marked family i ∷ []

module _ {T : Type 0} (step : T → Stepped T) (depth : T → ℕ) (rule : Rule) where
  abbrev pub known_at : List (Node T) → Option (Node T) → Option ℕ
  known_at ns None = None
  known_at ns (Some n) = known_of step depth rule ns n

  -- a mark for each family of a path that is known to stop, the nearest first
  abbrev pub stop_marks : List (Node T) → List Link → List Entry
  stop_marks ns [] = []
  stop_marks ns (l ∷ ls) = one_mark l.family (known_at ns (slice_get ns l.family)) ++ stop_marks ns ls

module _ {T : Type 0} (step : T → Stepped T) (depth : T → ℕ) where
  -- Found takes the first free node, and Nothing is where none is free
  abbrev pub NodeClaims : Run T → Run T → NodeClaim T → Type 0
  NodeClaims old new (claim.Found job) =
      (new ≡ longer old (entry.Claimed job.node)) × (job.rule ≡ old.rule) × ((first : IsFirst (nodes_of step depth old) job.node) × (job.task ≡ first.node.task))
  NodeClaims old new claim.Nothing = (new ≡ old) × NoneFree (nodes_of step depth old)

  -- Found takes this node, which is free, and Nothing is where it isn't there or isn't free
  abbrev pub NodeClaimsAt : Run T → Run T → ℕ → NodeClaim T → Type 0
  NodeClaimsAt old new k (claim.Found job) =
      (new ≡ longer old (entry.Claimed k)) × (job.node ≡ k) × (job.rule ≡ old.rule) × ((n : Node T) × (slice_get (nodes_of step depth old) k ≡ Some n) × (n.phase ≡ free) × (job.task ≡ n.task))
  NodeClaimsAt old new k claim.Nothing = (new ≡ old) × (IsFree (slice_get (nodes_of step depth old) k) → ⊥)

  -- the root is done, and its task and the table's rule are these
  abbrev pub IsRootDone : Run T → T → Rule → Type 0
  IsRootDone r t rule = ((n : Node T) × (w : Walked T) × (slice_get (nodes_of step depth r) 0 ≡ Some n) × (phase_walk n.phase ≡ Some w)) × (r.root ≡ t) × (r.rule ≡ rule)

  -- the job is that of a claimed node
  abbrev pub IsNodeJob : Run T → NodeJob T → Type 0
  IsNodeJob r job = (job.rule ≡ r.rule) × ((n : Node T) × (slice_get (nodes_of step depth r) job.node ≡ Some n) × (n.phase ≡ claimed) × (job.task ≡ n.task))

  -- the node has fewer than three families above it, and the table has room for its children
  abbrev pub CanGrow : Run T → ℕ → ℕ → Type 0
  CanGrow r k count = (n : Node T) × (slice_get (nodes_of step depth r) k ≡ Some n) × (length n.path < 3) × (length (nodes_of step depth r) + count ≤ 1000000)

  abbrev pub NodeGrows : Run T → Run T → NodeJob T → Stepped T → NodeGrown T → Type 0
  NodeGrows old new job stepped (grown.Family family first count) =
      (new ≡ longer old (entry.Expanded job.node)) × IsNodeJob old job × CanGrow old job.node (length (out_children stepped.out)) × (family ≡ job.node) × (first ≡ length (nodes_of step depth old)) × (count ≡ length (out_children stepped.out))
  NodeGrows old new job stepped (grown.Stranger back again) =
      (new ≡ old) × (back ≡ job) × (again ≡ stepped) × (IsNodeJob old job → CanGrow old job.node (length (out_children stepped.out)) → ⊥)
  NodeGrows old new job stepped (grown.NoMemory back again) = (new ≡ old) × (back ≡ job) × (again ≡ stepped)

  -- the node has fewer than three families above it, its step is a split of two children or more, and there is room for these
  abbrev pub CanStill : Run T → ℕ → Type 0
  CanStill r k = (n : Node T) × (slice_get (nodes_of step depth r) k ≡ Some n) × (2 ≤ length (out_children (step n.task).out)) × (length n.path < 3) × (length (nodes_of step depth r) + length (out_children (step n.task).out) ≤ 1000000)

  -- the marks of a put: where each family above the node is known to stop
  abbrev pub PutMarks : Run T → ℕ → List Entry → Type 0
  PutMarks r k marks = (n : Node T) × (slice_get (nodes_of step depth r) k ≡ Some n) × (marks ≡ stop_marks step depth r.rule (nodes_of step depth (longer r (entry.Put k))) n.path)

  abbrev pub NodePuts : Run T → Run T → NodeJob T → NodeTaken T → Type 0
  NodePuts old new job taken.Kept = ((marks : List Entry) × (new ≡ record old { history = old.history ++ entry.Put job.node ∷ marks }) × PutMarks old job.node marks) × IsNodeJob old job × (CanStill old job.node → ⊥)
  NodePuts old new job (taken.Stranger back) = (new ≡ old) × (back ≡ job) × (IsNodeJob old job → CanStill old job.node)

  -- the licence's family is above the node, its index below the place there, and kept results stop the family at or before the index
  abbrev pub IsLicense : Run T → ℕ → License → Type 0
  IsLicense r k l =
      ((n : Node T) × (slice_get (nodes_of step depth r) k ≡ Some n) × AnyOf (Names l) n.path)
      × ((m : Node T) × (i : ℕ) × (slice_get (nodes_of step depth r) l.family ≡ Some m) × (known_of step depth r.rule (nodes_of step depth r) m ≡ Some i) × (i ≤ l.index))

  abbrev pub NodeDrops : Run T → Run T → NodeJob T → License → NodeTaken T → Type 0
  NodeDrops old new job l taken.Kept = (new ≡ longer old (entry.Dropped job.node l)) × IsNodeJob old job × IsLicense old job.node l
  NodeDrops old new job l (taken.Stranger back) = (new ≡ old) × (back ≡ job) × (IsNodeJob old job → IsLicense old job.node l → ⊥)
