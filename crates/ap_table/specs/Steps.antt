-- What each call does to the table, by the seats too.
use Rattle.std.specs.Prelude.{◌≡◌, ℕ, Some, length}
use Rattle.std.specs.List.{slice_get}
use Rattle.ap_walk.specs.declared.act.Stepped.{Stepped}
use Rattle.ap_walk.specs.Visits.{out_children}
use Rattle.ap_table.specs.declared.link.License.{License}
use Rattle.ap_table.specs.declared.stored.Job.{Job}
use Rattle.ap_table.specs.declared.stored.NodeJob.{NodeJob}
use Rattle.ap_table.specs.declared.stored.Claim.{Claim}
use Rattle.ap_table.specs.declared.stored.Claim.TheVariants as claim
use Rattle.ap_table.specs.declared.stored.Grown.{Grown}
use Rattle.ap_table.specs.declared.stored.Grown.TheVariants as grown
use Rattle.ap_table.specs.declared.stored.Taken.{Taken}
use Rattle.ap_table.specs.declared.stored.Taken.TheVariants as taken
use Rattle.ap_table.specs.declared.stored.NodeClaim.TheVariants as node_claim
use Rattle.ap_table.specs.declared.stored.NodeGrown.TheVariants as node_grown
use Rattle.ap_table.specs.declared.stored.NodeTaken.TheVariants as node_taken
use Rattle.ap_table.specs.Core.{Node}
use Rattle.ap_table.specs.Shown.{Run, nodes_of}
use Rattle.ap_table.specs.Calls.{NodeClaims, NodeClaimsAt, NodeGrows, NodePuts, NodeDrops, IsNodeJob, CanGrow, CanStill, IsLicense}
use Rattle.ap_table.specs.Seated.{GiveAll, SeatsFor}

abbrev pub node_job : {T : Type 0} → Job T → NodeJob T
node_job j = record { task = j.task; rule = j.rule; node = j.node }

module _ {T : Type 0} (step : T → Stepped T) (depth : T → ℕ) where
  -- the job's seats give just the families above its node, each once and with the place there
  abbrev pub AreSeats : Run T → Job T → Type 0
  AreSeats r job = (n : Node T) × (slice_get (nodes_of step depth r) job.node ≡ Some n) × GiveAll n.path job.seats

  -- the job is the table's
  abbrev pub IsJob : Run T → Job T → Type 0
  IsJob r job = IsNodeJob step depth r (node_job job) × AreSeats r job

  -- Found takes the first free node, with a seat for each family above it; and Nothing is where none is free
  abbrev pub Claims : Run T → Run T → Claim T → Type 0
  Claims old new (claim.Found job) = NodeClaims step depth old new (node_claim.Found (node_job job)) × ((n : Node T) × (slice_get (nodes_of step depth old) job.node ≡ Some n) × SeatsFor step depth old.rule (nodes_of step depth old) n.path job.seats)
  Claims old new claim.Nothing = NodeClaims step depth old new node_claim.Nothing

  -- Found takes this node, which is free, with a seat for each family above it; and Nothing is where it isn't there or isn't free
  abbrev pub ClaimsAt : Run T → Run T → ℕ → Claim T → Type 0
  ClaimsAt old new k (claim.Found job) = NodeClaimsAt step depth old new k (node_claim.Found (node_job job)) × ((n : Node T) × (slice_get (nodes_of step depth old) job.node ≡ Some n) × SeatsFor step depth old.rule (nodes_of step depth old) n.path job.seats)
  ClaimsAt old new k claim.Nothing = NodeClaimsAt step depth old new k node_claim.Nothing

  abbrev pub Grows : Run T → Run T → Job T → Stepped T → Grown T → Type 0
  Grows old new job stepped (grown.Family family first count) = NodeGrows step depth old new (node_job job) stepped (node_grown.Family family first count) × AreSeats old job
  Grows old new job stepped (grown.Stranger back again) = (new ≡ old) × (back ≡ job) × (again ≡ stepped) × (IsJob old job → CanGrow step depth old job.node (length (out_children stepped.out)) → ⊥)
  Grows old new job stepped (grown.NoMemory back again) = (new ≡ old) × (back ≡ job) × (again ≡ stepped)

  abbrev pub Puts : Run T → Run T → Job T → Taken T → Type 0
  Puts old new job taken.Kept = NodePuts step depth old new (node_job job) node_taken.Kept × AreSeats old job
  Puts old new job (taken.Stranger back) = (new ≡ old) × (back ≡ job) × (IsJob old job → CanStill step depth old job.node)

  abbrev pub Drops : Run T → Run T → Job T → License → Taken T → Type 0
  Drops old new job l taken.Kept = NodeDrops step depth old new (node_job job) l node_taken.Kept × AreSeats old job
  Drops old new job l (taken.Stranger back) = (new ≡ old) × (back ≡ job) × (IsJob old job → IsLicense step depth old job.node l → ⊥)
