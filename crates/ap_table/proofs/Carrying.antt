-- What the nodes' steps tell of a job that carries its seats.
use Rattle.std.proofs.Common.{◌≡◌, ◌<◌, ℕ, ◌+◌, List, ◌++◌, Some, length, take, drop, sym, ap, subst, ◌∙◌, arith}
use Rattle.std.specs.List.{slice_get}
use Rattle.ap_list.specs.Lists.{Each}
use Rattle.ap_walk.specs.declared.act.Stepped.{Stepped}
use Rattle.ap_walk.specs.declared.rule.Rule.{Rule}
use Rattle.ap_walk.specs.Visits.{out_children}
use Rattle.ap_word.specs.Words.{made}
use Rattle.ap_table.specs.Core.{Node, free, root, children, replay_from}
use Rattle.ap_table.specs.Shown.{Run, turns, nodes_of}
use Rattle.ap_table.specs.Calls.{longer, NodeClaims, NodeClaimsAt, NodeGrows, NodePuts, NodeDrops, IsNodeJob, CanGrow, CanStill, IsLicense}
use Rattle.ap_table.specs.Steps.{node_job, AreSeats, IsJob, Claims, ClaimsAt, Grows, Puts, Drops}
use Rattle.ap_table.specs.declared.link.License.{License}
use Rattle.ap_table.specs.declared.stored.Entry.TheVariants as entry
use Rattle.ap_table.specs.declared.stored.Job.{Job}
use Rattle.ap_table.specs.declared.stored.NodeJob.{NodeJob}
use Rattle.ap_table.specs.declared.stored.Claim.TheVariants as claim
use Rattle.ap_table.specs.declared.stored.Grown.TheVariants as grown
use Rattle.ap_table.specs.declared.stored.Taken.TheVariants as taken
use Rattle.ap_table.specs.declared.stored.NodeClaim.TheVariants as node_claim
use Rattle.ap_table.specs.declared.stored.NodeGrown.TheVariants as node_grown
use Rattle.ap_table.specs.declared.stored.NodeTaken.TheVariants as node_taken
use Rattle.ap_table.specs.declared.seats.AncestorSeat.{AncestorSeat}
use Rattle.ap_table.specs.declared.seats.Beside.{Beside}
use Rattle.ap_table.specs.Kept.{Kept}
use Rattle.ap_table.specs.Seated.{amend, without_job, with_kept, AreRows, IsMark, true_family, SeatsFor, AreSeated}
use Rattle.ap_table.proofs.Keeping.{some_is}
use Rattle.ap_table.proofs.Sitting.{is_there, is_below}
use Rattle.ap_table.proofs.Wording.{are_marks, claimed_seats, dropped_seats, put_part, put_marks, expanded_seats}

module _ {T : Type 0} where
  abbrev whole : NodeJob T → List AncestorSeat → Job T
  whole p ss = record { task = p.task; rule = p.rule; node = p.node; seats = ss }

  -- a job that was taken apart is put together again
  rejoined : (job back : Job T) (p q : NodeJob T) (ss : List AncestorSeat) → back ≡ whole q ss → q ≡ p → p ≡ node_job job → ss ≡ job.seats → back ≡ job
  rejoined job back p q ss is same ep es = is ∙ (ap (λ (x : NodeJob T). whole x ss) (same ∙ ep) ∙ ap (whole (node_job job)) es)

module _ {T : Type 0} (step : T → Stepped T) (depth : T → ℕ) where
  -- a free node has its job's seats
  pub free_seats : (rule : Rule) (ns : List (Node T)) (bs : List Beside) (k : ℕ) (n : Node T) → AreSeated step depth rule ns bs → slice_get ns k ≡ Some n → n.phase ≡ free
      → (b : Beside) × (ss : List AncestorSeat) × (slice_get bs k ≡ Some b) × (b.job ≡ Some ss) × SeatsFor step depth rule ns n.path ss
  free_seats rule ns bs k n a at is =
      let low = is_below ns k n at in
      let same = a.long in
      let b = is_there bs k (omega arith) in
      let s = (a.each k n b.0 at b.1).job is in
      (b.0, s.0, b.1, s.1, s.2)

  pub after_claim : (r r' : Run T) (bs cs : List Beside) (k : ℕ) → r' ≡ longer r (entry.Claimed k) → cs ≡ amend bs k without_job → AreSeated step depth r.rule (nodes_of step depth r) bs → AreSeated step depth r'.rule (nodes_of step depth r') cs
  after_claim r r' bs cs k is has s =
      subst (λ (x : Run T). AreSeated step depth x.rule (nodes_of step depth x) cs) (sym is)
      (subst (AreSeated step depth r.rule (nodes_of step depth (longer r (entry.Claimed k)))) (sym has) (claimed_seats step depth r bs k s))

  pub found_job : (old new r : Run T) (bs : List Beside) (q : NodeJob T) (ss : List AncestorSeat) (job : Job T) → r ≡ old → NodeClaims step depth r new (node_claim.Found q) → AreSeated step depth r.rule (nodes_of step depth r) bs
      → ((b : Beside) → slice_get bs q.node ≡ Some b → b.job ≡ Some ss) → job ≡ whole q ss → Claims step depth old new (claim.Found job)
  found_job old new r bs q ss job ro d s has is =
      let first = d.2.0 in
      let f = free_seats r.rule (nodes_of step depth r) bs q.node first.node s first.at first.is_free in
      let seats = subst (λ (x : List AncestorSeat). SeatsFor step depth r.rule (nodes_of step depth r) first.node.path x) (some_is f.1 ss (sym f.3 ∙ has f.0 f.2)) f.4 in
      subst (λ (j : Job T). Claims step depth old new (claim.Found j)) (sym is)
      (subst (λ (x : Run T). Claims step depth x new (claim.Found (whole q ss))) ro (d, (first.node, first.at, seats)))

  -- the same of a node that was claimed by its number
  pub found_at : (old new r : Run T) (bs : List Beside) (k : ℕ) (q : NodeJob T) (ss : List AncestorSeat) (job : Job T) → r ≡ old → NodeClaimsAt step depth r new k (node_claim.Found q) → AreSeated step depth r.rule (nodes_of step depth r) bs
      → ((b : Beside) → slice_get bs q.node ≡ Some b → b.job ≡ Some ss) → job ≡ whole q ss → ClaimsAt step depth old new k (claim.Found job)
  found_at old new r bs k q ss job ro d s has is =
      let n = d.3 in
      let at = ap (slice_get (nodes_of step depth r)) d.1 ∙ n.1 in
      let f = free_seats r.rule (nodes_of step depth r) bs q.node n.0 s at n.2 in
      let seats = subst (λ (x : List AncestorSeat). SeatsFor step depth r.rule (nodes_of step depth r) n.0.path x) (some_is f.1 ss (sym f.3 ∙ has f.0 f.2)) f.4 in
      subst (λ (j : Job T). ClaimsAt step depth old new k (claim.Found j)) (sym is)
      (subst (λ (x : Run T). ClaimsAt step depth x new k (claim.Found (whole q ss))) ro (d, (n.0, at, seats)))

  pub after_drop : (r r' : Run T) (bs : List Beside) (k : ℕ) (l : License) → r' ≡ longer r (entry.Dropped k l) → AreSeated step depth r.rule (nodes_of step depth r) bs → AreSeated step depth r'.rule (nodes_of step depth r') bs
  after_drop r r' bs k l is s = subst (λ (x : Run T). AreSeated step depth x.rule (nodes_of step depth x) bs) (sym is) (dropped_seats step depth r bs k l s)

  pub after_none : (r r' : Run T) (bs : List Beside) → r' ≡ r → AreSeated step depth r.rule (nodes_of step depth r) bs → AreSeated step depth r'.rule (nodes_of step depth r') bs
  after_none r r' bs is s = subst (λ (x : Run T). AreSeated step depth x.rule (nodes_of step depth x) bs) (sym is) s

  node_job_there : (old r : Run T) (job : Job T) (p : NodeJob T) → r ≡ old → p ≡ node_job job → IsJob step depth old job → IsNodeJob step depth r p
  node_job_there old r job p ro ep j = subst (IsNodeJob step depth r) (sym ep) (subst (λ (x : Run T). IsNodeJob step depth x (node_job job)) (sym ro) j.0)

  seats_there : (old r : Run T) (job : Job T) → r ≡ old → AreSeats step depth r job → AreSeats step depth old job
  seats_there old r job ro a = subst (λ (x : Run T). AreSeats step depth x job) ro a

  pub drop_stranger : (old new r : Run T) (job back : Job T) (p q : NodeJob T) (ss : List AncestorSeat) (l : License) → r ≡ old → NodeDrops step depth r new p l (node_taken.Stranger q)
      → p ≡ node_job job → ss ≡ job.seats → back ≡ whole q ss → Drops step depth old new job l (taken.Stranger back)
  drop_stranger old new r job back p q ss l ro d ep es is = (
    d.0 ∙ ro,
    rejoined job back p q ss is d.1 ep es,
    λ j lic. d.2 (node_job_there old r job p ro ep j)
        (subst (λ (x : Run T). IsLicense step depth x p.node l) (sym ro) (subst (λ (y : NodeJob T). IsLicense step depth old y.node l) (sym ep) lic)),
  )

  pub drop_kept : (old new r : Run T) (job : Job T) (p : NodeJob T) (l : License) → r ≡ old → NodeDrops step depth r new p l node_taken.Kept → p ≡ node_job job → AreSeats step depth r job → Drops step depth old new job l taken.Kept
  drop_kept old new r job p l ro d ep a = (
    subst (λ (x : Run T). NodeDrops step depth x new (node_job job) l node_taken.Kept) ro (subst (λ (y : NodeJob T). NodeDrops step depth r new y l node_taken.Kept) ep d),
    seats_there old r job ro a,
  )

  pub put_stranger : (old new r : Run T) (job back : Job T) (p q : NodeJob T) (ss : List AncestorSeat) → r ≡ old → NodePuts step depth r new p (node_taken.Stranger q)
      → p ≡ node_job job → ss ≡ job.seats → back ≡ whole q ss → Puts step depth old new job (taken.Stranger back)
  put_stranger old new r job back p q ss ro d ep es is = (
    d.0 ∙ ro,
    rejoined job back p q ss is d.1 ep es,
    λ j. subst (λ (x : Run T). CanStill step depth x job.node) ro (subst (λ (y : NodeJob T). CanStill step depth r y.node) ep (d.2 (node_job_there old r job p ro ep j))),
  )

  pub put_kept : (old new r : Run T) (job : Job T) (p : NodeJob T) → r ≡ old → NodePuts step depth r new p node_taken.Kept → p ≡ node_job job → AreSeats step depth r job → Puts step depth old new job taken.Kept
  put_kept old new r job p ro d ep a = (
    subst (λ (x : Run T). NodePuts step depth x new (node_job job) node_taken.Kept) ro (subst (λ (y : NodeJob T). NodePuts step depth r new y node_taken.Kept) ep d),
    seats_there old r job ro a,
  )

  pub marks_after : (r r' : Run T) (p : NodeJob T) (j : ℕ) → NodePuts step depth r r' p node_taken.Kept → j ≡ length r.history + 1 → Each IsMark (drop j r'.history)
  marks_after r r' p j d is =
      let n = d.0.2 in
      let marks = subst (Each IsMark) (sym n.2) (are_marks step depth r.rule (nodes_of step depth (longer r (entry.Put p.node))) n.0.path) in
      subst (λ (i : ℕ). Each IsMark (drop i r'.history)) (sym is) (put_marks step depth r r' p.node d.0.0 d.0.1 marks)

  pub part_after : (r r' : Run T) (bs : List Beside) (p : NodeJob T) (j : ℕ) → NodePuts step depth r r' p node_taken.Kept → j ≡ length r.history + 1 → AreSeated step depth r.rule (nodes_of step depth r) bs
      → AreSeated step depth r'.rule (replay_from step depth r'.rule (root r'.root) (turns (take j r'.history))) bs
  part_after r r' bs p j d is s =
      subst (λ (i : ℕ). AreSeated step depth r'.rule (replay_from step depth r'.rule (root r'.root) (turns (take i r'.history))) bs) (sym is) (put_part step depth r r' bs p.node d.0.0 d.0.1 s)

  pub grow_stranger : (old new r : Run T) (job back : Job T) (p q : NodeJob T) (ss : List AncestorSeat) (stepped again : Stepped T) → r ≡ old → NodeGrows step depth r new p stepped (node_grown.Stranger q again)
      → p ≡ node_job job → ss ≡ job.seats → back ≡ whole q ss → Grows step depth old new job stepped (grown.Stranger back again)
  grow_stranger old new r job back p q ss stepped again ro d ep es is = (
    d.0 ∙ ro,
    rejoined job back p q ss is d.1 ep es,
    d.2,
    λ j can. d.3 (node_job_there old r job p ro ep j)
        (subst (λ (x : Run T). CanGrow step depth x p.node (length (out_children stepped.out))) (sym ro) (subst (λ (y : NodeJob T). CanGrow step depth old y.node (length (out_children stepped.out))) (sym ep) can)),
  )

  pub grow_family : (old new r : Run T) (job : Job T) (p : NodeJob T) (stepped : Stepped T) (family first count : ℕ) → r ≡ old → NodeGrows step depth r new p stepped (node_grown.Family family first count)
      → p ≡ node_job job → AreSeats step depth r job → Grows step depth old new job stepped (grown.Family family first count)
  grow_family old new r job p stepped family first count ro d ep a = (
    subst (λ (x : Run T). NodeGrows step depth x new (node_job job) stepped (node_grown.Family family first count)) ro (subst (λ (y : NodeJob T). NodeGrows step depth r new y stepped (node_grown.Family family first count)) ep d),
    seats_there old r job ro a,
  )

  pub family_there : (r r' : Run T) (bs bs' : List Beside) (p : NodeJob T) (stepped : Stepped T) (family first count : ℕ) → NodeGrows step depth r r' p stepped (node_grown.Family family first count) → bs' ≡ bs → AreSeated step depth r.rule (nodes_of step depth r) bs → family < length bs'
  family_there r r' bs bs' p stepped family first count d eb s =
      let low = is_below (nodes_of step depth r) p.node d.1.1.0 d.1.1.1 in
      let same = s.long in
      let here = d.3 in
      subst (λ (xs : List Beside). family < length xs) (sym eb) (omega arith)

  pub after_expand : (r r' : Run T) (bs bs' cs : List Beside) (job : Job T) (p : NodeJob T) (stepped : Stepped T) (own : Kept) (rows : List Beside) (family first count : ℕ) → NodeGrows step depth r r' p stepped (node_grown.Family family first count) → p ≡ node_job job
      → stepped ≡ step job.task → length rows ≡ length (out_children stepped.out) → own.view ≡ made (true_family step depth job.rule job.task)
      → ((n : Node T) → slice_get (nodes_of step depth r) job.node ≡ Some n → AreRows bs n.path job.node own rows) → bs' ≡ bs → cs ≡ amend bs' family (with_kept own) ++ rows
      → AreSeated step depth r.rule (nodes_of step depth r) bs → AreSeated step depth r'.rule (nodes_of step depth r') cs
  after_expand r r' bs bs' cs job p stepped own rows family first count d ep st long is are eb ec s =
      let ns = nodes_of step depth r in
      let n = d.1.1.0 in
      let node : p.node ≡ job.node = ap (λ (q : NodeJob T). q.node) ep in
      let task : job.task ≡ n.task = sym (ap (λ (q : NodeJob T). q.task) ep) ∙ d.1.1.3 in
      let rule : job.rule ≡ r.rule = sym (ap (λ (q : NodeJob T). q.rule) ep) ∙ d.1.0 in
      let at : slice_get ns job.node ≡ Some n = ap (slice_get ns) (sym node) ∙ d.1.1.1 in
      let own_is : own.view ≡ made (true_family step depth r.rule n.task) = is ∙ (ap (λ (x : Rule). made (true_family step depth x job.task)) rule ∙ ap (λ (t : T). made (true_family step depth r.rule t)) task) in
      let many : length rows ≡ length (children step depth r.rule n.task) = long ∙ (ap (λ (x : Stepped T). length (out_children x.out)) st ∙ ap (λ (t : T). length (out_children (step t).out)) task) in
      let seats = expanded_seats step depth r bs job.node n own rows at own_is (are n at) many s in
      let here : cs ≡ amend bs job.node (with_kept own) ++ rows = ec ∙ (ap (λ (xs : List Beside). amend xs family (with_kept own) ++ rows) eb ∙ ap (λ (k : ℕ). amend bs k (with_kept own) ++ rows) (d.3 ∙ node)) in
      let run : r' ≡ longer r (entry.Expanded job.node) = d.0 ∙ ap (λ (k : ℕ). longer r (entry.Expanded k)) node in
      subst (λ (x : Run T). AreSeated step depth x.rule (nodes_of step depth x) cs) (sym run)
      (subst (AreSeated step depth r.rule (nodes_of step depth (longer r (entry.Expanded job.node)))) (sym here) seats)
