-- What a table's steps leave of its words, and of the seats that look at them.
use Rattle.std.proofs.Common.{◌≡◌, ℕ, ◌+◌, [], ◌∷◌, List, ◌++◌, Option, Some, None, length, refl, sym, ap, subst, ◌∙◌, arith}
use Rattle.std.specs.List.{slice_get}
use Rattle.ap_list.specs.Lists.{Each}
use Rattle.ap_walk.specs.declared.act.Stepped.{Stepped}
use Rattle.ap_walk.specs.declared.rule.Rule.{Rule}
use Rattle.ap_word.specs.Seats.{TableId}
use Rattle.ap_table.specs.Core.{Node, free, claimed, expanded, dropped, root, change, set_phase, children, new_nodes, expand_node}
use Rattle.ap_word.specs.Stops.{NONE}
use Rattle.ap_table.specs.Sound.{HasFamily}
use Rattle.ap_table.specs.Shown.{Run, turns, nodes_of}
use Rattle.ap_table.specs.Locked.{WasAllowed}
use Rattle.ap_table.specs.Kept.{Kept}
use Rattle.ap_table.specs.Seated.{amend, without_job, with_kept, AreRows, AreSeated, IsMark}
use Rattle.ap_table.specs.Worded.{Worded, words_of, IsOf, WordsStay, FoundOf, AreWorded, WasOf, FoundWas}
use Rattle.ap_table.specs.Calls.{longer, NodeClaims, NodeClaimsAt, NodeGrows, NodePuts, NodeDrops}
use Rattle.ap_table.specs.declared.link.License.{License}
use Rattle.ap_table.specs.declared.stored.Entry.{Entry}
use Rattle.ap_table.specs.declared.stored.Entry.TheVariants as entry
use Rattle.ap_table.specs.declared.stored.Job.{Job}
use Rattle.ap_table.specs.declared.stored.NodeJob.{NodeJob}
use Rattle.ap_table.specs.declared.stored.Claim.{Claim}
use Rattle.ap_table.specs.declared.stored.Claim.TheVariants as claim
use Rattle.ap_table.specs.declared.stored.NodeGrown.TheVariants as node_grown
use Rattle.ap_table.specs.declared.stored.NodeTaken.TheVariants as node_taken
use Rattle.ap_table.specs.declared.seats.AncestorSeat.{AncestorSeat}
use Rattle.ap_table.specs.declared.seats.Beside.{Beside}
use Rattle.ap_table.proofs.Keeping.{some_is}
use Rattle.ap_table.proofs.Sitting.{is_there, is_below}
use Rattle.ap_table.proofs.Moving.{nodes_more}
use Rattle.ap_table.proofs.Wording.{are_marks}
use Rattle.ap_table.proofs.Words.{words_amend, worded_rises, worded_claim, worded_grow, worded_first, drop_rises, put_all_rises, grown_stay}

module _ {T : Type 0} where
  abbrev with_words : Run T → List Beside → Worded T
  with_words r bs = record { run = r; words = words_of bs }

  -- the seats of a job are of the words that a table shows
  pub found_of : (w : Worded T) (r : Run T) (bs : List Beside) (job : Job T) (ss : List AncestorSeat) → with_words r bs ≡ w → job.seats ≡ ss → Each (IsOf (words_of bs)) ss → FoundOf w.words (claim.Found job)
  found_of w r bs job ss shows same all = subst (λ (x : Worded T). Each (IsOf x.words) job.seats) shows (subst (λ (xs : List AncestorSeat). Each (IsOf (words_of bs)) xs) (sym same) all)

  -- and the words after a step that keeps them
  pub words_kept : (w : Worded T) (r : Run T) (bs cs : List Beside) → with_words r bs ≡ w → words_of cs ≡ words_of bs → words_of cs ≡ w.words
  words_kept w r bs cs shows same = same ∙ ap (λ (x : Worded T). x.words) shows

  pub words_taken : (w : Worded T) (r : Run T) (bs cs : List Beside) (k : ℕ) → with_words r bs ≡ w → cs ≡ amend bs k without_job → words_of cs ≡ w.words
  words_taken w r bs cs k shows is = words_kept w r bs cs shows (ap words_of is ∙ words_amend bs k without_job (λ b. refl))

module _ {T : Type 0} (step : T → Stepped T) (depth : T → ℕ) where
  pub all_was : (w : Worded T) (ss : List AncestorSeat) → WasAllowed step depth w.run → Each (IsOf w.words) ss → Each (WasOf step depth) ss
  all_was w [] ok all = tt
  all_was w (s ∷ ss) ok all = (record { table = w; allowed = ok; is = all.0 }, all_was w ss ok all.1)

  -- what is found under a lock was of a table's words
  pub found_was : (new : Worded T) (ws : List (Option TableId)) (c : Claim T) → WasAllowed step depth new.run → new.words ≡ ws → FoundOf ws c → FoundWas step depth c
  found_was new ws (claim.Found job) ok same all = all_was new job.seats ok (subst (λ ws. Each (IsOf ws) job.seats) (sym same) all)
  found_was new ws claim.Nothing ok same all = tt

  pub worded_claimed : (r r' : Run T) (bs cs : List Beside) (k : ℕ) (m : Node T) → r' ≡ longer r (entry.Claimed k) → cs ≡ amend bs k without_job → slice_get (nodes_of step depth r) k ≡ Some m → m.phase ≡ free
      → AreWorded (nodes_of step depth r) bs → AreWorded (nodes_of step depth r') cs
  worded_claimed r r' bs cs k m is has at ph a =
      subst (λ (x : Run T). AreWorded (nodes_of step depth x) cs) (sym is)
      (subst (AreWorded (nodes_of step depth (longer r (entry.Claimed k)))) (sym has)
      (subst (λ (xs : List (Node T)). AreWorded xs (amend bs k without_job)) (sym (nodes_more step depth r (entry.Claimed k))) (worded_claim (nodes_of step depth r) bs k m at ph a)))

  pub worded_dropped : (r r' : Run T) (bs : List Beside) (p : NodeJob T) (l : License) → NodeDrops step depth r r' p l node_taken.Kept → AreWorded (nodes_of step depth r) bs → AreWorded (nodes_of step depth r') bs
  worded_dropped r r' bs p l d a =
      let ns = nodes_of step depth r in
      subst (λ (x : Run T). AreWorded (nodes_of step depth x) bs) (sym d.0)
      (subst (λ (xs : List (Node T)). AreWorded xs bs) (sym (nodes_more step depth r (entry.Dropped p.node l)))
      (worded_rises ns (set_phase ns p.node (dropped l)) bs (drop_rises ns p.node (dropped l) d.1.1.0 d.1.1.1 d.1.1.2) a))

  pub worded_none : (r r' : Run T) (bs : List Beside) → r' ≡ r → AreWorded (nodes_of step depth r) bs → AreWorded (nodes_of step depth r') bs
  worded_none r r' bs is a = subst (λ (x : Run T). AreWorded (nodes_of step depth x) bs) (sym is) a

  pub worded_put : (r r' : Run T) (bs : List Beside) (p : NodeJob T) → NodePuts step depth r r' p node_taken.Kept → AreWorded (nodes_of step depth r) bs → AreWorded (nodes_of step depth r') bs
  worded_put r r' bs p d a =
      let n = d.0.2 in
      let marks = subst (Each IsMark) (sym n.2) (are_marks step depth r.rule (nodes_of step depth (longer r (entry.Put p.node))) n.0.path) in
      subst (λ (x : Run T). AreWorded (nodes_of step depth x) bs) (sym d.0.1)
      (worded_rises (nodes_of step depth r) (nodes_of step depth (let x : Run T = record r { history = r.history ++ entry.Put p.node ∷ d.0.0 } in x)) bs
      (put_all_rises step depth r.rule r.root r.history d.0.0 p.node d.1.1.0 d.1.1.1 d.1.1.2 marks) a)

  pub worded_expanded : (r r' : Run T) (bs bs' cs : List Beside) (job : Job T) (p : NodeJob T) (stepped : Stepped T) (own : Kept) (rows : List Beside) (family first count : ℕ) → NodeGrows step depth r r' p stepped (node_grown.Family family first count) → p.node ≡ job.node
      → ((n : Node T) → slice_get (nodes_of step depth r) job.node ≡ Some n → AreRows bs n.path job.node own rows) → bs' ≡ bs → cs ≡ amend bs' family (with_kept own) ++ rows
      → AreSeated step depth r.rule (nodes_of step depth r) bs → AreWorded (nodes_of step depth r) bs → AreWorded (nodes_of step depth r') cs
  worded_expanded r r' bs bs' cs job p stepped own rows family first count d node are eb ec s a =
      let ns = nodes_of step depth r in
      let k = job.node in
      let n = d.1.1.0 in
      let at : slice_get ns k ≡ Some n = ap (slice_get ns) (sym node) ∙ d.1.1.1 in
      let g : Node T → Node T = λ m. record m { first = length ns; phase = expanded; word = NONE } in
      let here : cs ≡ amend bs k (with_kept own) ++ rows = ec ∙ (ap (λ (xs : List Beside). amend xs family (with_kept own) ++ rows) eb ∙ ap (λ (j : ℕ). amend bs j (with_kept own) ++ rows) (d.3 ∙ node)) in
      let run : r' ≡ longer r (entry.Expanded k) = d.0 ∙ ap (λ (j : ℕ). longer r (entry.Expanded j)) node in
      let all = worded_grow ns (new_nodes k n.path 0 (children step depth r.rule n.task)) bs rows k n g n.path own s.long at d.1.1.2 (λ x. refl) (are n at) a in
      subst (λ (x : Run T). AreWorded (nodes_of step depth x) cs) (sym run)
      (subst (AreWorded (nodes_of step depth (longer r (entry.Expanded k)))) (sym here)
      (subst (λ (xs : List (Node T)). AreWorded xs (amend bs k (with_kept own) ++ rows)) (sym (nodes_more step depth r (entry.Expanded k) ∙ ap (λ o. expand_node step depth r.rule ns k o) at)) all))

  -- the words that are there stay
  pub words_grow : (w : Worded T) (r r' : Run T) (bs bs' cs : List Beside) (p : NodeJob T) (stepped : Stepped T) (own : Kept) (rows : List Beside) (family first count : ℕ) → NodeGrows step depth r r' p stepped (node_grown.Family family first count)
      → with_words r bs ≡ w → bs' ≡ bs → cs ≡ amend bs' family (with_kept own) ++ rows → AreSeated step depth r.rule (nodes_of step depth r) bs → AreWorded (nodes_of step depth r) bs → WordsStay w.words (words_of cs)
  words_grow w r r' bs bs' cs p stepped own rows family first count d shows eb ec s a =
      let ns = nodes_of step depth r in
      let n = d.1.1.0 in
      let low = is_below ns p.node n d.1.1.1 in
      let same = s.long in
      let b = is_there bs p.node (omega arith) in
      let none = a.none p.node n b.0 d.1.1.1 b.1 (λ y. subst HasFamily d.1.1.2 y) in
      let here : cs ≡ amend bs p.node (with_kept own) ++ rows = ec ∙ (ap (λ (xs : List Beside). amend xs family (with_kept own) ++ rows) eb ∙ ap (λ (j : ℕ). amend bs j (with_kept own) ++ rows) d.3) in
      subst (λ (x : Worded T). WordsStay x.words (words_of cs)) shows
      (subst (λ (xs : List Beside). WordsStay (words_of bs) (words_of xs)) (sym here) (grown_stay bs rows p.node own b.0 b.1 none))

  pub words_same : (w v : Worded T) → v.words ≡ w.words → WordsStay w.words v.words
  words_same w v same k t e = ap (λ (ws : List (Option TableId)). slice_get ws k) same ∙ e

  pub worded_begun : (r : Run T) (cs : List Beside) → cs ≡ record { job = Some []; kept = None } ∷ [] → AreWorded (nodes_of step depth r) cs
  worded_begun r cs is = subst (AreWorded (nodes_of step depth r)) (sym is) (worded_first (nodes_of step depth r))
