-- Each step keeps the table.
use Rattle.std.proofs.Common.{zero, suc, ◌≡◌, ℕ, ◌+◌, ◌*◌, ◌≤◌, ◌<◌, true, false, List, [], ◌∷◌, ◌++◌, Option, Some, None, length, reverse, refl, sym, ap, ap₂, subst, ◌∙◌, arith, length-append}
use Rattle.std.specs.List.{slice_get}
use Rattle.ap_list.specs.Lists.{Each}
use Rattle.ap_walk.specs.declared.act.Stepped.{Stepped}
use Rattle.ap_walk.specs.declared.rule.Rule.{Rule}
use Rattle.ap_walk.specs.declared.mark.Walked.{Walked}
use Rattle.ap_walk.specs.Visits.{Visit, out_children, visit_of}
use Rattle.ap_word.specs.Stops.{NONE}
use Rattle.ap_table.specs.declared.link.License.{License}
use Rattle.ap_table.specs.declared.stored.Entry.{Entry}
use Rattle.ap_table.specs.declared.stored.Entry.TheVariants as entry
use Rattle.ap_table.specs.Sums.{nothing_told}
use Rattle.ap_table.specs.declared.stored.Stored.{Stored}
use Rattle.ap_table.specs.declared.stored.Stage.{Stage}
use Rattle.ap_table.specs.declared.stored.Stage.TheVariants as stage
use Rattle.ap_table.specs.Core.{Phase, Node, phase_walk, free, claimed, expanded, put, closed, dropped, expand, change, new_nodes, expand_node, root, replay_from, apply}
use Rattle.ap_table.specs.Sound.{IsFree, Licensed, CanDrop, CanExpand, IsAllowed, AreAllowed}
use Rattle.ap_table.specs.Order.{numbers, replace, IsOrder, IsFirst, expanded_live, live_after}
use Rattle.ap_table.specs.Live.{stage_free, kept_free, free_at, stage_done, kept_done, done_at, IsBusy, FirstFree}
use Rattle.ap_table.specs.Shown.{Run, turn_of, turns, StageShows, alter, stage_room, rooms, fresh, kept_root, Shows, AllShow, NoMore, nodes_of, IsTableBut, IsTable}
use Rattle.ap_table.specs.Calls.{longer, NoneFree}
use Rattle.ap_table.specs.declared.link.Link.{Link}
use Rattle.ap_table.specs.Sums.{stage_sum, HasKids, Placed, Kids, WordsBut}
use Rattle.ap_table.proofs.Families.{kids_alter, sum_alter}
use Rattle.ap_table.proofs.Hearing.{words_stage, nomore_alter}
use Rattle.ap_table.proofs.Adding.{expand_kids, expand_words, expand_puts}
use Rattle.ap_table.proofs.Keeping.{some_is}
use Rattle.ap_table.proofs.Replay.{replay_more, allowed_more}
use Rattle.ap_table.proofs.Ordering.{order_root, order_step, first_is, none_free}
use Rattle.ap_table.proofs.Standing.{each_reverse, reverse_split}
use Rattle.ap_table.proofs.Showing.{shown_at, kept_at, show_length, show_append, show_alter, show_fresh, claimed_node, below_length, room_alter, room_append, room_fresh, length_alter, length_fresh, alter_left, turns_more}

each_map : {A : Type 0} (P Q : A → Type 0) (xs : List A) → ((x : A) → P x → Q x) → Each P xs → Each Q xs
each_map P Q [] f h = tt
each_map P Q (x ∷ xs) f h = (f x h.0, each_map P Q xs f h.1)

module _ {T : Type 0} where
  free_phase : (t : T) (c w : ℕ) (s : Stage T) (p : Phase T) → StageShows t c w s p → stage_free s ≡ true → p ≡ free
  free_phase t c w (stage.Free x) free h e = refl
  free_phase t c w (stage.Free x) claimed h e = absurd h
  free_phase t c w (stage.Free x) expanded h e = absurd h
  free_phase t c w (stage.Free x) (put v) h e = absurd h
  free_phase t c w (stage.Free x) (closed v) h e = absurd h
  free_phase t c w (stage.Free x) (dropped l) h e = absurd h
  free_phase t c w stage.Claimed p h e = absurd (cc)
  free_phase t c w stage.Expanded p h e = absurd (cc)
  free_phase t c w (stage.Put v) p h e = absurd (cc)
  free_phase t c w (stage.Closed s) p h e = absurd (cc)
  free_phase t c w (stage.Dropped l) p h e = absurd (cc)

  free_copy : (t : T) (c w : ℕ) (x : T) (p : Phase T) → StageShows t c w (stage.Free x) p → x ≡ t
  free_copy t c w x free h = h
  free_copy t c w x claimed h = absurd h
  free_copy t c w x expanded h = absurd h
  free_copy t c w x (put v) h = absurd h
  free_copy t c w x (closed v) h = absurd h
  free_copy t c w x (dropped l) h = absurd h

  free_stage : (t : T) (c w : ℕ) (s : Stage T) → StageShows t c w s free → stage_free s ≡ true
  free_stage t c w (stage.Free x) h = refl
  free_stage t c w stage.Claimed h = absurd h
  free_stage t c w stage.Expanded h = absurd h
  free_stage t c w (stage.Put v) h = absurd h
  free_stage t c w (stage.Closed s) h = absurd h
  free_stage t c w (stage.Dropped l) h = absurd h

  free_kept : (cs : List (Stored T)) (k : ℕ) (o : Option (Stored T)) → slice_get cs k ≡ o → kept_free o ≡ true → (c : Stored T) × (slice_get cs k ≡ Some c) × (stage_free c.stage ≡ true)
  free_kept cs k None at e = absurd (cc)
  free_kept cs k (Some c) at e = (c, at, e)

  pub free_there : (cs : List (Stored T)) (k : ℕ) → free_at cs k ≡ true → (c : Stored T) × (slice_get cs k ≡ Some c) × (stage_free c.stage ≡ true)
  free_there cs k e = free_kept cs k (slice_get cs k) refl e

pub claim_room : {T : Type 0} (s : Stage T) → stage_free s ≡ true → 4 + 1 ≤ stage_room s
claim_room (stage.Free x) e = omega arith
claim_room stage.Claimed e = absurd (cc)
claim_room stage.Expanded e = absurd (cc)
claim_room (stage.Put v) e = absurd (cc)
claim_room (stage.Closed s) e = absurd (cc)
claim_room (stage.Dropped l) e = absurd (cc)

module _ {T : Type 0} where
  -- a done node has its result, and one with a result is done
  done_phase : (t : T) (c w : ℕ) (s : Stage T) (p : Phase T) → StageShows t c w s p → stage_done s ≡ true → (v : Walked T) × (phase_walk p ≡ Some v)
  done_phase t c w (stage.Free x) p h e = absurd (cc)
  done_phase t c w stage.Claimed p h e = absurd (cc)
  done_phase t c w stage.Expanded p h e = absurd (cc)
  done_phase t c w (stage.Dropped l) p h e = absurd (cc)
  done_phase t c w (stage.Put v) (put y) h e = (y, refl)
  done_phase t c w (stage.Put v) free h e = absurd h
  done_phase t c w (stage.Put v) claimed h e = absurd h
  done_phase t c w (stage.Put v) expanded h e = absurd h
  done_phase t c w (stage.Put v) (closed y) h e = absurd h
  done_phase t c w (stage.Put v) (dropped l) h e = absurd h
  done_phase t c w (stage.Closed s) (closed y) h e = (y, refl)
  done_phase t c w (stage.Closed s) free h e = absurd h
  done_phase t c w (stage.Closed s) claimed h e = absurd h
  done_phase t c w (stage.Closed s) expanded h e = absurd h
  done_phase t c w (stage.Closed s) (put y) h e = absurd h
  done_phase t c w (stage.Closed s) (dropped l) h e = absurd h

  done_stage : (t : T) (c w : ℕ) (s : Stage T) (p : Phase T) (v : Walked T) → StageShows t c w s p → phase_walk p ≡ Some v → stage_done s ≡ true
  done_stage t c w s free v h e = absurd (cc)
  done_stage t c w s claimed v h e = absurd (cc)
  done_stage t c w s expanded v h e = absurd (cc)
  done_stage t c w s (dropped l) v h e = absurd (cc)
  done_stage t c w (stage.Put x) (put y) v h e = refl
  done_stage t c w (stage.Free x) (put y) v h e = absurd h
  done_stage t c w stage.Claimed (put y) v h e = absurd h
  done_stage t c w stage.Expanded (put y) v h e = absurd h
  done_stage t c w (stage.Closed s) (put y) v h e = absurd h
  done_stage t c w (stage.Dropped l) (put y) v h e = absurd h
  done_stage t c w (stage.Closed x) (closed y) v h e = refl
  done_stage t c w (stage.Free x) (closed y) v h e = absurd h
  done_stage t c w stage.Claimed (closed y) v h e = absurd h
  done_stage t c w stage.Expanded (closed y) v h e = absurd h
  done_stage t c w (stage.Put s) (closed y) v h e = absurd h
  done_stage t c w (stage.Dropped l) (closed y) v h e = absurd h

  done_kept : (cs : List (Stored T)) (k : ℕ) (o : Option (Stored T)) → slice_get cs k ≡ o → kept_done o ≡ true → (c : Stored T) × (slice_get cs k ≡ Some c) × (stage_done c.stage ≡ true)
  done_kept cs k None at e = absurd (cc)
  done_kept cs k (Some c) at e = (c, at, e)

module _ {T : Type 0} (step : T → Stepped T) where
  pub done_shown : (cs : List (Stored T)) (ns : List (Node T)) (k : ℕ) → AllShow step cs ns → done_at cs k ≡ true → (n : Node T) × (w : Walked T) × (slice_get ns k ≡ Some n) × (phase_walk n.phase ≡ Some w)
  done_shown cs ns k a e =
      let c = done_kept cs k (slice_get cs k) refl e in
      let n = shown_at step cs ns k c.0 a c.1 in
      let w = done_phase n.0.task c.0.count (length (out_children (step n.0.task).out)) c.0.stage n.0.phase n.2.stage c.2 in
      (n.0, w.0, n.1, w.1)

  pub shown_done : (cs : List (Stored T)) (ns : List (Node T)) (k : ℕ) → AllShow step cs ns → (n : Node T) × (w : Walked T) × (slice_get ns k ≡ Some n) × (phase_walk n.phase ≡ Some w) → done_at cs k ≡ true
  shown_done cs ns k a h =
      let c = kept_at step cs ns k h.0 a h.2 in
      ap kept_done c.1 ∙ done_stage h.0.task c.0.count (length (out_children (step h.0.task).out)) c.0.stage h.0.phase h.1 c.2.stage h.3

-- a stage with no result and no children
abbrev pub IsQuiet : {T : Type 0} → Stage T → Type 0
IsQuiet s = (stage_sum s ≡ None) × (HasKids s → ⊥) × ((v : Walked _) → s ≡ stage.Put v → ⊥)

pub quiet_claimed : {T : Type 0} → IsQuiet {T = T} stage.Claimed
quiet_claimed = (refl, (λ h. h), (λ v h. cc))

quiet_dropped : {T : Type 0} (l : License) → IsQuiet {T = T} (stage.Dropped l)
quiet_dropped l = (refl, (λ h. h), (λ v h. cc))

quiet_free : {T : Type 0} (s : Stage T) → stage_free s ≡ true → IsQuiet s
quiet_free (stage.Free x) e = (refl, (λ h. h), (λ v h. cc))
quiet_free stage.Claimed e = absurd (cc)
quiet_free stage.Expanded e = absurd (cc)
quiet_free (stage.Put v) e = absurd (cc)
quiet_free (stage.Closed s) e = absurd (cc)
quiet_free (stage.Dropped l) e = absurd (cc)

module _ {T : Type 0} (step : T → Stepped T) (depth : T → ℕ) where
  pub shown_same : (cs : List (Stored T)) (ns : List (Node T)) (k : ℕ) (c : Stored T) (n : Node T) → AllShow step cs ns → slice_get cs k ≡ Some c → slice_get ns k ≡ Some n → Shows step c n
  shown_same cs ns k c n a ec en =
      let x = shown_at step cs ns k c a ec in
      subst (Shows step c) (some_is x.0 n (sym x.1 ∙ en)) x.2

  pub nodes_more : (r : Run T) (e : Entry) → nodes_of step depth (longer r e) ≡ apply step depth r.rule (nodes_of step depth r) (turn_of e)
  nodes_more r e = ap (replay_from step depth r.rule (root r.root)) (turns_more r.history e) ∙ replay_more step depth r.rule (root r.root) (turns r.history) (turn_of e)

  -- what one entry more does to all but the kept nodes
  pub longer_table : (path others : List Link) (left more : ℕ) (r : Run T) (cs ds : List (Stored T)) (live : List ℕ) (capacity capacity' : ℕ) (e : Entry) → IsTableBut step depth path left r cs live capacity → AllShow step ds (apply step depth r.rule (nodes_of step depth r) (turn_of e))
      → IsAllowed step depth r.rule (nodes_of step depth r) (turn_of e) → length r.history + 1 + rooms ds + more ≤ 5 * length ds → 5 * length ds ≤ capacity' → length ds ≤ 1000000 → Kids r.rule None ds → WordsBut others ds → NoMore step ds
      → IsTableBut step depth others more (longer r e) ds (live_after step depth r.rule (nodes_of step depth r) live (turn_of e)) capacity'
  longer_table path others left more r cs ds live capacity capacity' e t shows allowed room reserved few kids words puts =
      let ns = nodes_of step depth r in
      let is = nodes_more r e in
      let len = length-append r.history (e ∷ []) in
      record {
        shows = subst (AllShow step ds) (sym is) shows;
        order = subst (λ ms. IsOrder ms (live_after step depth r.rule ns live (turn_of e))) (sym is) (order_step step depth r.rule ns live (turn_of e) allowed t.order);
        allowed = subst (AreAllowed step depth r.rule (root r.root)) (sym (turns_more r.history e)) (allowed_more step depth r.rule (root r.root) (turns r.history) (turn_of e) t.allowed allowed);
        room = omega arith;
        reserved = reserved;
        few = few;
        kids = kids;
        words = words;
        puts = puts;
      }

  -- a step that gives one node another stage, in which it has no result and no children as before
  moved_table : (r : Run T) (cs : List (Stored T)) (live : List ℕ) (capacity k : ℕ) (c : Stored T) (e : Entry) (s : Stage T) (g : Node T → Node T) → IsTable step depth r cs live capacity → slice_get cs k ≡ Some c
      → ((n : Node T) → slice_get (nodes_of step depth r) k ≡ Some n → Shows step c n → Shows step (record c { stage = s }) (g n)) → apply step depth r.rule (nodes_of step depth r) (turn_of e) ≡ change (nodes_of step depth r) k g
      → IsAllowed step depth r.rule (nodes_of step depth r) (turn_of e) → stage_room s + 1 ≤ stage_room c.stage → IsQuiet c.stage → IsQuiet s
      → IsTable step depth (longer r e) (alter cs k (λ x. record x { stage = s })) (live_after step depth r.rule (nodes_of step depth r) live (turn_of e)) capacity
  moved_table r cs live capacity k c e s g t at becomes is allowed less was now =
      let f : Stored T → Stored T = λ x. record x { stage = s } in
      let ns = nodes_of step depth r in
      let n = shown_at step cs ns k c t.shows at in
      let rs = room_alter cs k c f at in
      let had = t.room in
      let res = t.reserved in
      let few' = t.few in
      let ll = length_alter cs k f in
      longer_table [] [] 0 0 r cs (alter cs k f) live capacity capacity e t
      (subst (AllShow step (alter cs k f)) (sym is) (show_alter step cs ns k c n.0 f g t.shows at n.1 (becomes n.0 n.1 n.2))) allowed (omega arith) (omega arith) (omega arith)
      (kids_alter r.rule None None cs k c f at (record { first = refl; count = refl; path = refl; told = refl; has = λ h. absurd (now.1 h); back = λ h. absurd (was.1 h) }) (sum_alter cs k c f at (now.0 ∙ sym was.0)) t.kids)
      (words_stage [] cs k c s at (λ h. absurd (now.1 h)) t.words)
      (nomore_alter step cs k c f at refl refl (λ v h. absurd (now.2 v h)) t.puts)

  pub free_node : (cs : List (Stored T)) (ns : List (Node T)) (k : ℕ) → AllShow step cs ns → free_at cs k ≡ true → (n : Node T) × (slice_get ns k ≡ Some n) × (n.phase ≡ free)
  free_node cs ns k a e =
      let c = free_there cs k e in
      let n = shown_at step cs ns k c.0 a c.1 in
      (n.0, n.1, free_phase n.0.task c.0.count (length (out_children (step n.0.task).out)) c.0.stage n.0.phase n.2.stage c.2)

  busy_node : (cs : List (Stored T)) (ns : List (Node T)) (k : ℕ) → AllShow step cs ns → free_at cs k ≡ false → (n : Node T) → slice_get ns k ≡ Some n → n.phase ≡ free → ⊥
  busy_node cs ns k a e n at is =
      let c = kept_at step cs ns k n a at in
      let w = length (out_children (step n.task).out) in
      let f : stage_free c.0.stage ≡ true = free_stage n.task c.0.count w c.0.stage (subst (StageShows n.task c.0.count w c.0.stage) is c.2.stage) in
      let g : kept_free (slice_get cs k) ≡ true = ap kept_free c.1 ∙ f in
      absurd (cc)

  -- one that isn't kept as free isn't free
  pub busy_there : (cs : List (Stored T)) (ns : List (Node T)) (k : ℕ) (o : Option (Node T)) → slice_get ns k ≡ o → AllShow step cs ns → free_at cs k ≡ false → IsFree o → ⊥
  busy_there cs ns k None at a e f = f
  busy_there cs ns k (Some n) at a e f = busy_node cs ns k a e n at f

  all_busy : (cs : List (Stored T)) (ns : List (Node T)) (live : List ℕ) → AllShow step cs ns → Each (IsBusy cs) live → Each (λ x. (m : Node T) → slice_get ns x ≡ Some m → m.phase ≡ free → ⊥) (reverse live)
  all_busy cs ns live a h = each_reverse (λ x. (m : Node T) → slice_get ns x ≡ Some m → m.phase ≡ free → ⊥) live (each_map (IsBusy cs) (λ x. (m : Node T) → slice_get ns x ≡ Some m → m.phase ≡ free → ⊥) live (λ x e. busy_node cs ns x a e) h)

  -- the first free one of the list is the first of all
  pub first_found : (cs : List (Stored T)) (ns : List (Node T)) (live : List ℕ) (k : ℕ) → AllShow step cs ns → IsOrder ns (reverse live) → FirstFree cs live k → IsFirst ns k
  first_found cs ns live k a o f =
      let n = free_node cs ns k a f.is_free in
      first_is ns (reverse f.before) k (reverse f.after) n.0 (subst (IsOrder ns) (ap reverse f.at ∙ reverse_split f.after f.before k) o) n.1 n.2 (all_busy cs ns f.before a f.busy)

  pub nothing_found : (cs : List (Stored T)) (ns : List (Node T)) (live : List ℕ) → AllShow step cs ns → IsOrder ns (reverse live) → Each (IsBusy cs) live → NoneFree ns
  nothing_found cs ns live a o h = none_free ns (reverse live) o (all_busy cs ns live a h)

  -- the job's copy is the node's task
  pub claimed_task : (cs : List (Stored T)) (ns : List (Node T)) (k : ℕ) (copy : T) → AllShow step cs ns → free_at cs k ≡ true → ((c : Stored T) → slice_get cs k ≡ Some c → c.stage ≡ stage.Free copy) → (n : Node T) → slice_get ns k ≡ Some n → copy ≡ n.task
  claimed_task cs ns k copy a e is n at =
      let c = free_there cs k e in
      let s = shown_same cs ns k c.0 n a c.1 at in
      free_copy n.task c.0.count (length (out_children (step n.task).out)) copy n.phase (subst (λ x. StageShows n.task c.0.count (length (out_children (step n.task).out)) x n.phase) (is c.0 c.1) s.stage)

  -- a claim keeps the table
  pub claimed_table : (r : Run T) (cs : List (Stored T)) (live : List ℕ) (capacity k : ℕ) → IsTable step depth r cs live capacity → free_at cs k ≡ true → IsTable step depth (longer r (entry.Claimed k)) (alter cs k (λ x. record x { stage = stage.Claimed })) live capacity
  claimed_table r cs live capacity k t e =
      let c = free_there cs k e in
      let n = free_node cs (nodes_of step depth r) k t.shows e in
      moved_table r cs live capacity k c.0 (entry.Claimed k) stage.Claimed (λ m. record m { phase = claimed }) t c.1
      (λ m at s. record { task = s.task; path = s.path; first = s.first; word = s.word; stage = tt; own = tt }) refl
      (subst IsFree (sym n.1) n.2) (claim_room c.0.stage c.2) (quiet_free c.0.stage c.2) quiet_claimed

  -- a drop keeps the table
  pub dropped_table : (r : Run T) (cs : List (Stored T)) (live : List ℕ) (capacity k : ℕ) (c : Stored T) (l : License) → IsTable step depth r cs live capacity → slice_get cs k ≡ Some c → c.stage ≡ stage.Claimed
      → ((n : Node T) → slice_get (nodes_of step depth r) k ≡ Some n → Licensed step depth r.rule (nodes_of step depth r) n.path l)
      → IsTable step depth (longer r (entry.Dropped k l)) (alter cs k (λ x. record x { stage = stage.Dropped l })) (replace live k []) capacity
  dropped_table r cs live capacity k c l t at is licensed =
      let n = claimed_node step depth cs (nodes_of step depth r) k c t.shows at is in
      let can : CanDrop step depth r.rule (nodes_of step depth r) (Some n.0) l = (n.2, licensed n.0 n.1) in
      let four : stage_room c.stage ≡ 4 = ap stage_room is in
      moved_table r cs live capacity k c (entry.Dropped k l) (stage.Dropped l) (λ m. record m { phase = dropped l }) t at
      (λ m em s. record { task = s.task; path = s.path; first = s.first; word = s.word; stage = refl; own = tt }) refl
      (subst (λ o. CanDrop step depth r.rule (nodes_of step depth r) o l) (sym n.1) can) (omega arith) (subst IsQuiet (sym is) quiet_claimed) (quiet_dropped l)

  -- an expansion keeps the table
  pub expanded_table : (r : Run T) (cs : List (Stored T)) (live : List ℕ) (capacity k first count : ℕ) (own : Option (Visit T)) (c : Stored T) (ts : List T) → IsTable step depth r cs live capacity → slice_get cs k ≡ Some c → c.stage ≡ stage.Claimed → ts ≡ out_children (step c.task).out → own ≡ Some (visit_of c.task (step c.task)) → 2 ≤ length ts → length c.path < 3 → length cs + length ts ≤ 1000000 → first ≡ length cs → count ≡ length ts
      → (capacity' : ℕ) → 5 * (length cs + length ts) ≤ capacity'
      → IsTable step depth (longer r (entry.Expanded k)) (alter (cs ++ fresh k c.path 0 ts) k (λ x. record x { own = own; first = first; count = count; stage = stage.Expanded; word = NONE; told = nothing_told })) (replace live k (numbers first count)) capacity'
  expanded_table r cs live capacity k first count own c ts t at is tsis mine two deep few fe ce capacity' big =
      let ns = nodes_of step depth r in
      let n = claimed_node step depth cs ns k c t.shows at is in
      let f : Stored T → Stored T = λ x. record x { own = own; first = first; count = count; stage = stage.Expanded; word = NONE; told = nothing_told } in
      let g : Node T → Node T = λ m. record m { first = length ns; phase = expanded; word = NONE } in
      let same : ts ≡ out_children (step n.0.task).out = tsis ∙ ap (λ y. out_children (step y).out) n.3 in
      let shows : AllShow step (alter cs k f ++ fresh k c.path 0 ts) (expand_node step depth r.rule ns k (Some n.0)) =
      show_append step (alter cs k f) (fresh k c.path 0 ts) (change ns k g) (new_nodes k n.0.path 0 (out_children (step n.0.task).out))
      (show_alter step cs ns k c n.0 f g t.shows at n.1
      (record { task = n.3; path = n.4; first = fe ∙ show_length step cs ns t.shows; word = refl; stage = ce ∙ ap length same; own = mine ∙ ap (λ y. Some (visit_of y (step y))) n.3 }))
      (subst (λ p. AllShow step (fresh k c.path 0 ts) (new_nodes k p 0 (out_children (step n.0.task).out))) n.4
      (subst (λ (l : List T). AllShow step (fresh k c.path 0 ts) (new_nodes k c.path 0 l)) same (show_fresh step k c.path 0 ts))) in
      let left = alter_left cs (fresh k c.path 0 ts) k f (below_length cs k c at) in
      let can : CanExpand step depth r.rule (Some n.0) = (n.2, subst (λ (l : List T). 2 ≤ length l) same two, subst (λ p. length p < 3) n.4 deep) in
      let rs = room_alter cs k c f at in
      let four : stage_room c.stage ≡ 4 = ap stage_room is in
      let had = t.room in
      let ra = room_append (alter cs k f) (fresh k c.path 0 ts) in
      let rf = room_fresh k c.path 0 ts in
      let lf = length_fresh k c.path 0 ts in
      let la = length-append (alter cs k f) (fresh k c.path 0 ts) in
      let ll = length_alter cs k f in
      let after : live_after step depth r.rule ns live (expand k) ≡ replace live k (numbers first count) =
      ap (expanded_live step depth r.rule ns live k) n.1
      ∙ ap₂ (λ (a b : ℕ). replace live k (numbers a b)) (sym (fe ∙ show_length step cs ns t.shows)) (sym (ce ∙ ap length same)) in
      subst (λ (l : List (Stored T)). IsTable step depth (longer r (entry.Expanded k)) l (replace live k (numbers first count)) capacity') (sym left)
      (subst (λ (l : List ℕ). IsTable step depth (longer r (entry.Expanded k)) (alter cs k f ++ fresh k c.path 0 ts) l capacity') after
      (longer_table [] [] 0 0 r cs (alter cs k f ++ fresh k c.path 0 ts) live capacity capacity' (entry.Expanded k) t
      (subst (AllShow step (alter cs k f ++ fresh k c.path 0 ts)) (sym (ap (expand_node step depth r.rule ns k) n.1)) shows)
      (subst (CanExpand step depth r.rule) (sym n.1) can) (omega arith) (omega arith) (omega arith)
      (expand_kids r.rule cs k first count own c ts at is fe ce r.rule.limited.0 t.kids) (expand_words r.rule cs k first count own c ts at is fe ce t.words) (expand_puts r.rule cs k first count own c ts at is fe ce step t.puts)))

  root_is : (t : T) (k : ℕ) (c : Stored T) → slice_get (kept_root t ∷ []) k ≡ Some c → kept_root t ≡ c
  root_is t zero c e = some_is (kept_root t) c e
  root_is t (suc k) c e = absurd (cc)

  root_quiet : (t : T) (k : ℕ) (c : Stored T) → slice_get (kept_root t ∷ []) k ≡ Some c → IsQuiet c.stage
  root_quiet t k c e = subst (λ (x : Stored T). IsQuiet x.stage) (root_is t k c e) (quiet_free (stage.Free t) refl)

  root_path : (t : T) (k : ℕ) (c : Stored T) → slice_get (kept_root t ∷ []) k ≡ Some c → c.path ≡ []
  root_path t k c e = subst (λ (x : Stored T). x.path ≡ []) (root_is t k c e) refl

  -- a new table
  pub first_table : (t : T) (rule : Rule) (capacity : ℕ) → 5 ≤ capacity → IsTable step depth (record { root = t; rule = rule; history = [] }) (kept_root t ∷ []) (0 ∷ []) capacity
  unfolding replay_from
  first_table t rule capacity big = record {
    shows = (record { task = refl; path = refl; first = refl; word = refl; stage = refl; own = tt }, tt);
    order = order_root t;
    allowed = tt;
    room = omega arith;
    reserved = omega arith;
    few = omega arith;
    kids = record { family = λ k c e has. absurd ((root_quiet t k c e).1 has); placed = λ k c e. subst (λ (p : List Link). Placed (kept_root t ∷ []) k p) (sym (root_path t k c e)) tt };
    words = λ k c e has. absurd ((root_quiet t k c e).1 has);
    puts = λ k c v e put many deep few. (root_quiet t k c e).2 v put;
  }

  -- with more room for entries
  pub larger_table : (r : Run T) (cs : List (Stored T)) (live : List ℕ) (capacity larger : ℕ) → IsTable step depth r cs live capacity → capacity ≤ larger → IsTable step depth r cs live larger
  larger_table r cs live capacity larger t le = record {
    shows = t.shows;
    order = t.order;
    allowed = t.allowed;
    room = t.room;
    reserved = (let a = t.reserved in omega arith);
    few = t.few;
    kids = t.kids;
    words = t.words;
    puts = t.puts;
  }
