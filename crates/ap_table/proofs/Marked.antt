-- A put keeps the table, and so do its marks.
use Rattle.std.proofs.Common.{◌≡◌, ◌≢◌, ℕ, zero, suc, ◌+◌, ◌≤◌, ◌<◌, Bool, true, false, nat_eq, cond, min, drop, List, [], ◌∷◌, ◌++◌, length, Option, Some, None, refl, sym, ap, subst, ◌∙◌, arith, inl, inr, ◌⊎◌, append-nil, ap₂}
use Rattle.std.proofs.lemmas.Bool.{cases_lt}
use Rattle.std.proofs.lemmas.Bool.Decides.{nat_tests}
use Rattle.std.proofs.lemmas.List.{append_assoc}
use Rattle.std.specs.List.{slice_get}
use Rattle.ap_list.specs.Lists.{Each}
use Rattle.ap_walk.specs.declared.act.Stepped.{Stepped}
use Rattle.ap_walk.specs.declared.rule.Rule.{Rule}
use Rattle.ap_walk.specs.declared.rule.Tally.{Tally}
use Rattle.ap_walk.specs.declared.mark.Walked.{Walked}
use Rattle.ap_walk.specs.Visits.{Tells, out_children}
use Rattle.ap_walk.specs.Tallies.{zero_tally}
use Rattle.ap_walk.specs.Walks.{full, all_marks}
use Rattle.ap_walk.specs.Laws.{StopsAt}
use Rattle.ap_walk.proofs.Stops.{cut_stops}
use Rattle.ap_walk.proofs.Bounds.{zero_open}
use Rattle.ap_word.specs.Stops.{NONE}
use Rattle.ap_table.specs.declared.link.Link.{Link}
use Rattle.ap_table.specs.declared.stored.Entry.{Entry}
use Rattle.ap_table.specs.declared.stored.Entry.TheVariants as entry
use Rattle.ap_table.specs.declared.stored.Stored.{Stored}
use Rattle.ap_table.specs.declared.stored.Stage.{Stage}
use Rattle.ap_table.specs.declared.stored.Stage.TheVariants as stage
use Rattle.ap_table.specs.Core.{Phase, Node, free, claimed, expanded, put, closed, dropped, phase_walk, node_walk, above, set_phase, parent_of, close_up, put_node, finish, apply, known_of, Stops}
use Rattle.ap_table.specs.Sound.{HasFamily, IsClaimed, CanMark, PhaseSound, Sound, SoundBut, Up}
use Rattle.ap_table.specs.Order.{replace}
use Rattle.ap_table.specs.Shown.{Run, turns, StageShows, SumShows, alter, stage_room, AllShow, NoMore, nodes_of, IsTableBut, IsTable}
use Rattle.ap_table.specs.Sums.{through_tally, stage_sum, kept_sum, sum_at, sums_of, InGoals, IsTold, Within, HasKids, Placed, Kids, WordsBut}
use Rattle.ap_table.specs.Settled.{Ready, Settled, Settles, told_stop, mark_by, mark_nodes, entry_by, mark_list}
use Rattle.ap_table.specs.Calls.{longer, CanStill, known_at, one_mark, stop_marks}
use Rattle.ap_table.proofs.Keeping.{same_or_not, some_is, get_same, sound_done}
use Rattle.ap_table.proofs.Known.{known_true}
use Rattle.ap_table.proofs.Dropping.{OneShows}
use Rattle.ap_table.proofs.After.{after_sound}
use Rattle.ap_table.proofs.Replay.{apply_keeps}
use Rattle.ap_table.proofs.Showing.{shown_at, show_length, kept_at, show_alter, claimed_node, below_length, room_alter, length_alter}
use Rattle.ap_table.proofs.Moving.{shown_same, longer_table, nodes_more}
use Rattle.ap_table.proofs.Totals.{length_sums}
use Rattle.ap_table.proofs.Heard.{stop_place, not_none, told_known, one_shown}
use Rattle.ap_table.proofs.Families.{get_alter_same, get_alter_other, alter_at, sum_alter, sum_hidden, kids_alter, kid_family, kids_count}
use Rattle.ap_table.proofs.Hearing.{words_stage, nomore_alter, stop_small}

-- a full walk that goes through has no more pushes than goals
walk_in_goals : {T : Type 0} (step : T → Stepped T) (depth : T → ℕ) (rule : Rule) (t : T) (w : Walked T) (s : Option Tally) → w ≡ full step depth rule t → SumShows s w → InGoals (Some s)
walk_in_goals step depth rule t w None e h = omega arith
walk_in_goals step depth rule t w (Some x) e h =
    let stops = subst (StopsAt rule) (sym e) (cut_stops rule zero_tally (all_marks step depth t) (zero_open rule)) in
    let o = stops.through h.0 in
    subst (λ (y : Tally). y.pushes ≤ y.goals) h.1 o.in_goals

module _ {T : Type 0} where
  walk_there : (ns : List (Node T)) (k : ℕ) (v : Walked T) (o : Option (Node T)) → slice_get ns k ≡ o → node_walk o ≡ Some v → (n : Node T) × (slice_get ns k ≡ Some n) × (phase_walk n.phase ≡ Some v)
  walk_there ns k v None at e = absurd (cc)
  walk_there ns k v (Some n) at e = (n, at, e)

module _ {T : Type 0} (step : T → Stepped T) (depth : T → ℕ) (rule : Rule) where
  done_but : (q : Option ℕ) (ns : List (Node T)) (k : ℕ) (n : Node T) (p : Phase T) (w : Walked T) → PhaseSound step depth rule q ns k n p → phase_walk p ≡ Some w → w ≡ full step depth rule n.task
  done_but q ns k n free w s e = absurd (cc)
  done_but q ns k n claimed w s e = absurd (cc)
  done_but q ns k n expanded w s e = absurd (cc)
  done_but q ns k n (dropped l) w s e = absurd (cc)
  done_but q ns k n (put v) w s e = sym (some_is v w e) ∙ s
  done_but q ns k n (closed v) w s e = sym (some_is v w e) ∙ s.0

  one_in_goals : (o : Option (Option Tally)) (w : Option (Walked T)) → OneShows o w → ((v : Walked T) → w ≡ Some v → (t : T) × (v ≡ full step depth rule t)) → InGoals o
  one_in_goals None w h f = omega arith
  one_in_goals (Some s) None h f = absurd h
  one_in_goals (Some s) (Some v) h f = (let x = f v refl in walk_in_goals step depth rule x.0 v s x.1 h)

  pub all_in_goals : (q : Option ℕ) (cs : List (Stored T)) (ns : List (Node T)) → AllShow step cs ns → SoundBut step depth rule q ns → (k : ℕ) → InGoals (sum_at None cs k)
  all_in_goals q cs ns a s k =
      one_in_goals (sum_at None cs k) (node_walk (slice_get ns k)) (one_shown step cs ns k a)
      (λ v e. let n = walk_there ns k v (slice_get ns k) refl e in (n.0.task, done_but q ns k n.0 n.0.phase v (s k n.0 n.1).phase n.2))

-- a number and no number
pub none_or : (n : ℕ) → ((n ≡ NONE) × (nat_eq n NONE ≡ true)) ⊎ ((n ≢ NONE) × (nat_eq n NONE ≡ false))
none_or n = elim (same_or_not n NONE) [ inl e ↦ inl (e, grind (arith, nat_tests)) | inr d ↦ inr (d, grind (arith, nat_tests)) ]

module _ {T : Type 0} (step : T → Stepped T) (depth : T → ℕ) where
  has_family : (t : T) (c w : ℕ) (s : Stage T) (p : Phase T) → StageShows t c w s p → HasKids s → HasFamily p
  has_family t c w (stage.Free x) p h k = absurd k
  has_family t c w stage.Claimed p h k = absurd k
  has_family t c w (stage.Put v) p h k = absurd k
  has_family t c w (stage.Dropped l) p h k = absurd k
  has_family t c w stage.Expanded expanded h k = tt
  has_family t c w stage.Expanded free h k = absurd h
  has_family t c w stage.Expanded claimed h k = absurd h
  has_family t c w stage.Expanded (put v) h k = absurd h
  has_family t c w stage.Expanded (closed v) h k = tt
  has_family t c w stage.Expanded (dropped l) h k = absurd h
  has_family t c w (stage.Closed s) (closed v) h k = tt
  has_family t c w (stage.Closed s) free h k = absurd h
  has_family t c w (stage.Closed s) claimed h k = absurd h
  has_family t c w (stage.Closed s) expanded h k = tt
  has_family t c w (stage.Closed s) (put v) h k = absurd h
  has_family t c w (stage.Closed s) (dropped l) h k = absurd h

  -- the families of a path are there
  abbrev pub AllThere : List (Stored T) → List Link → Type 0
  AllThere cs path = Each (λ l. (m : Stored T) × (slice_get cs l.family ≡ Some m) × HasKids m.stage) path

  pub path_there : (rule : Rule) (q : Option ℕ) (cs : List (Stored T)) (ns : List (Node T)) (path : List Link) (k : ℕ) (c : Stored T) → AllShow step cs ns → SoundBut step depth rule q ns → Kids rule None cs → slice_get cs k ≡ Some c → c.path ≡ path → AllThere cs path
  path_there rule q cs ns [] k c a s kids at e = tt
  path_there rule q cs ns (l ∷ ls) k c a s kids at e =
      let n = shown_at step cs ns k c a at in
      let pl : Placed cs k (l ∷ ls) = subst (Placed cs k) e (kids.placed k c at) in
      let m = shown_at step cs ns l.family pl.0 a pl.1 in
      let up = subst (λ (x : List Link). Up step depth rule ns x n.0.task) (sym n.2.path ∙ e) (s k n.0 n.1).up in
      ((pl.0, pl.1, pl.2), path_there rule q cs ns ls l.family pl.0 a s kids pl.1 (m.2.path ∙ (ap (λ (x : Node T). x.path) (some_is m.0 up.0 (sym m.1 ∙ up.1)) ∙ up.2)))

module _ {T : Type 0} (step : T → Stepped T) (depth : T → ℕ) (tells : (t : T) → Tells (step t).act.process (step t).out) (deeper : (t : T) → Each (λ c. depth c < depth t) (out_children (step t).out)) where
  -- fewer entries are to come, and fewer words may be above their stops
  relaxed : (path others : List Link) (left : ℕ) (r : Run T) (cs : List (Stored T)) (live : List ℕ) (capacity : ℕ) → IsTableBut step depth path (suc left) r cs live capacity → WordsBut others cs → IsTableBut step depth others left r cs live capacity
  relaxed path others left r cs live capacity t w = record {
    shows = t.shows;
    order = t.order;
    allowed = t.allowed;
    room = omega (arith, t.room);
    reserved = t.reserved;
    few = t.few;
    kids = t.kids;
    words = w;
    puts = t.puts;
  }

  -- without a family at that place
  pub no_mark : (left : ℕ) (r : Run T) (cs ds : List (Stored T)) (live : List ℕ) (capacity : ℕ) (es : List Entry) → IsTableBut step depth [] (suc left) r cs live capacity → es ≡ [] → ds ≡ cs → IsTableBut step depth [] left (record r { history = r.history ++ es }) ds live capacity
  no_mark left r cs ds live capacity es t e d =
      subst (λ (x : List (Stored T)). IsTableBut step depth [] left (record r { history = r.history ++ es }) x live capacity) (sym d)
      (subst (λ (x : List Entry). IsTableBut step depth [] left (record r { history = x }) cs live capacity) (sym (ap (λ x. r.history ++ x) e ∙ append-nil r.history))
      (relaxed [] [] left r cs live capacity t t.words))

  module _ (left : ℕ) (r : Run T) (cs ds : List (Stored T)) (live : List ℕ) (capacity : ℕ) (es : List Entry) (l : Link) (ls : List Link) (m : Stored T) (t : IsTableBut step depth (l ∷ ls) (suc left) r cs live capacity) (at : slice_get cs l.family ≡ Some m) (has : HasKids m.stage) where
    abbrev ns : List (Node T)
    ns = nodes_of step depth r

    -- no stop is known
    unmarked : m.told.stop ≡ NONE → WordsBut ls cs
    unmarked none k c e h =
        elim (t.words k c e h) [
          | inl same ↦ inl same
          | inr x ↦ elim x.2 [
            | inl is ↦
                let y : m ≡ c = some_is m c (sym at ∙ (ap (slice_get cs) is ∙ e)) in
                let z : c.told.stop ≡ NONE = sym (ap (λ (v : Stored T). v.told.stop) y) ∙ none in
                inl (let a = x.0 in let b = x.1 in omega arith)
            | inr rest ↦ inr (x.0, x.1, rest)
          ]
        ]

    stop_is : told_stop (slice_get cs l.family) ≡ m.told.stop
    stop_is = ap told_stop at

    module _ (d : m.told.stop ≢ NONE) where
      abbrev stop : ℕ
      stop = m.told.stop

      abbrev marked : List (Stored T)
      marked = alter cs l.family (λ c. record c { word = stop })

      marked_words : WordsBut ls marked
      marked_words k c e h =
          elim (alter_at cs l.family k m c (λ x. record x { word = stop }) at e) [
            | inl y ↦ inl (ap (λ (z : Stored T). z.word) y.1 ∙ sym (ap (λ (z : Stored T). z.told.stop) y.1))
            | inr n ↦ elim (t.words k c n.1 h) [
              | inl same ↦ inl same
              | inr x ↦ elim x.2 [ inl is ↦ absurd (n.0 (sym is)) | inr rest ↦ inr (x.0, x.1, rest) ]
            ]
          ]

      sound : Sound step depth r.rule ns
      sound = after_sound step depth r.rule tells deeper r.root (turns r.history) t.allowed

      marked_table : IsTableBut step depth ls left (longer r (entry.Marked l.family stop)) marked live capacity
      marked_table =
          let n = shown_at step cs ns l.family m t.shows at in
          let f = t.kids.family l.family m at has in
          let w = length (out_children (step n.0.task).out) in
          let count = kids_count n.0.task m.count w m.stage n.0.phase n.2.stage has in
          let fam = kid_family step depth r.rule None ns l.family n.0 n.0.task m.count w m.stage n.0.phase n.2.stage has (sound l.family n.0 n.1).phase in
          let fits = f.fits in
          let few = t.few in
          let known = told_known step depth r.rule None cs ns l.family n.0 m.first m.told sound t.shows fam n.2.first (omega arith) (subst (λ (x : ℕ). IsTold r.rule (sums_of None cs m.first x) m.told) count f.told) in
          let ls' = length_sums None cs m.first m.count in
          let small = stop_small (sums_of None cs m.first m.count) m.told f.told (omega arith) in
          let ne : m.told.stop < NONE = elim (cases_lt m.told.stop NONE) [ inl lt ↦ lt | inr ge ↦ absurd (d (omega arith)) ] in
          let is : known_of step depth r.rule ns n.0 ≡ Some stop = known ∙ ap (λ b. cond b None (Some stop)) (not_none stop ne) in
          let st = known_true step depth r.rule None ns l.family n.0 stop sound n.1 fam is in
          let stops : Stops step depth r.rule n.0.task stop = subst (λ (x : Node T). Stops step depth r.rule x.task stop) (some_is st.0 n.0 (sym st.1 ∙ n.1)) st.2 in
          let word = n.2.word in
          let le : stop ≤ m.word = elim (t.words l.family m at has) [ inl same ↦ omega arith | inr x ↦ x.0 ] in
          let F : Stored T → Stored T = λ x. record x { word = stop } in
          let rs = room_alter cs l.family m F at in
          let ll = length_alter cs l.family F in
          let had = t.room in
          let res = t.reserved in
          longer_table step depth (l ∷ ls) ls (suc left) left r cs marked live capacity capacity (entry.Marked l.family stop) t
          (show_alter step cs ns l.family m n.0 F (λ x. record x { word = min x.word stop }) t.shows at n.1
          (record { task = n.2.task; path = n.2.path; first = n.2.first; word = omega arith; stage = n.2.stage; own = n.2.own }))
          (subst (λ o. CanMark step depth r.rule o stop) (sym n.1) (has_family step depth n.0.task m.count w m.stage n.0.phase n.2.stage has, stops))
          (omega arith) (omega arith) (omega arith)
          (kids_alter r.rule None None cs l.family m F at (record { first = refl; count = refl; path = refl; told = refl; has = λ h. h; back = λ h. h }) (sum_alter cs l.family m F at refl) t.kids)
          marked_words
          (nomore_alter step cs l.family m F at refl refl (λ v h. h) t.puts)

    -- a mark, where a stop is known
    pub mark_table : es ≡ mark_list cs (Some l) → ds ≡ mark_nodes cs (Some l) → IsTableBut step depth ls left (record r { history = r.history ++ es }) ds live capacity
    mark_table e g =
        elim (none_or m.told.stop) [
          | inl none ↦
              let b : nat_eq (told_stop (slice_get cs l.family)) NONE ≡ true = ap (λ (x : ℕ). nat_eq x NONE) stop_is ∙ none.1 in
              let ie : es ≡ [] = e ∙ ap (λ x. cond x [] (entry.Marked l.family (told_stop (slice_get cs l.family)) ∷ [])) b in
              let id : ds ≡ cs = g ∙ ap (λ x. cond x cs (alter cs l.family (λ c. record c { word = told_stop (slice_get cs l.family) }))) b in
              subst (λ (x : List (Stored T)). IsTableBut step depth ls left (record r { history = r.history ++ es }) x live capacity) (sym id)
              (subst (λ (x : List Entry). IsTableBut step depth ls left (record r { history = x }) cs live capacity) (sym (ap (λ x. r.history ++ x) ie ∙ append-nil r.history))
              (relaxed (l ∷ ls) ls left r cs live capacity t (unmarked none.0)))
          | inr some ↦
              let b : nat_eq (told_stop (slice_get cs l.family)) NONE ≡ false = ap (λ (x : ℕ). nat_eq x NONE) stop_is ∙ some.1 in
              let ie : es ≡ entry.Marked l.family m.told.stop ∷ [] = e ∙ (ap (λ x. cond x [] (entry.Marked l.family (told_stop (slice_get cs l.family)) ∷ [])) b ∙ ap (λ (x : ℕ). entry.Marked l.family x ∷ []) stop_is) in
              let id : ds ≡ alter cs l.family (λ c. record c { word = m.told.stop }) =
              g ∙ (ap (λ x. cond x cs (alter cs l.family (λ c. record c { word = told_stop (slice_get cs l.family) }))) b ∙ ap (λ (x : ℕ). alter cs l.family (λ c. record c { word = x })) stop_is) in
              subst (λ (x : List (Stored T)). IsTableBut step depth ls left (record r { history = r.history ++ es }) x live capacity) (sym id)
              (subst (λ (x : List Entry). IsTableBut step depth ls left (record r { history = r.history ++ x }) (alter cs l.family (λ c. record c { word = m.told.stop })) live capacity) (sym ie)
              (marked_table some.0))
        ]

  module _ (r : Run T) (cs : List (Stored T)) (live : List ℕ) (capacity k : ℕ) (c : Stored T) (walked : Walked T) (t : IsTable step depth r cs live capacity) (at : slice_get cs k ≡ Some c) (is : c.stage ≡ stage.Claimed) (whole : walked ≡ full step depth r.rule c.task) where
    abbrev node : (n : Node T) × (slice_get (nodes_of step depth r) k ≡ Some n) × (n.phase ≡ claimed) × (c.task ≡ n.task) × (c.path ≡ n.path)
    node = claimed_node step depth cs (nodes_of step depth r) k c t.shows at is

    abbrev with_put : List (Stored T)
    with_put = alter cs k (λ x. record x { stage = stage.Put walked })

    abbrev nodes_put : List (Node T)
    nodes_put = set_phase (nodes_of step depth r) k (put (full step depth r.rule node.0.task))

    put_above : parent_of (slice_get nodes_put k) ≡ above node.0.path
    put_above = ap parent_of (get_same (nodes_of step depth r) k node.0 (λ x. record x { phase = put (full step depth r.rule node.0.task) }) node.1)

    pub put_ready : Ready step depth r.rule nodes_put with_put k (through_tally walked.end walked.tally)
    put_ready =
        let ns = nodes_of step depth r in
        let sound = after_sound step depth r.rule tells deeper r.root (turns r.history) t.allowed in
        let w = full step depth r.rule node.0.task in
        let f : Stored T → Stored T = λ x. record x { stage = stage.Put walked } in
        let s = shown_same step depth cs ns k c node.0 t.shows at node.1 in
        let shows : AllShow step with_put nodes_put = show_alter step cs ns k c node.0 f (λ x. record x { phase = put w }) t.shows at node.1
        (record { task = s.task; path = s.path; first = s.first; word = s.word; stage = whole ∙ ap (full step depth r.rule) node.3; own = tt }) in
        let but : SoundBut step depth r.rule (parent_of (slice_get nodes_put k)) nodes_put =
        subst (λ q. SoundBut step depth r.rule q nodes_put) (sym put_above) (sound_done step depth r.rule None ns k node.0 (put w) (inl refl) sound node.1 (ap phase_walk node.2) (λ moves. refl)) in
        let ll = length_alter cs k f in
        let few = t.few in
        record {
          shows = shows;
          sound = but;
          kids = kids_alter r.rule (Some k) None cs k c f at (record { first = refl; count = refl; path = refl; told = refl; has = λ h. absurd h; back = λ h. absurd (subst HasKids is h) }) (sum_hidden cs k c f at (ap stage_sum is)) t.kids;
          in_goals = all_in_goals step depth r.rule (parent_of (slice_get nodes_put k)) with_put nodes_put shows but;
          sum = ap kept_sum (get_alter_same cs k c f at);
          few = omega arith;
        }

    wider : WordsBut [] with_put → (path : List Link) → WordsBut path with_put
    wider w path j x e h = elim (w j x e h) [ inl same ↦ inl same | inr y ↦ absurd y.2 ]

    pub put_words : WordsBut c.path with_put
    put_words = wider (words_stage [] cs k c (stage.Put walked) at (λ h. absurd h) t.words) c.path

    pub put_within : (x : Stored T) → slice_get with_put k ≡ Some x → Within x.path c.path
    put_within x e = (let y = some_is (record c { stage = stage.Put walked }) x (sym (get_alter_same cs k c (λ z. record z { stage = stage.Put walked }) at) ∙ e) in subst (λ (z : Stored T). Within z.path c.path) y (λ i on. on))

    pub put_levels : (x : Stored T) → slice_get with_put k ≡ Some x → length x.path ≤ 3
    put_levels x e =
        let y = some_is (record c { stage = stage.Put walked }) x (sym (get_alter_same cs k c (λ z. record z { stage = stage.Put walked }) at) ∙ e) in
        let sound = after_sound step depth r.rule tells deeper r.root (turns r.history) t.allowed in
        let l = (sound k node.0 node.1).levels in
        let p = ap length node.4 in
        subst (λ (z : Stored T). length z.path ≤ 3) y (omega arith)

    put_nomore : (2 ≤ length (out_children (step c.task).out) → length c.path < 3 → length cs + length (out_children (step c.task).out) ≤ 1000000 → ⊥) → NoMore step with_put
    put_nomore still j x v e p many deep few =
        let f : Stored T → Stored T = λ z. record z { stage = stage.Put walked } in
        let ll = length_alter cs k f in
        elim (alter_at cs k j c x f at e) [
          | inl y ↦
              let n : length (out_children (step x.task).out) ≡ length (out_children (step c.task).out) = ap (λ (z : Stored T). length (out_children (step z.task).out)) y.1 in
              let q : length x.path ≡ length c.path = ap (λ (z : Stored T). length z.path) y.1 in
              still (omega arith) (omega arith) (omega arith)
          | inr n ↦ t.puts j x v n.1 p many deep (omega arith)
        ]

    -- a put keeps the table but for the words of the families above
    pub put_table : (ds : List (Stored T)) → (2 ≤ length (out_children (step c.task).out) → length c.path < 3 → length cs + length (out_children (step c.task).out) ≤ 1000000 → ⊥)
        → Settled step depth r.rule c.path with_put ds (close_up step depth r.rule (k + 1) nodes_put (parent_of (slice_get nodes_put k)))
        → IsTableBut step depth c.path 3 (longer r (entry.Put k)) ds (replace live k []) capacity
    put_table ds still h =
        let ns = nodes_of step depth r in
        let f : Stored T → Stored T = λ x. record x { stage = stage.Put walked } in
        let after : apply step depth r.rule ns (finish k) ≡ close_up step depth r.rule (k + 1) nodes_put (parent_of (slice_get nodes_put k)) =
        ap (put_node step depth r.rule ns k) node.1 ∙ ap (close_up step depth r.rule (k + 1) nodes_put) (sym put_above) in
        let rs = room_alter cs k c f at in
        let four : stage_room c.stage ≡ 4 = ap stage_room is in
        let ll = length_alter cs k f in
        let had = t.room in
        let res = t.reserved in
        let few = t.few in
        let long = h.long in
        let room = h.room in
        longer_table step depth [] c.path 0 3 r cs ds live capacity capacity (entry.Put k) t (subst (AllShow step ds) (sym after) h.shows)
        (subst IsClaimed (sym node.1) node.2) (omega arith) (omega arith) (omega arith) h.kids h.words
        (h.puts (put_nomore still))

mark_skips : {T : Type 0} (cs : List (Stored T)) (f : ℕ) (m : Stored T) → slice_get cs f ≡ Some m → m.told.stop ≡ NONE → (cs ≡ mark_by cs f (told_stop (slice_get cs f))) × ([] ≡ entry_by f (told_stop (slice_get cs f)))
mark_skips cs f m at none =
    let s : told_stop (slice_get cs f) ≡ NONE = ap told_stop at ∙ none in
    (sym (ap (λ (x : ℕ). mark_by cs f x) s), sym (ap (λ (x : ℕ). entry_by f x) s))

mark_does : {T : Type 0} (cs : List (Stored T)) (f : ℕ) (m : Stored T) → slice_get cs f ≡ Some m → m.told.stop ≢ NONE → (alter cs f (λ c. record c { word = m.told.stop }) ≡ mark_by cs f (told_stop (slice_get cs f))) × (entry.Marked f m.told.stop ∷ [] ≡ entry_by f (told_stop (slice_get cs f)))
mark_does cs f m at some =
    let s : told_stop (slice_get cs f) ≡ m.told.stop = ap told_stop at in
    let b : nat_eq m.told.stop NONE ≡ false = elim (none_or m.told.stop) [ inl n ↦ absurd (some n.0) | inr y ↦ y.1 ] in
    (sym (ap (λ (x : ℕ). mark_by cs f x) s ∙ ap (λ x. cond x cs (alter cs f (λ c. record c { word = m.told.stop }))) b), sym (ap (λ (x : ℕ). entry_by f x) s ∙ ap (λ x. cond x [] (entry.Marked f m.told.stop ∷ [])) b))

-- the marks that mark_one makes
pub skip_nodes : {T : Type 0} (cs : List (Stored T)) (l : Link) (m : Stored T) (path : List Link) (at : ℕ) → Some l ≡ slice_get path at → slice_get cs l.family ≡ Some m → m.told.stop ≡ NONE → cs ≡ mark_nodes cs (slice_get path at)
skip_nodes cs l m path at e em none = (mark_skips cs l.family m em none).0 ∙ ap (mark_nodes cs) e

pub skip_history : {T : Type 0} (cs : List (Stored T)) (l : Link) (m : Stored T) (path : List Link) (at : ℕ) (es : List Entry) → Some l ≡ slice_get path at → slice_get cs l.family ≡ Some m → m.told.stop ≡ NONE → es ≡ es ++ mark_list cs (slice_get path at)
skip_history cs l m path at es e em none = sym (append-nil es) ∙ ap (λ x. es ++ x) ((mark_skips cs l.family m em none).1 ∙ ap (mark_list cs) e)

pub does_nodes : {T : Type 0} (cs : List (Stored T)) (l : Link) (m : Stored T) (path : List Link) (at : ℕ) → Some l ≡ slice_get path at → slice_get cs l.family ≡ Some m → m.told.stop ≢ NONE → alter cs l.family (λ c. record c { word = m.told.stop }) ≡ mark_nodes cs (slice_get path at)
does_nodes cs l m path at e em some = (mark_does cs l.family m em some).0 ∙ ap (mark_nodes cs) e

pub does_history : {T : Type 0} (cs : List (Stored T)) (l : Link) (m : Stored T) (path : List Link) (at : ℕ) (es : List Entry) → Some l ≡ slice_get path at → slice_get cs l.family ≡ Some m → m.told.stop ≢ NONE → es ++ entry.Marked l.family m.told.stop ∷ [] ≡ es ++ mark_list cs (slice_get path at)
does_history cs l m path at es e em some = ap (λ x. es ++ x) ((mark_does cs l.family m em some).1 ∙ ap (mark_list cs) e)

-- what is left of a path from a place on
drop_get : (P : List Link) (x j : ℕ) → j ≡ x + 1 → ((slice_get P x ≡ None) × (drop x P ≡ []) × (drop j P ≡ [])) ⊎ ((l : Link) × (slice_get P x ≡ Some l) × (drop x P ≡ l ∷ drop j P))
drop_get [] zero zero e = absurd (omega arith)
drop_get [] zero (suc j) e = inl (refl, refl, refl)
drop_get [] (suc x) zero e = absurd (omega arith)
drop_get [] (suc x) (suc j) e = inl (refl, refl, refl)
drop_get (p ∷ ps) x zero e = absurd (omega arith)
drop_get (p ∷ ps) zero (suc zero) e = inr (p, refl, refl)
drop_get (p ∷ ps) zero (suc (suc j)) e = absurd (omega arith)
drop_get (p ∷ ps) (suc x) (suc j) e = drop_get ps x j (omega arith)

each_get : {A : Type 0} (Q : A → Type 0) (xs : List A) (x : ℕ) (a : A) → Each Q xs → slice_get xs x ≡ Some a → Q a
each_get Q [] x a h e = absurd (cc)
each_get Q (y ∷ ys) zero a h e = subst Q (some_is y a e) h.0
each_get Q (y ∷ ys) (suc x) a h e = each_get Q ys x a h.1 e

each_all : {A : Type 0} (Q R : A → Type 0) (xs : List A) → ((a : A) → Q a → R a) → Each Q xs → Each R xs
each_all Q R [] f h = tt
each_all Q R (x ∷ xs) f h = (f x h.0, each_all Q R xs f h.1)

module _ {T : Type 0} where
  -- a node whose word alone is another
  word_at : (cs : List (Stored T)) (f w k : ℕ) (o : Option (Stored T)) → slice_get cs f ≡ o → (m : Stored T) → slice_get cs k ≡ Some m → (d : Stored T) × (slice_get (alter cs f (λ c. record c { word = w })) k ≡ Some d) × (d.path ≡ m.path) × (d.stage ≡ m.stage) × (d.told ≡ m.told)
  word_at cs f w k o ef m e =
      elim (same_or_not k f) [
        | inl s ↦ (record m { word = w }, ap (slice_get (alter cs f (λ c. record c { word = w }))) s ∙ get_alter_same cs f m (λ c. record c { word = w }) (ap (slice_get cs) (sym s) ∙ e), refl, refl, refl)
        | inr n ↦ (m, get_alter_other cs f k (λ c. record c { word = w }) n ∙ e, refl, refl, refl)
      ]

  by_at : (b : Bool) (cs : List (Stored T)) (f w k : ℕ) (m : Stored T) → slice_get cs k ≡ Some m → (d : Stored T) × (slice_get (cond b cs (alter cs f (λ c. record c { word = w }))) k ≡ Some d) × (d.path ≡ m.path) × (d.stage ≡ m.stage) × (d.told ≡ m.told)
  by_at true cs f w k m e = (m, e, refl, refl, refl)
  by_at false cs f w k m e = word_at cs f w k (slice_get cs f) refl m e

  marked_at : (cs : List (Stored T)) (o : Option Link) (k : ℕ) (m : Stored T) → slice_get cs k ≡ Some m → (d : Stored T) × (slice_get (mark_nodes cs o) k ≡ Some d) × (d.path ≡ m.path) × (d.stage ≡ m.stage) × (d.told ≡ m.told)
  marked_at cs None k m e = (m, e, refl, refl, refl)
  marked_at cs (Some l) k m e = by_at (nat_eq (told_stop (slice_get cs l.family)) NONE) cs l.family (told_stop (slice_get cs l.family)) k m e

  there_after : (cs : List (Stored T)) (o : Option Link) (P : List Link) → Each (λ l. (m : Stored T) × (slice_get cs l.family ≡ Some m) × HasKids m.stage) P → Each (λ l. (m : Stored T) × (slice_get (mark_nodes cs o) l.family ≡ Some m) × HasKids m.stage) P
  there_after cs o P h = each_all (λ l. (m : Stored T) × (slice_get cs l.family ≡ Some m) × HasKids m.stage) (λ l. (m : Stored T) × (slice_get (mark_nodes cs o) l.family ≡ Some m) × HasKids m.stage) P
      (λ l y. let d = marked_at cs o l.family y.0 y.1 in (d.0, d.1, subst HasKids (sym d.3) y.2)) h

module _ {T : Type 0} (step : T → Stepped T) (depth : T → ℕ) where
  -- while the families of a path are marked: x of them are
  pub record Marking (P : List Link) (x left i : ℕ) (r : Run T) (cs : List (Stored T)) (live : List ℕ) (capacity : ℕ) : Type 0 where
    pub table : IsTableBut step depth (drop x P) left r cs live capacity
    pub there : AllThere step depth cs P
    pub node : Stored T
    pub at : slice_get cs i ≡ Some node
    pub path : node.path ≡ P

  module _ (P : List Link) (x left i : ℕ) (r : Run T) (cs : List (Stored T)) (live : List ℕ) (capacity : ℕ) (s : Marking P x (suc left) i r cs live capacity) where
    pub marking_path : (c : Stored T) → slice_get cs i ≡ Some c → c.path ≡ P
    marking_path c e = ap (λ (y : Stored T). y.path) (some_is c s.node (sym e ∙ s.at)) ∙ s.path

    pub marking_there : i < length cs
    marking_there = below_length cs i s.node s.at

    family_there : (c : Stored T) (l : Link) → slice_get cs i ≡ Some c → slice_get c.path x ≡ Some l → (m : Stored T) × (slice_get cs l.family ≡ Some m) × HasKids m.stage
    family_there c l e el = each_get (λ l. (m : Stored T) × (slice_get cs l.family ≡ Some m) × HasKids m.stage) P x l s.there (ap (λ (p : List Link). slice_get p x) (sym (marking_path c e)) ∙ el)

    pub marking_family : (c : Stored T) (l : Link) → slice_get cs i ≡ Some c → slice_get c.path x ≡ Some l → l.family < length cs
    marking_family c l e el = (let m = family_there c l e el in below_length cs l.family m.0 m.1)

    pub marking_small : (c : Stored T) (l : Link) → slice_get cs i ≡ Some c → slice_get c.path x ≡ Some l → told_stop (slice_get cs l.family) ≢ NONE → told_stop (slice_get cs l.family) < 4294967296
    marking_small c l e el d =
        let m = family_there c l e el in
        let f = s.table.kids.family l.family m.0 m.1 m.2 in
        let is : told_stop (slice_get cs l.family) ≡ m.0.told.stop = ap told_stop m.1 in
        let few = s.table.few in
        let fits = f.fits in
        let ll = length_sums None cs m.0.first m.0.count in
        elim f.told.stop [ inl none ↦ absurd (d (is ∙ none)) | inr lt ↦ (let y = lt.0 in omega arith) ]

    pub marking_room : length r.history < capacity
    marking_room = (let a = s.table.room in let b = s.table.reserved in omega arith)

    module _ (tells : (t : T) → Tells (step t).act.process (step t).out) (deeper : (t : T) → Each (λ c. depth c < depth t) (out_children (step t).out)) where
      pub marking_next : (j : ℕ) → j ≡ x + 1 → (ds : List (Stored T)) (es : List Entry) → ds ≡ mark_nodes cs (slice_get P x) → es ≡ mark_list cs (slice_get P x) → Marking P j left i (record r { history = r.history ++ es }) ds live capacity
      marking_next j e ds es ed ee =
          let d = marked_at cs (slice_get P x) i s.node s.at in
          record {
            table = elim (drop_get P x j e) [
              | inl n ↦ subst (λ (p : List Link). IsTableBut step depth p left (record r { history = r.history ++ es }) ds live capacity) (sym n.2)
                  (no_mark step depth tells deeper left r cs ds live capacity es (subst (λ (p : List Link). IsTableBut step depth p (suc left) r cs live capacity) n.1 s.table) (ee ∙ ap (mark_list cs) n.0) (ed ∙ ap (mark_nodes cs) n.0))
              | inr y ↦
                  let m = each_get (λ l. (m : Stored T) × (slice_get cs l.family ≡ Some m) × HasKids m.stage) P x y.0 s.there y.1 in
                  mark_table step depth tells deeper left r cs ds live capacity es y.0 (drop j P) m.0 (subst (λ (p : List Link). IsTableBut step depth p (suc left) r cs live capacity) y.2 s.table) m.1 m.2 (ee ∙ ap (mark_list cs) y.1) (ed ∙ ap (mark_nodes cs) y.1)
            ];
            there = subst (λ (z : List (Stored T)). AllThere step depth z P) (sym ed) (there_after cs (slice_get P x) P s.there);
            node = d.0;
            at = ap (λ z. slice_get z i) ed ∙ d.1;
            path = d.2 ∙ s.path;
          }

module _ {T : Type 0} (step : T → Stepped T) (depth : T → ℕ) (tells : (t : T) → Tells (step t).act.process (step t).out) (deeper : (t : T) → Each (λ c. depth c < depth t) (out_children (step t).out)) where
  module _ (r : Run T) (cs : List (Stored T)) (live : List ℕ) (capacity k : ℕ) (c : Stored T) (walked : Walked T) (t : IsTable step depth r cs live capacity) (at : slice_get cs k ≡ Some c) (is : c.stage ≡ stage.Claimed) (whole : walked ≡ full step depth r.rule c.task)
      (old ds : List (Stored T)) (s : Option Tally) (eo : old ≡ alter cs k (λ x. record x { stage = stage.Put walked })) (es : s ≡ through_tally walked.end walked.tally) where
    -- what settling a put node asks for
    pub needs_ready : (ns : List (Node T)) × Ready step depth r.rule ns old k s
    needs_ready = rw (eo, es) ((_, put_ready step depth tells deeper r cs live capacity k c walked t at is whole))

    pub needs_words : (path : List Link) × WordsBut path old × ((x : Stored T) → slice_get old k ≡ Some x → Within x.path path)
    needs_words = rw eo ((c.path, put_words step depth tells deeper r cs live capacity k c walked t at is whole, put_within step depth tells deeper r cs live capacity k c walked t at is whole))

    pub needs_levels : (x : Stored T) → slice_get old k ≡ Some x → length x.path ≤ 3
    needs_levels = rw eo (put_levels step depth tells deeper r cs live capacity k c walked t at is whole)

    -- and what it gives
    pub put_all : Settles step depth r.rule old ds k s → (2 ≤ length (out_children (step c.task).out) → length c.path < 3 → length cs + length (out_children (step c.task).out) ≤ 1000000 → ⊥) → IsTableBut step depth c.path 3 (longer r (entry.Put k)) ds (replace live k []) capacity
    put_all settles still =
        let f : Settles step depth r.rule (alter cs k (λ x. record x { stage = stage.Put walked })) ds k (through_tally walked.end walked.tally) = subst (λ x. Settles step depth r.rule x ds k (through_tally walked.end walked.tally)) eo (subst (λ x. Settles step depth r.rule old ds k x) es settles) in
        put_table step depth tells deeper r cs live capacity k c walked t at is whole ds still
        (f _ (k + 1) c.path (put_ready step depth tells deeper r cs live capacity k c walked t at is whole) (omega arith) (put_words step depth tells deeper r cs live capacity k c walked t at is whole) (put_within step depth tells deeper r cs live capacity k c walked t at is whole))

    pub three_levels : length c.path ≤ 3
    three_levels = put_levels step depth tells deeper r cs live capacity k c walked t at is whole (record c { stage = stage.Put walked }) (get_alter_same cs k c (λ z. record z { stage = stage.Put walked }) at)

pub get_there : {A : Type 0} (xs : List A) (i : ℕ) → i < length xs → (x : A) × (slice_get xs i ≡ Some x)
get_there [] i h = absurd (omega arith)
get_there (x ∷ xs) zero h = (x, refl)
get_there (x ∷ xs) (suc i) h = get_there xs i (omega arith)

drop_three : (P : List Link) → length P ≤ 3 → drop 3 P ≡ []
drop_three [] h = refl
drop_three (a ∷ []) h = refl
drop_three (a ∷ b ∷ []) h = refl
drop_three (a ∷ b ∷ c ∷ []) h = refl
drop_three (a ∷ b ∷ c ∷ d ∷ P) h = absurd (omega arith)

pub joined_history : (h e0 e1 e2 : List Entry) (p : Entry) → (((h ++ p ∷ []) ++ e0) ++ e1) ++ e2 ≡ h ++ p ∷ (e0 ++ (e1 ++ e2))
joined_history h e0 e1 e2 p =
    append_assoc ((h ++ p ∷ []) ++ e0) e1 e2
    ∙ (append_assoc (h ++ p ∷ []) e0 (e1 ++ e2) ∙ append_assoc h (p ∷ []) (e0 ++ (e1 ++ e2)))

module _ {T : Type 0} (step : T → Stepped T) (depth : T → ℕ) (tells : (t : T) → Tells (step t).act.process (step t).out) (deeper : (t : T) → Each (λ c. depth c < depth t) (out_children (step t).out)) where
  same_told : (cs : List (Stored T)) (o p : Option Link) (P : List Link) (x : ℕ) → p ≡ slice_get P x → AllThere step depth cs P → mark_list (mark_nodes cs o) p ≡ mark_list cs p
  same_told cs o None P x e h = refl
  same_told cs o (Some l) P x e h =
      let m = each_get (λ l. (m : Stored T) × (slice_get cs l.family ≡ Some m) × HasKids m.stage) P x l h (sym e) in
      let d = marked_at cs o l.family m.0 m.1 in
      ap (entry_by l.family) (ap told_stop d.1 ∙ (ap (λ t. t.stop) d.4 ∙ sym (ap told_stop m.1)))

  entry_known : (f stop : ℕ) → entry_by f stop ≡ one_mark f (stop_place stop)
  entry_known f stop = elim (none_or stop) [
    | inl n ↦ rw n.1 refl
    | inr y ↦ rw y.1 refl
  ]

  -- what is told of a family is its known stop
  family_mark : (left : ℕ) (others : List Link) (r : Run T) (cs : List (Stored T)) (live : List ℕ) (capacity : ℕ) (l : Link) → IsTableBut step depth others left r cs live capacity → ((m : Stored T) × (slice_get cs l.family ≡ Some m) × HasKids m.stage)
      → mark_list cs (Some l) ≡ one_mark l.family (known_at step depth r.rule (nodes_of step depth r) (slice_get (nodes_of step depth r) l.family))
  family_mark left others r cs live capacity l t m =
      let ns = nodes_of step depth r in
      let sound = after_sound step depth r.rule tells deeper r.root (turns r.history) t.allowed in
      let n = shown_at step cs ns l.family m.0 t.shows m.1 in
      let f = t.kids.family l.family m.0 m.1 m.2 in
      let w = length (out_children (step n.0.task).out) in
      let count = kids_count n.0.task m.0.count w m.0.stage n.0.phase n.2.stage m.2 in
      let fam = kid_family step depth r.rule None ns l.family n.0 n.0.task m.0.count w m.0.stage n.0.phase n.2.stage m.2 (sound l.family n.0 n.1).phase in
      let fits = f.fits in
      let few = t.few in
      let known = told_known step depth r.rule None cs ns l.family n.0 m.0.first m.0.told sound t.shows fam n.2.first (omega arith) (subst (λ (x : ℕ). IsTold r.rule (sums_of None cs m.0.first x) m.0.told) count f.told) in
      ap (entry_by l.family) (ap told_stop m.1) ∙ (entry_known l.family m.0.told.stop ∙ ap (one_mark l.family) (sym (ap (known_at step depth r.rule ns) n.1 ∙ known)))

  all_marks_are : (left : ℕ) (others : List Link) (r : Run T) (cs : List (Stored T)) (live : List ℕ) (capacity : ℕ) (P : List Link) → IsTableBut step depth others left r cs live capacity → AllThere step depth cs P → length P ≤ 3
      → mark_list cs (slice_get P 0) ++ (mark_list cs (slice_get P 1) ++ mark_list cs (slice_get P 2)) ≡ stop_marks step depth r.rule (nodes_of step depth r) P
  all_marks_are left others r cs live capacity [] t h le = refl
  all_marks_are left others r cs live capacity (a ∷ []) t h le = ap (λ x. x ++ []) (family_mark left others r cs live capacity a t h.0)
  all_marks_are left others r cs live capacity (a ∷ b ∷ []) t h le = ap₂ (λ x y. x ++ (y ++ [])) (family_mark left others r cs live capacity a t h.0) (family_mark left others r cs live capacity b t h.1.0)
  all_marks_are left others r cs live capacity (a ∷ b ∷ c ∷ []) t h le =
      ap₂ (λ x y. x ++ y) (family_mark left others r cs live capacity a t h.0) (ap₂ (λ x y. x ++ y) (family_mark left others r cs live capacity b t h.1.0) (family_mark left others r cs live capacity c t h.1.1.0 ∙ sym (append-nil _)))
  all_marks_are left others r cs live capacity (a ∷ b ∷ c ∷ d ∷ P) t h le = absurd (omega arith)

  module _ (r : Run T) (cs : List (Stored T)) (live : List ℕ) (capacity k : ℕ) (c : Stored T) (walked : Walked T) (t : IsTable step depth r cs live capacity) (at : slice_get cs k ≡ Some c) (is : c.stage ≡ stage.Claimed) (whole : walked ≡ full step depth r.rule c.task) where
    -- after a put no family above is marked yet
    pub put_marking : (ds : List (Stored T)) → IsTableBut step depth c.path 3 (longer r (entry.Put k)) ds (replace live k []) capacity → Marking step depth c.path 0 3 k (longer r (entry.Put k)) ds (replace live k []) capacity
    put_marking ds p =
        let r' = longer r (entry.Put k) in
        let ms = nodes_of step depth r' in
        let sound = after_sound step depth r.rule tells deeper r.root (turns r'.history) p.allowed in
        let n = claimed_node step depth cs (nodes_of step depth r) k c t.shows at is in
        let keeps = apply_keeps step depth r.rule (nodes_of step depth r) (finish k) k n.0 n.1 in
        let more = nodes_more step depth r (entry.Put k) in
        let d = kept_at step ds ms k keeps.0 p.shows (ap (λ z. slice_get z k) more ∙ keeps.1) in
        let path : d.0.path ≡ c.path = d.2.path ∙ (keeps.3 ∙ sym n.4) in
        record { table = p; there = path_there step depth r.rule None ds ms c.path k d.0 p.shows sound p.kids d.1 path; node = d.0; at = d.1; path = path }

  -- all families are marked
  pub marked_all : (P : List Link) (i : ℕ) (r : Run T) (cs : List (Stored T)) (live : List ℕ) (capacity : ℕ) → length P ≤ 3 → Marking step depth P 3 0 i r cs live capacity → IsTable step depth r cs live capacity
  marked_all P i r cs live capacity le m = subst (λ (p : List Link). IsTableBut step depth p 0 r cs live capacity) (drop_three P le) m.table

  -- the three marks are those of the path
  pub three_marks : (P : List Link) (i : ℕ) (r : Run T) (cs c1 c2 : List (Stored T)) (live : List ℕ) (capacity : ℕ) → length P ≤ 3 → Marking step depth P 0 3 i r cs live capacity → c1 ≡ mark_nodes cs (slice_get P 0) → c2 ≡ mark_nodes c1 (slice_get P 1)
      → mark_list cs (slice_get P 0) ++ (mark_list c1 (slice_get P 1) ++ mark_list c2 (slice_get P 2)) ≡ stop_marks step depth r.rule (nodes_of step depth r) P
  three_marks P i r cs c1 c2 live capacity le m e1 e2 =
      let t1 : AllThere step depth c1 P = subst (λ (z : List (Stored T)). AllThere step depth z P) (sym e1) (there_after cs (slice_get P 0) P m.there) in
      let one : mark_list c1 (slice_get P 1) ≡ mark_list cs (slice_get P 1) = ap (λ z. mark_list z (slice_get P 1)) e1 ∙ same_told cs (slice_get P 0) (slice_get P 1) P 1 refl m.there in
      let two : mark_list c2 (slice_get P 2) ≡ mark_list cs (slice_get P 2) =
      ap (λ z. mark_list z (slice_get P 2)) e2 ∙ (same_told c1 (slice_get P 1) (slice_get P 2) P 2 refl t1 ∙ (ap (λ z. mark_list z (slice_get P 2)) e1 ∙ same_told cs (slice_get P 0) (slice_get P 2) P 2 refl m.there)) in
      ap (λ l. mark_list cs (slice_get P 0) ++ l) (ap₂ (λ x y. x ++ y) one two) ∙ all_marks_are 3 (drop 0 P) r cs live capacity P m.table m.there le

module _ {T : Type 0} (step : T → Stepped T) (depth : T → ℕ) where
  pub still_shown : (r : Run T) (cs : List (Stored T)) (k : ℕ) → AllShow step cs (nodes_of step depth r) → ((c : Stored T) × (slice_get cs k ≡ Some c) × (2 ≤ length (out_children (step c.task).out)) × (length c.path < 3) × (length cs + length (out_children (step c.task).out) ≤ 1000000)) → CanStill step depth r k
  still_shown r cs k a h =
      let n = shown_at step cs (nodes_of step depth r) k h.0 a h.1 in
      let e = ap (λ t. length (out_children (step t).out)) n.2.task in
      let p = ap length n.2.path in
      let l = show_length step cs (nodes_of step depth r) a in
      let x = h.2 in
      let y = h.3 in
      let z = h.4 in
      (n.0, n.1, omega arith, omega arith, omega arith)

  pub still_kept : (r : Run T) (cs : List (Stored T)) (k : ℕ) → AllShow step cs (nodes_of step depth r) → CanStill step depth r k → (c : Stored T) × (slice_get cs k ≡ Some c) × (2 ≤ length (out_children (step c.task).out)) × (length c.path < 3) × (length cs + length (out_children (step c.task).out) ≤ 1000000)
  still_kept r cs k a h =
      let c = kept_at step cs (nodes_of step depth r) k h.0 a h.1 in
      let e = ap (λ t. length (out_children (step t).out)) c.2.task in
      let p = ap length c.2.path in
      let l = show_length step cs (nodes_of step depth r) a in
      let x = h.2 in
      let y = h.3 in
      let z = h.4 in
      (c.0, c.1, omega arith, omega arith, omega arith)
