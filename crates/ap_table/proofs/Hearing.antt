-- What telling one family does to the kept nodes, and so telling all above a node.
use Rattle.std.proofs.Common.{◌≡◌, ◌≢◌, ℕ, zero, suc, ◌+◌, ◌≤◌, ◌<◌, Bool, true, false, ◌&&◌, nat_eq, nat_lt, cond, List, [], ◌∷◌, length, Option, Some, None, refl, sym, ap, subst, ◌∙◌, arith, inl, inr, ◌⊎◌}
use Rattle.std.specs.List.{slice_get}
use Rattle.ap_list.specs.Lists.{Each}
use Rattle.ap_walk.specs.declared.act.Stepped.{Stepped}
use Rattle.ap_walk.specs.declared.rule.Rule.{Rule}
use Rattle.ap_walk.specs.declared.rule.Tally.{Tally}
use Rattle.ap_walk.specs.declared.mark.Walked.{Walked}
use Rattle.ap_walk.specs.Visits.{Tells, out_children, visit_of}
use Rattle.ap_word.specs.Stops.{NONE}
use Rattle.ap_table.specs.declared.link.Link.{Link}
use Rattle.ap_table.specs.declared.stored.Told.{Told}
use Rattle.ap_table.specs.declared.stored.Stored.{Stored}
use Rattle.ap_table.specs.declared.stored.Stage.{Stage}
use Rattle.ap_table.specs.declared.stored.Stage.TheVariants as stage
use Rattle.ap_table.specs.Core.{Node, expanded, closed, above, set_phase, parent_of, joined_walk, close_up}
use Rattle.ap_table.specs.Sound.{PhaseSound, SoundBut}
use Rattle.ap_table.specs.Shown.{OwnShows, alter, rooms, stage_room, Shows, AllShow, NoMore}
use Rattle.ap_table.specs.Sums.{sum_at, sums_of, InGoals, closed_sum, IsTold, OnPath, Within, HasKids, Kids, WordsBut, stage_sum, kept_sum, stage_expanded, closes_at}
use Rattle.ap_table.specs.Settled.{Ready, Settled, Next, HearsOne}
use Rattle.ap_table.proofs.Keeping.{same_or_not, some_is}
use Rattle.ap_table.proofs.Rising.{closed_sound}
use Rattle.ap_table.proofs.Showing.{shown_at, show_alter, room_alter, length_alter}
use Rattle.ap_table.proofs.Totals.{Sums, length_sums, hidden_out, told_in_goals}
use Rattle.ap_table.proofs.Families.{get_alter_same, get_alter_other, alter_at, sum_alter, sum_hidden, kids_alter, told_kids, goals_each, closes_true, eq_yes, lt_yes, Parent, parent_at, other_families, close_stays, close_goes, close_none, open_stays, closing, closed_walk}

module _ {T : Type 0} (step : T → Stepped T) where
  pub show_keep : (cs : List (Stored T)) (ns : List (Node T)) (k : ℕ) (f : Stored T → Stored T) → ((x : Stored T) (n : Node T) → Shows step x n → Shows step (f x) n) → AllShow step cs ns → AllShow step (alter cs k f) ns
  unfolding alter
  show_keep [] [] k f h a = tt
  show_keep [] (n ∷ ns) k f h a = absurd a
  show_keep (x ∷ cs) [] k f h a = absurd a
  show_keep (x ∷ cs) (n ∷ ns) zero f h a = (h x n a.0, a.1)
  show_keep (x ∷ cs) (n ∷ ns) (suc k) f h a = (a.0, show_keep cs ns k f h a.1)

module _ {T : Type 0} where
  words_told : (path : List Link) (cs : List (Stored T)) (p : ℕ) (c : Stored T) (d : Told) → slice_get cs p ≡ Some c → HasKids c.stage → OnPath path p → d.stop ≤ c.told.stop → c.told.stop ≤ NONE → WordsBut path cs → WordsBut path (alter cs p (λ x. record x { told = d }))
  words_told path cs p c d at has on falls small w j x e h =
      elim (alter_at cs p j c x (λ y. record y { told = d }) at e) [
        | inl y ↦
            let le : d.stop ≤ c.word = elim (w p c at has) [ inl same ↦ omega arith | inr le ↦ (let z = le.0 in omega arith) ] in
            let most : c.word ≤ NONE = elim (w p c at has) [ inl same ↦ omega arith | inr le ↦ le.1 ] in
            subst (λ (z : Stored T). (z.word ≡ z.told.stop) ⊎ ((z.told.stop ≤ z.word) × (z.word ≤ NONE) × OnPath path j)) (sym y.1) (inr (le, most, subst (OnPath path) (sym y.0) on))
        | inr n ↦ w j x n.1 h
      ]

  pub words_stage : (path : List Link) (cs : List (Stored T)) (p : ℕ) (c : Stored T) (s : Stage T) → slice_get cs p ≡ Some c → (HasKids s → HasKids c.stage) → WordsBut path cs → WordsBut path (alter cs p (λ x. record x { stage = s }))
  words_stage path cs p c s at has w j x e h =
      elim (alter_at cs p j c x (λ y. record y { stage = s }) at e) [
        | inl y ↦
            let k : HasKids s = subst (λ (z : Stored T). HasKids z.stage) y.1 h in
            subst (λ (z : Stored T). (z.word ≡ z.told.stop) ⊎ ((z.told.stop ≤ z.word) × (z.word ≤ NONE) × OnPath path j)) (sym y.1) (subst (λ (z : ℕ). (c.word ≡ c.told.stop) ⊎ ((c.told.stop ≤ c.word) × (c.word ≤ NONE) × OnPath path z)) (sym y.0) (w p c at (has k)))
        | inr n ↦ w j x n.1 h
      ]

closes_how : {T : Type 0} (c : Stored T) (d : Told) (n : ℕ) → n ≡ c.count → closes_at c d ≡ true → (d.front ≡ n) ⊎ (d.stop < d.front)
closes_how c d n e h =
    elim (closes_true (stage_expanded c.stage) (nat_eq d.front c.count) (nat_lt d.stop d.front) h).1 [
      | inl x ↦ inl (eq_yes d.front c.count x ∙ sym e)
      | inr x ↦ inr (lt_yes d.stop d.front x)
    ]

pub stop_small : {rule : Rule} (os : Sums) (t : Told) → IsTold rule os t → length os ≤ NONE → t.stop ≤ NONE
stop_small os t k few = elim k.stop [ inl none ↦ omega arith | inr at ↦ (let a = at.0 in omega arith) ]

module _ {T : Type 0} (step : T → Stepped T) where
  pub nomore_alter : (cs : List (Stored T)) (k : ℕ) (c : Stored T) (f : Stored T → Stored T) → slice_get cs k ≡ Some c → (f c).task ≡ c.task → (f c).path ≡ c.path → ((v : Walked T) → (f c).stage ≡ stage.Put v → c.stage ≡ stage.Put v) → NoMore step cs → NoMore step (alter cs k f)
  nomore_alter cs k c f at task path back held j d v e is many deep few =
      let ll = length_alter cs k f in
      elim (alter_at cs k j c d f at e) [
        | inl y ↦
            let t : d.task ≡ c.task = ap (λ (x : Stored T). x.task) y.1 ∙ task in
            let p : d.path ≡ c.path = ap (λ (x : Stored T). x.path) y.1 ∙ path in
            let n : length (out_children (step d.task).out) ≡ length (out_children (step c.task).out) = ap (λ x. length (out_children (step x).out)) t in
            held k c v at (back v (sym (ap (λ (x : Stored T). x.stage) y.1) ∙ is)) (omega arith) (let q = ap length p in omega arith) (omega arith)
        | inr n ↦ held j d v n.1 is many deep (omega arith)
      ]

in_goals_closed : (b : Bool) (p g : ℕ) → p ≤ g → InGoals (Some (cond b (Some (let t : Tally = record { pushes = p; goals = g + 1 } in t)) None))
in_goals_closed true p g h = omega arith
in_goals_closed false p g h = omega arith

is_expanded : {T : Type 0} (s : Stage T) → s ≡ stage.Expanded → (stage_room s ≡ 0) × HasKids s
is_expanded s e = (ap stage_room e, subst HasKids (sym e) tt)

module _ {T : Type 0} (step : T → Stepped T) (depth : T → ℕ) (rule : Rule) where
  on_path : (l : Link) (ls path : List Link) (c : Stored T) → c.path ≡ l ∷ ls → Within c.path path → OnPath path l.family
  on_path l ls path c e w = w l.family (subst (λ (x : List Link). OnPath x l.family) (sym e) (inl refl))

  not_above : (l : Link) (ls : List Link) (c : Stored T) (k : ℕ) → c.path ≡ l ∷ ls → k ≢ l.family → above c.path ≢ Some k
  not_above l ls c k e d x = d (let y : Some l.family ≡ Some k = sym (ap above e) ∙ x in let z : l.family ≡ k = cc in sym z)

  -- the root has nobody to tell
  pub hears_root : (ns : List (Node T)) (cs : List (Stored T)) (i f : ℕ) (s : Option Tally) (c : Stored T) (path : List Link) → Ready step depth rule ns cs i s → slice_get cs i ≡ Some c → c.path ≡ [] → WordsBut path cs → Settled step depth rule path cs cs (close_up step depth rule f ns (parent_of (slice_get ns i)))
  hears_root ns cs i f s c path r at e w =
      let n = shown_at step cs ns i c r.shows at in
      let top : parent_of (slice_get ns i) ≡ None = ap parent_of n.1 ∙ ap above (sym n.2.path ∙ e) in
      let is : close_up step depth rule f ns (parent_of (slice_get ns i)) ≡ ns = ap (close_up step depth rule f ns) top ∙ close_none step depth rule f ns in
      record {
        shows = subst (AllShow step cs) (sym is) r.shows;
        kids = record {
          family = λ k x ex has.
              let o = r.kids.family k x ex has in
              record {
                told = subst (λ os. IsTold rule os x.told) (hidden_out i cs x.first x.count (other_families step depth rule ns cs i s c r at k x (λ z. let y = sym (ap above e) ∙ z in cc) ex has)) o.told;
                fits = o.fits;
              };
          placed = r.kids.placed;
        };
        words = w;
        long = refl;
        puts = λ h. h;
        room = refl;
      }

  module _ (ns : List (Node T)) (cs : List (Stored T)) (i f : ℕ) (s : Option Tally) (c : Stored T) (l : Link) (ls path : List Link) (d : Told) (r : Ready step depth rule ns cs i s) (at : slice_get cs i ≡ Some c) (e : c.path ≡ l ∷ ls) (up : Parent step depth rule ns cs i s l ls)
      (told : IsTold rule (sums_of None cs up.above.kept.first up.above.kept.count) d) (falls : d.stop ≤ up.above.kept.told.stop) (next : (d.front ≡ up.above.kept.count) ⊎ (slice_get (sums_of None cs up.above.kept.first up.above.kept.count) d.front ≡ Some None))
      (enough : i ≤ f) (words : WordsBut path cs) (within : Within c.path path) where
    abbrev heard : List (Stored T)
    heard = alter cs l.family (λ x. record x { told = d })

    heard_kids : Kids rule None heard
    heard_kids = told_kids rule i l.family cs up.above.kept d r.kids up.above.at up.above.has told
        (λ k x n ex has. other_families step depth rule ns cs i s c r at k x (not_above l ls c k e n) ex has)

    heard_shows : AllShow step heard ns
    heard_shows = show_keep step cs ns l.family (λ x. record x { told = d }) (λ x n h. record { task = h.task; path = h.path; first = h.first; word = h.word; stage = h.stage; own = h.own }) r.shows

    heard_words : WordsBut path heard
    heard_words = words_told path cs l.family up.above.kept d up.above.at up.above.has (on_path l ls path c e within) falls (stop_small (sums_of (Some (up.above.kept.first + l.place)) cs up.above.kept.first up.above.kept.count) up.above.kept.told up.told (let a = length_sums (Some (up.above.kept.first + l.place)) cs up.above.kept.first up.above.kept.count in let b = up.fits in omega arith)) words

    heard_long : length heard ≡ length cs
    heard_long = length_alter cs l.family (λ x. record x { told = d })

    heard_room : rooms heard ≡ rooms cs
    heard_room = (let x = room_alter cs l.family up.above.kept (λ x. record x { told = d }) up.above.at in omega arith)

    heard_puts : NoMore step cs → NoMore step heard
    heard_puts = nomore_alter step cs l.family up.above.kept (λ x. record x { told = d }) up.above.at refl refl (λ v z. z)

    -- the node above stays open
    open_by : (g : ℕ) → g ≡ f → closes_at up.above.kept d ≡ false → Settled step depth rule path cs heard (close_up step depth rule g ns (Some l.family))
    open_by zero eg no' = absurd (let b = up.below in omega arith)
    open_by (suc g) eg no' =
        let is = close_stays step depth rule g ns l.family up.above.node up.above.node_at (open_stays step depth rule (parent_of (slice_get ns i)) ns cs l.family up.above d r.shows r.sound up.fits told next no') in
        record { shows = subst (AllShow step heard) (sym is) heard_shows; kids = heard_kids; words = heard_words; long = heard_long; puts = heard_puts; room = heard_room }

    pub hears_open : closes_at up.above.kept d ≡ false → Settled step depth rule path cs heard (close_up step depth rule f ns (parent_of (slice_get ns i)))
    hears_open no' = subst (λ q. Settled step depth rule path cs heard (close_up step depth rule f ns q)) (sym up.parent) (open_by f refl no')

    goals_at : (j : ℕ) → d.sum.pushes ≤ d.sum.goals → (was : Stored T) → slice_get heard l.family ≡ Some was → InGoals (sum_at None (alter heard l.family (λ x. record x { stage = stage.Closed (closed_sum rule d) })) j)
    goals_at j le was here =
        let f' : Stored T → Stored T = λ x. record x { stage = stage.Closed (closed_sum rule d) } in
        elim (same_or_not j l.family) [
          | inl z ↦ subst InGoals (sym (ap (λ (n : ℕ). sum_at None (alter heard l.family f') n) z ∙ ap kept_sum (get_alter_same heard l.family was f' here))) (in_goals_closed (nat_eq d.stop NONE && nat_lt (d.sum.goals + 1) rule.goal_limit) d.sum.pushes d.sum.goals le)
          | inr z ↦ subst InGoals (sym (ap kept_sum (get_alter_other heard l.family j f' z) ∙ sum_alter cs l.family up.above.kept (λ x. record x { told = d }) up.above.at refl j)) (r.in_goals j)
        ]

    abbrev shut : List (Stored T)
    shut = alter heard l.family (λ x. record x { stage = stage.Closed (closed_sum rule d) })

    module _ (tells : (t : T) → Tells (step t).act.process (step t).out) (deeper : (t : T) → Each (λ c. depth c < depth t) (out_children (step t).out)) where
      shut_by : (g : ℕ) → g ≡ f → closes_at up.above.kept d ≡ true → Next step depth rule ns f path cs shut i l.family (closed_sum rule d)
      shut_by zero eg yes' = absurd (let b = up.below in omega arith)
      shut_by (suc g) eg yes' =
          let kept = up.above.kept in
          let p = l.family in
          let n = up.above.node in
          let q = parent_of (slice_get ns i) in
          let c' = closing step depth rule q ns cs p up.above d r.shows r.sound up.fits told next yes' in
          let ws = c'.2.0 in
          let w = joined_walk step depth rule n.task ws in
          let ms = set_phase ns p (closed w) in
          let was : Stored T = record kept { told = d } in
          let here : slice_get heard p ≡ Some was = get_alter_same cs p kept (λ x. record x { told = d }) up.above.at in
          let own : PhaseSound step depth rule (Some p) ns p n expanded = subst (PhaseSound step depth rule (Some p) ns p n) c'.0 (subst (λ (x : Option ℕ). PhaseSound step depth rule x ns p n n.phase) up.parent (r.sound p n up.above.node_at).phase) in
          let long = length_sums None cs kept.first kept.count in
          let sound = closed_sound step depth rule tells deeper ns p n ws (subst (λ (x : Option ℕ). SoundBut step depth rule x ns) up.parent r.sound) up.above.node_at c'.0 own c'.2.1 in
          let closes : (d.front ≡ length (sums_of None cs kept.first kept.count)) ⊎ (d.stop < d.front) = closes_how kept d (length (sums_of None cs kept.first kept.count)) long yes' in
          let walk = closed_walk step depth rule q ns cs p up.above d r.shows r.sound up.fits told next tells deeper ws own.2 c'.2.1 closes in
          let ex = is_expanded kept.stage c'.1 in
          let se : stage_sum was.stage ≡ None = ap stage_sum c'.1 in
          let f' : Stored T → Stored T = λ x. record x { stage = stage.Closed (closed_sum rule d) } in
          let le = told_in_goals rule (sums_of None cs kept.first kept.count) d told (goals_each cs kept.first kept.count r.in_goals) in
          record {
            nodes = ms;
            fuel = g;
            ready = record {
              shows = show_alter step heard ns p was n f' (λ x. record x { phase = closed w }) heard_shows here up.above.node_at
                  (record { task = up.above.shows.task; path = up.above.shows.path; first = up.above.shows.first; word = up.above.shows.word; stage = (walk, up.above.count); own = subst (OwnShows kept.own (visit_of n.task (step n.task))) c'.0 up.above.shows.own });
              sound = sound;
              kids = kids_alter rule (Some p) None heard p was f' here (record { first = refl; count = refl; path = refl; told = refl; has = λ z. ex.1; back = λ z. tt }) (sum_hidden heard p was f' here se) heard_kids;
              in_goals = λ j. goals_at j le was here;
              sum = ap kept_sum (get_alter_same heard p was f' here);
              few = (let a = length_alter heard p f' in let b = heard_long in let x = r.few in omega arith);
            };
            enough = (let b = up.below in omega arith);
            same = subst (λ (y : ℕ). close_up step depth rule y ns (parent_of (slice_get ns i)) ≡ close_up step depth rule g ms (parent_of (slice_get ms p))) eg
                (ap (close_up step depth rule (suc g) ns) up.parent ∙ close_goes step depth rule g ns p n ws up.above.node_at c'.0 c'.2.1);
            words = words_stage path heard p was (stage.Closed (closed_sum rule d)) here (λ z. ex.1) heard_words;
            long = length_alter heard p f' ∙ heard_long;
            puts = λ h. nomore_alter step heard p was f' here refl refl (λ v z. absurd (cc)) (heard_puts h);
            room = (let a = room_alter heard p was f' here in let b = heard_room in let x = ex.0 in omega arith);
            kept = f' was;
            at = get_alter_same heard p was f' here;
            within = λ k on. within k (subst (λ (x : List Link). OnPath x k) (sym e) (inr (subst (λ (x : List Link). OnPath x k) up.path on)));
            shorter = λ x ex'. (let a = ap length (ap (λ (y : Stored T). y.path) (some_is x c (sym ex' ∙ at)) ∙ e) in let b = ap length up.path in omega arith);
          }

      pub hears_shut : closes_at up.above.kept d ≡ true → Next step depth rule ns f path cs shut i l.family (closed_sum rule d)
      hears_shut yes' = shut_by f refl yes'

-- the node above one whose path begins with this link
pub record At {T : Type 0} (step : T → Stepped T) (depth : T → ℕ) (rule : Rule) (ns : List (Node T)) (cs : List (Stored T)) (i : ℕ) (s : Option Tally) (l : Link) : Type 0 where
  pub kept : Stored T
  pub rest : List Link
  pub at : slice_get cs i ≡ Some kept
  pub path : kept.path ≡ l ∷ rest
  pub up : Parent step depth rule ns cs i s l rest

path_begins : (path : List Link) (l : Link) → Some l ≡ slice_get path 0 → (ls : List Link) × (path ≡ l ∷ ls)
path_begins [] l e = absurd (cc)
path_begins (x ∷ xs) l e = (xs, ap (λ y. y ∷ xs) (let z : x ≡ l = cc in z))

pub path_ends : (path : List Link) → None ≡ slice_get path 0 → path ≡ []
path_ends [] e = refl
path_ends (x ∷ xs) e = absurd (cc)

module _ {T : Type 0} where
  there : (cs : List (Stored T)) (k : ℕ) (s : Option Tally) (o : Option (Stored T)) → slice_get cs k ≡ o → kept_sum o ≡ Some s → (c : Stored T) × (slice_get cs k ≡ Some c)
  there cs k s None at e = absurd (cc)
  there cs k s (Some c) at e = (c, at)

  pub same_kept : (cs : List (Stored T)) (p : ℕ) (c d : Stored T) → slice_get cs p ≡ Some c → slice_get cs p ≡ Some d → c ≡ d
  same_kept cs p c d a b = some_is c d (sym a ∙ b)

  pub sum_there : (cs : List (Stored T)) (k : ℕ) (s : Option Tally) → sum_at None cs k ≡ Some s → (c : Stored T) × (slice_get cs k ≡ Some c)
  sum_there cs k s e = there cs k s (slice_get cs k) refl e

module _ {T : Type 0} (step : T → Stepped T) (depth : T → ℕ) (rule : Rule) where
  pub parent_by : (ns : List (Node T)) (cs : List (Stored T)) (i : ℕ) (s : Option Tally) (l : Link) → Ready step depth rule ns cs i s → ((c : Stored T) → slice_get cs i ≡ Some c → Some l ≡ slice_get c.path 0) → At step depth rule ns cs i s l
  parent_by ns cs i s l r h =
      let c = sum_there cs i s r.sum in
      let p = path_begins c.0.path l (h c.0 c.1) in
      record { kept = c.0; rest = p.0; at = c.1; path = p.1; up = parent_at step depth rule ns cs i s c.0 l p.0 r c.1 p.1 }

  -- settling by one step after another
  pub settle_first : (path : List Link) (old mid new : List (Stored T)) (ns : List (Node T)) (f i p : ℕ) (s : Option Tally) (n : Next step depth rule ns f path old mid i p s)
      → Settled step depth rule path mid new (close_up step depth rule n.fuel n.nodes (parent_of (slice_get n.nodes p))) → Settled step depth rule path old new (close_up step depth rule f ns (parent_of (slice_get ns i)))
  settle_first path old mid new ns f i p s n h = record {
    shows = subst (AllShow step new) (sym n.same) h.shows;
    kids = h.kids;
    words = h.words;
    long = h.long ∙ n.long;
    puts = λ x. h.puts (n.puts x);
    room = h.room ∙ n.room;
  }

  pub next_within : (ns : List (Node T)) (f : ℕ) (path : List Link) (old new : List (Stored T)) (i p : ℕ) (s : Option Tally) (n : Next step depth rule ns f path old new i p s) (c : Stored T) → slice_get new p ≡ Some c → Within c.path path
  next_within ns f path old new i p s n c at = subst (λ (x : Stored T). Within x.path path) (some_is n.kept c (sym n.at ∙ at)) n.within

  pub next_levels : (ns : List (Node T)) (f : ℕ) (path : List Link) (old new : List (Stored T)) (i p m : ℕ) (s : Option Tally) (n : Next step depth rule ns f path old new i p s) (c : Stored T) → slice_get old i ≡ Some c → length c.path ≤ m + 1 → (d : Stored T) → slice_get new p ≡ Some d → length d.path ≤ m
  next_levels ns f path old new i p m s n c at le d ad = (let a = n.shorter c at in let b = ap length (ap (λ (x : Stored T). x.path) (some_is n.kept d (sym n.at ∙ ad))) in omega arith)

  no_more : (path : List Link) → length path ≤ 0 → path ≡ []
  no_more [] h = refl
  no_more (x ∷ xs) h = absurd (omega arith)

  -- the last family that there can be
  pub settle_last : (ns : List (Node T)) (f : ℕ) (path : List Link) (old new : List (Stored T)) (i : ℕ) (c : Stored T) → slice_get old i ≡ Some c → length c.path ≤ 1 → (o : Option (ℕ × Option Tally)) → HearsOne step depth rule ns f path old new i o
      → Settled step depth rule path old new (close_up step depth rule f ns (parent_of (slice_get ns i)))
  settle_last ns f path old new i c at le None h = h
  settle_last ns f path old new i c at le (Some r) n =
      settle_first path old new new ns f i r.0 r.1 n
      (hears_root step depth rule n.nodes new r.0 n.fuel r.1 n.kept path n.ready n.at (no_more n.kept.path (let a = n.shorter c at in omega arith)) n.words)
