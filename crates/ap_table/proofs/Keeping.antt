-- Each allowed step keeps the nodes sound.
use Rattle.std.proofs.Common.{◌≡◌, ◌≢◌, ℕ, zero, suc, ◌+◌, List, [], ◌∷◌, Option, Some, None, length, refl, sym, ap, subst, ◌∙◌, arith, inl, inr, ◌⊎◌, Bool, true, false, cond, min}
use Rattle.std.proofs.lemmas.Bool.{cases_lt}
use Rattle.std.specs.List.{slice_get}
use Rattle.ap_walk.specs.declared.act.Stepped.{Stepped}
use Rattle.ap_walk.specs.declared.rule.Rule.{Rule}
use Rattle.ap_walk.specs.declared.mark.Walked.{Walked}
use Rattle.ap_walk.specs.Walks.{full}
use Rattle.ap_word.specs.declared.family.Counted.{Counted}
use Rattle.ap_word.specs.declared.family.Numbers.{Numbers}
use Rattle.ap_word.specs.Stops.{NONE, nothing_counted, stops, add}
use Rattle.ap_table.specs.Core.{Phase, Node, free, claimed, expanded, put, closed, dropped, numbers_of, counted_of, with_kept, kept, phase_walk, node_walk, walks_of, change, set_phase, above, children, Stops}
use Rattle.ap_table.specs.declared.link.Link.{Link}
use Rattle.ap_table.specs.declared.link.License.{License}
use Rattle.ap_table.specs.Sound.{Family, Licensed, Up, PhaseSound, NodeSound, SoundBut, Sound}
use Rattle.ap_table.proofs.Closing.{AreFull}

pub same_or_not : (j k : ℕ) → (j ≡ k) ⊎ (j ≢ k)
same_or_not zero zero = inl refl
same_or_not zero (suc k) = inr (λ e. omega arith)
same_or_not (suc j) zero = inr (λ e. omega arith)
same_or_not (suc j) (suc k) = elim (same_or_not j k) [ inl e ↦ inl (ap suc e) | inr n ↦ inr (λ e. n (omega arith)) ]

pub some_is : {A : Type 0} (a b : A) → Some a ≡ Some b → a ≡ b
some_is a b e = cc

module _ {T : Type 0} where
  pub get_same : (ns : List (Node T)) (k : ℕ) (n : Node T) (f : Node T → Node T) → slice_get ns k ≡ Some n → slice_get (change ns k f) k ≡ Some (f n)
  unfolding change
  get_same [] k n f e = absurd (cc)
  get_same (x ∷ xs) zero n f e = ap (λ y. Some (f y)) (some_is x n e)
  get_same (x ∷ xs) (suc k) n f e = get_same xs k n f e

  pub get_other : (ns : List (Node T)) (k j : ℕ) (f : Node T → Node T) → j ≢ k → slice_get (change ns k f) j ≡ slice_get ns j
  unfolding change
  get_other [] k j f h = refl
  get_other (x ∷ xs) zero zero f h = absurd (h refl)
  get_other (x ∷ xs) zero (suc j) f h = refl
  get_other (x ∷ xs) (suc k) zero f h = refl
  get_other (x ∷ xs) (suc k) (suc j) f h = get_other xs k j f (λ e. h (ap suc e))

  pub change_length : (ns : List (Node T)) (k : ℕ) (f : Node T → Node T) → length (change ns k f) ≡ length ns
  unfolding change
  change_length [] k f = refl
  change_length (x ∷ xs) zero f = refl
  change_length (x ∷ xs) (suc k) f = ap suc (change_length xs k f)

  -- a result that is there stays
  abbrev pub OneGrown : Option (Walked T) → Option (Walked T) → Type 0
  OneGrown None new = Unit {0}
  OneGrown (Some w) new = new ≡ Some w

  pub grown_none : (o new : Option (Walked T)) → o ≡ None → OneGrown o new
  grown_none None new e = tt
  grown_none (Some w) new e = absurd (cc)

  pub grown_same : (o : Option (Walked T)) → OneGrown o o
  grown_same None = tt
  grown_same (Some w) = refl

  abbrev pub AreGrown : List (Option (Walked T)) → List (Option (Walked T)) → Type 0
  AreGrown [] news = news ≡ []
  AreGrown (o ∷ os) [] = ⊥
  AreGrown (o ∷ os) (new ∷ news) = OneGrown o new × AreGrown os news

  more_stays : (w : Walked T) (b : Bool) (o new : Option (List (Walked T))) (ws : List (Walked T)) → ((vs : List (Walked T)) → o ≡ Some vs → new ≡ Some vs) → cond b (Some (w ∷ [])) (with_kept w o) ≡ Some ws → cond b (Some (w ∷ [])) (with_kept w new) ≡ Some ws
  more_stays w true o new ws h e = e
  more_stays w false None new ws h e = absurd (cc)
  more_stays w false (Some vs) new ws h e = rw (h vs refl) e

  -- later results don't change what was kept
  pub kept_stays : (n : Numbers) (s : Counted) (os news : List (Option (Walked T))) (ws : List (Walked T)) → AreGrown os news → kept n s os ≡ Some ws → kept n s news ≡ Some ws
  unfolding kept
  kept_stays n s [] news ws g e = rw g e
  kept_stays n s (o ∷ os) [] ws g e = absurd g
  kept_stays n s (None ∷ os) (new ∷ news) ws g e = absurd (cc)
  kept_stays n s (Some w ∷ os) (new ∷ news) ws g e = rw g.0 (more_stays w (stops n (add s (counted_of w))) (kept n (add s (counted_of w)) os) (kept n (add s (counted_of w)) news) ws (λ vs f. kept_stays n (add s (counted_of w)) os news vs g.1 f) e)

  -- node k becomes g, and the others stay; there may be new ones
  pub record Moves (ns ms : List (Node T)) (k : ℕ) (n g : Node T) : Type 0 where
    pub was : slice_get ns k ≡ Some n
    pub is : slice_get ms k ≡ Some g
    pub task : g.task ≡ n.task
    pub path : g.path ≡ n.path
    pub others : (j : ℕ) (m : Node T) → j ≢ k → slice_get ns j ≡ Some m → slice_get ms j ≡ Some m
    pub grows : OneGrown (phase_walk n.phase) (phase_walk g.phase)

  module _ (ns ms : List (Node T)) (k : ℕ) (n g : Node T) (moves : Moves ns ms k n g) where
    -- a node keeps its task and its path
    pub stays : (j : ℕ) (m : Node T) → slice_get ns j ≡ Some m → (x : Node T) × (slice_get ms j ≡ Some x) × (x.task ≡ m.task) × (x.path ≡ m.path)
    stays j m at =
        elim (same_or_not j k) [
          | inl s ↦
              let e = some_is n m (sym moves.was ∙ (ap (slice_get ns) (sym s) ∙ at)) in
              (g, ap (slice_get ms) s ∙ moves.is, moves.task ∙ ap (λ x. x.task) e, moves.path ∙ ap (λ x. x.path) e)
          | inr d ↦ (m, moves.others j m d at, refl, refl)
        ]

    pub family_stays : (j : ℕ) (path : List Link) (first place : ℕ) (cs : List T) → Family ns j path first place cs → Family ms j path first place cs
    family_stays j path first place [] f = tt
    family_stays j path first place (c ∷ cs) f =
        let x = stays first f.0.0 f.0.1 in
        ((x.0, x.1, x.2 ∙ f.0.2, x.3 ∙ f.0.3), family_stays j path (first + 1) (place + 1) cs f.1)

    one_walk : (j : ℕ) (m : Node T) → slice_get ns j ≡ Some m → (j ≡ k → phase_walk n.phase ≡ phase_walk g.phase) → node_walk (slice_get ms j) ≡ node_walk (slice_get ns j)
    one_walk j m at h =
        elim (same_or_not j k) [
          | inl s ↦ ap node_walk (ap (slice_get ms) s ∙ moves.is) ∙ (sym (h s) ∙ ap node_walk (sym moves.was ∙ ap (slice_get ns) (sym s)))
          | inr d ↦ ap node_walk (moves.others j m d at ∙ sym at)
        ]

    one_grown : (j : ℕ) (m : Node T) → slice_get ns j ≡ Some m → OneGrown (node_walk (slice_get ns j)) (node_walk (slice_get ms j))
    one_grown j m at =
        elim (same_or_not j k) [
          | inl s ↦ rw (ap (slice_get ns) s ∙ moves.was, ap (slice_get ms) s ∙ moves.is) moves.grows
          | inr d ↦ rw (at, moves.others j m d at) (grown_same (phase_walk m.phase))
        ]

    -- the results of a family that node k isn't of, or whose result stays
    pub walks_same : (j : ℕ) (path : List Link) (first place : ℕ) (cs : List T) → (above n.path ≢ Some j) ⊎ (phase_walk n.phase ≡ phase_walk g.phase) → Family ns j path first place cs → walks_of ms first (length cs) ≡ walks_of ns first (length cs)
    unfolding walks_of
    walks_same j path first place [] d f = refl
    walks_same j path first place (c ∷ cs) d f =
        let m = f.0.0 in
        let here : (first ≡ k) → phase_walk n.phase ≡ phase_walk g.phase = λ s.
        elim d [
          | inl other ↦ absurd (other (ap above (ap (λ x. x.path) (some_is n m (sym moves.was ∙ (ap (slice_get ns) (sym s) ∙ f.0.1))) ∙ f.0.3)))
          | inr same ↦ same
        ] in
        ap (λ o. o ∷ walks_of ms (first + 1) (length cs)) (one_walk first m f.0.1 here)
        ∙ ap (λ ws. node_walk (slice_get ns first) ∷ ws) (walks_same j path (first + 1) (place + 1) cs d f.1)

    pub walks_grown : (j : ℕ) (path : List Link) (first place : ℕ) (cs : List T) → Family ns j path first place cs → AreGrown (walks_of ns first (length cs)) (walks_of ms first (length cs))
    unfolding walks_of
    walks_grown j path first place [] f = refl
    walks_grown j path first place (c ∷ cs) f = (one_grown first f.0.0 f.0.1, walks_grown j path (first + 1) (place + 1) cs f.1)

    -- node j, after node k's step, may be one that can be closed only where r says so
    abbrev pub Spares : Option ℕ → Option ℕ → ℕ → Type 0
    Spares q r j = r ≢ Some j → (q ≢ Some j) × ((above n.path ≢ Some j) ⊎ (phase_walk n.phase ≡ phase_walk g.phase))

    module _ (step : T → Stepped T) (depth : T → ℕ) (rule : Rule) where
      pub licensed_stays : (path : List Link) (l : License) → Licensed step depth rule ns path l → Licensed step depth rule ms path l
      licensed_stays path l h =
          let x = stays l.family h.1.0 h.1.1 in
          (h.0, (x.0, x.1, subst (λ t. Stops step depth rule t l.index) (sym x.2) h.1.2))

      phase_kept : (q r : Option ℕ) (j : ℕ) (m : Node T) (ph : Phase T) → Spares q r j → PhaseSound step depth rule q ns j m ph → PhaseSound step depth rule r ms j m ph
      phase_kept q r j m free d s = tt
      phase_kept q r j m claimed d s = tt
      phase_kept q r j m (put w) d s = s
      phase_kept q r j m (dropped l) d s = licensed_stays m.path l s
      phase_kept q r j m (closed w) d s =
          let cs = children step depth rule m.task in (
            s.0,
            family_stays j m.path m.first 0 cs s.1,
            (s.2.0, kept_stays (numbers_of rule) nothing_counted (walks_of ns m.first (length cs)) (walks_of ms m.first (length cs)) s.2.0 (walks_grown j m.path m.first 0 cs s.1) s.2.1),
          )
      phase_kept q r j m expanded d s =
          let cs = children step depth rule m.task in (
            family_stays j m.path m.first 0 cs s.0,
            (λ x. ap (kept (numbers_of rule) nothing_counted) (walks_same j m.path m.first 0 cs (d x).1 s.0) ∙ s.1 (d x).0),
            s.2,
          )

      pub up_stays : (path : List Link) (t : T) → Up step depth rule ns path t → Up step depth rule ms path t
      up_stays [] t u = tt
      up_stays (l ∷ ls) t u =
          let x = stays l.family u.0 u.1 in
          (x.0, x.1, x.3 ∙ u.2, subst (λ y. slice_get (children step depth rule y) l.place ≡ Some t) (sym x.2) u.3)

      -- another node stays sound
      pub other_sound : (q r : Option ℕ) (j : ℕ) (m : Node T) → Spares q r j → NodeSound step depth rule q ns j m → NodeSound step depth rule r ms j m
      other_sound q r j m d s = record { below = s.below; levels = s.levels; up = up_stays m.path m.task s.up; phase = phase_kept q r j m m.phase d s.phase; word = s.word }

  -- a step that changes node k alone
  pub changed : (ns : List (Node T)) (k : ℕ) (n : Node T) (f : Node T → Node T) → slice_get ns k ≡ Some n → (f n).task ≡ n.task → (f n).path ≡ n.path → OneGrown (phase_walk n.phase) (phase_walk (f n).phase) → Moves ns (change ns k f) k n (f n)
  changed ns k n f at t p g = record {
    was = at;
    is = get_same ns k n f at;
    task = t;
    path = p;
    others = λ j m d e. get_other ns k j f d ∙ e;
    grows = g;
  }

module _ {T : Type 0} (step : T → Stepped T) (depth : T → ℕ) (rule : Rule) where
  pub sound_change : (q r : Option ℕ) (ns : List (Node T)) (k : ℕ) (n : Node T) (f : Node T → Node T) (moves : Moves ns (change ns k f) k n (f n)) → SoundBut step depth rule q ns
      → ((j : ℕ) → j ≢ k → Spares ns (change ns k f) k n (f n) moves q r j) → NodeSound step depth rule r (change ns k f) k (f n) → SoundBut step depth rule r (change ns k f)
  sound_change q r ns k n f moves s d mine j m e =
      elim (same_or_not j k) [
        | inl h ↦
            let x : f n ≡ m = some_is (f n) m (sym moves.is ∙ (ap (slice_get (change ns k f)) (sym h) ∙ e)) in
            subst (λ y. NodeSound step depth rule r (change ns k f) j y) x (subst (λ i. NodeSound step depth rule r (change ns k f) i (f n)) (sym h) mine)
        | inr h ↦ other_sound ns (change ns k f) k n (f n) moves step depth rule q r j m (d j h) (s j m (sym (get_other ns k j f h) ∙ e))
      ]

  full_child : (q : Option ℕ) (ns : List (Node T)) (j : ℕ) (n : Node T) (p : Phase T) → PhaseSound step depth rule q ns j n p → (cs : List T) (os : List (Option (Walked T))) (c : T) → n.task ≡ c → AreFull (full step depth rule) cs os → AreFull (full step depth rule) (c ∷ cs) (phase_walk p ∷ os)
  full_child q ns j n free s cs os c e all = all
  full_child q ns j n claimed s cs os c e all = all
  full_child q ns j n expanded s cs os c e all = all
  full_child q ns j n (dropped l) s cs os c e all = all
  full_child q ns j n (put w) s cs os c e all = (s ∙ ap (full step depth rule) e, all)
  full_child q ns j n (closed w) s cs os c e all = (s.0 ∙ ap (full step depth rule) e, all)

  -- the finished children have their tasks' whole walks
  pub are_full : (q : Option ℕ) (ns : List (Node T)) (k : ℕ) (path : List Link) (first place : ℕ) (cs : List T) → SoundBut step depth rule q ns → Family ns k path first place cs → AreFull (full step depth rule) cs (walks_of ns first (length cs))
  unfolding walks_of
  are_full q ns k path first place [] s f = tt
  are_full q ns k path first place (c ∷ cs) s f =
      let m = f.0.0 in
      rw f.0.1 (full_child q ns first m m.phase (s first m f.0.1).phase cs (walks_of ns (first + 1) (length cs)) c f.0.2 (are_full q ns k path (first + 1) (place + 1) cs s f.1))

  pub sound_claim : (ns : List (Node T)) (k : ℕ) (n : Node T) → Sound step depth rule ns → slice_get ns k ≡ Some n → n.phase ≡ free → Sound step depth rule (set_phase ns k claimed)
  sound_claim ns k n s at f =
      let g : Node T → Node T = λ x. record x { phase = claimed } in
      let moves = changed ns k n g at refl refl (grown_none (phase_walk n.phase) None (ap phase_walk f)) in
      sound_change None None ns k n g moves s
      (λ j d x. (x, inr (ap phase_walk f)))
      (record { below = (s k n at).below; levels = (s k n at).levels; up = up_stays ns (change ns k g) k n (g n) moves step depth rule n.path n.task (s k n at).up; phase = tt; word = (s k n at).word })

  pub sound_drop : (ns : List (Node T)) (k : ℕ) (n : Node T) (l : License) → Sound step depth rule ns → slice_get ns k ≡ Some n → n.phase ≡ claimed → Licensed step depth rule ns n.path l → Sound step depth rule (set_phase ns k (dropped l))
  sound_drop ns k n l s at f h =
      let g : Node T → Node T = λ x. record x { phase = dropped l } in
      let moves = changed ns k n g at refl refl (grown_none (phase_walk n.phase) None (ap phase_walk f)) in
      sound_change None None ns k n g moves s
      (λ j d x. (x, inr (ap phase_walk f)))
      (record { below = (s k n at).below; levels = (s k n at).levels; up = up_stays ns (change ns k g) k n (g n) moves step depth rule n.path n.task (s k n at).up; phase = licensed_stays ns (change ns k g) k n (g n) moves step depth rule n.path l h; word = (s k n at).word })

  min_one : (P : ℕ → Type 0) (a b : ℕ) → P a → P b → P (min a b)
  min_one P a b pa pb =
      elim (cases_lt a b) [
        | inl lt ↦ subst P (let e : a ≡ min a b = omega arith in e) pa
        | inr ge ↦ subst P (let e : b ≡ min a b = omega arith in e) pb
      ]

  own_word : (ns ms : List (Node T)) (k : ℕ) (n : Node T) (w : ℕ) (ph : Phase T) → Moves ns ms k n (record n { word = w }) → ((j : ℕ) (path : List Link) (first place : ℕ) (cs : List T) → Family ns j path first place cs → walks_of ms first (length cs) ≡ walks_of ns first (length cs)) → PhaseSound step depth rule None ns k n ph → PhaseSound step depth rule None ms k (record n { word = w }) ph
  own_word ns ms k n w free moves same s = tt
  own_word ns ms k n w claimed moves same s = tt
  own_word ns ms k n w (put x) moves same s = s
  own_word ns ms k n w (dropped l) moves same s = licensed_stays ns ms k n (record n { word = w }) moves step depth rule n.path l s
  own_word ns ms k n w (closed x) moves same s =
      let cs = children step depth rule n.task in
      (s.0, family_stays ns ms k n (record n { word = w }) moves k n.path n.first 0 cs s.1, (s.2.0, ap (kept (numbers_of rule) nothing_counted) (same k n.path n.first 0 cs s.1) ∙ s.2.1))
  own_word ns ms k n w expanded moves same s =
      let cs = children step depth rule n.task in
      (family_stays ns ms k n (record n { word = w }) moves k n.path n.first 0 cs s.0, (λ x. ap (kept (numbers_of rule) nothing_counted) (same k n.path n.first 0 cs s.0) ∙ s.1 x), s.2)

  pub sound_mark : (ns : List (Node T)) (k i : ℕ) (n : Node T) → Sound step depth rule ns → slice_get ns k ≡ Some n → Stops step depth rule n.task i → Sound step depth rule (change ns k (λ x. record x { word = min x.word i }))
  sound_mark ns k i n s at h =
      let g : Node T → Node T = λ x. record x { word = min x.word i } in
      let moves = changed ns k n g at refl refl (grown_same (phase_walk n.phase)) in
      sound_change None None ns k n g moves s
      (λ j d x. (x, inr refl))
      (record {
        below = (s k n at).below;
        levels = (s k n at).levels;
        up = up_stays ns (change ns k g) k n (g n) moves step depth rule n.path n.task (s k n at).up;
        phase = own_word ns (change ns k g) k n (min n.word i) n.phase moves (λ j path first place cs f. walks_same ns (change ns k g) k n (g n) moves j path first place cs (inr refl) f) (s k n at).phase;
        word = min_one (λ x. (x ≡ NONE) ⊎ Stops step depth rule n.task x) n.word i (s k n at).word (inr h);
      })

  -- a node that is done leaves only its parent as one that may be closed
  pub sound_done : (q : Option ℕ) (ns : List (Node T)) (k : ℕ) (n : Node T) (p : Phase T) → (q ≡ None) ⊎ (q ≡ Some k) → SoundBut step depth rule q ns → slice_get ns k ≡ Some n → phase_walk n.phase ≡ None
      → (Moves ns (set_phase ns k p) k n (record n { phase = p }) → PhaseSound step depth rule (above n.path) (set_phase ns k p) k (record n { phase = p }) p) → SoundBut step depth rule (above n.path) (set_phase ns k p)
  sound_done q ns k n p qk s at open' mine =
      let g : Node T → Node T = λ x. record x { phase = p } in
      let moves = changed ns k n g at refl refl (grown_none (phase_walk n.phase) (phase_walk p) open') in
      sound_change q (above n.path) ns k n g moves s
      (λ j d x. (elim qk [ inl none ↦ (λ (z : q ≡ Some j). let y = sym none ∙ z in cc) | inr some ↦ (λ (z : q ≡ Some j). let y = sym some ∙ z in d (let v : k ≡ j = cc in sym v)) ], inl x))
      (record { below = (s k n at).below; levels = (s k n at).levels; up = up_stays ns (change ns k g) k n (g n) moves step depth rule n.path n.task (s k n at).up; phase = mine moves; word = (s k n at).word })
