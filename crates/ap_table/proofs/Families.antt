-- A finished node tells its family, and what can be closed is closed.
use Rattle.std.proofs.Common.{◌≡◌, ◌≢◌, ℕ, zero, suc, ◌+◌, ◌-◌, ◌≤◌, ◌<◌, Bool, true, false, ◌||◌, ◌&&◌, nat_eq, nat_lt, cond, List, [], ◌∷◌, length, Option, Some, None, refl, sym, ap, subst, ◌∙◌, arith, inl, inr, ◌⊎◌}
use Rattle.std.proofs.lemmas.Bool.{cases_lt}
use Rattle.std.proofs.lemmas.Bool.Decides.{nat_tests}
use Rattle.std.specs.List.{slice_get}
use Rattle.ap_list.specs.Lists.{Each}
use Rattle.ap_walk.specs.declared.act.Stepped.{Stepped}
use Rattle.ap_walk.specs.declared.rule.Rule.{Rule}
use Rattle.ap_walk.specs.declared.rule.Tally.{Tally}
use Rattle.ap_walk.specs.declared.mark.Walked.{Walked}
use Rattle.ap_walk.specs.Visits.{Tells, out_children}
use Rattle.ap_word.specs.Stops.{NONE, stops_by}
use Rattle.ap_table.specs.declared.link.Link.{Link}
use Rattle.ap_table.specs.declared.stored.Told.{Told}
use Rattle.ap_table.specs.declared.stored.Stored.{Stored}
use Rattle.ap_table.specs.declared.stored.Stage.{Stage}
use Rattle.ap_table.specs.declared.stored.Stage.TheVariants as stage
use Rattle.ap_table.specs.Core.{Phase, Node, free, claimed, expanded, put, closed, dropped, numbers_of, above, walks_of, set_phase, parent_of, on_closed, children, tallies, joined_walk, kept_of, known_of, close_with, close_phase, close_node, close_up}
use Rattle.ap_table.specs.Sound.{Family, PhaseSound, SoundBut, Up}
use Rattle.ap_table.specs.Laws.{FrontDone, ClosesBy}
use Rattle.ap_table.specs.Shown.{SumShows, StageShows, alter, Shows, AllShow}
use Rattle.ap_table.specs.Sums.{stage_sum, kept_sum, sum_at, sums_of, InGoals, closed_sum, IsTold, HasKids, FamilyKept, Placed, Kids, stage_expanded, closes_at}
use Rattle.ap_table.specs.Settled.{Ready}
use Rattle.ap_table.proofs.Closing.{closed_is_whole}
use Rattle.ap_table.proofs.Keeping.{same_or_not, some_is, are_full}
use Rattle.ap_table.proofs.Known.{known_true}
use Rattle.ap_table.proofs.Scanning.{kept_closes, closes_kept}
use Rattle.ap_table.proofs.Ordering.{not_eq, eq_case}
use Rattle.ap_table.proofs.Showing.{shown_at, length_alter}
use Rattle.ap_table.proofs.Dropping.{SumsShow}
use Rattle.ap_table.proofs.Totals.{Sums, length_sums, hidden_out, front_short}
use Rattle.ap_table.proofs.Heard.{stop_place, not_none, sums_shown, told_known}
use Rattle.ap_table.proofs.Closes.{closed_shows}

module _ {T : Type 0} where
  pub get_alter_same : (cs : List (Stored T)) (k : ℕ) (c : Stored T) (f : Stored T → Stored T) → slice_get cs k ≡ Some c → slice_get (alter cs k f) k ≡ Some (f c)
  unfolding alter
  get_alter_same [] k c f e = absurd (cc)
  get_alter_same (x ∷ xs) zero c f e = ap (λ y. Some (f y)) (some_is x c e)
  get_alter_same (x ∷ xs) (suc k) c f e = get_alter_same xs k c f e

  pub get_alter_other : (cs : List (Stored T)) (k j : ℕ) (f : Stored T → Stored T) → j ≢ k → slice_get (alter cs k f) j ≡ slice_get cs j
  unfolding alter
  get_alter_other [] k j f h = refl
  get_alter_other (x ∷ xs) zero zero f h = absurd (h refl)
  get_alter_other (x ∷ xs) zero (suc j) f h = refl
  get_alter_other (x ∷ xs) (suc k) zero f h = refl
  get_alter_other (x ∷ xs) (suc k) (suc j) f h = get_alter_other xs k j f (λ e. h (ap suc e))

  -- a node after one was altered
  pub alter_at : (cs : List (Stored T)) (k j : ℕ) (c d : Stored T) (f : Stored T → Stored T) → slice_get cs k ≡ Some c → slice_get (alter cs k f) j ≡ Some d → ((j ≡ k) × (d ≡ f c)) ⊎ ((j ≢ k) × (slice_get cs j ≡ Some d))
  alter_at cs k j c d f at e =
      elim (same_or_not j k) [
        | inl s ↦ inl (s, some_is d (f c) (sym e ∙ (ap (slice_get (alter cs k f)) s ∙ get_alter_same cs k c f at)))
        | inr n ↦ inr (n, sym (get_alter_other cs k j f n) ∙ e)
      ]

  pub sums_same : (h g : Option ℕ) (cs ds : List (Stored T)) (first n : ℕ) → ((j : ℕ) → sum_at h ds j ≡ sum_at g cs j) → sums_of h ds first n ≡ sums_of g cs first n
  unfolding sums_of
  sums_same h g cs ds first zero e = refl
  sums_same h g cs ds first (suc n) e = ap (λ x. x ∷ sums_of h ds (first + 1) n) (e first) ∙ ap (λ l. sum_at g cs first ∷ l) (sums_same h g cs ds (first + 1) n e)

  pub hidden_same : (h k : ℕ) (nodes : List (Stored T)) → h ≡ k → sum_at (Some h) nodes k ≡ None
  hidden_same h k nodes e = elim (eq_case h k) [ inl y ↦ ap (λ b. cond b None (kept_sum (slice_get nodes k))) y.0 | inr d ↦ absurd (d.1 e) ]

  pub hidden_other : (h k : ℕ) (nodes : List (Stored T)) → h ≢ k → sum_at (Some h) nodes k ≡ sum_at None nodes k
  hidden_other h k nodes d = ap (λ b. cond b None (kept_sum (slice_get nodes k))) (not_eq h k d)

  -- a node's stage doesn't matter where it comes to the same
  pub sum_alter : (cs : List (Stored T)) (k : ℕ) (c : Stored T) (f : Stored T → Stored T) → slice_get cs k ≡ Some c → stage_sum (f c).stage ≡ stage_sum c.stage → (j : ℕ) → sum_at None (alter cs k f) j ≡ sum_at None cs j
  sum_alter cs k c f at e j =
      elim (same_or_not j k) [
        | inl s ↦ ap kept_sum (ap (slice_get (alter cs k f)) s ∙ get_alter_same cs k c f at) ∙ (e ∙ ap kept_sum (sym (ap (slice_get cs) s ∙ at)))
        | inr n ↦ ap kept_sum (get_alter_other cs k j f n)
      ]

  -- one that is finished now is hidden
  pub sum_hidden : (cs : List (Stored T)) (k : ℕ) (c : Stored T) (f : Stored T → Stored T) → slice_get cs k ≡ Some c → stage_sum c.stage ≡ None → (j : ℕ) → sum_at (Some k) (alter cs k f) j ≡ sum_at None cs j
  sum_hidden cs k c f at e j =
      elim (same_or_not j k) [
        | inl s ↦ hidden_same k j (alter cs k f) (sym s) ∙ sym (ap kept_sum (ap (slice_get cs) s ∙ at) ∙ e)
        | inr n ↦ hidden_other k j (alter cs k f) (λ x. n (sym x)) ∙ ap kept_sum (get_alter_other cs k j f n)
      ]

  -- a family stays the same where a node is altered
  pub record SameFamily (c d : Stored T) : Type 0 where
    pub first : d.first ≡ c.first
    pub count : d.count ≡ c.count
    pub path : d.path ≡ c.path
    pub told : d.told ≡ c.told
    pub has : HasKids d.stage → HasKids c.stage
    pub back : HasKids c.stage → HasKids d.stage

  pub placed_alter : (cs : List (Stored T)) (k i : ℕ) (c : Stored T) (f : Stored T → Stored T) (path : List Link) → slice_get cs k ≡ Some c → (f c).first ≡ c.first → (f c).count ≡ c.count → (HasKids c.stage → HasKids (f c).stage) → Placed cs i path → Placed (alter cs k f) i path
  placed_alter cs k i c f [] at ef ec back p = tt
  placed_alter cs k i c f (l ∷ ls) at ef ec back p =
      elim (same_or_not l.family k) [
        | inl s ↦
            let m : p.0 ≡ c = some_is p.0 c (sym (ap (slice_get cs) (sym s) ∙ p.1) ∙ at) in
            (f c, ap (slice_get (alter cs k f)) s ∙ get_alter_same cs k c f at, back (subst (λ (x : Stored T). HasKids x.stage) m p.2), (let a = p.3 in let b = ap (λ (x : Stored T). x.first) m in omega arith), (let a = p.4 in let b = ap (λ (x : Stored T). x.count) m in omega arith))
        | inr n ↦ (p.0, get_alter_other cs k l.family f n ∙ p.1, p.2, p.3, p.4)
      ]

  told_moved : (rule : Rule) (h g : Option ℕ) (cs ds : List (Stored T)) (first first' n n' : ℕ) (t t' : Told) → ((j : ℕ) → sum_at h ds j ≡ sum_at g cs j) → first' ≡ first → n' ≡ n → t' ≡ t → IsTold rule (sums_of g cs first n) t → IsTold rule (sums_of h ds first' n') t'
  told_moved rule h g cs ds first first' n n' t t' e ef en et k =
      subst (λ (i : ℕ). IsTold rule (sums_of h ds i n') t') (sym ef)
      (subst (λ (i : ℕ). IsTold rule (sums_of h ds first i) t') (sym en)
      (subst (IsTold rule (sums_of h ds first n)) (sym et)
      (subst (λ os. IsTold rule os t) (sym (sums_same h g cs ds first n e)) k)))

  pub kids_alter : (rule : Rule) (h g : Option ℕ) (cs : List (Stored T)) (k : ℕ) (c : Stored T) (f : Stored T → Stored T) → slice_get cs k ≡ Some c → SameFamily c (f c) → ((j : ℕ) → sum_at h (alter cs k f) j ≡ sum_at g cs j) → Kids rule g cs → Kids rule h (alter cs k f)
  kids_alter rule h g cs k c f at same sums kids = record {
    family = λ j d e has.
        elim (alter_at cs k j c d f at e) [
          | inl y ↦
              let o = kids.family k c at (same.has (subst (λ (x : Stored T). HasKids x.stage) y.1 has)) in
              let ll = length_alter cs k f in
              subst (FamilyKept rule h (alter cs k f)) (sym y.1)
              (record { told = told_moved rule h g cs (alter cs k f) c.first (f c).first c.count (f c).count c.told (f c).told sums same.first same.count same.told o.told; fits = (let a = o.fits in let b = same.first in let x = same.count in omega arith) })
          | inr n ↦
              let o = kids.family j d n.1 has in
              let ll = length_alter cs k f in
              record { told = told_moved rule h g cs (alter cs k f) d.first d.first d.count d.count d.told d.told sums refl refl refl o.told; fits = (let a = o.fits in omega arith) }
        ];
    placed = λ j d e.
        elim (alter_at cs k j c d f at e) [
          | inl y ↦ subst (λ (x : List Link). Placed (alter cs k f) j x) (sym (ap (λ (z : Stored T). z.path) y.1 ∙ same.path))
              (placed_alter cs k j c f c.path at same.first same.count same.back (subst (λ (x : ℕ). Placed cs x c.path) (sym y.0) (kids.placed k c at)))
          | inr n ↦ placed_alter cs k j c f d.path at same.first same.count same.back (kids.placed j d n.1)
        ];
  }

  -- what a node's children tell is kept
  pub told_kids : (rule : Rule) (i p : ℕ) (cs : List (Stored T)) (c : Stored T) (d : Told) → Kids rule (Some i) cs → slice_get cs p ≡ Some c → HasKids c.stage → IsTold rule (sums_of None cs c.first c.count) d
      → ((k : ℕ) (x : Stored T) → k ≢ p → slice_get cs k ≡ Some x → HasKids x.stage → (i < x.first) ⊎ (x.first + x.count ≤ i)) → Kids rule None (alter cs p (λ x. record x { told = d }))
  told_kids rule i p cs c d kids at has t others =
      let f : Stored T → Stored T = λ x. record x { told = d } in
      let sums = sum_alter cs p c f at refl in
      let ll = length_alter cs p f in
      record {
        family = λ j x e h.
            elim (alter_at cs p j c x f at e) [
              | inl y ↦
                  let o = kids.family p c at has in
                  subst (FamilyKept rule None (alter cs p f)) (sym y.1) (record { told = told_moved rule None None cs (alter cs p f) c.first c.first c.count c.count d d sums refl refl refl t; fits = (let a = o.fits in omega arith) })
              | inr n ↦
                  let o = kids.family j x n.1 h in
                  record {
                    told = told_moved rule None None cs (alter cs p f) x.first x.first x.count x.count x.told x.told sums refl refl refl (subst (λ os. IsTold rule os x.told) (hidden_out i cs x.first x.count (others j x n.0 n.1 h)) o.told);
                    fits = (let a = o.fits in omega arith);
                  }
            ];
        placed = λ j x e.
            elim (alter_at cs p j c x f at e) [
              | inl y ↦ subst (λ (z : List Link). Placed (alter cs p f) j z) (sym (ap (λ (z : Stored T). z.path) y.1))
                  (placed_alter cs p j c f c.path at refl refl (λ z. z) (subst (λ (z : ℕ). Placed cs z c.path) (sym y.0) (kids.placed p c at)))
              | inr n ↦ placed_alter cs p j c f x.path at refl refl (λ z. z) (kids.placed j x n.1)
            ];
      }

  each_sums : (h : Option ℕ) (cs : List (Stored T)) (first n : ℕ) → ((k : ℕ) → InGoals (sum_at h cs k)) → Each InGoals (sums_of h cs first n)
  unfolding sums_of
  each_sums h cs first zero g = tt
  each_sums h cs first (suc n) g = (g first, each_sums h cs (first + 1) n g)

  pub goals_each : (cs : List (Stored T)) (first n : ℕ) → ((k : ℕ) → InGoals (sum_at None cs k)) → Each InGoals (sums_of None cs first n)
  goals_each cs first n g = each_sums None cs first n g

  family_at : (ns : List (Node T)) (k : ℕ) (path : List Link) (first place x : ℕ) (ts : List T) → Family ns k path first place ts → x < length ts → (m : Node T) × (slice_get ns (first + x) ≡ Some m) × (m.path ≡ record { family = k; place = place + x } ∷ path)
  family_at ns k path first place x [] f h = absurd (omega arith)
  family_at ns k path first place zero (t ∷ ts) f h =
      (f.0.0, ap (λ (n : ℕ). slice_get ns n) (let z : first + 0 ≡ first = omega arith in z) ∙ f.0.1, f.0.3 ∙ ap (λ (n : ℕ). (let l : Link = record { family = k; place = n } in l) ∷ path) (let z : place ≡ place + 0 = omega arith in z))
  family_at ns k path first place (suc x) (t ∷ ts) f h =
      let r = family_at ns k path (first + 1) (place + 1) x ts f.1 (omega arith) in
      (r.0, ap (λ (n : ℕ). slice_get ns n) (let z : first + suc x ≡ first + 1 + x = omega arith in z) ∙ r.1, r.2 ∙ ap (λ (n : ℕ). (let l : Link = record { family = k; place = n } in l) ∷ path) (let z : place + 1 + x ≡ place + suc x = omega arith in z))

  pub kids_count : (t : T) (c w : ℕ) (s : Stage T) (p : Phase T) → StageShows t c w s p → HasKids s → c ≡ w
  kids_count t c w (stage.Free x) p h k = absurd k
  kids_count t c w stage.Claimed p h k = absurd k
  kids_count t c w (stage.Put v) p h k = absurd k
  kids_count t c w (stage.Dropped l) p h k = absurd k
  kids_count t c w stage.Expanded expanded h k = h
  kids_count t c w stage.Expanded free h k = absurd h
  kids_count t c w stage.Expanded claimed h k = absurd h
  kids_count t c w stage.Expanded (put v) h k = absurd h
  kids_count t c w stage.Expanded (closed v) h k = absurd h
  kids_count t c w stage.Expanded (dropped l) h k = absurd h
  kids_count t c w (stage.Closed s) (closed v) h k = h.1
  kids_count t c w (stage.Closed s) free h k = absurd h
  kids_count t c w (stage.Closed s) claimed h k = absurd h
  kids_count t c w (stage.Closed s) expanded h k = absurd h
  kids_count t c w (stage.Closed s) (put v) h k = absurd h
  kids_count t c w (stage.Closed s) (dropped l) h k = absurd h

  expanded_phase : (t : T) (c w : ℕ) (s : Stage T) (p : Phase T) → StageShows t c w s p → stage_expanded s ≡ true → (p ≡ expanded) × (s ≡ stage.Expanded)
  expanded_phase t c w (stage.Free x) p h e = absurd (cc)
  expanded_phase t c w stage.Claimed p h e = absurd (cc)
  expanded_phase t c w (stage.Put v) p h e = absurd (cc)
  expanded_phase t c w (stage.Closed s) p h e = absurd (cc)
  expanded_phase t c w (stage.Dropped l) p h e = absurd (cc)
  expanded_phase t c w stage.Expanded expanded h e = (refl, refl)
  expanded_phase t c w stage.Expanded free h e = absurd h
  expanded_phase t c w stage.Expanded claimed h e = absurd h
  expanded_phase t c w stage.Expanded (put v) h e = absurd h
  expanded_phase t c w stage.Expanded (closed v) h e = absurd h
  expanded_phase t c w stage.Expanded (dropped l) h e = absurd h

  front_walks : (os : Sums) (ws : List (Option (Walked T))) (m : ℕ) → SumsShow os ws → FrontDone os m → FrontDone ws m
  front_walks os ws zero sh d = tt
  front_walks [] ws (suc m) sh d = absurd d
  front_walks (o ∷ os) [] (suc m) sh d = absurd sh
  front_walks (None ∷ os) (w ∷ ws) (suc m) sh d = absurd d
  front_walks (Some s ∷ os) (None ∷ ws) (suc m) sh d = absurd sh.0
  front_walks (Some s ∷ os) (Some w ∷ ws) (suc m) sh d = front_walks os ws m sh.1 d

  walks_front : (os : Sums) (ws : List (Option (Walked T))) (m : ℕ) → SumsShow os ws → FrontDone ws m → FrontDone os m
  walks_front os ws zero sh d = tt
  walks_front [] [] (suc m) sh d = absurd d
  walks_front [] (w ∷ ws) (suc m) sh d = absurd sh
  walks_front (o ∷ os) [] (suc m) sh d = absurd sh
  walks_front (o ∷ os) (None ∷ ws) (suc m) sh d = absurd d
  walks_front (None ∷ os) (Some w ∷ ws) (suc m) sh d = absurd sh.0
  walks_front (Some s ∷ os) (Some w ∷ ws) (suc m) sh d = walks_front os ws m sh.1 d

  length_walks : (ns : List (Node T)) (first c : ℕ) → length (walks_of ns first c) ≡ c
  unfolding walks_of
  length_walks ns first zero = refl
  length_walks ns first (suc c) = ap suc (length_walks ns (first + 1) c)

front_less : (os : Sums) (m j : ℕ) → j ≤ m → FrontDone os m → FrontDone os j
front_less os m zero h d = tt
front_less os zero (suc j) h d = absurd (omega arith)
front_less [] (suc m) (suc j) h d = absurd d
front_less (None ∷ os) (suc m) (suc j) h d = absurd d
front_less (Some s ∷ os) (suc m) (suc j) h d = front_less os m j (omega arith) d

front_stuck : (os : Sums) (m j : ℕ) → j < m → FrontDone os m → slice_get os j ≡ Some None → ⊥
front_stuck os zero j h d e = absurd (omega arith)
front_stuck [] (suc m) j h d e = d
front_stuck (None ∷ os) (suc m) j h d e = d
front_stuck (Some s ∷ os) (suc m) zero h d e = cc
front_stuck (Some s ∷ os) (suc m) (suc j) h d e = front_stuck os m j (omega arith) d e

module _ {T : Type 0} where
  pub kid_family : (step : T → Stepped T) (depth : T → ℕ) (rule : Rule) (q : Option ℕ) (ns : List (Node T)) (k : ℕ) (n : Node T) (t : T) (c w : ℕ) (s : Stage T) (p : Phase T) → StageShows t c w s p → HasKids s → PhaseSound step depth rule q ns k n p → Family ns k n.path n.first 0 (children step depth rule n.task)
  kid_family step depth rule q ns k n t c w (stage.Free x) p h has y = absurd has
  kid_family step depth rule q ns k n t c w stage.Claimed p h has y = absurd has
  kid_family step depth rule q ns k n t c w (stage.Put v) p h has y = absurd has
  kid_family step depth rule q ns k n t c w (stage.Dropped l) p h has y = absurd has
  kid_family step depth rule q ns k n t c w stage.Expanded expanded h has y = y.0
  kid_family step depth rule q ns k n t c w stage.Expanded free h has y = absurd h
  kid_family step depth rule q ns k n t c w stage.Expanded claimed h has y = absurd h
  kid_family step depth rule q ns k n t c w stage.Expanded (put v) h has y = absurd h
  kid_family step depth rule q ns k n t c w stage.Expanded (closed v) h has y = absurd h
  kid_family step depth rule q ns k n t c w stage.Expanded (dropped l) h has y = absurd h
  kid_family step depth rule q ns k n t c w (stage.Closed s) (closed v) h has y = y.1
  kid_family step depth rule q ns k n t c w (stage.Closed s) free h has y = absurd h
  kid_family step depth rule q ns k n t c w (stage.Closed s) claimed h has y = absurd h
  kid_family step depth rule q ns k n t c w (stage.Closed s) expanded h has y = absurd h
  kid_family step depth rule q ns k n t c w (stage.Closed s) (put v) h has y = absurd h
  kid_family step depth rule q ns k n t c w (stage.Closed s) (dropped l) h has y = absurd h

  expanded_stage : (t : T) (c w : ℕ) (s : Stage T) → StageShows t c w s expanded → stage_expanded s ≡ true
  expanded_stage t c w (stage.Free x) h = absurd h
  expanded_stage t c w stage.Claimed h = absurd h
  expanded_stage t c w stage.Expanded h = refl
  expanded_stage t c w (stage.Put v) h = absurd h
  expanded_stage t c w (stage.Closed s) h = absurd h
  expanded_stage t c w (stage.Dropped l) h = absurd h

pub closes_true : (a b c : Bool) → (a && (b || c)) ≡ true → (a ≡ true) × ((b ≡ true) ⊎ (c ≡ true))
closes_true true true c e = (refl, inl refl)
closes_true true false true e = (refl, inr refl)
closes_true true false false e = absurd (cc)
closes_true false b c e = absurd (cc)

closes_false : (a b c : Bool) → a ≡ true → (a && (b || c)) ≡ false → (b ≡ false) × (c ≡ false)
closes_false true false false t e = (refl, refl)
closes_false true true c t e = absurd (cc)
closes_false true false true t e = absurd (cc)
closes_false false b c t e = absurd (cc)

pub eq_yes : (a b : ℕ) → nat_eq a b ≡ true → a ≡ b
eq_yes a b h = grind (arith, nat_tests)

eq_no : (a b : ℕ) → nat_eq a b ≡ false → a ≢ b
eq_no a b h e = grind (arith, nat_tests)

pub lt_yes : (a b : ℕ) → nat_lt a b ≡ true → a < b
lt_yes a b h = grind (arith, nat_tests)

lt_no : (a b : ℕ) → nat_lt a b ≡ false → b ≤ a
lt_no a b h = grind (arith, nat_tests)

module _ {T : Type 0} where
  -- a child of a family, by its place there
  pub child_at : (ns : List (Node T)) (k : ℕ) (path : List Link) (first place i : ℕ) (ts : List T) → Family ns k path first place ts → i < length ts → (m : Node T) × (slice_get ns (first + i) ≡ Some m) × (slice_get ts i ≡ Some m.task) × (above m.path ≡ Some k)
  child_at ns k path first place i [] f lt = absurd (omega arith)
  child_at ns k path first place zero (t ∷ ts) f lt =
      (f.0.0, ap (λ (n : ℕ). slice_get ns n) (let z : first + 0 ≡ first = omega arith in z) ∙ f.0.1, ap Some (sym f.0.2), ap above f.0.3)
  child_at ns k path first place (suc i) (t ∷ ts) f lt =
      let r = child_at ns k path (first + 1) (place + 1) i ts f.1 (omega arith) in
      (r.0, ap (λ (n : ℕ). slice_get ns n) (let z : first + suc i ≡ first + 1 + i = omega arith in z) ∙ r.1, r.2, r.3)

module _ {T : Type 0} (step : T → Stepped T) (depth : T → ℕ) (rule : Rule) where
  -- a node, what is kept of it, and that its children are in the table
  pub record Kept (ns : List (Node T)) (cs : List (Stored T)) (p : ℕ) : Type 0 where
    pub kept : Stored T
    pub node : Node T
    pub at : slice_get cs p ≡ Some kept
    pub node_at : slice_get ns p ≡ Some node
    pub shows : Shows step kept node
    pub has : HasKids kept.stage
    pub count : kept.count ≡ length (children step depth rule node.task)

  -- the node above one that is finished
  pub record Parent (ns : List (Node T)) (cs : List (Stored T)) (i : ℕ) (s : Option Tally) (l : Link) (ls : List Link) : Type 0 where
    pub above : Kept ns cs l.family
    pub place : above.kept.first + l.place ≡ i
    pub within : l.place < above.kept.count
    pub fits : above.kept.first + above.kept.count ≤ 1000000
    pub told : IsTold rule (sums_of (Some (above.kept.first + l.place)) cs above.kept.first above.kept.count) above.kept.told
    pub sum : sum_at None cs (above.kept.first + l.place) ≡ Some s
    pub below : l.family < i
    pub parent : parent_of (slice_get ns i) ≡ Some l.family
    pub path : above.kept.path ≡ ls

  parent_of_path : (ns : List (Node T)) (i : ℕ) (n : Node T) (l : Link) (ls : List Link) → slice_get ns i ≡ Some n → n.path ≡ l ∷ ls → parent_of (slice_get ns i) ≡ Some l.family
  parent_of_path ns i n l ls at e = ap parent_of at ∙ ap above e

  pub parent_at : (ns : List (Node T)) (cs : List (Stored T)) (i : ℕ) (s : Option Tally) (c : Stored T) (l : Link) (ls : List Link) → Ready step depth rule ns cs i s → slice_get cs i ≡ Some c → c.path ≡ l ∷ ls → Parent ns cs i s l ls
  parent_at ns cs i s c l ls r at e =
      let n = shown_at step cs ns i c r.shows at in
      let sound = r.sound i n.0 n.1 in
      let path : n.0.path ≡ l ∷ ls = sym n.2.path ∙ e in
      let pl : Placed cs i (l ∷ ls) = subst (Placed cs i) e (r.kids.placed i c at) in
      let m = shown_at step cs ns l.family pl.0 r.shows pl.1 in
      let k = r.kids.family l.family pl.0 pl.1 pl.2 in
      let place : pl.0.first + l.place ≡ i = pl.3 in
      let up = subst (λ (x : List Link). Up step depth rule ns x n.0.task) path sound.up in
      let count = kids_count m.0.task pl.0.count (length (out_children (step m.0.task).out)) pl.0.stage m.0.phase m.2.stage pl.2 in
      record {
        above = record { kept = pl.0; node = m.0; at = pl.1; node_at = m.1; shows = m.2; has = pl.2; count = count };
        place = place;
        within = pl.4;
        fits = (let a = k.fits in let b = r.few in omega arith);
        told = subst (λ (x : ℕ). IsTold rule (sums_of (Some x) cs pl.0.first pl.0.count) pl.0.told) (sym place) k.told;
        sum = ap (sum_at None cs) place ∙ r.sum;
        below = sound.below l.family (ap above path);
        parent = parent_of_path ns i n.0 l ls n.1 path;
        path = m.2.path ∙ (ap (λ (x : Node T). x.path) (some_is m.0 up.0 (sym m.1 ∙ up.1)) ∙ up.2);
      }

  -- the finished node is of no other family
  pub other_families : (ns : List (Node T)) (cs : List (Stored T)) (i : ℕ) (s : Option Tally) (c : Stored T) → Ready step depth rule ns cs i s → slice_get cs i ≡ Some c
      → (k : ℕ) (x : Stored T) → above c.path ≢ Some k → slice_get cs k ≡ Some x → HasKids x.stage → (i < x.first) ⊎ (x.first + x.count ≤ i)
  other_families ns cs i s c r at k x d ex has =
      elim (cases_lt i x.first) [
        | inl lt ↦ inl lt
        | inr ge ↦ elim (cases_lt i (x.first + x.count)) [
          | inr out ↦ inr out
          | inl in' ↦
              let n = shown_at step cs ns k x r.shows ex in
              let m = shown_at step cs ns i c r.shows at in
              let w = length (out_children (step n.0.task).out) in
              let f = kid_family step depth rule (parent_of (slice_get ns i)) ns k n.0 n.0.task x.count w x.stage n.0.phase n.2.stage has (r.sound k n.0 n.1).phase in
              let cw = kids_count n.0.task x.count w x.stage n.0.phase n.2.stage has in
              let first = n.2.first in
              let y = family_at ns k n.0.path n.0.first 0 (i - x.first) (children step depth rule n.0.task) f (omega arith) in
              let same : y.0 ≡ m.0 = some_is y.0 m.0 (sym y.1 ∙ (ap (λ (z : ℕ). slice_get ns z) (let z : n.0.first + (i - x.first) ≡ i = omega arith in z) ∙ m.1)) in
              absurd (d (ap above (m.2.path ∙ (sym (ap (λ (z : Node T). z.path) same) ∙ y.2))))
        ]
      ]

  close_by_phase : (g : ℕ) (ns : List (Node T)) (p : ℕ) (n : Node T) (ph : Phase T) → n.phase ≡ ph → (n.phase ≡ expanded → kept_of step depth rule ns n ≡ None) → close_phase step depth rule ns p n ph ≡ None
  close_by_phase g ns p n free e h = refl
  close_by_phase g ns p n claimed e h = refl
  close_by_phase g ns p n (put w) e h = refl
  close_by_phase g ns p n (closed w) e h = refl
  close_by_phase g ns p n (dropped l) e h = refl
  close_by_phase g ns p n expanded e h = ap (close_with step depth rule ns p n) (h e)

  pub close_stays : (g : ℕ) (ns : List (Node T)) (p : ℕ) (n : Node T) → slice_get ns p ≡ Some n → (n.phase ≡ expanded → kept_of step depth rule ns n ≡ None) → close_up step depth rule (suc g) ns (Some p) ≡ ns
  unfolding close_up
  close_stays g ns p n at h = ap (on_closed (close_up step depth rule g) ns p) (ap (close_node step depth rule ns p) at ∙ close_by_phase g ns p n n.phase refl h)

  pub close_goes : (g : ℕ) (ns : List (Node T)) (p : ℕ) (n : Node T) (ws : List (Walked T)) → slice_get ns p ≡ Some n → n.phase ≡ expanded → kept_of step depth rule ns n ≡ Some ws
      → (let ms = set_phase ns p (closed (joined_walk step depth rule n.task ws)) in close_up step depth rule (suc g) ns (Some p) ≡ close_up step depth rule g ms (parent_of (slice_get ms p)))
  unfolding close_up
  close_goes g ns p n ws at is some =
      ap (on_closed (close_up step depth rule g) ns p)
      (ap (close_node step depth rule ns p) at ∙ (ap (close_phase step depth rule ns p n) is ∙ ap (close_with step depth rule ns p n) some))

  pub close_none : (f : ℕ) (ns : List (Node T)) → close_up step depth rule f ns None ≡ ns
  unfolding close_up
  close_none zero ns = refl
  close_none (suc f) ns = refl

  -- what the children of a node tell, as its core knows it
  module _ (q : Option ℕ) (ns : List (Node T)) (cs : List (Stored T)) (p : ℕ) (k : Kept ns cs p) (d : Told) (shows : AllShow step cs ns) (sound : SoundBut step depth rule q ns) (few : k.kept.first + k.kept.count ≤ 1000000)
      (told : IsTold rule (sums_of None cs k.kept.first k.kept.count) d) (next : (d.front ≡ k.kept.count) ⊎ (slice_get (sums_of None cs k.kept.first k.kept.count) d.front ≡ Some None)) where
    abbrev ts : List T
    ts = children step depth rule k.node.task

    abbrev os : Sums
    os = sums_of None cs k.kept.first k.kept.count

    abbrev ws : List (Option (Walked T))
    ws = walks_of ns k.node.first (length ts)

    family : Family ns p k.node.path k.node.first 0 ts
    family = kid_family step depth rule q ns p k.node k.node.task k.kept.count (length ts) k.kept.stage k.node.phase k.shows.stage k.has (sound p k.node k.node_at).phase

    shown : SumsShow os ws
    shown = subst (λ (x : ℕ). SumsShow (sums_of None cs k.kept.first k.kept.count) (walks_of ns x (length ts))) k.shows.first
        (subst (λ (x : ℕ). SumsShow (sums_of None cs k.kept.first x) (walks_of ns k.kept.first (length ts))) (sym k.count) (sums_shown step cs ns k.kept.first (length ts) shows))

    pub known : known_of step depth rule ns k.node ≡ stop_place d.stop
    known = told_known step depth rule q cs ns p k.node k.kept.first d sound shows family k.shows.first (let a = k.count in omega arith) (subst (λ (x : ℕ). IsTold rule (sums_of None cs k.kept.first x) d) k.count told)

    long : length os ≡ k.kept.count
    long = length_sums None cs k.kept.first k.kept.count

    none_stop : d.stop ≡ NONE → stop_place d.stop ≡ None
    none_stop e = ap stop_place e

    some_stop : d.stop < length os → stop_place d.stop ≡ Some d.stop
    some_stop lt = ap (λ b. cond b None (Some d.stop)) (not_none d.stop (let a = long in omega arith))

    closes_by : (m : ℕ) (o : Option ℕ) → stop_place d.stop ≡ o → ClosesBy (known_of step depth rule ns k.node) ws m → ClosesBy o ws m
    closes_by m o e c = subst (λ x. ClosesBy x ws m) (known ∙ e) c

    stuck : (m : ℕ) → d.front < m → m ≤ k.kept.count → FrontDone ws m → ⊥
    stuck m lt le f =
        elim next [
          | inl e ↦ absurd (omega arith)
          | inr at ↦ front_stuck os m d.front lt (walks_front os ws m shown f) at
        ]

    not_kept : (vs : List (Walked T)) → d.front ≢ k.kept.count → d.front ≤ d.stop → kept_of step depth rule ns k.node ≡ Some vs → ⊥
    not_kept vs ne le e =
        let c = kept_closes (numbers_of rule) ws vs e in
        let fl = front_short os d.front told.front in
        let lg = long in
        let wl = length_walks ns k.node.first (length ts) in
        let kc = k.count in
        elim told.stop [
          | inl none ↦ (let x = closes_by (length vs) None (none_stop none) c in let y = x.0 in stuck (length vs) (omega arith) (omega arith) x.1)
          | inr at ↦ (let x = closes_by (length vs) (Some d.stop) (some_stop at.0) c in let y = x.0 in let z = at.0 in stuck (length vs) (omega arith) (omega arith) x.1)
        ]

    none_kept : (o : Option (List (Walked T))) → kept_of step depth rule ns k.node ≡ o → d.front ≢ k.kept.count → d.front ≤ d.stop → kept_of step depth rule ns k.node ≡ None
    none_kept None e ne le = e
    none_kept (Some vs) e ne le = absurd (not_kept vs ne le e)

    -- it stays open
    pub open_stays : closes_at k.kept d ≡ false → k.node.phase ≡ expanded → kept_of step depth rule ns k.node ≡ None
    open_stays open' is =
        let e : stage_expanded k.kept.stage ≡ true = expanded_stage k.node.task k.kept.count (length ts) k.kept.stage (subst (λ (x : Phase T). StageShows k.node.task k.kept.count (length ts) k.kept.stage x) is k.shows.stage) in
        let c = closes_false (stage_expanded k.kept.stage) (nat_eq d.front k.kept.count) (nat_lt d.stop d.front) e open' in
        none_kept (kept_of step depth rule ns k.node) refl (eq_no d.front k.kept.count c.0) (lt_no d.stop d.front c.1)

    -- it is closed
    pub closing : closes_at k.kept d ≡ true → (k.node.phase ≡ expanded) × (k.kept.stage ≡ stage.Expanded) × ((vs : List (Walked T)) × (kept_of step depth rule ns k.node ≡ Some vs))
    closing yes' =
        let c = closes_true (stage_expanded k.kept.stage) (nat_eq d.front k.kept.count) (nat_lt d.stop d.front) yes' in
        let e = expanded_phase k.node.task k.kept.count (length ts) k.kept.stage k.node.phase k.shows.stage c.0 in
        let lg = long in
        let wl = length_walks ns k.node.first (length ts) in
        let kc = k.count in
        let fl = front_short os d.front told.front in
        let by : (m : ℕ) (o : Option ℕ) → stop_place d.stop ≡ o → ClosesBy o ws m → (vs : List (Walked T)) × (kept_of step depth rule ns k.node ≡ Some vs)
        = λ m o s y. closes_kept (numbers_of rule) ws m (subst (λ x. ClosesBy x ws m) (sym (known ∙ s)) y) in (
          e.0,
          e.1,
          elim told.stop [
            | inl none ↦
                let f : d.front ≡ k.kept.count = elim c.1 [ inl x ↦ eq_yes d.front k.kept.count x | inr x ↦ absurd (let y = lt_yes d.stop d.front x in omega arith) ] in
                by k.kept.count None (none_stop none) ((omega arith), front_walks os ws k.kept.count shown (subst (λ (x : ℕ). FrontDone os x) f told.front))
            | inr at ↦
                let lt = at.0 in
                let f : d.stop < d.front = elim c.1 [ inl x ↦ (let y = eq_yes d.front k.kept.count x in omega arith) | inr x ↦ lt_yes d.stop d.front x ] in
                by (d.stop + 1) (Some d.stop) (some_stop lt) (refl, front_walks os ws (d.stop + 1) shown (front_less os d.front (d.stop + 1) (omega arith) told.front))
          ],
        )

    module _ (tells : (t : T) → Tells (step t).act.process (step t).out) (deeper : (t : T) → Each (λ c. depth c < depth t) (out_children (step t).out)) where
      known_stops : d.stop < length os → stops_by (numbers_of rule) (tallies step depth rule ts) d.stop ≡ true
      known_stops lt =
          let x = known_true step depth rule q ns p k.node d.stop sound k.node_at family (known ∙ some_stop lt) in
          subst (λ (n : Node T). stops_by (numbers_of rule) (tallies step depth rule (children step depth rule n.task)) d.stop ≡ true) (some_is x.0 k.node (sym x.1 ∙ k.node_at)) x.2

      -- what is kept of it then shows its walk
      pub closed_walk : (vs : List (Walked T)) → 0 < length ts → kept_of step depth rule ns k.node ≡ Some vs → (d.front ≡ length os) ⊎ (d.stop < d.front) → SumShows (closed_sum rule d) (joined_walk step depth rule k.node.task vs)
      closed_walk vs some e closes =
          let all = are_full step depth rule q ns p k.node.path k.node.first 0 ts sound family in
          let a = long in
          let b = k.count in
          subst (SumShows (closed_sum rule d)) (sym (closed_is_whole step depth rule tells deeper k.node.task ws vs all e))
          (closed_shows step depth rule tells deeper k.node.task os ws d some (omega arith) (omega arith) all shown told closes known_stops)
