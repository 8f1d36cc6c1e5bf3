-- What the children of a node come to is what its walk comes to, where that goes through.
use Rattle.std.proofs.Common.{◌≡◌, ◌≢◌, ℕ, zero, suc, ◌+◌, ◌≤◌, ◌<◌, Bool, true, false, ◌&&◌, nat_eq, nat_le, nat_lt, cond, min, take, List, [], ◌∷◌, length, Option, Some, None, refl, sym, ap, subst, ◌∙◌, arith, inl, inr, ◌⊎◌, if◌then◌else◌}
use Rattle.std.proofs.lemmas.Bool.{cases_lt}
use Rattle.std.proofs.lemmas.Bool.Decides.{nat_tests}
use Rattle.ap_list.specs.Lists.{Each}
use Rattle.ap_walk.specs.declared.act.Stepped.{Stepped}
use Rattle.ap_walk.specs.declared.act.Process.{Process}
use Rattle.ap_walk.specs.declared.act.Out.{Out}
use Rattle.ap_walk.specs.declared.rule.Rule.{Rule}
use Rattle.ap_walk.specs.declared.rule.Tally.{Tally}
use Rattle.ap_walk.specs.declared.rule.End.{End}
use Rattle.ap_walk.specs.declared.mark.Walked.{Walked}
use Rattle.ap_walk.specs.Visits.{Visit, Tells, out_children, visit_of}
use Rattle.ap_walk.specs.Tallies.{zero_tally, can_revert, end_at, is_push, is_stop, tally_by, tally_at, end_by, mark_end}
use Rattle.ap_walk.specs.Walks.{and_then, one_mark, cut, full, full_marks}
use Rattle.ap_walk.specs.Walks.{all_marks}
use Rattle.ap_walk.proofs.Ends.{at_most_same}
use Rattle.ap_walk.proofs.Cuts.{cut_append, cut_again}
use Rattle.ap_walk.proofs.Trees.{full_is_cut_of_family}
use Rattle.ap_word.specs.Stops.{NONE, nothing_counted, reaches, stops_by}
use Rattle.ap_table.specs.Core.{numbers_of, tallies}
use Rattle.ap_table.specs.Laws.{FrontDone}
use Rattle.ap_table.specs.Shown.{SumShows}
use Rattle.ap_table.specs.declared.stored.Told.{Told}
use Rattle.ap_table.specs.Sums.{total, pushes_of, goals_of, ended_of, sum_first, closed_sum, IsTold}
use Rattle.ap_table.proofs.Closing.{plus, same_tally, count_all, same_count, through_counts, through_step, through_back, through_by, through_open, short, after_whole, AreFull}
use Rattle.ap_table.proofs.Known.{stops_at}
use Rattle.ap_table.proofs.Dropping.{SumsShow}
use Rattle.ap_table.proofs.Heard.{not_none}
use Rattle.ap_table.proofs.Totals.{Sums, front_short, goes_on}

ends_by : (b : Bool) (r l p g : ℕ) → reaches (cond b (Some r) None) p ≡ false → g < l → (if b && nat_le r p then End.Revert else if nat_le l g then End.Limit else End.Through) ≡ End.Through
ends_by true n l p g r h = grind (arith, nat_tests)
ends_by false n l p g r h = grind (arith, nat_tests)

-- a tally that is short of both numbers goes on
goes_through : (rule : Rule) (t : Tally) → reaches (numbers_of rule).revert t.pushes ≡ false → t.goals < rule.goal_limit → end_at rule t ≡ End.Through
unfolding end_at
goes_through rule t r h = ends_by (can_revert rule) rule.revert rule.goal_limit t.pushes t.goals r h

less_than : (l g : ℕ) → nat_le l g ≡ false → g < l
less_than l g h = grind (arith, nat_tests)

end_less : (rule : Rule) (u x : Tally) → end_at rule (plus u x) ≡ End.Through → end_at rule u ≡ End.Through
end_less rule u x h =
    let s = short rule (plus u x) u.pushes u.goals h (omega arith) (omega arith) in
    goes_through rule u s.0 (less_than rule.goal_limit u.goals s.1)

by_open : (b : Bool) (rule : Rule) (n : ℕ) (z t : Tally) → end_by b rule n z ≡ End.Through → end_at rule t ≡ End.Through → end_by b rule n t ≡ End.Through
by_open true rule n z t h o = absurd (cc)
by_open false rule n z t h o = o

module _ {T : Type 0} where
  -- marks that go through from one tally go through from another that they leave open
  through_to : (rule : Rule) (z t : Tally) (ms : List (Visit T)) → (cut rule z ms).end ≡ End.Through → end_at rule (count_all t ms) ≡ End.Through → (cut rule t ms).end ≡ End.Through
  unfolding cut
  through_to rule z t [] h o = refl
  through_to rule z t (m ∷ ms) h o =
      let s = through_step (mark_end rule m (tally_at m z)) (one_mark rule z m) (λ u. cut rule u ms) h refl in
      let here : end_at rule (tally_at m t) ≡ End.Through = end_less rule (tally_at m t) (count_all zero_tally ms) (ap (end_at rule) (sym (same_count (tally_at m t) ms)) ∙ o) in
      through_back (mark_end rule m (tally_at m t)) (one_mark rule t m) (λ u. cut rule u ms)
      (by_open (is_stop m.act.process) rule m.children (tally_at m z) (tally_at m t) s.0 here)
      (through_to rule (tally_at m z) (tally_at m t) ms s.2 o)

abbrev sum_tally : Sums → Tally
sum_tally os = record { pushes = total pushes_of os (length os); goals = total goals_of os (length os) }

sum_cons : (u : Tally) (t : Tally) (os : Sums) → plus (plus u t) (sum_tally os) ≡ plus u (sum_tally (Some (Some t) ∷ os))
unfolding total
sum_cons u t os = same_tally _ _ _ _ (omega arith) (omega arith)

sum_nil : (u : Tally) → u ≡ plus u (sum_tally [])
unfolding total
sum_nil u = same_tally u.pushes (u.pushes + 0) u.goals (u.goals + 0) (omega arith) (omega arith)

module _ {T : Type 0} (step : T → Stepped T) (depth : T → ℕ) (rule : Rule) where
  abbrev whole : T → Walked T
  whole = full step depth rule

  -- each child's walk goes through, with this tally
  abbrev AllThrough : List T → Sums → Type 0
  AllThrough [] [] = Unit {0}
  AllThrough [] (o ∷ os) = ⊥
  AllThrough (c ∷ cs) [] = ⊥
  AllThrough (c ∷ cs) (None ∷ os) = ⊥
  AllThrough (c ∷ cs) (Some None ∷ os) = ⊥
  AllThrough (c ∷ cs) (Some (Some t) ∷ os) = ((whole c).end ≡ End.Through) × ((whole c).tally ≡ t) × AllThrough cs os

  all_through : (cs : List T) (os : Sums) (ws : List (Option (Walked T))) → AreFull whole cs ws → SumsShow os ws → FrontDone os (length os) → total ended_of os (length os) < 1 → AllThrough cs os
  unfolding total
  all_through [] [] ws all sh d e = tt
  all_through [] (o ∷ os) [] all sh d e = absurd sh
  all_through [] (o ∷ os) (w ∷ ws) all sh d e = absurd all
  all_through (c ∷ cs) [] [] all sh d e = absurd all
  all_through (c ∷ cs) [] (w ∷ ws) all sh d e = absurd sh
  all_through (c ∷ cs) (o ∷ os) [] all sh d e = absurd sh
  all_through (c ∷ cs) (None ∷ os) (w ∷ ws) all sh d e = absurd d
  all_through (c ∷ cs) (Some None ∷ os) (w ∷ ws) all sh d e = absurd (omega arith)
  all_through (c ∷ cs) (Some (Some t) ∷ os) (None ∷ ws) all sh d e = absurd sh.0
  all_through (c ∷ cs) (Some (Some t) ∷ os) (Some w ∷ ws) all sh d e =
      (sym (ap (λ (x : Walked T). x.end) all.0) ∙ sh.0.0, sym (ap (λ (x : Walked T). x.tally) all.0) ∙ sh.0.1, all_through cs os ws all.1 sh.1 d (omega arith))

  whole_again : (c : T) → cut rule zero_tally (whole c).marks ≡ whole c
  whole_again c = cut_again rule zero_tally zero_tally (all_marks step depth c) (at_most_same zero_tally)

  one_through : (u : Tally) (c : T) → (whole c).end ≡ End.Through → end_at rule (plus u (whole c).tally) ≡ End.Through → (cut rule u (whole c).marks).end ≡ End.Through
  one_through u c h o =
      let z : (cut rule zero_tally (whole c).marks).end ≡ End.Through = ap (λ (w : Walked T). w.end) (whole_again c) ∙ h in
      let b = through_counts rule zero_tally zero_tally (whole c).marks (at_most_same zero_tally) z in
      let t : (whole c).tally ≡ count_all zero_tally (whole c).marks = ap (λ (w : Walked T). w.tally) (sym (whole_again c)) ∙ b.0 in
      through_to rule zero_tally u (whole c).marks z (ap (end_at rule) (same_count u (whole c).marks ∙ ap (plus u) (sym t)) ∙ o)

  -- the children's marks go through where what they come to is open
  children_through : (u : Tally) (cs : List T) (os : Sums) → AllThrough cs os → end_at rule (plus u (sum_tally os)) ≡ End.Through → ((cut rule u (full_marks step depth rule cs)).end ≡ End.Through)
  unfolding cut
  children_through u [] [] a o = refl
  children_through u [] (x ∷ os) a o = absurd a
  children_through u (c ∷ cs) [] a o = absurd a
  children_through u (c ∷ cs) (None ∷ os) a o = absurd a
  children_through u (c ∷ cs) (Some None ∷ os) a o = absurd a
  children_through u (c ∷ cs) (Some (Some t) ∷ os) a o =
      let rest = full_marks step depth rule cs in
      let v = cut rule u (whole c).marks in
      let o' : end_at rule (plus (plus u t) (sum_tally os)) ≡ End.Through = ap (end_at rule) (sum_cons u t os) ∙ o in
      let here : end_at rule (plus u (whole c).tally) ≡ End.Through = ap (λ x. end_at rule (plus u x)) a.1 ∙ end_less rule (plus u t) (sum_tally os) o' in
      let h = one_through u c a.0 here in
      let after : v.tally ≡ plus u t = (after_whole step depth rule u c h).0 ∙ ap (plus u) a.1 in
      let next = children_through v.tally cs os a.2 (ap (λ x. end_at rule (plus x (sum_tally os))) after ∙ o') in
      ap (λ (w : Walked T). w.end) (cut_append rule u (whole c).marks rest) ∙ through_back v.end v (λ x. cut rule x rest) h next

  -- and then they leave this tally
  children_tally : (u : Tally) (cs : List T) (os : Sums) → AllThrough cs os → (cut rule u (full_marks step depth rule cs)).end ≡ End.Through → (cut rule u (full_marks step depth rule cs)).tally ≡ plus u (sum_tally os)
  unfolding cut
  children_tally u [] [] a h = sum_nil u
  children_tally u [] (x ∷ os) a h = absurd a
  children_tally u (c ∷ cs) [] a h = absurd a
  children_tally u (c ∷ cs) (None ∷ os) a h = absurd a
  children_tally u (c ∷ cs) (Some None ∷ os) a h = absurd a
  children_tally u (c ∷ cs) (Some (Some t) ∷ os) a h =
      let rest = full_marks step depth rule cs in
      let v = cut rule u (whole c).marks in
      let x : (and_then v (λ y. cut rule y rest)).end ≡ End.Through = sym (ap (λ (w : Walked T). w.end) (cut_append rule u (whole c).marks rest)) ∙ h in
      let s = through_step v.end v (λ y. cut rule y rest) x refl in
      let after : v.tally ≡ plus u t = (after_whole step depth rule u c s.0).0 ∙ ap (plus u) a.1 in
      ap (λ (w : Walked T). w.tally) (cut_append rule u (whole c).marks rest)
      ∙ (s.1 ∙ (children_tally v.tally cs os a.2 s.2 ∙ (ap (λ y. plus y (sum_tally os)) after ∙ sum_cons u t os)))

  -- the first of some children go through where all do
  first_through : (u : Tally) (cs : List T) (j : ℕ) → (cut rule u (full_marks step depth rule cs)).end ≡ End.Through → (cut rule u (full_marks step depth rule (take j cs))).end ≡ End.Through
  unfolding cut
  first_through u cs zero h = refl
  first_through u [] (suc j) h = refl
  first_through u (c ∷ cs) (suc j) h =
      let rest = full_marks step depth rule cs in
      let some = full_marks step depth rule (take j cs) in
      let v = cut rule u (whole c).marks in
      let x : (and_then v (λ y. cut rule y rest)).end ≡ End.Through = sym (ap (λ (w : Walked T). w.end) (cut_append rule u (whole c).marks rest)) ∙ h in
      let s = through_step v.end v (λ y. cut rule y rest) x refl in
      ap (λ (w : Walked T). w.end) (cut_append rule u (whole c).marks some) ∙ through_back v.end v (λ y. cut rule y some) s.0 (first_through v.tally cs j s.2)

not_pushed : (p : Process) (q : Process → Bool) → (p ≢ Process.Push) → is_push p ≡ false
not_pushed Process.Push q d = absurd (d refl)
not_pushed Process.Hint q d = refl
not_pushed Process.Simplify q d = refl
not_pushed Process.Elim q d = refl
not_pushed Process.Fertilize q d = refl
not_pushed Process.Generalize q d = refl
not_pushed Process.Irrelevance q d = refl
not_pushed Process.Induct q d = refl
not_pushed Process.Stop q d = refl

not_stopped : (p : Process) → (p ≢ Process.Stop) → is_stop p ≡ false
not_stopped Process.Stop d = absurd (d refl)
not_stopped Process.Hint d = refl
not_stopped Process.Simplify d = refl
not_stopped Process.Elim d = refl
not_stopped Process.Fertilize d = refl
not_stopped Process.Generalize d = refl
not_stopped Process.Irrelevance d = refl
not_stopped Process.Induct d = refl
not_stopped Process.Push d = refl

-- a task that splits into children is neither pushed nor stopped
splits : {T : Type 0} (p : Process) (o : Out T) → Tells p o → 0 < length (out_children o) → (is_push p ≡ false) × (is_stop p ≡ false)
splits p (Out.Split cs) t h = (not_pushed p is_stop t.0, not_stopped p t.1)
splits p Out.Push t h = absurd (omega arith)
splits p (Out.Stop r) t h = absurd (omega arith)

own_tally : (b : Bool) → b ≡ false → tally_by b zero_tally ≡ (let t : Tally = record { pushes = 0; goals = 1 } in t)
own_tally false e = refl
own_tally true e = absurd (cc)

own_end : (b : Bool) (rule : Rule) (n : ℕ) (t : Tally) → b ≡ false → end_at rule t ≡ End.Through → end_by b rule n t ≡ End.Through
own_end false rule n t e o = o
own_end true rule n t e o = absurd (cc)

closed_by : (b : Bool) (t : Tally) → b ≡ false → {T : Type 0} → (w : Walked T) → (w.end ≡ End.Through → ⊥) → SumShows (cond b (Some t) None) w
closed_by false t e w h = h
closed_by true t e w h = absurd (cc)

closed_with : (b : Bool) (t : Tally) → b ≡ true → {T : Type 0} → (w : Walked T) → (w.end ≡ End.Through) × (w.tally ≡ t) → SumShows (cond b (Some t) None) w
closed_with true t e w h = h
closed_with false t e w h = absurd (cc)

module _ {T : Type 0} (step : T → Stepped T) (depth : T → ℕ) (rule : Rule) (tells : (t : T) → Tells (step t).act.process (step t).out) (deeper : (t : T) → Each (λ c. depth c < depth t) (out_children (step t).out)) where
  -- where the family stops, the node's walk ends there
  stopped_ends : (t : T) (i : ℕ) → i < length (out_children (step t).out) → stops_by (numbers_of rule) (tallies step depth rule (out_children (step t).out)) i ≡ true → (full step depth rule t).end ≡ End.Through → ⊥
  unfolding cut
  stopped_ends t i lt st h =
      let cs = out_children (step t).out in
      let v = visit_of t (step t) in
      let one = one_mark rule zero_tally v in
      let x = sym (ap (λ (w : Walked T). w.end) (full_is_cut_of_family step depth tells rule deeper t)) ∙ h in
      let s = through_step (mark_end rule v one.tally) one (λ u. cut rule u (full_marks step depth rule cs)) x refl in
      stops_at step depth rule nothing_counted one.tally cs i (i + 1) refl lt (omega arith, omega arith, refl) (through_by (is_stop v.act.process) rule v.children one.tally s.0) st
      (first_through step depth rule one.tally cs (i + 1) s.2)

  -- where all children go through
  whole_shows : (t : T) (os : Sums) → 0 < length (out_children (step t).out) → AllThrough step depth rule (out_children (step t).out) os
      → ((let u : Tally = record { pushes = total pushes_of os (length os); goals = total goals_of os (length os) + 1 } in (end_at rule u ≡ End.Through → ((full step depth rule t).end ≡ End.Through) × ((full step depth rule t).tally ≡ u)) × ((full step depth rule t).end ≡ End.Through → end_at rule u ≡ End.Through)))
  unfolding cut
  whole_shows t os some a =
      let cs = out_children (step t).out in
      let v = visit_of t (step t) in
      let sp = splits (step t).act.process (step t).out (tells t) some in
      let own : Tally = record { pushes = 0; goals = 1 } in
      let ot : tally_at v zero_tally ≡ own = own_tally (is_push v.act.process) sp.0 in
      let one = one_mark rule zero_tally v in
      let go = λ (u : Tally). cut rule u (full_marks step depth rule cs) in
      let u : Tally = record { pushes = total pushes_of os (length os); goals = total goals_of os (length os) + 1 } in
      let same : plus one.tally (sum_tally os) ≡ u = ap (λ x. plus x (sum_tally os)) ot ∙ same_tally _ _ _ _ (omega arith) (omega arith) in
      let is = full_is_cut_of_family step depth tells rule deeper t in (
        (λ o.
            let o' : end_at rule (plus one.tally (sum_tally os)) ≡ End.Through = ap (end_at rule) same ∙ o in
            let e : mark_end rule v one.tally ≡ End.Through = own_end (is_stop v.act.process) rule v.children one.tally sp.1 (end_less rule one.tally (sum_tally os) o') in
            let c = children_through step depth rule one.tally cs os a o' in
            let h = through_back (mark_end rule v one.tally) one go e c in
            let s = through_step (mark_end rule v one.tally) one go h refl in
            (ap (λ (w : Walked T). w.end) is ∙ h, ap (λ (w : Walked T). w.tally) is ∙ (s.1 ∙ (children_tally step depth rule one.tally cs os a c ∙ same)))),
        (λ h.
            let x = sym (ap (λ (w : Walked T). w.end) is) ∙ h in
            let s = through_step (mark_end rule v one.tally) one go x refl in
            let o = through_open rule one.tally (full_marks step depth rule cs) (through_by (is_stop v.act.process) rule v.children one.tally s.0) s.2 in
            ap (end_at rule) (sym (children_tally step depth rule one.tally cs os a s.2 ∙ same)) ∙ o),
      )

  is_none : (n : ℕ) → n ≡ NONE → nat_eq n NONE ≡ true
  is_none n e = ap (λ (x : ℕ). nat_eq x NONE) e

  lt_case : (a b : ℕ) → ((nat_lt a b ≡ true) × (a < b)) ⊎ ((nat_lt a b ≡ false) × (b ≤ a))
  lt_case a b = elim (cases_lt a b) [ inl l ↦ inl (grind (arith, nat_tests), l) | inr g ↦ inr (grind (arith, nat_tests), g) ]

  and_true : (a b : Bool) → a ≡ true → b ≡ true → (a && b) ≡ true
  and_true true true e f = refl
  and_true true false e f = absurd (cc)
  and_true false b e f = absurd (cc)

  and_right : (a b : Bool) → b ≡ false → (a && b) ≡ false
  and_right true false e = refl
  and_right false false e = refl
  and_right true true e = absurd (cc)
  and_right false true e = absurd (cc)

  and_left : (a b : Bool) → a ≡ false → (a && b) ≡ false
  and_left false b e = refl
  and_left true b e = absurd (cc)

  -- what is kept of a closed node shows its walk
  pub closed_shows : (t : T) (os : Sums) (ws : List (Option (Walked T))) (d : Told) → 0 < length (out_children (step t).out) → length os ≡ length (out_children (step t).out) → length os < NONE → AreFull (full step depth rule) (out_children (step t).out) ws → SumsShow os ws → IsTold rule os d
      → ((d.front ≡ length os) ⊎ (d.stop < d.front)) → (d.stop < length os → stops_by (numbers_of rule) (tallies step depth rule (out_children (step t).out)) d.stop ≡ true) → SumShows (closed_sum rule d) (full step depth rule t)
  closed_shows t os ws d some long few all sh k closes stopped =
      let w = full step depth rule t in
      let tally : Tally = record { pushes = d.sum.pushes; goals = d.sum.goals + 1 } in
      elim k.stop [
        | inr at ↦ closed_by (nat_eq d.stop NONE && nat_lt (d.sum.goals + 1) rule.goal_limit) tally
            (and_left (nat_eq d.stop NONE) (nat_lt (d.sum.goals + 1) rule.goal_limit) (not_none d.stop (let l = at.0 in omega arith))) w
            (stopped_ends t d.stop (let l = at.0 in omega arith) (stopped at.0))
        | inl none ↦
            let f : d.front ≡ length os = elim closes [ inl e ↦ e | inr lt ↦ absurd (let s = front_short os d.front k.front in omega arith) ] in
            let m : min d.stop (length os) ≡ length os = omega arith in
            let sum = k.sum ∙ ap (sum_first os) m in
            let o = goes_on rule d.sum k.before in
            let sd : d.sum.ended ≡ total ended_of os (length os) = ap (λ x. x.ended) sum in
            let through = all_through step depth rule (out_children (step t).out) os ws all sh (subst (λ (n : ℕ). FrontDone os n) f k.front) (let y = o.0 in omega arith) in
            let u : Tally = record { pushes = total pushes_of os (length os); goals = total goals_of os (length os) + 1 } in
            let same : tally ≡ u = same_tally d.sum.pushes u.pushes (d.sum.goals + 1) u.goals (ap (λ x. x.pushes) sum) (let y : d.sum.goals ≡ total goals_of os (length os) = ap (λ x. x.goals) sum in omega arith) in
            let is = whole_shows t os some through in
            elim (lt_case (d.sum.goals + 1) rule.goal_limit) [
              | inl lt ↦ closed_with (nat_eq d.stop NONE && nat_lt (d.sum.goals + 1) rule.goal_limit) tally (and_true (nat_eq d.stop NONE) (nat_lt (d.sum.goals + 1) rule.goal_limit) (is_none d.stop none) lt.0) w
                  (let r = is.0 (ap (end_at rule) (sym same) ∙ goes_through rule tally o.1 lt.1) in (r.0, r.1 ∙ sym same))
              | inr ge ↦ closed_by (nat_eq d.stop NONE && nat_lt (d.sum.goals + 1) rule.goal_limit) tally (and_right (nat_eq d.stop NONE) (nat_lt (d.sum.goals + 1) rule.goal_limit) ge.0) w
                  (λ h. let s = short rule tally 0 (d.sum.goals + 1) (ap (end_at rule) same ∙ is.1 h) (omega arith) (omega arith) in let y = less_than rule.goal_limit (d.sum.goals + 1) s.1 in let z = ge.1 in omega arith)
            ]
      ]
