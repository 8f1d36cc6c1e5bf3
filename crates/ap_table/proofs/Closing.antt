-- A node whose kept children are finished has its whole walk.
use Rattle.std.proofs.Common.{◌≡◌, ℕ, ◌+◌, ◌≤◌, ◌<◌, Bool, true, false, cond, ◌&&◌, ◌||◌, nat_le, List, [], ◌∷◌, ◌++◌, Option, Some, None, refl, sym, ap, ◌∙◌, arith, inl, inr, ◌⊎◌, if◌then◌else◌}
use Rattle.std.proofs.lemmas.Bool.Decides.{nat_tests}
use Rattle.ap_list.specs.Lists.{Each}
use Rattle.ap_walk.specs.declared.act.Stepped.{Stepped}
use Rattle.ap_walk.specs.declared.rule.Tally.{Tally}
use Rattle.ap_walk.specs.declared.rule.Rule.{Rule}
use Rattle.ap_walk.specs.declared.rule.End.{End}
use Rattle.ap_walk.specs.declared.mark.Walked.{Walked}
use Rattle.ap_walk.specs.Visits.{Visit, Tells, out_children, visit_of}
use Rattle.ap_walk.specs.Tallies.{zero_tally, AtMost, can_revert, end_at, is_push, is_stop, tally_by, tally_at, end_by, mark_end}
use Rattle.ap_walk.specs.Walks.{continued, one_mark, cut, full, full_marks, all_marks}
use Rattle.ap_walk.proofs.Ends.{at_most_same, at_most_at, earlier_mark}
use Rattle.ap_walk.proofs.Cuts.{and_then_same, cut_append, cut_again}
use Rattle.ap_walk.proofs.Trees.{full_is_cut_of_family}
use Rattle.ap_word.specs.declared.family.Counted.{Counted}
use Rattle.ap_word.specs.Stops.{nothing_counted, reaches, stops, add}
use Rattle.ap_table.specs.Core.{numbers_of, is_stopped, counted_of, with_kept, kept, marks_of, joined_walk}

abbrev pub plus : Tally → Tally → Tally
plus t u = record { pushes = t.pushes + u.pushes; goals = t.goals + u.goals }

pub same_tally : (a b c d : ℕ) → a ≡ b → c ≡ d → (let t : Tally = record { pushes = a; goals = c } in t) ≡ (let t : Tally = record { pushes = b; goals = d } in t)
same_tally a b c d e f = cc

by_plus : (b : Bool) (t u : Tally) → tally_by b (plus t u) ≡ plus t (tally_by b u)
by_plus true t u = same_tally _ _ _ _ (omega arith) (omega arith)
by_plus false t u = same_tally _ _ _ _ refl (omega arith)

pub through_by : (b : Bool) (rule : Rule) (children : ℕ) (t : Tally) → end_by b rule children t ≡ End.Through → end_at rule t ≡ End.Through
through_by true rule children t h = absurd (cc)
through_by false rule children t h = h

module _ {T : Type 0} where
  abbrev pub count_all : Tally → List (Visit T) → Tally
  count_all t [] = t
  count_all t (m ∷ ms) = count_all (tally_at m t) ms

  counted_from : (t u : Tally) (ms : List (Visit T)) → count_all (plus t u) ms ≡ plus t (count_all u ms)
  counted_from t u [] = refl
  counted_from t u (m ∷ ms) = ap (λ w. count_all w ms) (by_plus (is_push m.act.process) t u) ∙ counted_from t (tally_at m u) ms

  pub same_count : (t : Tally) (ms : List (Visit T)) → count_all t ms ≡ plus t (count_all zero_tally ms)
  same_count t ms = ap (λ w. count_all w ms) (same_tally t.pushes (t.pushes + 0) t.goals (t.goals + 0) (omega arith) (omega arith)) ∙ counted_from t zero_tally ms

  pub through_step : (e : End) (w : Walked T) (k : Tally → Walked T) → (continued e w k).end ≡ End.Through → w.end ≡ e → (e ≡ End.Through) × ((continued e w k).tally ≡ (k w.tally).tally) × ((k w.tally).end ≡ End.Through)
  through_step End.Through w k h is = (refl, refl, h)
  through_step End.Revert w k h is = absurd (cc)
  through_step End.Limit w k h is = absurd (cc)
  through_step (End.Stopped r) w k h is = absurd (cc)

  pub through_back : (e : End) (w : Walked T) (k : Tally → Walked T) → e ≡ End.Through → (k w.tally).end ≡ End.Through → (continued e w k).end ≡ End.Through
  through_back End.Through w k is h = h
  through_back End.Revert w k is h = absurd (cc)
  through_back End.Limit w k is h = absurd (cc)
  through_back (End.Stopped r) w k is h = absurd (cc)

  -- a cut that goes through has counted all marks, and so has one from a lesser tally
  pub through_counts : (rule : Rule) (z t : Tally) (ms : List (Visit T)) → AtMost z t → (cut rule t ms).end ≡ End.Through → ((cut rule t ms).tally ≡ count_all t ms) × ((cut rule z ms).end ≡ End.Through)
  unfolding cut
  through_counts rule z t [] le h = (refl, refl)
  through_counts rule z t (m ∷ ms) le h =
      let t' = tally_at m t in
      let z' = tally_at m z in
      let le' = at_most_at rule m z t le in
      let s = through_step (mark_end rule m t') (one_mark rule t m) (λ u. cut rule u ms) h refl in
      let rest = through_counts rule z' t' ms le' s.2 in
      (s.1 ∙ rest.0, through_back (mark_end rule m z') (one_mark rule z m) (λ u. cut rule u ms) (earlier_mark rule m z t le s.0) rest.1)

  -- each finished sibling has the whole walk of its task
  abbrev pub AreFull : (T → Walked T) → List T → List (Option (Walked T)) → Type 0
  AreFull f [] [] = Unit {0}
  AreFull f [] (w ∷ ws) = ⊥
  AreFull f (c ∷ cs) [] = ⊥
  AreFull f (c ∷ cs) (None ∷ ws) = AreFull f cs ws
  AreFull f (c ∷ cs) (Some w ∷ ws) = (w ≡ f c) × AreFull f cs ws

  pub through_open : (rule : Rule) (u : Tally) (ms : List (Visit T)) → end_at rule u ≡ End.Through → (cut rule u ms).end ≡ End.Through → end_at rule (cut rule u ms).tally ≡ End.Through
  unfolding cut
  through_open rule u [] o h = o
  through_open rule u (m ∷ ms) o h =
      let u' = tally_at m u in
      let s = through_step (mark_end rule m u') (one_mark rule u m) (λ v. cut rule v ms) h refl in
      ap (end_at rule) s.1 ∙ through_open rule u' ms (through_by (is_stop m.act.process) rule m.children u' s.0) s.2

  pub kept_step : (b : Bool) (o : Option (List (Walked T))) (w : Walked T) (ws : List (Walked T)) → cond b (Some (w ∷ [])) (with_kept w o) ≡ Some ws
      → ((b ≡ true) × (w ∷ [] ≡ ws)) ⊎ ((b ≡ false) × ((vs : List (Walked T)) × (o ≡ Some vs) × (w ∷ vs ≡ ws)))
  kept_step true o w ws h = inl (refl, cc)
  kept_step false None w ws h = absurd (cc)
  kept_step false (Some vs) w ws h = inr (refl, (vs, refl, cc))

no_test : (a b c d : Bool) → a ≡ false → b ≡ false → c ≡ false → d ≡ false → (a || b || c || d) ≡ true → ⊥
no_test false false false false e f g h t = cc
no_test true b c d e f g h t = cc
no_test false true c d e f g h t = cc
no_test false false true d e f g h t = cc
no_test false false false true e f g h t = cc

pub or_false : (a b : Bool) → a ≡ false → b ≡ false → (a || b) ≡ false
or_false false b e f = f
or_false true b e f = cc

-- a tally that goes through is short of both numbers
short_at : (b : Bool) (r p g l s t : ℕ) → (if b && nat_le r p then End.Revert else if nat_le l g then End.Limit else End.Through) ≡ End.Through → s ≤ p → t ≤ g → (reaches (cond b (Some r) None) s ≡ false) × (nat_le l t ≡ false)
short_at true r p g l s t h a c = (grind (arith, nat_tests), grind (arith, nat_tests))
short_at false r p g l s t h a c = (refl, grind (arith, nat_tests))

pub short : (rule : Rule) (t : Tally) (s g : ℕ) → end_at rule t ≡ End.Through → s ≤ t.pushes → g ≤ t.goals → (reaches (numbers_of rule).revert s ≡ false) × (nat_le (numbers_of rule).goal_limit g ≡ false)
unfolding end_at
short rule t s g h a c = short_at (can_revert rule) rule.revert t.pushes t.goals rule.goal_limit s g h a c

module _ {T : Type 0} (step : T → Stepped T) (depth : T → ℕ) (rule : Rule) where
  abbrev pub whole : T → Walked T
  whole = full step depth rule

  pub no_more : (s : Counted) (u : Tally) (w : Walked T) → (s.pushes ≤ u.pushes) × (s.goals ≤ u.goals) × (s.stopped ≡ false) → stops (numbers_of rule) (add s (counted_of w)) ≡ true → w.end ≡ End.Through → end_at rule (plus u w.tally) ≡ End.Through → ⊥
  unfolding stops
  no_more s u w le st we te =
      let t = short rule (plus u w.tally) (s.pushes + w.tally.pushes) (s.goals + w.tally.goals) te (omega (arith, le.0)) (omega (arith, le.1)) in
      no_test s.stopped (is_stopped w.end) _ _ le.2 (ap is_stopped we) t.0 t.1 st

  -- what a finished sibling's marks leave of a tally, where they go through
  pub after_whole : (u : Tally) (c : T) → (cut rule u (whole c).marks).end ≡ End.Through → ((cut rule u (whole c).marks).tally ≡ plus u (whole c).tally) × ((whole c).end ≡ End.Through)
  after_whole u c h =
      let ms = (whole c).marks in
      let same : cut rule zero_tally ms ≡ whole c = cut_again rule zero_tally zero_tally (all_marks step depth c) (at_most_same zero_tally) in
      let a = through_counts rule zero_tally u ms (record { pushes = omega arith; goals = omega arith }) h in
      let b = through_counts rule zero_tally zero_tally ms (at_most_same zero_tally) a.1 in
      let t : (whole c).tally ≡ count_all zero_tally ms = ap (λ w. w.tally) (sym same) ∙ b.0 in (
        a.0 ∙ (same_count u ms ∙ ap (λ v. plus u v) (sym t)),
        ap (λ w. w.end) (sym same) ∙ a.1,
      )

  -- the kept siblings make the same walk as all of them
  pub kept_cut : (s : Counted) (u : Tally) (cs : List T) (os : List (Option (Walked T))) (ws : List (Walked T)) → end_at rule u ≡ End.Through → (s.pushes ≤ u.pushes) × (s.goals ≤ u.goals) × (s.stopped ≡ false) → AreFull whole cs os → kept (numbers_of rule) s os ≡ Some ws
      → cut rule u (marks_of ws) ≡ cut rule u (full_marks step depth rule cs)
  unfolding kept
  kept_cut s u [] [] ws o le all is = let e : [] ≡ ws = cc in ap (λ vs. cut rule u (marks_of vs)) (sym e)
  kept_cut s u [] (x ∷ os) ws o le all is = absurd all
  kept_cut s u (c ∷ cs) [] ws o le all is = absurd all
  kept_cut s u (c ∷ cs) (None ∷ os) ws o le all is = absurd (cc)
  kept_cut s u (c ∷ cs) (Some w ∷ os) ws o le all is =
      let rest = full_marks step depth rule cs in
      let v = cut rule u (whole c).marks in
      let goal : (vs : List (Walked T)) → (v.end ≡ End.Through → cut rule v.tally (marks_of vs) ≡ cut rule v.tally rest) → w ∷ vs ≡ ws → cut rule u (marks_of ws) ≡ cut rule u ((whole c).marks ++ rest)
      = λ vs h e.
      ap (λ (ys : List (Walked T)). cut rule u (marks_of ys)) (sym e)
      ∙ (ap (λ (x : Walked T). cut rule u (x.marks ++ marks_of vs)) all.0
      ∙ (cut_append rule u (whole c).marks (marks_of vs)
      ∙ (and_then_same v (λ x. cut rule x (marks_of vs)) (λ x. cut rule x rest) h
      ∙ sym (cut_append rule u (whole c).marks rest)))) in
      elim (kept_step (stops (numbers_of rule) (add s (counted_of w))) (kept (numbers_of rule) (add s (counted_of w)) os) w ws is) [
        | inl k ↦ goal [] (λ h.
            let after = after_whole u c h in
            let opened = through_open rule u (whole c).marks o h in
            absurd (no_more s u w le k.0 (ap (λ (x : Walked T). x.end) all.0 ∙ after.1)
            (ap (λ (x : Walked T). end_at rule (plus u x.tally)) all.0 ∙ (ap (end_at rule) (sym after.0) ∙ opened)))) k.1
        | inr k ↦ goal k.1.0 (λ h.
            let after = after_whole u c h in
            let opened = through_open rule u (whole c).marks o h in
            let stopped : (s.stopped || is_stopped w.end) ≡ false = or_false s.stopped (is_stopped w.end) le.2 (ap (λ (x : Walked T). is_stopped x.end) all.0 ∙ ap is_stopped after.1) in
            let wp : w.tally.pushes ≡ (whole c).tally.pushes = ap (λ (x : Walked T). x.tally.pushes) all.0 in
            let wg : w.tally.goals ≡ (whole c).tally.goals = ap (λ (x : Walked T). x.tally.goals) all.0 in
            let vp : v.tally.pushes ≡ u.pushes + (whole c).tally.pushes = ap (λ (x : Tally). x.pushes) after.0 in
            let vg : v.tally.goals ≡ u.goals + (whole c).tally.goals = ap (λ (x : Tally). x.goals) after.0 in
            kept_cut (add s (counted_of w)) v.tally cs os k.1.0 opened (omega (arith, le.0), omega (arith, le.1), stopped) all.1 k.1.1) k.1.2
      ]

  module _ (tells : (t : T) → Tells (step t).act.process (step t).out) (deeper : (t : T) → Each (λ c. depth c < depth t) (out_children (step t).out)) where
    -- a node that is closed has its task's whole walk
    pub closed_is_whole : (t : T) (os : List (Option (Walked T))) (ws : List (Walked T)) → AreFull whole (out_children (step t).out) os → kept (numbers_of rule) nothing_counted os ≡ Some ws → joined_walk step depth rule t ws ≡ whole t
    unfolding cut
    closed_is_whole t os ws all is =
        let v = visit_of t (step t) in
        let one = one_mark rule zero_tally v in
        let cs = out_children (step t).out in
        and_then_same one (λ u. cut rule u (marks_of ws)) (λ u. cut rule u (full_marks step depth rule cs)) (λ h.
        kept_cut nothing_counted one.tally cs os ws (through_by (is_stop v.act.process) rule v.children one.tally h) (omega arith, omega arith, refl) all is)
        ∙ sym (full_is_cut_of_family step depth tells rule deeper t)
