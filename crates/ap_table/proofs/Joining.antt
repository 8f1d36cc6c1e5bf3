-- The pieces of a finished node make its whole walk.
use Rattle.std.proofs.Common.{◌≡◌, ℕ, zero, suc, ◌+◌, ◌≤◌, ◌<◌, false, ◌||◌, List, [], ◌∷◌, Option, Some, None, length, refl, sym, ap, ◌∙◌, arith, inl, inr, ◌⊎◌}
use Rattle.std.specs.List.{slice_get}
use Rattle.ap_list.specs.Lists.{Each}
use Rattle.ap_walk.specs.declared.act.Stepped.{Stepped}
use Rattle.ap_walk.specs.declared.rule.Tally.{Tally}
use Rattle.ap_walk.specs.declared.rule.Rule.{Rule}
use Rattle.ap_walk.specs.declared.rule.End.{End}
use Rattle.ap_walk.specs.declared.mark.Walked.{Walked}
use Rattle.ap_walk.specs.Visits.{Visit, Tells, out_children, visit_of}
use Rattle.ap_walk.specs.Tallies.{zero_tally, end_at, is_stop}
use Rattle.ap_walk.specs.Walks.{and_then, one_mark, cut, full, full_marks}
use Rattle.ap_walk.proofs.Cuts.{and_then_same, cut_append, cut_again}
use Rattle.ap_walk.proofs.Trees.{full_is_cut_of_family}
use Rattle.ap_word.specs.declared.family.Counted.{Counted}
use Rattle.ap_word.specs.Stops.{nothing_counted, stops, add}
use Rattle.ap_table.specs.Core.{Phase, Node, free, claimed, expanded, put, closed, dropped, numbers_of, is_stopped, counted_of, kept, phase_walk, node_walk, walks_of, above, children}
use Rattle.ap_table.specs.declared.link.Link.{Link}
use Rattle.ap_table.specs.Sound.{Family, PhaseSound, Sound}
use Rattle.ap_table.specs.Pieces.{and_more, front, phase_pieces, pieces}
use Rattle.ap_table.proofs.Closing.{plus, through_by, through_open, kept_step, or_false, no_more, after_whole}
use Rattle.ap_table.proofs.Growing.{below}
use Rattle.ap_table.proofs.Ending.{done_full}

module _ {T : Type 0} (step : T → Stepped T) (depth : T → ℕ) (rule : Rule) (tells : (t : T) → Tells (step t).act.process (step t).out) (deeper : (t : T) → Each (λ c. depth c < depth t) (out_children (step t).out)) (ns : List (Node T)) (s : Sound step depth rule ns) where
  abbrev full_of : T → Walked T
  full_of = full step depth rule

  -- the pieces of a node make the walk of its task from any tally
  abbrev pub Right : (Node T → List (Visit T)) → Node T → Type 0
  Right one n = (t : Tally) → cut rule t (one n) ≡ cut rule t (full_of n.task).marks

  walk_case : (o : Option (Walked T)) → ((w : Walked T) × (o ≡ Some w)) ⊎ (o ≡ None)
  walk_case None = inr refl
  walk_case (Some w) = inl (w, refl)

  front_cut : (one : Node T → List (Visit T)) (k : ℕ) (path : List Link) (u : Counted) (t : Tally) (first place : ℕ) (cs : List T) (ws : List (Walked T)) → Family ns k path first place cs
      → ((j : ℕ) (m : Node T) (w : Walked T) → slice_get ns j ≡ Some m → above m.path ≡ Some k → phase_walk m.phase ≡ Some w → Right one m)
      → end_at rule t ≡ End.Through → (u.pushes ≤ t.pushes) × (u.goals ≤ t.goals) × (u.stopped ≡ false) → kept (numbers_of rule) u (walks_of ns first (length cs)) ≡ Some ws
      → cut rule t (front one ns first (length cs)) ≡ cut rule t (full_marks step depth rule cs)
  unfolding front kept walks_of
  front_cut one k path u t first place [] ws f each o le is = refl
  front_cut one k path u t first place (c ∷ cs) ws f each o le is =
      let m = f.0.0 in
      let here : node_walk (slice_get ns first) ≡ phase_walk m.phase = ap node_walk f.0.1 in
      elim (walk_case (phase_walk m.phase)) [
        | inr none ↦
            let x : kept (numbers_of rule) u (None ∷ walks_of ns (first + 1) (length cs)) ≡ Some ws = sym (ap (λ o. kept (numbers_of rule) u (o ∷ walks_of ns (first + 1) (length cs))) (here ∙ none)) ∙ is in
            let y : ◌≡◌ {A = Option (List (Walked T))} None (Some ws) = x in
            absurd (cc)
        | inl some ↦
            let w = some.0 in
            let done = some.1 in
            let e : w ≡ full_of c = done_full step depth rule ns first m m.phase w (s first m f.0.1).phase done ∙ ap full_of f.0.2 in
            let rest = full_marks step depth rule cs in
            let more = front one ns (first + 1) (length cs) in
            let v = cut rule t (full_of c).marks in
            let next = add u (counted_of w) in
            let x = kept_step (stops (numbers_of rule) next) (kept (numbers_of rule) next (walks_of ns (first + 1) (length cs))) w ws (sym (ap (λ o. kept (numbers_of rule) u (o ∷ walks_of ns (first + 1) (length cs))) (here ∙ done)) ∙ is) in
            let own : cut rule t (one m) ≡ v = each first m w f.0.1 (ap above f.0.3) done t ∙ ap (λ y. cut rule t (full_of y).marks) f.0.2 in
            ap (λ o. cut rule t (and_more one (slice_get ns first) o more)) (here ∙ done)
            ∙ (ap (λ o. cut rule t (and_more one o (Some w) more)) f.0.1
            ∙ (cut_append rule t (one m) more
            ∙ (ap (λ y. and_then y (λ z. cut rule z more)) own
            ∙ (and_then_same v (λ z. cut rule z more) (λ z. cut rule z rest) (λ h.
            let after = after_whole step depth rule t c h in
            let opened = through_open rule t (full_of c).marks o h in
            elim x [
              | inl a ↦ absurd (no_more step depth rule u t w le a.0 (ap (λ (y : Walked T). y.end) e ∙ after.1) (ap (λ (y : Walked T). end_at rule (plus t y.tally)) e ∙ (ap (end_at rule) (sym after.0) ∙ opened)))
              | inr b ↦
                  let stopped : (u.stopped || is_stopped w.end) ≡ false = or_false u.stopped (is_stopped w.end) le.2 (ap (λ (y : Walked T). is_stopped y.end) e ∙ ap is_stopped after.1) in
                  let wp : w.tally.pushes ≡ (full_of c).tally.pushes = ap (λ (y : Walked T). y.tally.pushes) e in
                  let wg : w.tally.goals ≡ (full_of c).tally.goals = ap (λ (y : Walked T). y.tally.goals) e in
                  let vp : v.tally.pushes ≡ t.pushes + (full_of c).tally.pushes = ap (λ (y : Tally). y.pushes) after.0 in
                  let vg : v.tally.goals ≡ t.goals + (full_of c).tally.goals = ap (λ (y : Tally). y.goals) after.0 in
                  front_cut one k path next v.tally (first + 1) (place + 1) cs b.1.0 f.1 each opened (omega (arith, le.0), omega (arith, le.1), stopped) b.1.1
            ])
            ∙ sym (cut_append rule t (full_of c).marks rest)))))
      ]

  phase_right : (one : Node T → List (Visit T)) (k : ℕ) (n : Node T) (p : Phase T) (w : Walked T) → ((j : ℕ) (m : Node T) (v : Walked T) → slice_get ns j ≡ Some m → above m.path ≡ Some k → phase_walk m.phase ≡ Some v → Right one m)
      → PhaseSound step depth rule None ns k n p → phase_walk p ≡ Some w → (t : Tally) → cut rule t (phase_pieces step depth rule one ns n p) ≡ cut rule t (full_of n.task).marks
  unfolding cut
  phase_right one k n free w each h e t = absurd (cc)
  phase_right one k n claimed w each h e t = absurd (cc)
  phase_right one k n expanded w each h e t = absurd (cc)
  phase_right one k n (dropped l) w each h e t = absurd (cc)
  phase_right one k n (put v) w each h e t = ap (λ (y : Walked T). cut rule t y.marks) h
  phase_right one k n (closed v) w each h e t =
      let cs = children step depth rule n.task in
      let visit = visit_of n.task (step n.task) in
      let mine = one_mark rule t visit in
      and_then_same mine (λ z. cut rule z (front one ns n.first (length cs))) (λ z. cut rule z (full_marks step depth rule cs)) (λ x.
      front_cut one k n.path nothing_counted mine.tally n.first 0 cs h.2.0 h.1 each (through_by (is_stop visit.act.process) rule visit.children mine.tally x) (omega arith, omega arith, refl) h.2.1)
      ∙ (sym (cut_again rule zero_tally t (visit ∷ full_marks step depth rule cs) (record { pushes = omega arith; goals = omega arith }))
      ∙ ap (λ (y : Walked T). cut rule t y.marks) (sym (full_is_cut_of_family step depth tells rule deeper n.task)))

  pub pieces_right : (f k : ℕ) (n : Node T) (w : Walked T) → length ns ≤ k + f → slice_get ns k ≡ Some n → phase_walk n.phase ≡ Some w → Right (pieces step depth rule f ns) n
  unfolding pieces
  pieces_right zero k n w h at e t = absurd (let b = below ns k n at in omega arith)
  pieces_right (suc f) k n w h at e t =
      phase_right (pieces step depth rule f ns) k n n.phase w (λ j m v a p d. pieces_right f j m v (let b = (s j m a).below k p in omega arith) a d) (s k n at).phase e t

  -- one cut of the root's pieces is the whole walk
  pub finished : (k : ℕ) (n : Node T) (w : Walked T) → slice_get ns k ≡ Some n → phase_walk n.phase ≡ Some w → cut rule zero_tally (pieces step depth rule (length ns) ns n) ≡ full_of n.task
  finished k n w at e =
      pieces_right (length ns) k n w (omega arith) at e zero_tally
      ∙ cut_again rule zero_tally zero_tally _ (record { pushes = omega arith; goals = omega arith })
