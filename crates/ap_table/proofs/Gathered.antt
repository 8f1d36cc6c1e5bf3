-- The marks that are gathered from the kept nodes, and why they make the root's walk.
use Rattle.std.proofs.Common.{◌≡◌, ℕ, zero, suc, ◌+◌, ◌-◌, ◌≤◌, ◌<◌, Bool, true, false, cond, List, [], ◌∷◌, ◌++◌, Option, Some, None, length, refl, sym, ap, ◌∙◌, arith, inl, inr, ◌⊎◌}
use Rattle.std.specs.List.{slice_get}
use Rattle.ap_list.specs.Lists.{Each}
use Rattle.ap_walk.specs.declared.act.Stepped.{Stepped}
use Rattle.ap_walk.specs.declared.rule.Rule.{Rule}
use Rattle.ap_walk.specs.declared.mark.Walked.{Walked}
use Rattle.ap_walk.specs.Visits.{Visit, Tells, out_children, visit_of}
use Rattle.ap_walk.specs.Tallies.{zero_tally}
use Rattle.ap_walk.specs.Walks.{cut, full}
use Rattle.ap_table.specs.declared.link.Link.{Link}
use Rattle.ap_table.specs.declared.stored.Stored.{Stored}
use Rattle.ap_table.specs.declared.stored.Stage.{Stage}
use Rattle.ap_table.specs.declared.stored.Stage.TheVariants as stage
use Rattle.ap_table.specs.Core.{Phase, Node, free, claimed, expanded, put, closed, dropped, phase_walk, node_walk, above, children}
use Rattle.ap_table.specs.Sound.{Family, PhaseSound, Sound}
use Rattle.ap_table.specs.Pieces.{and_more, front, phase_pieces, pieces}
use Rattle.ap_table.specs.Live.{done_at}
use Rattle.ap_table.specs.Sums.{Kids}
use Rattle.ap_table.specs.Shown.{Run, StageShows, OwnShows, AllShow, turns, nodes_of, IsTable}
use Rattle.ap_table.specs.Ended.{HasEnded, own_marks, done_front, stage_marks, stored_marks, marks_at, MakesUp, Trees}
use Rattle.ap_table.proofs.Keeping.{some_is}
use Rattle.ap_table.proofs.Growing.{below}
use Rattle.ap_table.proofs.Showing.{shown_at, kept_at}
use Rattle.ap_table.proofs.Moving.{done_shown, shown_done}
use Rattle.ap_table.proofs.Families.{kids_count, kid_family, child_at}
use Rattle.ap_table.proofs.Joining.{finished}
use Rattle.ap_table.proofs.After.{after_sound, after_root}

not_true : (b : Bool) → (b ≡ true → ⊥) → b ≡ false
not_true true h = absurd (h refl)
not_true false h = refl

module _ {T : Type 0} (step : T → Stepped T) (depth : T → ℕ) (rule : Rule) (cs : List (Stored T)) (ns : List (Node T)) (a : AllShow step cs ns) (s : Sound step depth rule ns) where
  walk_case : (o : Option (Walked T)) → ((w : Walked T) × (o ≡ Some w)) ⊎ (o ≡ None)
  walk_case None = inr refl
  walk_case (Some w) = inl (w, refl)

  -- the marks of a finished child are the same by its number and by its node
  abbrev Same : (ℕ → List (Visit T)) → (Node T → List (Visit T)) → ℕ → List Link → Type 0
  Same one other k path = (j : ℕ) (m : Node T) (w : Walked T) → slice_get ns j ≡ Some m → above m.path ≡ Some k → length m.path ≡ suc (length path) → phase_walk m.phase ≡ Some w → one j ≡ other m

  front_same : (one : ℕ → List (Visit T)) (other : Node T → List (Visit T)) (k : ℕ) (path : List Link) (first place c : ℕ) (ts : List T) → Family ns k path first place ts → c ≡ length ts → Same one other k path
      → done_front one cs first c ≡ front other ns first (length ts)
  unfolding done_front front
  front_same one other k path first place zero [] f e each = refl
  front_same one other k path first place zero (t ∷ ts) f e each = absurd (omega arith)
  front_same one other k path first place (suc c) [] f e each = absurd (omega arith)
  front_same one other k path first place (suc c) (t ∷ ts) f e each =
      let m = f.0.0 in
      let here : node_walk (slice_get ns first) ≡ phase_walk m.phase = ap node_walk f.0.1 in
      let mine = done_front one cs (first + 1) c in
      let rest = front other ns (first + 1) (length ts) in
      elim (walk_case (phase_walk m.phase)) [
        | inr none ↦
            let stuck : done_at cs first ≡ false = not_true (done_at cs first) (λ d.
            let x = done_shown step cs ns first a d in
            let y : ◌≡◌ {A = Option (Walked T)} None (Some x.1) = sym none ∙ (sym here ∙ (ap node_walk x.2 ∙ x.3)) in
            absurd (cc)) in
            ap (λ b. cond b (one first ++ mine) []) stuck
            ∙ sym (ap (λ o. and_more other (slice_get ns first) o rest) (here ∙ none) ∙ ap (λ o. and_more other o None rest) f.0.1)
        | inl some ↦
            let w = some.0 in
            ap (λ b. cond b (one first ++ mine) []) (shown_done step cs ns first a (m, w, f.0.1, some.1))
            ∙ (ap (λ l. l ++ mine) (each first m w f.0.1 (ap above f.0.3) (ap length f.0.3) some.1)
            ∙ (ap (λ l. other m ++ l) (front_same one other k path (first + 1) (place + 1) c ts f.1 (omega arith) each)
            ∙ sym (ap (λ o. and_more other (slice_get ns first) o rest) (here ∙ some.1) ∙ ap (λ o. and_more other o (Some w) rest) f.0.1)))
      ]

  stage_same : (one : ℕ → List (Visit T)) (other : Node T → List (Visit T)) (k : ℕ) (c : Stored T) (n : Node T) (st : Stage T) (p : Phase T) (w : Walked T) → StageShows n.task c.count (length (out_children (step n.task).out)) st p → OwnShows c.own (visit_of n.task (step n.task)) p → c.first ≡ n.first
      → PhaseSound step depth rule None ns k n p → phase_walk p ≡ Some w → Same one other k n.path → stage_marks one cs c st ≡ phase_pieces step depth rule other ns n p
  stage_same one other k c n st free w h o f y e each = absurd (cc)
  stage_same one other k c n st claimed w h o f y e each = absurd (cc)
  stage_same one other k c n st expanded w h o f y e each = absurd (cc)
  stage_same one other k c n st (dropped l) w h o f y e each = absurd (cc)
  stage_same one other k c n (stage.Put x) (put v) w h o f y e each = ap (λ (z : Walked T). z.marks) h
  stage_same one other k c n (stage.Free x) (put v) w h o f y e each = absurd h
  stage_same one other k c n stage.Claimed (put v) w h o f y e each = absurd h
  stage_same one other k c n stage.Expanded (put v) w h o f y e each = absurd h
  stage_same one other k c n (stage.Closed x) (put v) w h o f y e each = absurd h
  stage_same one other k c n (stage.Dropped l) (put v) w h o f y e each = absurd h
  stage_same one other k c n (stage.Closed x) (closed v) w h o f y e each =
      ap (λ o. own_marks o ++ done_front one cs c.first c.count) o
      ∙ ap (λ l. visit_of n.task (step n.task) ∷ l)
      (ap (λ (z : ℕ). done_front one cs z c.count) f ∙ front_same one other k n.path n.first 0 c.count (children step depth rule n.task) y.1 h.1 each)
  stage_same one other k c n (stage.Free x) (closed v) w h o f y e each = absurd h
  stage_same one other k c n stage.Claimed (closed v) w h o f y e each = absurd h
  stage_same one other k c n stage.Expanded (closed v) w h o f y e each = absurd h
  stage_same one other k c n (stage.Put x) (closed v) w h o f y e each = absurd h
  stage_same one other k c n (stage.Dropped l) (closed v) w h o f y e each = absurd h

  -- so many levels reach all nodes, since no more than three families are above a node
  pub pieces_kept : (levels far k : ℕ) (n : Node T) (w : Walked T) → 4 ≤ length n.path + levels → length ns ≤ k + far → slice_get ns k ≡ Some n → phase_walk n.phase ≡ Some w → marks_at cs levels k ≡ pieces step depth rule far ns n
  unfolding marks_at pieces
  pieces_kept zero far k n w deep reach at e = absurd (let l = (s k n at).levels in omega arith)
  pieces_kept (suc levels) zero k n w deep reach at e = absurd (let b = below ns k n at in omega arith)
  pieces_kept (suc levels) (suc far) k n w deep reach at e =
      let c = kept_at step cs ns k n a at in
      ap (stored_marks (marks_at cs levels) cs) c.1
      ∙ stage_same (marks_at cs levels) (pieces step depth rule far ns) k c.0 n c.0.stage n.phase w c.2.stage c.2.own c.2.first (s k n at).phase e (λ j m v here up len done.
      pieces_kept levels far j m v (omega arith) (let b = (s j m here).below k up in omega arith) here done)

  marks_more : (levels k : ℕ) → marks_at cs (suc levels) k ≡ stored_marks (marks_at cs levels) cs (slice_get cs k)
  unfolding marks_at
  marks_more levels k = refl

  -- four levels below a node that is done, or three below a child of it, are the same
  pub makes_up : MakesUp cs
  makes_up k done =
      let n = done_shown step cs ns k a done in
      let c = kept_at step cs ns k n.0 a n.2 in
      let sound = (s k n.0 n.2).phase in
      let same : (levels : ℕ) → 3 ≤ levels → stored_marks (marks_at cs levels) cs (slice_get cs k) ≡ phase_pieces step depth rule (pieces step depth rule (length ns) ns) ns n.0 n.0.phase = (λ levels three.
      ap (stored_marks (marks_at cs levels) cs) c.1
      ∙ stage_same (marks_at cs levels) (pieces step depth rule (length ns) ns) k c.0 n.0 c.0.stage n.0.phase n.1 c.2.stage c.2.own c.2.first sound n.3 (λ j m v here up len finished.
      pieces_kept levels (length ns) j m v (omega arith) (omega arith) here finished)) in
      marks_more 3 k ∙ (same 3 (omega arith) ∙ sym (same 4 (omega arith)))

  -- the children of a node come after it, and stand below it alone
  pub trees : Kids rule None cs → Trees cs
  trees kids k c at has =
      let n = shown_at step cs ns k c a at in
      let w = length (out_children (step n.0.task).out) in
      let count : c.count ≡ w = kids_count n.0.task c.count w c.stage n.0.phase n.2.stage has in
      let fam = kid_family step depth rule None ns k n.0 n.0.task c.count w c.stage n.0.phase n.2.stage has (s k n.0 n.1).phase in
      let first : c.first ≡ n.0.first = n.2.first in
      let kid : (j : ℕ) → c.first ≤ j → j < c.first + c.count → (m : Node T) × (slice_get ns j ≡ Some m) × (above m.path ≡ Some k) = (λ j le lt.
      let r = child_at ns k n.0.path n.0.first 0 (j - n.0.first) (children step depth rule n.0.task) fam (omega arith) in
      (r.0, ap (slice_get ns) (let z : j ≡ n.0.first + (j - n.0.first) = omega arith in z) ∙ r.1, r.3)) in
      record {
        fits = (kids.family k c at has).fits;
        after = λ j le lt. (let r = kid j le lt in (s j r.0 r.1).below k r.2);
        up = λ j m le lt there.
            let r = kid j le lt in
            let d = kept_at step cs ns j r.0 a r.1 in
            ap above (ap (λ (x : Stored T). x.path) (some_is m d.0 (sym there ∙ d.1)) ∙ d.2.path) ∙ r.2;
      }

module _ {T : Type 0} (step : T → Stepped T) (depth : T → ℕ) (tells : (t : T) → Tells (step t).act.process (step t).out) (deeper : (t : T) → Each (λ c. depth c < depth t) (out_children (step t).out)) where
  -- one cut of what is gathered at a done root is the serial walk of its task
  pub walk_gathered : (r : Run T) (cs : List (Stored T)) (live : List ℕ) (capacity : ℕ) (marks : List (Visit T)) → IsTable step depth r cs live capacity → HasEnded step depth r → marks ≡ marks_at cs 4 0 → cut r.rule zero_tally marks ≡ full step depth r.rule r.root
  walk_gathered r cs live capacity marks t h is =
      let ns = nodes_of step depth r in
      let sound = after_sound step depth r.rule tells deeper r.root (turns r.history) t.allowed in
      let top = after_root step depth r.rule tells deeper r.root (turns r.history) t.allowed in
      let same : top.0 ≡ h.0 = some_is top.0 h.0 (sym top.1 ∙ h.2) in
      ap (cut r.rule zero_tally) (is ∙ pieces_kept step depth r.rule cs ns t.shows sound 4 (length ns) 0 h.0 h.1 (omega arith) (omega arith) h.2 h.3)
      ∙ (finished step depth r.rule tells deeper ns sound 0 h.0 h.1 h.2 h.3
      ∙ ap (full step depth r.rule) (ap (λ (n : Node T). n.task) (sym same) ∙ top.2))

  -- the root is done, and stands below none
  pub root_ended : (r : Run T) (cs : List (Stored T)) (live : List ℕ) (capacity : ℕ) → IsTable step depth r cs live capacity → HasEnded step depth r → (c : Stored T) × (slice_get cs 0 ≡ Some c) × (c.path ≡ []) × (done_at cs 0 ≡ true)
  root_ended r cs live capacity t h =
      let ns = nodes_of step depth r in
      let top = after_root step depth r.rule tells deeper r.root (turns r.history) t.allowed in
      let c = kept_at step cs ns 0 top.0 t.shows top.1 in
      (c.0, c.1, c.2.path ∙ top.3, shown_done step cs ns 0 t.shows h)
