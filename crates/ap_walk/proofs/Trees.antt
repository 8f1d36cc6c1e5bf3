-- The walk of a tree of tasks is the cut of all its marks, and so of its full marks.
use Rattle.std.proofs.Common.{◌≡◌, ◌≢◌, ℕ, zero, suc, ◌<◌, ◌≤◌, Bool, false, List, [], ◌∷◌, ◌++◌, refl, arith, sym, ◌∙◌, ap}
use Rattle.ap_list.specs.Lists.{Each}
use Rattle.ap_walk.specs.declared.act.Reason.{Reason}
use Rattle.ap_walk.specs.declared.act.Process.{Process}
use Rattle.ap_walk.specs.declared.act.Act.{Act}
use Rattle.ap_walk.specs.declared.act.Out.{Out}
use Rattle.ap_walk.specs.declared.act.Stepped.{Stepped}
use Rattle.ap_walk.specs.declared.rule.Tally.{Tally}
use Rattle.ap_walk.specs.declared.rule.Rule.{Rule}
use Rattle.ap_walk.specs.declared.rule.End.{End}
use Rattle.ap_walk.specs.declared.mark.Walked.{Walked}
use Rattle.ap_walk.specs.Visits.{Visit, Tells, visit_of, out_children, reason_number, reason_of}
use Rattle.ap_walk.specs.Tallies.{zero_tally, is_push, is_stop, tally_by, end_by, tally_after, end_after}
use Rattle.ap_walk.specs.Walks.{and_then, in_order, first_visit, walk_to, walk, walk_all, join_each, marks_to, all_marks, one_mark, cut, full, full_marks}
use Rattle.ap_walk.proofs.Cuts.{and_then_same, and_then_nothing, cut_append, cut_again}

pub reason_back : (r : Reason) → reason_of (reason_number r) ≡ r
unfolding reason_of
reason_back Reason.NoScheme = refl
reason_back Reason.EmptyClause = refl
reason_back Reason.GoalLimit = refl
reason_back Reason.PathDepth = refl
reason_back Reason.InductionDepth = refl
reason_back Reason.DoNotInduct = refl

pub not_push : (p : Process) → p ≢ Process.Push → is_push p ≡ false
not_push Process.Push other = absurd (other refl)
not_push _ other = refl

pub not_stop : (p : Process) → p ≢ Process.Stop → is_stop p ≡ false
not_stop Process.Stop other = absurd (other refl)
not_stop _ other = refl

module _ {T : Type 0} where
  -- a mark counted by what its process is
  abbrev counted : Rule → Visit T → Tally → Bool → Bool → Walked T
  counted rule m t push stop =
      record { marks = m ∷ []; tally = tally_by push t; end = end_by stop rule m.children (tally_by push t) }

  counted_as : (rule : Rule) (m : Visit T) (t : Tally) {push push' stop stop' : Bool} → push ≡ push' → stop ≡ stop' → counted rule m t push stop ≡ counted rule m t push' stop'
  counted_as rule m t {push' = push'} {stop = stop} p s = ap (λ b. counted rule m t b stop) p ∙ ap (λ b. counted rule m t push' b) s

  -- what a step tells a walk is what its mark tells a cut
  visit_is_mark : (rule : Rule) (task : T) (t : Tally) (act : Act) (out : Out T) → Tells act.process out
      → record { marks = visit_of task (record { act = act; out = out }) ∷ []; tally = tally_after out t; end = end_after rule out (tally_after out t) }
      ≡ one_mark rule t (visit_of task (record { act = act; out = out }))
  visit_is_mark rule task t act (Out.Split cs) told = sym (counted_as rule _ t (not_push act.process told.0) (not_stop act.process told.1))
  visit_is_mark rule task t act Out.Push told = sym (counted_as rule _ t (ap is_push told) (ap is_stop told))
  visit_is_mark rule task t act (Out.Stop r) told =
      let m = visit_of task (record { act = act; out = Out.Stop r }) in
      ap (λ why. record { marks = m ∷ []; tally = tally_by false t; end = End.Stopped why }) (sym (reason_back r))
      ∙ sym (counted_as rule m t (ap is_push told) (ap is_stop told))

  join_none : {B : Type 0} (f : T → List B) (size : T → ℕ) (d : ℕ) (cs : List T) → Each (λ c. size c < d) cs → d ≤ 0 → join_each f cs ≡ []
  join_none f size d [] each small = refl
  join_none f size d (c ∷ cs) each small = absurd (let below = each.0 in omega arith)

  pub join_same : {B : Type 0} (f g : T → List B) (P : T → Type 0) (cs : List T) → Each P cs → ((c : T) → P c → f c ≡ g c) → join_each f cs ≡ join_each g cs
  join_same f g P [] each same = refl
  join_same f g P (c ∷ cs) each same =
      ap (λ l. l ++ join_each f cs) (same c each.0) ∙ ap (λ l. g c ++ l) (join_same f g P cs each.1 same)

  -- walks in order are a cut where each of them is
  pub in_order_is_cut : (rule : Rule) (f : T → Tally → Walked T) (g : T → List (Visit T)) → ((c : T) (t : Tally) → f c t ≡ cut rule t (g c)) → (cs : List T) (t : Tally) → in_order f cs t ≡ cut rule t (join_each g cs)
  unfolding cut
  in_order_is_cut rule f g each [] t = refl
  in_order_is_cut rule f g each (c ∷ cs) t =
      ap (λ w. and_then w (in_order f cs)) (each c t)
      ∙ and_then_same (cut rule t (g c)) (in_order f cs) (λ u. cut rule u (join_each g cs)) (λ _. in_order_is_cut rule f g each cs _)
      ∙ sym (cut_append rule t (g c) (join_each g cs))

module _ {T : Type 0} (step : T → Stepped T) (tells : (task : T) → Tells (step task).act.process (step task).out) (rule : Rule) where
  pub first_is_mark : (task : T) (t : Tally) → first_visit step rule task t ≡ one_mark rule t (visit_of task (step task))
  first_is_mark task t = visit_is_mark rule task t (step task).act (step task).out (tells task)

  pub walk_to_is_cut : (n : ℕ) (task : T) (t : Tally) → walk_to step rule n task t ≡ cut rule t (marks_to step n task)
  unfolding walk_to cut marks_to
  walk_to_is_cut zero task t = first_is_mark task t ∙ sym (and_then_nothing (one_mark rule t (visit_of task (step task))))
  walk_to_is_cut (suc n) task t =
      let children = out_children (step task).out in
      ap (λ w. and_then w (in_order (walk_to step rule n) children)) (first_is_mark task t)
      ∙ and_then_same (one_mark rule t (visit_of task (step task))) (in_order (walk_to step rule n) children) (λ u. cut rule u (join_each (marks_to step n) children))
      (λ _. in_order_is_cut rule (walk_to step rule n) (marks_to step n) (walk_to_is_cut n) children _)

module _ {T : Type 0} (step : T → Stepped T) (depth : T → ℕ) (deeper : (task : T) → Each (λ c. depth c < depth task) (out_children (step task).out)) where
  -- any number of levels from the depth on gives all marks
  pub marks_enough : (m n : ℕ) (task : T) → depth task ≤ m → depth task ≤ n → marks_to step m task ≡ marks_to step n task
  unfolding marks_to
  marks_enough zero zero task hm hn = refl
  marks_enough zero (suc n) task hm hn = ap (λ l. visit_of task (step task) ∷ l) (sym (join_none (marks_to step n) depth (depth task) _ (deeper task) hm))
  marks_enough (suc m) zero task hm hn = ap (λ l. visit_of task (step task) ∷ l) (join_none (marks_to step m) depth (depth task) _ (deeper task) hn)
  marks_enough (suc m) (suc n) task hm hn =
      ap (λ l. visit_of task (step task) ∷ l)
      (join_same (marks_to step m) (marks_to step n) (λ c. depth c < depth task) _ (deeper task) (λ c below. marks_enough m n c (omega arith) (omega arith)))

  -- all marks of a task are its own, and then all marks of each child
  pub all_marks_is : (task : T) → all_marks step depth task ≡ visit_of task (step task) ∷ join_each (all_marks step depth) (out_children (step task).out)
  unfolding marks_to
  all_marks_is task =
      marks_enough (depth task) (suc (depth task)) task (omega arith) (omega arith)
      ∙ ap (λ l. visit_of task (step task) ∷ l)
      (join_same (marks_to step (depth task)) (all_marks step depth) (λ c. depth c < depth task) _ (deeper task) (λ c below. marks_enough (depth task) (depth c) c (omega arith) (omega arith)))

module _ {T : Type 0} (step : T → Stepped T) (depth : T → ℕ) (tells : (task : T) → Tells (step task).act.process (step task).out) (rule : Rule) where
  pub walk_is_cut_of_all : (task : T) (t : Tally) → walk step depth rule task t ≡ cut rule t (all_marks step depth task)
  walk_is_cut_of_all task t = walk_to_is_cut step tells rule (depth task) task t

  pub walk_from_zero : (task : T) → walk step depth rule task zero_tally ≡ full step depth rule task
  walk_from_zero task = walk_is_cut_of_all task zero_tally

  pub walk_is_cut : (task : T) (t : Tally) → walk step depth rule task t ≡ cut rule t (full step depth rule task).marks
  walk_is_cut task t =
      walk_is_cut_of_all task t
      ∙ sym (cut_again rule zero_tally t (all_marks step depth task) (record { pushes = omega arith; goals = omega arith }))

  pub walks_are_cut : (tasks : List T) (t : Tally) → walk_all step depth rule tasks t ≡ cut rule t (full_marks step depth rule tasks)
  walks_are_cut tasks t = in_order_is_cut rule (walk step depth rule) (λ c. (full step depth rule c).marks) walk_is_cut tasks t

  -- a walk is its own visit, and then the walks of the children
  pub walk_is : (deeper : (task : T) → Each (λ c. depth c < depth task) (out_children (step task).out)) (task : T) (t : Tally)
      → walk step depth rule task t ≡ and_then (first_visit step rule task t) (walk_all step depth rule (out_children (step task).out))
  unfolding cut
  walk_is deeper task t =
      let children = out_children (step task).out in
      let mark = visit_of task (step task) in
      walk_is_cut_of_all task t
      ∙ ap (cut rule t) (all_marks_is step depth deeper task)
      ∙ and_then_same (one_mark rule t mark) (λ u. cut rule u (join_each (all_marks step depth) children)) (walk_all step depth rule children)
      (λ _. sym (in_order_is_cut rule (walk step depth rule) (all_marks step depth) walk_is_cut_of_all children _))
      ∙ ap (λ w. and_then w (walk_all step depth rule children)) (sym (first_is_mark step tells rule task t))

  -- a walk is the cut of the root's own mark and then the full marks of its children
  pub walk_is_cut_of_family : (deeper : (task : T) → Each (λ c. depth c < depth task) (out_children (step task).out)) (task : T) (t : Tally)
      → walk step depth rule task t ≡ cut rule t (visit_of task (step task) ∷ full_marks step depth rule (out_children (step task).out))
  unfolding cut
  walk_is_cut_of_family deeper task t =
      let children = out_children (step task).out in
      let mark = visit_of task (step task) in
      walk_is deeper task t
      ∙ ap (λ w. and_then w (walk_all step depth rule children)) (first_is_mark step tells rule task t)
      ∙ and_then_same (one_mark rule t mark) (walk_all step depth rule children) (λ u. cut rule u (full_marks step depth rule children)) (λ _. walks_are_cut children _)

  pub full_is_cut_of_family : (deeper : (task : T) → Each (λ c. depth c < depth task) (out_children (step task).out)) (task : T)
      → full step depth rule task ≡ cut rule zero_tally (visit_of task (step task) ∷ full_marks step depth rule (out_children (step task).out))
  full_is_cut_of_family deeper task = sym (walk_from_zero task) ∙ walk_is_cut_of_family deeper task zero_tally
