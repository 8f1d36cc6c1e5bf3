-- The walk of a task whose step is known, and what is so of a walk that is the full one.
use Rattle.std.proofs.Common.{◌≡◌, ◌≤◌, ◌<◌, ℕ, List, [], ◌∷◌, ◌++◌, length, append-nil, Result, Ok, Err, IfOk, ap, subst, sym, ◌∙◌}
use Rattle.ap_list.specs.Lists.{Each}
use Rattle.ap_walk.specs.declared.act.Stepped.{Stepped}
use Rattle.ap_walk.specs.declared.rule.Rule.{Rule}
use Rattle.ap_walk.specs.declared.mark.Walked.{Walked}
use Rattle.ap_walk.specs.Visits.{Visit, Tells, out_children, visit_of}
use Rattle.ap_walk.specs.Tallies.{zero_tally}
use Rattle.ap_walk.specs.Walks.{cut, full, full_marks, walk}
use Rattle.ap_walk.proofs.Bounds.{walk_few_from_zero}
use Rattle.ap_walk.proofs.Trees.{full_is_cut_of_family, walk_from_zero}

-- what is so of an answer, and so something else
pub ok_as : {A E : Type 0} (r : Result A E) (P Q : A → Type 0) → ((a : A) → P a → Q a) → IfOk r P → IfOk r Q
ok_as (Ok a) P Q so is = so a is
ok_as (Err e) P Q so is = is

module _ {T : Type 0} (step : T → Stepped T) (depth : T → ℕ) (tells : (task : T) → Tells (step task).act.process (step task).out) (rule : Rule) where
  pub is_walked : (task : T) (w : Walked T) → w ≡ full step depth rule task → w ≡ walk step depth rule task zero_tally
  is_walked task w is = is ∙ sym (walk_from_zero step depth tells rule task)

  pub is_few : (task : T) (w : Walked T) → w ≡ full step depth rule task → length w.marks ≤ rule.goal_limit
  is_few task w is = subst (λ v. length v.marks ≤ rule.goal_limit) (sym (is_walked task w is)) (walk_few_from_zero step depth tells rule task)

  -- a task's own mark, and then those of its children's walks, make its walk
  pub known_walk : (deeper : (task : T) → Each (λ c. depth c < depth task) (out_children (step task).out)) (task : T) (stepped : Stepped T) (own : Visit T) (children : List T) (first more below marks : List (Visit T)) (w : Walked T)
      → stepped ≡ step task → own ≡ visit_of task stepped → children ≡ out_children stepped.out → first ≡ [] → more ≡ first ++ own ∷ [] → below ≡ full_marks step depth rule children → marks ≡ more ++ below
      → w ≡ cut rule zero_tally marks → w ≡ full step depth rule task
  known_walk deeper task stepped own children first more below marks w is owned split none one rest all cuts =
      let own_is : own ≡ visit_of task (step task) = owned ∙ ap (visit_of task) is in
      let split_is : children ≡ out_children (step task).out = split ∙ ap (λ (s : Stepped T). out_children s.out) is in
      cuts
      ∙ ap (cut rule zero_tally)
      (all ∙ ap (λ ms. ms ++ below) (one ∙ ap (λ ms. ms ++ own ∷ []) none) ∙ ap (λ ms. own ∷ ms) (rest ∙ ap (full_marks step depth rule) split_is)
      ∙ ap (λ m. m ∷ full_marks step depth rule (out_children (step task).out)) own_is)
      ∙ sym (full_is_cut_of_family step depth tells rule deeper task)

  -- a task without children has its own mark alone
  pub lone_walk : (deeper : (task : T) → Each (λ c. depth c < depth task) (out_children (step task).out)) (task : T) (stepped : Stepped T) (own : Visit T) (children : List T) (first more : List (Visit T)) (w : Walked T)
      → stepped ≡ step task → own ≡ visit_of task stepped → children ≡ out_children stepped.out → children ≡ [] → first ≡ [] → more ≡ first ++ own ∷ []
      → w ≡ cut rule zero_tally more → w ≡ full step depth rule task
  lone_walk deeper task stepped own children first more w is owned split empty none one cuts =
      known_walk deeper task stepped own children first more [] more w is owned split none one (ap (full_marks step depth rule) (sym empty)) (sym (append-nil more)) cuts

  -- a task with one child has its own mark, and then those of the child's walk
  pub walk_above : (deeper : (task : T) → Each (λ c. depth c < depth task) (out_children (step task).out)) (task child : T) (stepped : Stepped T) (own : Visit T) (children : List T) (first more marks : List (Visit T)) (v w : Walked T)
      → stepped ≡ step task → own ≡ visit_of task stepped → children ≡ out_children stepped.out → children ≡ child ∷ [] → first ≡ [] → more ≡ first ++ own ∷ [] → v ≡ full step depth rule child → marks ≡ more ++ v.marks
      → w ≡ cut rule zero_tally marks → w ≡ full step depth rule task
  walk_above deeper task child stepped own children first more marks v w is owned split only none one below all cuts =
      known_walk deeper task stepped own children first more v.marks marks w is owned split none one
      (ap (λ (x : Walked T). x.marks) below ∙ (sym (append-nil (full step depth rule child).marks) ∙ ap (full_marks step depth rule) (sym only))) all cuts
