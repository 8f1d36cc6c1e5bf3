-- What one round of the walk's code does, and what it leaves.
use Rattle.std.proofs.Common.{◌≡◌, ◌≢◌, ℕ, ◌<◌, List, [], ◌∷◌, ◌++◌, refl, sym, ◌∙◌, ap, subst}
use Rattle.ap_list.specs.Lists.{Each}
use Rattle.ap_walk.specs.declared.act.Stepped.{Stepped}
use Rattle.ap_walk.specs.declared.rule.Tally.{Tally}
use Rattle.ap_walk.specs.declared.rule.Rule.{Rule}
use Rattle.ap_walk.specs.declared.rule.End.{End}
use Rattle.ap_walk.specs.declared.mark.Walked.{Walked}
use Rattle.ap_walk.specs.Visits.{Visit, Tells, visit_of, out_children}
use Rattle.ap_walk.specs.Tallies.{tally_after, end_after}
use Rattle.ap_walk.specs.Walks.{nothing, before, and_then, in_order, first_visit, walk, walk_all}
use Rattle.ap_walk.proofs.Cuts.{and_then_before, and_then_assoc, and_then_same, and_then_nothing}
use Rattle.ap_walk.proofs.Trees.{walk_is}

module _ {T : Type 0} where
  through_at : (ms : List (Visit T)) (t : Tally) (e : End) (k : Tally → Walked T) → e ≡ End.Through → and_then (record { marks = ms; tally = t; end = e }) k ≡ before ms (k t)
  through_at ms t End.Through k h = refl
  through_at ms t End.Revert k h = absurd (cc)
  through_at ms t End.Limit k h = absurd (cc)
  through_at ms t (End.Stopped r) k h = absurd (cc)

  -- a walk that goes through is followed by what follows
  pub through : (w : Walked T) (k : Tally → Walked T) → w.end ≡ End.Through → and_then w k ≡ before w.marks (k w.tally)
  through w k h = through_at w.marks w.tally w.end k h

  -- nothing follows a walk that has ended
  pub ended : (w : Walked T) (k : Tally → Walked T) → w.end ≢ End.Through → and_then w k ≡ w
  ended w k other = and_then_same w k nothing (λ h. absurd (other h)) ∙ and_then_nothing w

  -- a walk goes on by the first of the tasks that are left
  pub next_walked : (one : T → Tally → Walked T) (w next done : Walked T) (task : T) (tasks items : List T) → items ≡ task ∷ tasks
      → next ≡ and_then w (one task) → and_then w (in_order one items) ≡ done → and_then next (in_order one tasks) ≡ done
  next_walked one w next done task tasks items is made to_come =
      ap (λ v. and_then v (in_order one tasks)) made
      ∙ and_then_assoc w (one task) (in_order one tasks)
      ∙ ap (λ l. and_then w (in_order one l)) (sym is)
      ∙ to_come

-- a walk that is added to nothing
pub alone : {T : Type 0} (one : T → Tally → Walked T) (w : Walked T) (marks : List (Visit T)) (copy task : T) (t : Tally) → marks ≡ [] → copy ≡ task → w ≡ before marks (one copy t) → w ≡ one task t
alone one w marks copy task t empty same made =
    made ∙ ap (λ l. before l (one copy t)) empty ∙ ap (λ x. one x t) same

pub each_rest : {T : Type 0} (P : T → Type 0) (items : List T) (task : T) (tasks : List T) → items ≡ task ∷ tasks → Each P items → Each P tasks
each_rest P items task tasks is each = (subst (λ l. Each P l) is each).1

walked_same : {T : Type 0} (a b : Walked T) → a.marks ≡ b.marks → a.tally ≡ b.tally → a.end ≡ b.end → a ≡ b
walked_same {T = T} a b marks tally ended =
    let made : List (Visit T) → Tally → End → Walked T = λ m t e. record { marks = m; tally = t; end = e } in
    ap (λ m. made m a.tally a.end) marks ∙ ap (λ t. made b.marks t a.end) tally ∙ ap (λ e. made b.marks b.tally e) ended

-- the children of a task, as they pass from its step to the loop over them
pub record Passed {T : Type 0} (step : T → Stepped T) (task : T) (stepped : Stepped T) (children vec items : List T) : Type 0 where
  pub taken : stepped ≡ step task
  pub split : children ≡ out_children stepped.out
  pub moved : vec ≡ children
  pub given : items ≡ vec

-- the walk so far once the visit of a task is added to an earlier one that went through
pub record Visited {T : Type 0} (rule : Rule) (task : T) (stepped : Stepped T) (earlier so_far : Walked T) (mark : Visit T) : Type 0 where
  pub began : earlier.end ≡ End.Through
  pub told : mark ≡ visit_of task stepped
  pub marks : so_far.marks ≡ earlier.marks ++ mark ∷ []
  pub tally : so_far.tally ≡ tally_after stepped.out earlier.tally
  pub ended : so_far.end ≡ end_after rule stepped.out so_far.tally

items_are : {T : Type 0} (step : T → Stepped T) (task : T) (stepped : Stepped T) (children vec items : List T) → Passed step task stepped children vec items → items ≡ out_children (step task).out
items_are step task stepped children vec items p = p.given ∙ p.moved ∙ p.split ∙ ap (λ s. out_children s.out) p.taken

module _ {T : Type 0} (step : T → Stepped T) (depth : T → ℕ) (tells : (task : T) → Tells (step task).act.process (step task).out)
    (deeper : (task : T) → Each (λ c. depth c < depth task) (out_children (step task).out)) (rule : Rule) where
  -- the walk after the visit of a task is the walk of that task once its children are walked
  own_first : (task : T) (w : Walked T) → w.end ≡ End.Through
      → and_then (before w.marks (first_visit step rule task w.tally)) (walk_all step depth rule (out_children (step task).out)) ≡ and_then w (walk step depth rule task)
  own_first task w h =
      let children = walk_all step depth rule (out_children (step task).out) in
      and_then_before w.marks (first_visit step rule task w.tally) children
      ∙ ap (before w.marks) (sym (walk_is step depth tells rule deeper task w.tally))
      ∙ sym (through w (walk step depth rule task) h)

  visited_is : (task : T) (earlier so_far : Walked T) (mark : Visit T) → Visited rule task (step task) earlier so_far mark → so_far ≡ before earlier.marks (first_visit step rule task earlier.tally)
  visited_is task earlier so_far mark v =
      walked_same so_far (before earlier.marks (first_visit step rule task earlier.tally))
      (v.marks ∙ ap (λ m. earlier.marks ++ m ∷ []) v.told) v.tally (v.ended ∙ ap (end_after rule (step task).out) v.tally)

  module _ (task : T) (stepped : Stepped T) (children vec items : List T) (p : Passed step task stepped children vec items) where
    -- the children have less depth
    pub passed_below : Each (λ c. depth c < depth task) items
    passed_below = subst (λ l. Each (λ c. depth c < depth task) l) (sym (items_are step task stepped children vec items p)) (deeper task)

    module _ (earlier so_far : Walked T) (mark : Visit T) (v : Visited rule task stepped earlier so_far mark) where
      to_come : and_then so_far (walk_all step depth rule items) ≡ and_then earlier (walk step depth rule task)
      to_come =
          ap (λ l. and_then so_far (walk_all step depth rule l)) (items_are step task stepped children vec items p)
          ∙ ap (λ w. and_then w (walk_all step depth rule (out_children (step task).out)))
          (visited_is task earlier so_far mark (subst (λ s. Visited rule task s earlier so_far mark) p.taken v))
          ∙ own_first task earlier v.began

      module _ (now : Walked T) (left : List T) (kept : and_then now (walk_all step depth rule left) ≡ and_then so_far (walk_all step depth rule items)) where
        -- the task is walked where no child is left
        pub all_walked : left ≡ [] → now ≡ and_then earlier (walk step depth rule task)
        all_walked none =
            sym (and_then_nothing now) ∙ ap (λ l. and_then now (walk_all step depth rule l)) (sym none) ∙ kept ∙ to_come

        -- and where a child's walk has ended
        pub walk_ended : now.end ≢ End.Through → now ≡ and_then earlier (walk step depth rule task)
        walk_ended other = sym (ended now (walk_all step depth rule left) other) ∙ kept ∙ to_come
