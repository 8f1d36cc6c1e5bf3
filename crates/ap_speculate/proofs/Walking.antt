-- The walk of a list of tasks that is left, one visit after another.
use Rattle.std.proofs.Common.{◌≡◌, ◌≢◌, ℕ, ◌+◌, ◌<◌, List, [], ◌∷◌, ◌++◌, length, reverse, refl, sym, ◌∙◌, ap, append_assoc, append-nil, arith, length-append, Option, Some, None}
use Rattle.std.proofs.lemmas.List.{reverse-append}
use Rattle.std.specs.Prelude.{IfSome}
use Rattle.ap_list.specs.Lists.{Each}
use Rattle.ap_walk.specs.declared.act.Stepped.{Stepped}
use Rattle.ap_walk.specs.declared.rule.Tally.{Tally}
use Rattle.ap_walk.specs.declared.rule.Rule.{Rule}
use Rattle.ap_walk.specs.declared.rule.End.{End}
use Rattle.ap_walk.specs.declared.mark.Walked.{Walked}
use Rattle.ap_walk.specs.Visits.{Visit, visit_of, out_children}
use Rattle.ap_walk.specs.Tallies.{IsOpen, zero_tally, mark_end}
use Rattle.ap_walk.specs.Walks.{before, and_then, join_each, all_marks, one_mark, cut, full}
use Rattle.ap_walk.proofs.Cuts.{and_then_before, and_then_nothing}
use Rattle.ap_walk.proofs.Stops.{opened_mark}
use Rattle.ap_walk.proofs.Trees.{all_marks_is}
use Rattle.ap_walk.proofs.GoOn.{through, ended}

module _ {T : Type 0} (rule : Rule) (t : Tally) (m : Visit T) (alone : List (Visit T)) (w : Walked T) (only : alone ≡ m ∷ []) (made : w ≡ cut rule t alone) where
  -- the cut of one mark
  one_is : w ≡ one_mark rule t m
  unfolding cut
  one_is = made ∙ ap (cut rule t) only ∙ and_then_nothing (one_mark rule t m)

  -- it is added to a walk
  pub one_more : (old new : List (Visit T)) → new ≡ old ++ w.marks → record { marks = new; tally = w.tally; end = w.end } ≡ before old (one_mark rule t m)
  one_more old new added = ap (λ l. record { marks = l; tally = w.tally; end = w.end }) added ∙ ap (before old) one_is

  pub one_opened : IsOpen rule t → w.end ≡ End.Through → IsOpen rule w.tally
  one_opened is h = opened_mark rule t m w.tally w.end is (ap (λ v. v.tally) one_is) (ap (λ v. v.end) one_is ∙ ap (mark_end rule m) (sym (ap (λ v. v.tally) one_is))) h

pub join_append : {A B : Type 0} (f : A → List B) (xs ys : List A) → join_each f (xs ++ ys) ≡ join_each f xs ++ join_each f ys
join_append f [] ys = refl
join_append f (x ∷ xs) ys = ap (λ l. f x ++ l) (join_append f xs ys) ∙ sym (append_assoc (f x) (join_each f xs) (join_each f ys))

-- what stands last in a list of one
the_one : {T : Type 0} (rest : List T) (x y : T) → rest ++ x ∷ [] ≡ y ∷ [] → x ≡ y
the_one [] x y h = cc
the_one (z ∷ rest) x y h = absurd (let l = ap (λ l. length l) h in omega (arith, length-append rest (x ∷ [])))

module _ {T : Type 0} (step : T → Stepped T) where
  -- a step that was taken before is that of the one task that is left
  abbrev pub IsFirst : T → List T → Option (Stepped T) → Type 0
  IsFirst task left first = IfSome first (λ s. (left ≡ task ∷ []) × (s ≡ step task))

  pub first_is_next : (first : Option (Stepped T)) (task next : T) (left rest : List T) → IsFirst task left first → left ≡ rest ++ next ∷ [] → IfSome first (λ s. s ≡ step next)
  first_is_next None task next left rest is split = tt
  first_is_next (Some s) task next left rest is split = is.1 ∙ ap step (sym (the_one rest next task (sym split ∙ is.0)))

  pub first_of_one : (first : Option (Stepped T)) (task : T) (none left : List T) → IfSome first (λ s. s ≡ step task) → none ≡ [] → left ≡ none ++ task ∷ [] → IsFirst task left first
  first_of_one None task none left is nothing pushed = tt
  first_of_one (Some s) task none left is nothing pushed = (pushed ∙ ap (λ l. l ++ task ∷ []) nothing, is)

module _ {T : Type 0} (step : T → Stepped T) (depth : T → ℕ) where
  -- all marks of the tasks that are left, of which the next one stands last
  abbrev pub marks_left : List T → List (Visit T)
  marks_left left = join_each (all_marks step depth) (reverse left)

module _ {T : Type 0} (step : T → Stepped T) (depth : T → ℕ) (rule : Rule) (whole : Walked T) (left rest : List T) (task : T) (stepped : Stepped T) (so_far next : Walked T) (mark : Visit T) where
  -- the next of the tasks that are left was visited, in a walk that is to be this one
  pub record Visited : Type 0 where
    pub to_come : before so_far.marks (cut rule so_far.tally (marks_left step depth left)) ≡ whole
    pub next_is : left ≡ rest ++ task ∷ []
    pub taken : stepped ≡ step task
    pub told : mark ≡ visit_of task stepped
    pub visited : next ≡ before so_far.marks (one_mark rule so_far.tally mark)

  pub one_longer : Visited → length next.marks ≡ length so_far.marks + 1
  one_longer v = ap (λ w. length w.marks) v.visited ∙ simp length-append

module _ {T : Type 0} (step : T → Stepped T) (depth : T → ℕ) (deeper : (task : T) → Each (λ c. depth c < depth task) (out_children (step task).out)) where
  -- the marks below a task, and those that are left besides
  abbrev below : Stepped T → List T → List (Visit T)
  below stepped rest = join_each (all_marks step depth) (out_children stepped.out) ++ marks_left step depth rest

  next_mark : (left rest : List T) (task : T) → left ≡ rest ++ task ∷ [] → marks_left step depth left ≡ visit_of task (step task) ∷ below (step task) rest
  next_mark left rest task is =
      ap (λ l. join_each (all_marks step depth) l) (ap (λ l. reverse l) is ∙ reverse-append rest (task ∷ []))
      ∙ ap (λ l. l ++ marks_left step depth rest) (all_marks_is step depth deeper task)

  left_after : (left rest : List T) (stepped : Stepped T) → reverse left ≡ out_children stepped.out ++ reverse rest → marks_left step depth left ≡ below stepped rest
  left_after left rest stepped is = ap (join_each (all_marks step depth)) is ∙ join_append (all_marks step depth) (out_children stepped.out) (reverse rest)

  module _ {rule : Rule} {whole : Walked T} {left rest : List T} {task : T} {stepped : Stepped T} {so_far next : Walked T} {mark : Visit T} where
    turned : Visited step depth rule whole left rest task stepped so_far next mark → and_then next (λ u. cut rule u (below stepped rest)) ≡ whole
    unfolding cut
    turned v =
        ap (λ w. and_then w (λ u. cut rule u (below stepped rest))) v.visited
        ∙ and_then_before so_far.marks (one_mark rule so_far.tally mark) (λ u. cut rule u (below stepped rest))
        ∙ ap (λ m. before so_far.marks (cut rule so_far.tally (m ∷ below stepped rest))) v.told
        ∙ ap (λ s. before so_far.marks (cut rule so_far.tally (visit_of task s ∷ below s rest))) v.taken
        ∙ ap (λ l. before so_far.marks (cut rule so_far.tally l)) (sym (next_mark left rest task v.next_is))
        ∙ v.to_come

    -- where the walk ends there it is whole
    pub ends_there : Visited step depth rule whole left rest task stepped so_far next mark → next.end ≢ End.Through → next ≡ whole
    ends_there v other = sym (ended next (λ u. cut rule u (below stepped rest)) other) ∙ turned v

    -- or else it goes on by what came of the task
    pub goes_on : Visited step depth rule whole left rest task stepped so_far next mark → (later : List T) → next.end ≡ End.Through → reverse later ≡ out_children stepped.out ++ reverse rest
        → before next.marks (cut rule next.tally (marks_left step depth later)) ≡ whole
    goes_on v later h put =
        ap (λ l. before next.marks (cut rule next.tally l)) (left_after later rest stepped put)
        ∙ sym (through next (λ u. cut rule u (below stepped rest)) h)
        ∙ turned v

    -- and it takes one mark
    pub one_less : Visited step depth rule whole left rest task stepped so_far next mark → (later : List T) → reverse later ≡ out_children stepped.out ++ reverse rest
        → length (marks_left step depth later) < length (marks_left step depth left)
    one_less v later put =
        let a = ap (λ l. length l) (next_mark left rest task v.next_is) in
        let b = ap (λ l. length l) (left_after later rest stepped put ∙ ap (λ s. below s rest) v.taken) in
        omega arith

  -- nothing is left
  pub ends_all : (rule : Rule) (whole : Walked T) (left : List T) (so_far : Walked T) → before so_far.marks (cut rule so_far.tally (marks_left step depth left)) ≡ whole
      → left ≡ [] → so_far.end ≡ End.Through → so_far ≡ whole
  unfolding cut
  ends_all rule whole left so_far to_come none h =
      ap (λ e. record { marks = so_far.marks; tally = so_far.tally; end = e }) h
      ∙ ap (λ l. record { marks = l; tally = so_far.tally; end = End.Through }) (sym (append-nil so_far.marks))
      ∙ ap (λ l. before so_far.marks (cut rule so_far.tally (marks_left step depth l))) (sym none)
      ∙ to_come

  -- before the first visit all is to come
  pub all_to_come : (rule : Rule) (task : T) (empty : List (Visit T)) (none left : List T) → empty ≡ [] → none ≡ [] → left ≡ none ++ task ∷ [] → before empty (cut rule zero_tally (marks_left step depth left)) ≡ full step depth rule task
  all_to_come rule task empty none left is nothing_left first =
      ap (λ l. before l (cut rule zero_tally (marks_left step depth left))) is
      ∙ ap (λ l. cut rule zero_tally (marks_left step depth l)) (first ∙ ap (λ l. l ++ task ∷ []) nothing_left)
      ∙ ap (cut rule zero_tally) (append-nil (all_marks step depth task))
