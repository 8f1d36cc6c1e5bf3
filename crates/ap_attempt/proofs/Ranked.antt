-- What a walk pushes has inductions of less rank.
use Rattle.std.proofs.Common.{◌≡◌, ℕ, zero, suc, ◌≤◌, ◌<◌, Bool, true, false, List, [], ◌∷◌, ◌++◌, arith, refl, subst, sym}
use Rattle.ap_list.specs.Lists.{Each}
use Rattle.ap_walk.specs.declared.act.Out.{Out}
use Rattle.ap_walk.specs.declared.act.Process.{Process}
use Rattle.ap_walk.specs.declared.act.Stepped.{Stepped}
use Rattle.ap_walk.specs.declared.rule.Rule.{Rule}
use Rattle.ap_walk.specs.declared.rule.Tally.{Tally}
use Rattle.ap_walk.specs.declared.rule.End.{End}
use Rattle.ap_walk.specs.declared.mark.Walked.{Walked}
use Rattle.ap_walk.specs.Visits.{Visit, Tells, out_children, visit_of}
use Rattle.ap_walk.specs.Tallies.{is_push, tally_at, zero_tally}
use Rattle.ap_walk.specs.Walks.{walk, and_then, cut, marks_to, all_marks, join_each}
use Rattle.ap_walk.specs.Laws.{pushed, with_pushed}
use Rattle.ap_walk.proofs.Trees.{walk_is_cut_of_all}

is_push_back : (p : Process) → is_push p ≡ true → p ≡ Process.Push
is_push_back Process.Push h = refl
is_push_back _ h = absurd (cc)

each_join : {A : Type 0} (P : A → Type 0) (xs ys : List A) → Each P xs → Each P ys → Each P (xs ++ ys)
each_join P [] ys these those = those
each_join P (x ∷ xs) ys these those = (these.0, each_join P xs ys these.1 those)

module _ {T : Type 0} (P : Visit T → Type 0) (rule : Rule) where
  then_each : (e : End) (x : Visit T) (t : Tally) (f : Tally → Walked T) → P x → Each P (f t).marks → Each P (and_then (record { marks = x ∷ []; tally = t; end = e }) f).marks
  then_each End.Through x t f here later = (here, later)
  then_each End.Revert x t f here later = (here, tt)
  then_each End.Limit x t f here later = (here, tt)
  then_each (End.Stopped reason) x t f here later = (here, tt)

  -- what is so of each mark is so of those that a cut keeps
  cut_each : (t : Tally) (xs : List (Visit T)) → Each P xs → Each P (cut rule t xs).marks
  unfolding cut
  cut_each t [] each = tt
  cut_each t (x ∷ xs) each = then_each _ x (tally_at x t) (λ u. cut rule u xs) each.0 (cut_each (tally_at x t) xs each.1)

module _ {T : Type 0} (step : T → Stepped T) (depth : T → ℕ) (tells : (task : T) → Tells (step task).act.process (step task).out)
    (rank : T → ℕ) (inducted : T → ℕ → T) (k : ℕ) (ranked : (task : T) → Each (λ c. rank c ≤ rank task) (out_children (step task).out))
    (falling : (task : T) → (step task).out ≡ Out.Push → rank (inducted task k) < rank task) (bound : ℕ) where
  -- where the mark is a push, its induction is below the bound
  abbrev IsLow : Visit T → Type 0
  IsLow m = is_push m.act.process ≡ true → rank (inducted m.task k) < bound

  own_low : (task : T) → rank task ≤ bound → IsLow (visit_of task (step task))
  own_low task below h = go (step task).out refl (tells task)
    where
      go : (o : Out T) → (step task).out ≡ o → Tells (step task).act.process o → rank (inducted task k) < bound
      go (Out.Split cs) q told = absurd (told.0 (is_push_back _ h))
      go Out.Push q told = let falls = falling task q in omega arith
      go (Out.Stop r) q told = let stop : is_push Process.Stop ≡ true = subst (λ p. is_push p ≡ true) told h in absurd (cc)

  below_all : (n : ℕ) (cs : List T) → n ≤ bound → Each (λ c. rank c ≤ n) cs → Each (λ c. rank c ≤ bound) cs
  below_all n [] below each = tt
  below_all n (c ∷ cs) below each = (let here = each.0 in omega arith, below_all n cs below each.1)

  joined_low : (f : T → List (Visit T)) → ((c : T) → rank c ≤ bound → Each IsLow (f c)) → (cs : List T) → Each (λ c. rank c ≤ bound) cs → Each IsLow (join_each f cs)
  joined_low f low [] each = tt
  joined_low f low (c ∷ cs) each = each_join IsLow (f c) (join_each f cs) (low c each.0) (joined_low f low cs each.1)

  marks_low : (n : ℕ) (task : T) → rank task ≤ bound → Each IsLow (marks_to step n task)
  unfolding marks_to
  marks_low zero task below = (own_low task below, tt)
  marks_low (suc n) task below =
      (own_low task below, joined_low (marks_to step n) (marks_low n) (out_children (step task).out) (below_all (rank task) _ below (ranked task)))

  put_low : (b : Bool) (task : T) (tasks : List T) → (b ≡ true → rank (inducted task k) < bound) → Each (λ t. rank (inducted t k) < bound) tasks
      → Each (λ t. rank (inducted t k) < bound) (with_pushed b task tasks)
  put_low true task tasks here later = (here refl, later)
  put_low false task tasks here later = later

  pushed_low : (xs : List (Visit T)) → Each IsLow xs → Each (λ t. rank (inducted t k) < bound) (pushed xs)
  pushed_low [] each = tt
  pushed_low (x ∷ xs) each = put_low (is_push x.act.process) x.task (pushed xs) each.0 (pushed_low xs each.1)

  pub walk_low : (rule : Rule) (task : T) → rank task ≤ bound → Each (λ t. rank (inducted t k) < bound) (pushed (walk step depth rule task zero_tally).marks)
  walk_low rule task below =
      let P : Walked T → Type 0 = λ w. Each (λ t. rank (inducted t k) < bound) (pushed w.marks) in
      subst P (sym (walk_is_cut_of_all step depth tells rule task zero_tally))
      (pushed_low (cut rule zero_tally (all_marks step depth task)).marks (cut_each IsLow rule zero_tally (all_marks step depth task) (marks_low (depth task) task below)))
