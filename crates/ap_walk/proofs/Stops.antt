-- A cut that begins at an open tally ends where a count is what the rule says; each mark counts a goal.
use Rattle.std.proofs.Common.{◌≡◌, ℕ, ◌+◌, ◌≤◌, Bool, true, false, ◌&&◌, nat_le, nat_eq, if◌then◌else◌, List, [], ◌∷◌, length-append, refl, arith, sym, ◌∙◌, ap, subst}
use Rattle.std.proofs.lemmas.Bool.Decides.{nat_tests}
use Rattle.ap_walk.specs.declared.act.Out.{Out}
use Rattle.ap_walk.specs.declared.rule.Tally.{Tally}
use Rattle.ap_walk.specs.declared.rule.Rule.{Rule}
use Rattle.ap_walk.specs.declared.rule.End.{End}
use Rattle.ap_walk.specs.declared.mark.Walked.{Walked}
use Rattle.ap_walk.specs.Visits.{Visit}
use Rattle.ap_walk.specs.Tallies.{IsOpen, can_revert, end_at, is_push, is_stop, tally_by, end_by, tally_at, mark_end, tally_after, end_after}
use Rattle.ap_walk.specs.Walks.{nothing, and_then, cut}
use Rattle.ap_walk.specs.Laws.{end_when, StopsAt, CountsFrom}
use Rattle.ap_walk.proofs.Ends.{through_pushes, through_goals}

abbrev tested : Bool → ℕ → ℕ → ℕ → ℕ → End
tested b r p g l = if b && nat_le r p then End.Revert else if nat_le l g then End.Limit else End.Through

abbrev tested_when : Bool → ℕ → ℕ → ℕ → ℕ → End
tested_when b r p g l = if b && nat_eq p r then End.Revert else if nat_eq g l then End.Limit else End.Through

reverts_only : (b : Bool) (r p g l : ℕ) → tested b r p g l ≡ End.Revert → b ≡ true
reverts_only true r p g l h = refl
reverts_only false r p g l h = absurd (grind (arith, nat_tests))

reverts_past : (b : Bool) (r p g l : ℕ) → tested b r p g l ≡ End.Revert → r ≤ p
reverts_past true r p g l h = grind (arith, nat_tests)
reverts_past false r p g l h = absurd (grind (arith, nat_tests))

limits_past : (b : Bool) (r p g l : ℕ) → tested b r p g l ≡ End.Limit → l ≤ g
limits_past b r p g l h = grind (arith, nat_tests)

same_tested : (b : Bool) (r p g l : ℕ) → (b ≡ true → p ≤ r) → g ≤ l → tested b r p g l ≡ tested_when b r p g l
same_tested true r p g l few small = let most : p ≤ r = few refl in grind (arith, nat_tests)
same_tested false r p g l few small = grind (arith, nat_tests)

-- what one more goal, and maybe one more push, does to an open tally
record Next (rule : Rule) (t : Tally) : Type 0 where
  in_goals : t.pushes ≤ t.goals
  in_limit : t.goals ≤ rule.goal_limit
  in_two : can_revert rule ≡ true → t.pushes ≤ rule.revert

next_by : (rule : Rule) (b : Bool) (t : Tally) → IsOpen rule t → Next rule (tally_by b t)
next_by rule true t is = record {
  in_goals = omega (arith, is.in_goals);
  in_limit = omega (arith, is.below_limit);
  in_two = λ e. omega (arith, is.below_revert e);
}
next_by rule false t is = record {
  in_goals = omega (arith, is.in_goals);
  in_limit = omega (arith, is.below_limit);
  in_two = λ e. omega (arith, is.below_revert e);
}

-- the tests by order and those by equality are the same after one visit from an open tally
pub tests_same : {T : Type 0} (rule : Rule) (t : Tally) (mark : Visit T) → IsOpen rule t → end_at rule (tally_at mark t) ≡ end_when rule (tally_at mark t)
unfolding end_at end_when
tests_same rule t mark is =
    let next = next_by rule (is_push mark.act.process) t is in
    let u = tally_at mark t in
    same_tested (can_revert rule) rule.revert u.pushes u.goals rule.goal_limit next.in_two next.in_limit

-- a tally after one visit from an open one, by how the walk ends there
stops_tested : {T : Type 0} (rule : Rule) (t : Tally) (ms : List (Visit T)) → Next rule t → StopsAt rule (record { marks = ms; tally = t; end = end_at rule t })
unfolding end_at
stops_tested rule t ms next = record {
  through = λ h. record {
    in_goals = next.in_goals;
    below_limit = through_goals rule t h;
    below_revert = through_pushes rule t h;
  };
  revert = λ h. (
    reverts_only (can_revert rule) rule.revert t.pushes t.goals rule.goal_limit h,
    let past = reverts_past (can_revert rule) rule.revert t.pushes t.goals rule.goal_limit h in
        let few = next.in_two (reverts_only (can_revert rule) rule.revert t.pushes t.goals rule.goal_limit h) in
        omega arith,
  );
  limit = λ h.
      let past = limits_past (can_revert rule) rule.revert t.pushes t.goals rule.goal_limit h in
      omega (arith, next.in_limit);
  within = next.in_limit;
}

stops_by : {T : Type 0} (b : Bool) (rule : Rule) (children : ℕ) (t : Tally) (ms : List (Visit T)) → Next rule t → StopsAt rule (record { marks = ms; tally = t; end = end_by b rule children t })
stops_by true rule children t ms next = record {
  through = λ h. absurd (cc);
  revert = λ h. absurd (cc);
  limit = λ h. absurd (cc);
  within = next.in_limit;
}
stops_by false rule children t ms next = stops_tested rule t ms next

goals_by : (b : Bool) (t : Tally) → (tally_by b t).goals ≡ t.goals + 1
goals_by true t = refl
goals_by false t = refl

module _ {T : Type 0} where
  stops_nothing : (rule : Rule) (t : Tally) → IsOpen rule t → StopsAt {T = T} rule (nothing t)
  stops_nothing rule t is = record {
    through = λ h. is;
    revert = λ h. absurd (cc);
    limit = λ h. absurd (cc);
    within = omega (arith, is.below_limit);
  }

  stops_then_at : (rule : Rule) (ms : List (Visit T)) (t : Tally) (e : End) (f : Tally → Walked T) → let w : Walked T = record { marks = ms; tally = t; end = e } in StopsAt rule w → (IsOpen rule t → StopsAt rule (f t)) → StopsAt rule (and_then w f)
  stops_then_at rule ms t End.Through f is more =
      let next = more (is.through refl) in
      record { through = next.through; revert = next.revert; limit = next.limit; within = next.within }
  stops_then_at rule ms t End.Revert f is more = is
  stops_then_at rule ms t End.Limit f is more = is
  stops_then_at rule ms t (End.Stopped r) f is more = is

  pub cut_stops : (rule : Rule) (t : Tally) (xs : List (Visit T)) → IsOpen rule t → StopsAt rule (cut rule t xs)
  unfolding cut
  cut_stops rule t [] is = stops_nothing rule t is
  cut_stops rule t (x ∷ xs) is =
      let u = tally_at x t in
      stops_then_at rule (x ∷ []) u (end_by (is_stop x.act.process) rule x.children u) (λ v. cut rule v xs)
      (stops_by (is_stop x.act.process) rule x.children u (x ∷ []) (next_by rule (is_push x.act.process) t is))
      (λ open'. cut_stops rule u xs open')

  counts_then_at : (t : Tally) (ms : List (Visit T)) (u : Tally) (e : End) (f : Tally → Walked T) → let w : Walked T = record { marks = ms; tally = u; end = e } in CountsFrom t w → CountsFrom u (f u) → CountsFrom t (and_then w f)
  counts_then_at t ms u End.Through f h more = omega (arith, h, more, length-append ms (f u).marks)
  counts_then_at t ms u End.Revert f h more = h
  counts_then_at t ms u End.Limit f h more = h
  counts_then_at t ms u (End.Stopped r) f h more = h

  pub cut_counts : (rule : Rule) (t : Tally) (xs : List (Visit T)) → CountsFrom t (cut rule t xs)
  unfolding cut
  cut_counts rule t [] = omega arith
  cut_counts rule t (x ∷ xs) =
      let u = tally_at x t in
      counts_then_at t (x ∷ []) u (end_by (is_stop x.act.process) rule x.children u) (λ v. cut rule v xs)
      (goals_by (is_push x.act.process) t)
      (cut_counts rule u xs)

opened_after : {T : Type 0} (rule : Rule) (t : Tally) (out : Out T) → IsOpen rule t → end_after rule out (tally_after out t) ≡ End.Through → IsOpen rule (tally_after out t)
opened_after {T = T} rule t (Out.Split cs) is h = (stops_tested {T = T} rule (tally_by false t) [] (next_by rule false t is)).through h
opened_after {T = T} rule t Out.Push is h = (stops_tested {T = T} rule (tally_by true t) [] (next_by rule true t is)).through h
opened_after rule t (Out.Stop r) is h = absurd (cc)

-- a walk that goes through the visit of a task from an open tally leaves an open one
pub opened_by : {T : Type 0} (rule : Rule) (t : Tally) (out : Out T) (next : Tally) (e : End) → IsOpen rule t → next ≡ tally_after out t → e ≡ end_after rule out next → e ≡ End.Through → IsOpen rule next
opened_by rule t out next e is counted ends h =
    subst (IsOpen rule) (sym counted) (opened_after rule t out is (ap (end_after rule out) (sym counted) ∙ sym ends ∙ h))

-- a walk that goes through a mark from an open tally leaves an open one
pub opened_mark : {T : Type 0} (rule : Rule) (t : Tally) (m : Visit T) (next : Tally) (e : End) → IsOpen rule t → next ≡ tally_at m t → e ≡ mark_end rule m next → e ≡ End.Through → IsOpen rule next
opened_mark {T = T} rule t m next e is counted ends h =
    let u = tally_at m t in
    subst (IsOpen rule) (sym counted)
    ((stops_by {T = T} (is_stop m.act.process) rule m.children u [] (next_by rule (is_push m.act.process) t is)).through
    (ap (mark_end rule m) (sym counted) ∙ sym ends ∙ h))
