-- The marks of an attempt that is proved fit.
use Rattle.std.proofs.Common.{◌≡◌, ℕ, zero, suc, ◌+◌, Bool, true, false, ◌⊎◌, inl, inr, List, [], ◌∷◌, ◌++◌, Option, Some, None, refl, ap, sym, ◌∙◌, subst, append_assoc, append-nil}
use Rattle.ap_list.specs.Lists.{Each, AnyOf}
use Rattle.ap_term.specs.declared.term.Clause.{Clause}
use Rattle.ap_walk.specs.declared.rule.Rule.{Rule}
use Rattle.ap_walk.specs.declared.rule.End.{End}
use Rattle.ap_walk.specs.declared.mark.Walked.{Walked}
use Rattle.ap_walk.specs.Visits.{Visit}
use Rattle.ap_walk.specs.Tallies.{zero_tally}
use Rattle.ap_walk.specs.Walks.{walk}
use Rattle.ap_walk.specs.Laws.{pushed}
use Rattle.ap_kernel.proofs.Reduced.{any_left, each_parts}
use Rattle.ap_attempt.specs.declared.turn.Turn.{Turn}
use Rattle.ap_attempt.specs.declared.verdict.Verdict.{Verdict}
use Rattle.ap_attempt.specs.Attempts.{Course, walks_of, inductions, rule_after, with_pool, after_walk, follow, turns_within, attempt}
use Rattle.ap_strategy.specs.Goals.{Goal, inducted}
use Rattle.ap_strategy.specs.Steps.{step_of, depth_of}
use Rattle.ap_chain.specs.Marks.{kept, kept_from, kept_all}
use Rattle.ap_chain.specs.Fitting.{IsInductionOf, IsAmong, Fit, IsProvedBy}
use Rattle.ap_chain.proofs.Found.{any_map}
use Rattle.ap_chain.proofs.Walks.{IsAt, IsInducted, at_among, each_any, walk_fits}

-- what is kept of a course's walks, behind marks that are kept so far
abbrev keeps : Course Goal → List (Visit Goal) → List (Visit Goal)
keeps course b = kept_from b (walks_of course)

-- what is kept are those so far and marks that fit, among which each of these goals has its own
record Runs (k : List (Visit Goal) → List (Visit Goal)) (gs : List Goal) : Type 0 where
  marks : List (Visit Goal)
  are : (b : List (Visit Goal)) → k b ≡ b ++ marks
  fit : Fit marks
  there : Each (λ (g : Goal). AnyOf (IsAt g) marks) gs

-- where a walk reverts none of those so far is, and the root's clause has a mark
record Reverts (k : List (Visit Goal) → List (Visit Goal)) (root : Goal) : Type 0 where
  marks : List (Visit Goal)
  are : (b : List (Visit Goal)) → k b ≡ marks
  fit : Fit marks
  there : IsAmong marks root.clause

abbrev Ends : (List (Visit Goal) → List (Visit Goal)) → List Goal → Goal → Type 0
Ends k gs root = Runs k gs ⊎ Reverts k root

inducted_there : (ms : List (Visit Goal)) (k : ℕ) (gs : List Goal) → Each (λ (g : Goal). AnyOf (IsAt g) ms) (inductions inducted k gs) → Each (IsInducted ms) gs
inducted_there ms k [] h = tt
inducted_there ms k (g ∷ gs) h =
    (any_map (IsAt (inducted g k)) (IsInductionOf g.clause) (λ v e. (ap (λ (x : Goal). x.clause.0) e, ap (λ (x : Goal). x.induct) e)) ms h.0, inducted_there ms (k + 1) gs h.1)

module _ (root : Goal) (refuses : Bool) where
  -- what the turns that follow a pool keep
  taken : (turns : Turn Goal → Course Goal) → ((turn : Turn Goal) → (turns turn).verdict ≡ Verdict.Qed → Ends (keeps (turns turn)) (turn.task ∷ turn.rest) root)
      → (left : Option Rule) (refused : Bool) (pool : List Goal) → (follow (with_pool refused left pool) turns).verdict ≡ Verdict.Qed
      → Ends (keeps (follow (with_pool refused left pool) turns)) pool root
  taken turns ends left refused [] qed = inl (record { marks = []; are = λ b. sym (append-nil b); fit = tt; there = tt })
  taken turns ends left true (g ∷ rest) qed = absurd (cc)
  taken turns ends None false (g ∷ rest) qed = absurd (cc)
  taken turns ends (Some rule) false (g ∷ rest) qed = ends _ qed

  -- what a walk that goes through pushed is in the pool
  gone_through : (k : List (Visit Goal) → List (Visit Goal)) (own : List (Visit Goal)) (task : Goal) (pushes rest : List Goal)
      → ((ms : List (Visit Goal)) → Fit ms → Each (λ (g : Goal). AnyOf (IsAt g) ms) pushes → Fit (own ++ ms) × AnyOf (IsAt task) own)
      → Ends k (pushes ++ rest) root → Ends (λ b. k (b ++ own)) (task ∷ rest) root
  gone_through k own task pushes rest made (inl r) =
      let parts = each_parts (λ (g : Goal). AnyOf (IsAt g) r.marks) pushes rest r.there in
      let more = made r.marks r.fit parts.0 in
      inl
      (record {
        marks = own ++ r.marks;
        are = λ b. r.are (b ++ own) ∙ append_assoc b own r.marks;
        fit = more.0;
        there = (any_left (IsAt task) own r.marks more.1, each_any own r.marks rest parts.1);
      })
  gone_through k own task pushes rest made (inr t) = inr (record { marks = t.marks; are = λ b. t.are (b ++ own); fit = t.fit; there = t.there })

  -- after a revert the root's original alone is in the pool
  turned_back : (k : List (Visit Goal) → List (Visit Goal)) (gs : List Goal) → Ends k (inducted root 1 ∷ []) root → Ends (λ b. k []) gs root
  turned_back k gs (inl r) = inr (record { marks = r.marks; are = λ b. r.are []; fit = r.fit; there = at_among (inducted root 1) r.marks r.there.0 })
  turned_back k gs (inr t) = inr (record { marks = t.marks; are = λ b. t.are []; fit = t.fit; there = t.there })

  walked_on : (turns : Turn Goal → Course Goal) → ((turn : Turn Goal) → (turns turn).verdict ≡ Verdict.Qed → Ends (keeps (turns turn)) (turn.task ∷ turn.rest) root)
      → (left : Option Rule) (e : End) (own : List (Visit Goal)) (task : Goal) (pushes rest : List Goal)
      → (e ≡ End.Through → (ms : List (Visit Goal)) → Fit ms → Each (λ (g : Goal). AnyOf (IsAt g) ms) pushes → Fit (own ++ ms) × AnyOf (IsAt task) own)
      → (follow (after_walk e (with_pool refuses left) (inducted root 1) pushes rest) turns).verdict ≡ Verdict.Qed
      → Ends (λ b. keeps (follow (after_walk e (with_pool refuses left) (inducted root 1) pushes rest) turns) (kept e b own)) (task ∷ rest) root
  walked_on turns ends left End.Through own task pushes rest made qed =
      gone_through (keeps (follow (with_pool refuses left (pushes ++ rest)) turns)) own task pushes rest (made refl) (taken turns ends left refuses (pushes ++ rest) qed)
  walked_on turns ends left End.Revert own task pushes rest made qed =
      turned_back (keeps (follow (with_pool refuses left (inducted root 1 ∷ [])) turns)) (task ∷ rest) (taken turns ends left refuses (inducted root 1 ∷ []) qed)
  walked_on turns ends left End.Limit own task pushes rest made qed = absurd (cc)
  walked_on turns ends left (End.Stopped reason) own task pushes rest made qed = absurd (cc)

  within_fits : (n : ℕ) (turn : Turn Goal) → (turns_within step_of depth_of inducted root refuses n turn).verdict ≡ Verdict.Qed
      → Ends (keeps (turns_within step_of depth_of inducted root refuses n turn)) (turn.task ∷ turn.rest) root
  unfolding turns_within
  within_fits zero turn qed = absurd (cc)
  within_fits (suc n) turn qed =
      let w = walk step_of depth_of turn.rule turn.task zero_tally in
      walked_on (turns_within step_of depth_of inducted root refuses n) (within_fits n) (rule_after turn.rule w.tally.goals) w.end w.marks turn.task
      (inductions inducted 1 (pushed w.marks)) turn.rest
      (λ through ms fit there. walk_fits turn.rule turn.task zero_tally ms through fit (inducted_there ms 1 (pushed w.marks) there))
      qed

  ends_fit : (ws : List (Walked Goal)) → Ends (λ b. kept_from b ws) (root ∷ []) root → Fit (kept_all ws) × IsAmong (kept_all ws) root.clause
  ends_fit ws (inl r) = subst (λ (ms : List (Visit Goal)). Fit ms × IsAmong ms root.clause) (sym (r.are [])) (r.fit, at_among root r.marks r.there.0)
  ends_fit ws (inr t) = subst (λ (ms : List (Visit Goal)). Fit ms × IsAmong ms root.clause) (sym (t.are [])) (t.fit, t.there)

  attempt_fits : (rule : Rule) → (attempt step_of depth_of inducted root refuses rule root).verdict ≡ Verdict.Qed
      → let ms = kept_all (walks_of (attempt step_of depth_of inducted root refuses rule root)) in Fit ms × IsAmong ms root.clause
  attempt_fits rule qed =
      ends_fit (walks_of (attempt step_of depth_of inducted root refuses rule root)) (within_fits rule.goal_limit (record { task = root; rule = rule; rest = [] }) qed)

-- the marks of an attempt that is proved are enough
pub proved_fits : (c : Clause) (ws : List (Walked Goal)) → IsProvedBy c ws → Fit (kept_all ws) × IsAmong (kept_all ws) c
proved_fits c ws p =
    subst (λ (d : Clause). Fit (kept_all ws) × IsAmong (kept_all ws) d) p.clause
    (subst (λ (vs : List (Walked Goal)). Fit (kept_all vs) × IsAmong (kept_all vs) p.root.clause) (sym p.walks) (attempt_fits p.root p.refuses p.rule p.qed))
