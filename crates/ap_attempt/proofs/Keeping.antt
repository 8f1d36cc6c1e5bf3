-- What an attempt keeps: its walks are few and none but the first is initial, and where its verdict is that
-- the root is proved, the root is good.
use Rattle.std.proofs.Common.{◌≡◌, ℕ, zero, suc, ◌+◌, ◌-◌, ◌≤◌, ◌<◌, Bool, true, false, ◌⊎◌, inl, inr, List, [], ◌∷◌, ◌++◌, Option, Some, None, arith, refl}
use Rattle.ap_list.specs.Lists.{Each}
use Rattle.ap_walk.specs.declared.act.Stepped.{Stepped}
use Rattle.ap_walk.specs.declared.rule.Rule.{Rule}
use Rattle.ap_walk.specs.declared.rule.End.{End}
use Rattle.ap_walk.specs.declared.mark.Walked.{Walked}
use Rattle.ap_walk.specs.Visits.{Tells, IsSplit, out_children}
use Rattle.ap_walk.specs.Tallies.{zero_tally}
use Rattle.ap_walk.specs.Walks.{walk}
use Rattle.ap_walk.specs.Laws.{pushed}
use Rattle.ap_walk.proofs.Goods.{walk_good}
use Rattle.ap_walk.proofs.Bounds.{walk_few_from_zero}
use Rattle.ap_attempt.specs.declared.turn.Turn.{Turn}
use Rattle.ap_attempt.specs.declared.turn.Next.{Next}
use Rattle.ap_attempt.specs.declared.verdict.Verdict.{Verdict}
use Rattle.ap_attempt.specs.Attempts.{Course, walks_of, inductions, rule_after, with_pool, after_walk, next_turn, follow, turns_within, attempt}
use Rattle.ap_attempt.specs.Laws.{mark_count, IsLater, EachAfterFirst}
use Rattle.ap_attempt.proofs.Following.{next_turn_rule, walk_counts}

module _ {T : Type 0} where
  each_append : (P : T → Type 0) (xs ys : List T) → Each P (xs ++ ys) → Each P xs × Each P ys
  each_append P [] ys each = (tt, each)
  each_append P (x ∷ xs) ys each = let more = each_append P xs ys each.1 in ((each.0, more.0), more.1)

  -- where the turn that comes has few marks, so has what follows
  few_next : (next : Next T) (turns : Turn T → Course T) (n : ℕ) → ((turn : Turn T) → next ≡ Next.Walk turn → mark_count (walks_of (turns turn)) ≤ n) → mark_count (walks_of (follow next turns)) ≤ n
  few_next (Next.Done verdict) turns n few = omega arith
  few_next (Next.Walk turn) turns n few = few turn refl

  later_next : (next : Next T) (turns : Turn T → Course T) (P : Walked T → Type 0) → ((turn : Turn T) → next ≡ Next.Walk turn → Each P (walks_of (turns turn))) → Each P (walks_of (follow next turns))
  later_next (Next.Done verdict) turns P later = tt
  later_next (Next.Walk turn) turns P later = later turn refl

module _ {T : Type 0} (step : T → Stepped T) (depth : T → ℕ) (tells : (task : T) → Tells (step task).act.process (step task).out)
    (inducted : T → ℕ → T) (original : T) (refuses : Bool) where
  few_within : (n : ℕ) (turn : Turn T) → mark_count (walks_of (turns_within step depth inducted original refuses n turn)) ≤ turn.rule.goal_limit
  unfolding turns_within
  few_within zero turn = omega arith
  few_within (suc n) turn =
      let w = walk step depth turn.rule turn.task zero_tally in
      let counts = walk_counts step depth tells turn.rule turn.task in
      let few = walk_few_from_zero step depth tells turn.rule turn.task in
      let rest : mark_count (walks_of (follow (next_turn inducted original refuses turn.rule w turn.rest) (turns_within step depth inducted original refuses n))) ≤ turn.rule.goal_limit - w.tally.goals =
      few_next (next_turn inducted original refuses turn.rule w turn.rest) (turns_within step depth inducted original refuses n) (turn.rule.goal_limit - w.tally.goals)
      (λ next is.
      let left = (next_turn_rule inducted original refuses turn.rule w turn.rest next is).1 in
      let fewer = few_within n next in
      omega arith) in
      omega arith

  -- all walks of an attempt together have no more marks than the limit
  pub attempt_few : (rule : Rule) (root : T) → mark_count (walks_of (attempt step depth inducted original refuses rule root)) ≤ rule.goal_limit
  attempt_few rule root = few_within rule.goal_limit _

  later_after : (n : ℕ) (rule : Rule) (w : Walked T) (rest : List T)
      → ((turn : Turn T) → turn.rule.initial ≡ false → Each (IsLater step depth) (walks_of (turns_within step depth inducted original refuses n turn)))
      → Each (IsLater step depth) (walks_of (follow (next_turn inducted original refuses rule w rest) (turns_within step depth inducted original refuses n)))
  later_after n rule w rest later =
      later_next (next_turn inducted original refuses rule w rest) (turns_within step depth inducted original refuses n) (IsLater step depth)
      (λ next is. later next (next_turn_rule inducted original refuses rule w rest next is).0)

  later_within : (n : ℕ) (turn : Turn T) → turn.rule.initial ≡ false → Each (IsLater step depth) (walks_of (turns_within step depth inducted original refuses n turn))
  unfolding turns_within
  later_within zero turn not_initial = tt
  later_within (suc n) turn not_initial =
      let w = walk step depth turn.rule turn.task zero_tally in
      (record { rule = turn.rule; task = turn.task; not_initial = not_initial; is = refl }, later_after n turn.rule w turn.rest (later_within n))

  after_first_within : (n : ℕ) (turn : Turn T) → EachAfterFirst (IsLater step depth) (walks_of (turns_within step depth inducted original refuses n turn))
  unfolding turns_within
  after_first_within zero turn = tt
  after_first_within (suc n) turn =
      later_after n turn.rule (walk step depth turn.rule turn.task zero_tally) turn.rest (later_within n)

  -- no walk of an attempt but the first is initial
  pub attempt_later : (rule : Rule) (root : T) → EachAfterFirst (IsLater step depth) (walks_of (attempt step depth inducted original refuses rule root))
  attempt_later rule root = after_first_within rule.goal_limit _

module _ {T : Type 0} (step : T → Stepped T) (depth : T → ℕ) (good : T → Type 0)
    (tells : (task : T) → Tells (step task).act.process (step task).out)
    (deeper : (task : T) → Each (λ c. depth c < depth task) (out_children (step task).out))
    (whole : (task : T) → IsSplit (step task).out → Each good (out_children (step task).out) → good task)
    (inducted : T → ℕ → T) (by_induction : (task : T) (k : ℕ) → 1 ≤ k → good (inducted task k) → good task)
    (root original : T) (by_original : good original → good root) (refuses : Bool) where
  inductions_good : (k : ℕ) (tasks : List T) → 1 ≤ k → Each good (inductions inducted k tasks) → Each good tasks
  inductions_good k [] from each = tt
  inductions_good k (task ∷ tasks) from each = (by_induction task k from each.0, inductions_good (k + 1) tasks (omega arith) each.1)

  taken_good : (turns : Turn T → Course T) → ((turn : Turn T) → (turns turn).verdict ≡ Verdict.Qed → Each good (turn.task ∷ turn.rest) ⊎ good root)
      → (left : Option Rule) (refused : Bool) (pool : List T) → (follow (with_pool refused left pool) turns).verdict ≡ Verdict.Qed → Each good pool ⊎ good root
  taken_good turns goods left refused [] qed = inl tt
  taken_good turns goods left true (task ∷ rest) qed = absurd (cc)
  taken_good turns goods None false (task ∷ rest) qed = absurd (cc)
  taken_good turns goods (Some rule) false (task ∷ rest) qed = goods _ qed

  root_by_original : Each good (inducted original 1 ∷ []) ⊎ good root → good root
  root_by_original (inl each) = by_original (by_induction original 1 (omega arith) each.0)
  root_by_original (inr is) = is

  own_good : (own rest : List T) (task : T) → (Each good own → good task) → Each good (own ++ rest) ⊎ good root → Each good (task ∷ rest) ⊎ good root
  own_good own rest task made (inl each) = let parts = each_append good own rest each in inl (made parts.0, parts.1)
  own_good own rest task made (inr is) = inr is

  next_good : (turns : Turn T → Course T) → ((turn : Turn T) → (turns turn).verdict ≡ Verdict.Qed → Each good (turn.task ∷ turn.rest) ⊎ good root)
      → (left : Option Rule) (e : End) (own rest : List T) (task : T) → (e ≡ End.Through → Each good own → good task)
      → (follow (after_walk e (with_pool refuses left) (inducted original 1) own rest) turns).verdict ≡ Verdict.Qed → Each good (task ∷ rest) ⊎ good root
  next_good turns goods left End.Through own rest task made qed = own_good own rest task (made refl) (taken_good turns goods left refuses (own ++ rest) qed)
  next_good turns goods left End.Revert own rest task made qed = inr (root_by_original (taken_good turns goods left refuses (inducted original 1 ∷ []) qed))
  next_good turns goods left End.Limit own rest task made qed = absurd (cc)
  next_good turns goods left (End.Stopped reason) own rest task made qed = absurd (cc)

  within_good : (n : ℕ) (turn : Turn T) → (turns_within step depth inducted original refuses n turn).verdict ≡ Verdict.Qed → Each good (turn.task ∷ turn.rest) ⊎ good root
  unfolding turns_within
  within_good zero turn qed = absurd (cc)
  within_good (suc n) turn qed =
      let w = walk step depth turn.rule turn.task zero_tally in
      next_good (turns_within step depth inducted original refuses n) (within_good n) (rule_after turn.rule w.tally.goals) w.end
      (inductions inducted 1 (pushed w.marks)) turn.rest turn.task
      (λ through each. walk_good step depth good tells deeper whole turn.rule turn.task zero_tally through (inductions_good 1 (pushed w.marks) (omega arith) each))
      qed

  first_good : Each good (root ∷ []) ⊎ good root → good root
  first_good (inl each) = each.0
  first_good (inr is) = is

  -- where the verdict of an attempt is that its root is proved, the root is good
  pub attempt_good : (rule : Rule) → (attempt step depth inducted original refuses rule root).verdict ≡ Verdict.Qed → good root
  attempt_good rule qed = first_good (within_good rule.goal_limit _ qed)
