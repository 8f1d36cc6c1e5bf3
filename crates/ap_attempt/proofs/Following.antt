-- What follows a turn.
use Rattle.std.proofs.Common.{◌≡◌, ℕ, zero, suc, ◌-◌, ◌≤◌, ◌<◌, Bool, true, false, List, [], ◌∷◌, ◌++◌, length, Option, Some, None, arith, refl, ap, subst, sym, ◌∙◌, append_assoc}
use Rattle.ap_walk.specs.declared.act.Stepped.{Stepped}
use Rattle.ap_walk.specs.declared.rule.Rule.{Rule}
use Rattle.ap_walk.specs.declared.rule.Tally.{Tally}
use Rattle.ap_walk.specs.declared.rule.End.{End}
use Rattle.ap_walk.specs.declared.mark.Walked.{Walked}
use Rattle.ap_walk.specs.Visits.{Visit, Tells}
use Rattle.ap_walk.specs.Tallies.{zero_tally}
use Rattle.ap_walk.specs.Walks.{walk, and_then, cut, marks_to, all_marks}
use Rattle.ap_walk.proofs.Trees.{walk_is_cut_of_all}
use Rattle.ap_walk.proofs.Stops.{cut_counts}
use Rattle.ap_attempt.specs.declared.turn.Turn.{Turn}
use Rattle.ap_attempt.specs.declared.turn.Next.{Next}
use Rattle.ap_attempt.specs.Attempts.{RootedWalk, Course, with_pool, after_walk, next_turn, follow, walked_first, turn_walk, one_turn, turns_within, turns_from}
use Rattle.ap_attempt.proofs.Lowering.{next_rule}

module _ {T : Type 0} where
  -- walks that were made, and then those of this course, are those of the whole one
  pub record EndsWith (made : List (RootedWalk T)) (rest whole : Course T) : Type 0 where
    pub verdict : rest.verdict ≡ whole.verdict
    pub walks : made ++ rest.walks ≡ whole.walks

  turn_back : (a b : Turn T) → Next.Walk a ≡ Next.Walk b → a ≡ b
  turn_back a b is = cc

  -- a turn is taken only under the rule that is left
  taken_rule : (refuses : Bool) (left : Option Rule) (pool : List T) (turn : Turn T) → with_pool refuses left pool ≡ Next.Walk turn → left ≡ Some turn.rule
  taken_rule refuses left [] turn is = absurd (cc)
  taken_rule true left (task ∷ rest) turn is = absurd (cc)
  taken_rule false None (task ∷ rest) turn is = absurd (cc)
  taken_rule false (Some rule) (task ∷ rest) turn is = ap (λ (t : Turn T). Some t.rule) (turn_back _ turn is)

  next_by_rule : (e : End) (refuses : Bool) (left : Option Rule) (original : T) (own rest : List T) (turn : Turn T)
      → after_walk e (with_pool refuses left) original own rest ≡ Next.Walk turn → left ≡ Some turn.rule
  next_by_rule End.Through refuses left original own rest turn is = taken_rule refuses left (own ++ rest) turn is
  next_by_rule End.Revert refuses left original own rest turn is = taken_rule refuses left (original ∷ []) turn is
  next_by_rule End.Limit refuses left original own rest turn is = absurd (cc)
  next_by_rule (End.Stopped reason) refuses left original own rest turn is = absurd (cc)

  -- the turn after a walk isn't initial, and has the goals that the walk left
  pub next_turn_rule : (inducted : T → ℕ → T) (original : T) (refuses : Bool) (rule : Rule) (w : Walked T) (rest : List T) (turn : Turn T)
      → next_turn inducted original refuses rule w rest ≡ Next.Walk turn → (turn.rule.initial ≡ false) × (turn.rule.goal_limit ≡ rule.goal_limit - w.tally.goals)
  next_turn_rule inducted original refuses rule w rest turn is =
      next_rule rule turn.rule w.tally.goals (next_by_rule w.end refuses _ _ _ rest turn is)

  -- what follows counts only at the turn that comes
  pub follow_same : (next : Next T) (f g : Turn T → Course T) → ((turn : Turn T) → next ≡ Next.Walk turn → f turn ≡ g turn) → follow next f ≡ follow next g
  follow_same (Next.Done verdict) f g same = refl
  follow_same (Next.Walk turn) f g same = same turn refl

  and_then_some : (e : End) (x : Visit T) (t : Tally) (f : Tally → Walked T) → 1 ≤ length (and_then (record { marks = x ∷ []; tally = t; end = e }) f).marks
  and_then_some End.Through x t f = omega arith
  and_then_some End.Revert x t f = omega arith
  and_then_some End.Limit x t f = omega arith
  and_then_some (End.Stopped reason) x t f = omega arith

  cut_some : (rule : Rule) (t : Tally) (x : Visit T) (xs : List (Visit T)) → 1 ≤ length (cut rule t (x ∷ xs)).marks
  unfolding cut
  cut_some rule t x xs = and_then_some _ x _ (λ u. cut rule u xs)

  cut_all_some : (step : T → Stepped T) (rule : Rule) (n : ℕ) (task : T) (t : Tally) → 1 ≤ length (cut rule t (marks_to step n task)).marks
  unfolding marks_to
  cut_all_some step rule zero task t = cut_some rule t _ _
  cut_all_some step rule (suc n) task t = cut_some rule t _ _

module _ {T : Type 0} (step : T → Stepped T) (depth : T → ℕ) (tells : (task : T) → Tells (step task).act.process (step task).out) where
  -- a walk counts its marks, and has one at least
  pub walk_counts : (rule : Rule) (task : T) → let w = walk step depth rule task zero_tally in (w.tally.goals ≡ length w.marks) × (1 ≤ length w.marks)
  walk_counts rule task =
      let P : Walked T → Type 0 = λ w. (w.tally.goals ≡ length w.marks) × (1 ≤ length w.marks) in
      let marks = all_marks step depth task in
      subst P (sym (walk_is_cut_of_all step depth tells rule task zero_tally))
      (let counts = cut_counts rule zero_tally marks in omega arith, cut_all_some step rule (depth task) task zero_tally)

  module _ (inducted : T → ℕ → T) (original : T) (refuses : Bool) where
    -- the turn after a turn has fewer goals left
    pub fewer_left : (turn next : Turn T) → let w = walk step depth turn.rule turn.task zero_tally in
        next_turn inducted original refuses turn.rule w turn.rest ≡ Next.Walk next → next.rule.goal_limit < turn.rule.goal_limit
    fewer_left turn next is =
        let counts = walk_counts turn.rule turn.task in
        let left = (next_turn_rule inducted original refuses turn.rule (walk step depth turn.rule turn.task zero_tally) turn.rest next is).1 in
        let some = turn.rule.limited.0 in
        omega arith

    -- as many goals as are left are enough
    enough : (m n : ℕ) (turn : Turn T) → turn.rule.goal_limit ≤ m → turn.rule.goal_limit ≤ n
        → turns_within step depth inducted original refuses m turn ≡ turns_within step depth inducted original refuses n turn
    unfolding turns_within
    enough zero n turn below more = absurd (let some = turn.rule.limited.0 in omega arith)
    enough (suc m) zero turn below more = absurd (let some = turn.rule.limited.0 in omega arith)
    enough (suc m) (suc n) turn below more =
        let w = walk step depth turn.rule turn.task zero_tally in
        ap (walked_first (turn_walk turn w))
        (follow_same (next_turn inducted original refuses turn.rule w turn.rest)
        (turns_within step depth inducted original refuses m) (turns_within step depth inducted original refuses n)
        (λ next is. let fewer = fewer_left turn next is in enough m n next (omega arith) (omega arith)))

    once : (n : ℕ) (turn : Turn T) → turn.rule.goal_limit ≤ n
        → turns_within step depth inducted original refuses n turn
        ≡ one_turn step depth inducted original refuses (turns_from step depth inducted original refuses) turn
    unfolding turns_within
    once zero turn below = absurd (let some = turn.rule.limited.0 in omega arith)
    once (suc n) turn below =
        let w = walk step depth turn.rule turn.task zero_tally in
        ap (walked_first (turn_walk turn w))
        (follow_same (next_turn inducted original refuses turn.rule w turn.rest)
        (turns_within step depth inducted original refuses n) (turns_from step depth inducted original refuses)
        (λ next is. let fewer = fewer_left turn next is in enough n next.rule.goal_limit next (omega arith) (omega arith)))

    -- a turn and all that follow it are the turn, and all that follow the next one
    pub turns_from_is : (turn : Turn T) → turns_from step depth inducted original refuses turn
        ≡ one_turn step depth inducted original refuses (turns_from step depth inducted original refuses) turn
    turns_from_is turn = once turn.rule.goal_limit turn (omega arith)

    -- what has been walked, and then this turn's walk with what follows it
    pub turned : (before : List (RootedWalk T)) (turn : Turn T) (w : Walked T) (next : Next T) (whole : Course T)
        → EndsWith before (turns_from step depth inducted original refuses turn) whole
        → w ≡ walk step depth turn.rule turn.task zero_tally → next ≡ next_turn inducted original refuses turn.rule w turn.rest
        → EndsWith (before ++ turn_walk turn w ∷ []) (follow next (turns_from step depth inducted original refuses)) whole
    turned before turn w next whole to_come is follows =
        let turns = turns_from step depth inducted original refuses in
        let after : Walked T → Course T = λ v. walked_first (turn_walk turn v) (follow (next_turn inducted original refuses turn.rule v turn.rest) turns) in
        record {
          verdict =
              ap (λ n. (follow n turns).verdict) follows
              ∙ ap (λ v. (after v).verdict) is
              ∙ ap (λ (c : Course T). c.verdict) (sym (turns_from_is turn))
              ∙ to_come.verdict;
          walks =
              append_assoc before (turn_walk turn w ∷ []) _
              ∙ ap (λ n. before ++ turn_walk turn w ∷ (follow n turns).walks) follows
              ∙ ap (λ v. before ++ (after v).walks) is
              ∙ ap (λ (c : Course T). before ++ c.walks) (sym (turns_from_is turn))
              ∙ to_come.walks;
        }

    pub turn_shrinks : (turn : Turn T) (w : Walked T) (next : Next T) (after : Turn T)
        → w ≡ walk step depth turn.rule turn.task zero_tally → next ≡ next_turn inducted original refuses turn.rule w turn.rest
        → next ≡ Next.Walk after → after.rule.goal_limit < turn.rule.goal_limit
    turn_shrinks turn w next after is follows walks_on =
        fewer_left turn after (ap (λ v. next_turn inducted original refuses turn.rule v turn.rest) (sym is) ∙ sym follows ∙ walks_on)

    only_within : (follows : Turn T → Course T) → ((turn : Turn T) → follows turn ≡ one_turn step depth inducted original refuses follows turn)
        → (n : ℕ) (turn : Turn T) → turn.rule.goal_limit ≤ n → follows turn ≡ turns_from step depth inducted original refuses turn
    only_within follows goes zero turn below = absurd (let some = turn.rule.limited.0 in omega arith)
    only_within follows goes (suc n) turn below =
        let w = walk step depth turn.rule turn.task zero_tally in
        goes turn
        ∙ ap (walked_first (turn_walk turn w))
        (follow_same (next_turn inducted original refuses turn.rule w turn.rest) follows (turns_from step depth inducted original refuses)
        (λ next is. let fewer = fewer_left turn next is in only_within follows goes n next (omega arith)))
        ∙ sym (turns_from_is turn)

    -- only one function goes turn by turn
    pub only_turns : (follows : Turn T → Course T) → ((turn : Turn T) → follows turn ≡ one_turn step depth inducted original refuses follows turn)
        → (turn : Turn T) → follows turn ≡ turns_from step depth inducted original refuses turn
    only_turns follows goes turn = only_within follows goes turn.rule.goal_limit turn (omega arith)
