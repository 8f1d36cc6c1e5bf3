-- What is kept of the children of a node tells where their family stops.
use Rattle.std.proofs.Common.{◌≡◌, ℕ, zero, suc, ◌+◌, ◌<◌, true, false, ◌||◌, nat_eq, nat_le, cond, min, List, [], ◌∷◌, length, Option, Some, None, refl, sym, ap, subst, ◌∙◌, arith, inl, inr}
use Rattle.std.proofs.lemmas.Bool.Decides.{nat_tests}
use Rattle.std.specs.List.{slice_get}
use Rattle.ap_walk.specs.declared.act.Stepped.{Stepped}
use Rattle.ap_walk.specs.declared.rule.Rule.{Rule}
use Rattle.ap_walk.specs.declared.rule.Tally.{Tally}
use Rattle.ap_walk.specs.declared.rule.End.{End}
use Rattle.ap_walk.specs.declared.mark.Walked.{Walked}
use Rattle.ap_word.specs.declared.family.Counted.{Counted}
use Rattle.ap_word.specs.Stops.{NONE, nothing_counted, stops, add, known, known_from, known_stop}
use Rattle.ap_table.specs.Core.{Phase, Node, free, claimed, expanded, put, closed, dropped, numbers_of, phase_walk, node_walk, walks_of, children, known_of}
use Rattle.ap_table.specs.Sound.{Family, SoundBut}
use Rattle.ap_table.specs.declared.stored.Sum.{Sum}
use Rattle.ap_table.specs.declared.stored.Told.{Told}
use Rattle.ap_table.specs.declared.stored.Stored.{Stored}
use Rattle.ap_table.specs.declared.stored.Stage.{Stage}
use Rattle.ap_table.specs.declared.stored.Stage.TheVariants as stage
use Rattle.ap_table.specs.Shown.{SumShows, StageShows, AllShow}
use Rattle.ap_table.specs.Sums.{through_tally, stage_sum, sum_at, sums_of, weight, total, pushes_of, goals_of, ended_of, sum_stops, sum_first, IsTold}
use Rattle.ap_table.proofs.Keeping.{are_full}
use Rattle.ap_table.proofs.Dropping.{one_counted, OneShows, SumsShow, sums_counted, known_same}
use Rattle.ap_table.proofs.Totals.{Sums, same_sum, total_zero, sum_less, length_sums}

-- a place, where there is one
abbrev pub stop_place : ℕ → Option ℕ
stop_place n = cond (nat_eq n NONE) None (Some n)

abbrev Like : Counted → Sum → Type 0
Like c s = (c.pushes ≡ s.pushes) × (c.goals ≡ s.goals) × (c.stopped ≡ nat_le 1 s.ended)

abbrev also : Sum → Sum → Sum
also a b = record { pushes = a.pushes + b.pushes; goals = a.goals + b.goals; ended = a.ended + b.ended }

like_stops : (rule : Rule) (c : Counted) (s : Sum) → Like c s → stops (numbers_of rule) c ≡ sum_stops rule s
unfolding stops sum_stops
like_stops rule c s l = rw (l.0, l.1, l.2) refl

or_le : (x y : ℕ) → (nat_le 1 x || nat_le 1 y) ≡ nat_le 1 (x + y)
or_le zero y = ap (nat_le 1) (let e : y ≡ 0 + y = omega arith in e)
or_le (suc x) y = grind (arith, nat_tests)

like_one : (o : Option (Option Tally)) → Like (known (one_counted o)) (weight o)
like_one None = (refl, refl, refl)
like_one (Some None) = (refl, refl, refl)
like_one (Some (Some t)) = (refl, refl, refl)

like_add : (c d : Counted) (s t : Sum) → Like c s → Like d t → Like (add c d) (also s t)
like_add c d s t a b = (let x = a.0 in let y = b.0 in omega arith, let x = a.1 in let y = b.1 in omega arith, rw (a.2, b.2) (or_le s.ended t.ended))

also_first : (b : Sum) (o : Option (Option Tally)) (os : Sums) (u : ℕ) → also b (sum_first (o ∷ os) (suc u)) ≡ also (also b (weight o)) (sum_first os u)
unfolding total
also_first b o os u = same_sum _ _ (omega arith) (omega arith) (omega arith)

also_zero : (b : Sum) (os : Sums) → also b (sum_first os 0) ≡ b
also_zero b os = same_sum _ _ (let z = total_zero pushes_of os in omega arith) (let z = total_zero goals_of os in omega arith) (let z = total_zero ended_of os in omega arith)

pub not_none : (n : ℕ) → n < NONE → nat_eq n NONE ≡ false
not_none n h = grind (arith, nat_tests)

module _ (rule : Rule) where
  short_of : (b : Sum) (os : Sums) (u : ℕ) → sum_stops rule (also b (sum_first os u)) ≡ false → sum_stops rule b ≡ false
  short_of b os u h = sum_less rule b (also b (sum_first os u)) (omega arith) (omega arith) (omega arith) h

  first_stop : (c : Counted) (b : Sum) (os : Sums) (p i j : ℕ) → j ≡ i + 1 → Like c b → i < length os → sum_stops rule (also b (sum_first os i)) ≡ false → sum_stops rule (also b (sum_first os j)) ≡ true
      → known_from (numbers_of rule) c p (sums_counted os) ≡ Some (p + i)
  unfolding known_from
  first_stop c b [] p i j e l lt before at = absurd (omega arith)
  first_stop c b (o ∷ os) p i zero e l lt before at = absurd (omega arith)
  first_stop c b (o ∷ os) p zero (suc zero) e l lt before at =
      let yes : stops (numbers_of rule) (add c (known (one_counted o))) ≡ true =
      like_stops rule (add c (known (one_counted o))) (also b (weight o)) (like_add c (known (one_counted o)) b (weight o) l (like_one o))
      ∙ (ap (sum_stops rule) (sym (also_first b o os zero ∙ also_zero (also b (weight o)) os)) ∙ at) in
      ap (λ x. cond x (Some p) (known_from (numbers_of rule) (add c (known (one_counted o))) (p + 1) (sums_counted os))) yes ∙ ap (λ (n : ℕ). Some n) (let z : p ≡ p + 0 = omega arith in z)
  first_stop c b (o ∷ os) p zero (suc (suc j)) e l lt before at = absurd (omega arith)
  first_stop c b (o ∷ os) p (suc i) (suc j) e l lt before at =
      let l' = like_add c (known (one_counted o)) b (weight o) l (like_one o) in
      let short : sum_stops rule (also (also b (weight o)) (sum_first os i)) ≡ false = ap (sum_stops rule) (sym (also_first b o os i)) ∙ before in
      let no : stops (numbers_of rule) (add c (known (one_counted o))) ≡ false = like_stops rule (add c (known (one_counted o))) (also b (weight o)) l' ∙ short_of (also b (weight o)) os i short in
      ap (λ x. cond x (Some p) (known_from (numbers_of rule) (add c (known (one_counted o))) (p + 1) (sums_counted os))) no
      ∙ (first_stop (add c (known (one_counted o))) (also b (weight o)) os (p + 1) i j (omega arith) l' (omega arith) short (ap (sum_stops rule) (sym (also_first b o os j)) ∙ at)
      ∙ ap (λ (n : ℕ). Some n) (let z : p + 1 + i ≡ p + suc i = omega arith in z))

  -- none of the siblings stops
  no_stop : (c : Counted) (b : Sum) (os : Sums) (p : ℕ) → Like c b → sum_stops rule (also b (sum_first os (length os))) ≡ false → known_from (numbers_of rule) c p (sums_counted os) ≡ None
  unfolding known_from
  no_stop c b [] p l h = refl
  no_stop c b (o ∷ os) p l h =
      let l' = like_add c (known (one_counted o)) b (weight o) l (like_one o) in
      let short : sum_stops rule (also (also b (weight o)) (sum_first os (length os))) ≡ false = ap (sum_stops rule) (sym (also_first b o os (length os))) ∙ h in
      let no : stops (numbers_of rule) (add c (known (one_counted o))) ≡ false = like_stops rule (add c (known (one_counted o))) (also b (weight o)) l' ∙ short_of (also b (weight o)) os (length os) short in
      ap (λ x. cond x (Some p) (known_from (numbers_of rule) (add c (known (one_counted o))) (p + 1) (sums_counted os))) no
      ∙ no_stop (add c (known (one_counted o))) (also b (weight o)) os (p + 1) l' short

  from_zero : (s : Sum) → (let z : Sum = record { pushes = 0; goals = 0; ended = 0 } in also z s) ≡ s
  from_zero s = same_sum _ _ (omega arith) (omega arith) (omega arith)

  -- what is told is the known stop
  pub told_is : (os : Sums) (t : Told) → length os < NONE → IsTold rule os t → known_stop (numbers_of rule) (sums_counted os) ≡ stop_place t.stop
  told_is os t few k =
      let z : Sum = record { pushes = 0; goals = 0; ended = 0 } in
      let l : Like nothing_counted z = (refl, refl, refl) in
      elim k.stop [
        | inl none ↦
            let m : min t.stop (length os) ≡ length os = omega arith in
            no_stop nothing_counted z os 0 l (ap (sum_stops rule) (from_zero (sum_first os (length os)) ∙ sym (k.sum ∙ ap (sum_first os) m)) ∙ k.before)
            ∙ sym (ap stop_place none)
        | inr at ↦
            let m : min t.stop (length os) ≡ t.stop = (let lt = at.0 in omega arith) in
            first_stop nothing_counted z os 0 t.stop (t.stop + 1) refl l at.0
            (ap (sum_stops rule) (from_zero (sum_first os t.stop) ∙ sym (k.sum ∙ ap (sum_first os) m)) ∙ k.before)
            (ap (sum_stops rule) (from_zero (sum_first os (t.stop + 1))) ∙ at.1)
            ∙ (ap (λ (n : ℕ). Some n) (let e : 0 + t.stop ≡ t.stop = omega arith in e)
            ∙ sym (ap (λ b. cond b None (Some t.stop)) (not_none t.stop (let lt = at.0 in omega arith))))
      ]

module _ {T : Type 0} where
  end_shows : (w : Walked T) (e : End) → w.end ≡ e → SumShows (through_tally e w.tally) w
  end_shows w End.Through is = (is, refl)
  end_shows w End.Revert is = λ h. absurd (let x = sym is ∙ h in cc)
  end_shows w End.Limit is = λ h. absurd (let x = sym is ∙ h in cc)
  end_shows w (End.Stopped r) is = λ h. absurd (let x = sym is ∙ h in cc)

  pub through_shows : (w : Walked T) → SumShows (through_tally w.end w.tally) w
  through_shows w = end_shows w w.end refl

  stage_shows : (t : T) (c n : ℕ) (s : Stage T) (p : Phase T) → StageShows t c n s p → OneShows (stage_sum s) (phase_walk p)
  stage_shows t c n (stage.Free x) free h = tt
  stage_shows t c n (stage.Free x) claimed h = tt
  stage_shows t c n (stage.Free x) expanded h = tt
  stage_shows t c n (stage.Free x) (dropped l) h = tt
  stage_shows t c n (stage.Free x) (put w) h = absurd h
  stage_shows t c n (stage.Free x) (closed w) h = absurd h
  stage_shows t c n stage.Claimed free h = tt
  stage_shows t c n stage.Claimed claimed h = tt
  stage_shows t c n stage.Claimed expanded h = tt
  stage_shows t c n stage.Claimed (dropped l) h = tt
  stage_shows t c n stage.Claimed (put w) h = absurd h
  stage_shows t c n stage.Claimed (closed w) h = absurd h
  stage_shows t c n stage.Expanded free h = tt
  stage_shows t c n stage.Expanded claimed h = tt
  stage_shows t c n stage.Expanded expanded h = tt
  stage_shows t c n stage.Expanded (dropped l) h = tt
  stage_shows t c n stage.Expanded (put w) h = absurd h
  stage_shows t c n stage.Expanded (closed w) h = absurd h
  stage_shows t c n (stage.Dropped x) free h = tt
  stage_shows t c n (stage.Dropped x) claimed h = tt
  stage_shows t c n (stage.Dropped x) expanded h = tt
  stage_shows t c n (stage.Dropped x) (dropped l) h = tt
  stage_shows t c n (stage.Dropped x) (put w) h = absurd h
  stage_shows t c n (stage.Dropped x) (closed w) h = absurd h
  stage_shows t c n (stage.Put v) free h = absurd h
  stage_shows t c n (stage.Put v) claimed h = absurd h
  stage_shows t c n (stage.Put v) expanded h = absurd h
  stage_shows t c n (stage.Put v) (dropped l) h = absurd h
  stage_shows t c n (stage.Put v) (put w) h = subst (λ (x : Walked T). SumShows (through_tally x.end x.tally) w) (sym h) (through_shows w)
  stage_shows t c n (stage.Put v) (closed w) h = absurd h
  stage_shows t c n (stage.Closed s) free h = absurd h
  stage_shows t c n (stage.Closed s) claimed h = absurd h
  stage_shows t c n (stage.Closed s) expanded h = absurd h
  stage_shows t c n (stage.Closed s) (dropped l) h = absurd h
  stage_shows t c n (stage.Closed s) (put w) h = absurd h
  stage_shows t c n (stage.Closed s) (closed w) h = h.0

module _ {T : Type 0} (step : T → Stepped T) where
  pub one_shown : (cs : List (Stored T)) (ns : List (Node T)) (k : ℕ) → AllShow step cs ns → OneShows (sum_at None cs k) (node_walk (slice_get ns k))
  one_shown [] [] k a = tt
  one_shown [] (n ∷ ns) k a = absurd a
  one_shown (c ∷ cs) [] k a = absurd a
  one_shown (c ∷ cs) (n ∷ ns) zero a = stage_shows n.task c.count _ c.stage n.phase a.0.stage
  one_shown (c ∷ cs) (n ∷ ns) (suc k) a = one_shown cs ns k a.1

  pub sums_shown : (cs : List (Stored T)) (ns : List (Node T)) (first c : ℕ) → AllShow step cs ns → SumsShow (sums_of None cs first c) (walks_of ns first c)
  unfolding sums_of walks_of
  sums_shown cs ns first zero a = tt
  sums_shown cs ns first (suc c) a = (one_shown cs ns first a, sums_shown cs ns (first + 1) c a)

module _ {T : Type 0} (step : T → Stepped T) (depth : T → ℕ) (rule : Rule) where
  -- the known stop of a node is what its kept node tells
  pub told_known : (q : Option ℕ) (cs : List (Stored T)) (ns : List (Node T)) (k : ℕ) (n : Node T) (first : ℕ) (t : Told) → SoundBut step depth rule q ns → AllShow step cs ns → Family ns k n.path n.first 0 (children step depth rule n.task) → first ≡ n.first
      → length (children step depth rule n.task) < NONE → IsTold rule (sums_of None cs first (length (children step depth rule n.task))) t → known_of step depth rule ns n ≡ stop_place t.stop
  told_known q cs ns k n first t s a f e few h =
      let ts = children step depth rule n.task in
      let l = length_sums None cs n.first (length ts) in
      sym (known_same step depth rule nothing_counted 0 ts (sums_of None cs n.first (length ts)) (walks_of ns n.first (length ts)) (are_full step depth rule q ns k n.path n.first 0 ts s f) (sums_shown step cs ns n.first (length ts) a))
      ∙ told_is rule (sums_of None cs n.first (length ts)) t (omega arith) (subst (λ (i : ℕ). IsTold rule (sums_of None cs i (length ts)) t) e h)
