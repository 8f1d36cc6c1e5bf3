-- Sums over the children of a node.
use Rattle.std.proofs.Common.{◌≡◌, ◌≢◌, ℕ, zero, suc, ◌+◌, ◌-◌, ◌≤◌, ◌<◌, Bool, true, false, ◌||◌, nat_le, cond, min, List, [], ◌∷◌, length, Option, Some, None, refl, sym, ap, subst, ◌∙◌, arith, inl, inr, ◌⊎◌}
use Rattle.std.proofs.lemmas.Bool.{cases_lt}
use Rattle.std.proofs.lemmas.Bool.Decides.{nat_tests}
use Rattle.std.specs.List.{slice_get}
use Rattle.ap_list.specs.Lists.{Each}
use Rattle.ap_walk.specs.declared.rule.Rule.{Rule}
use Rattle.ap_walk.specs.declared.rule.Tally.{Tally}
use Rattle.ap_walk.specs.Tallies.{can_revert}
use Rattle.ap_word.specs.Stops.{NONE, reaches}
use Rattle.ap_table.specs.Core.{numbers_of}
use Rattle.ap_table.specs.Laws.{FrontDone}
use Rattle.ap_table.specs.declared.stored.Sum.{Sum}
use Rattle.ap_table.specs.declared.stored.Told.{Told}
use Rattle.ap_table.specs.declared.stored.Stored.{Stored}
use Rattle.ap_table.specs.Sums.{kept_sum, sum_at, sums_of, weight, total, pushes_of, goals_of, ended_of, sum_stops, sum_first, InGoals, IsTold}
use Rattle.ap_table.proofs.Ordering.{not_eq, eq_case}

abbrev pub Sums : Type 0
Sums = List (Option (Option Tally))

sum_by : (p q g h d e : ℕ) → p ≡ q → g ≡ h → d ≡ e → (let a : Sum = record { pushes = p; goals = g; ended = d } in a) ≡ (let b : Sum = record { pushes = q; goals = h; ended = e } in b)
sum_by p q g h d e a b c = cc

pub same_sum : (a b : Sum) → a.pushes ≡ b.pushes → a.goals ≡ b.goals → a.ended ≡ b.ended → a ≡ b
same_sum a b p g e = sum_by a.pushes b.pushes a.goals b.goals a.ended b.ended p g e

pub total_zero : (f : Option (Option Tally) → ℕ) (os : Sums) → total f os 0 ≡ 0
unfolding total
total_zero f os = refl

pub total_next : (f : Option (Option Tally) → ℕ) (os : Sums) (u j : ℕ) (o : Option (Option Tally)) → j ≡ u + 1 → slice_get os u ≡ Some o → total f os j ≡ total f os u + f o
unfolding total
total_next f [] u j o e at = absurd (cc)
total_next f (x ∷ os) u zero o e at = absurd (omega arith)
total_next f (x ∷ os) zero (suc zero) o e at = (let i : f x ≡ f o = ap f (let y : x ≡ o = cc in y) in let z = total_zero f os in omega arith)
total_next f (x ∷ os) zero (suc (suc j)) o e at = absurd (omega arith)
total_next f (x ∷ os) (suc u) (suc j) o e at = (let h = total_next f os u j o (omega arith) at in omega arith)

pub total_more : (f : Option (Option Tally) → ℕ) (os : Sums) (u v : ℕ) → u ≤ v → total f os u ≤ total f os v
unfolding total
total_more f os zero v h = omega arith
total_more f [] (suc u) zero h = omega arith
total_more f [] (suc u) (suc v) h = omega arith
total_more f (x ∷ os) (suc u) zero h = absurd (omega arith)
total_more f (x ∷ os) (suc u) (suc v) h = (let m = total_more f os u v (omega arith) in omega arith)

no_test : (a b c : Bool) → a ≡ false → b ≡ false → c ≡ false → (a || b || c) ≡ false
no_test false false false e f g = refl
no_test true b c e f g = cc
no_test false true c e f g = cc
no_test false false true e f g = cc

zero_reaches : (b : Bool) (r : ℕ) → 2 ≤ r → reaches (cond b (Some r) None) 0 ≡ false
zero_reaches true r some = grind (arith, nat_tests)
zero_reaches false r some = refl

abbrev pub zero_sum : Sum
zero_sum = record { pushes = 0; goals = 0; ended = 0 }

pub zero_goes_on : (rule : Rule) → 1 ≤ rule.goal_limit → sum_stops rule zero_sum ≡ false
unfolding sum_stops
zero_goes_on rule h = no_test (nat_le 1 0) (reaches (numbers_of rule).revert 0) (nat_le rule.goal_limit 0) refl (zero_reaches (can_revert rule) rule.revert rule.reverting.0) (grind (arith, nat_tests))

or_true : (a b c : Bool) → (a || b || c) ≡ true → (a ≡ true) ⊎ (b ≡ true) ⊎ (c ≡ true)
or_true true b c e = inl refl
or_true false true c e = inr (inl refl)
or_true false false true e = inr (inr refl)
or_true false false false e = absurd (cc)

true_or : (a b c : Bool) → (a ≡ true) ⊎ (b ≡ true) ⊎ (c ≡ true) → (a || b || c) ≡ true
true_or true b c h = refl
true_or false true c h = refl
true_or false false true h = refl
true_or false false false h = elim h [ inl x ↦ absurd (cc) | inr y ↦ elim y [ inl x ↦ absurd (cc) | inr z ↦ absurd (cc) ] ]

le_more : (n a b : ℕ) → a ≤ b → nat_le n a ≡ true → nat_le n b ≡ true
le_more n a b h e = grind (arith, nat_tests)

reaches_more : (o : Option ℕ) (a b : ℕ) → a ≤ b → reaches o a ≡ true → reaches o b ≡ true
reaches_more None a b h e = e
reaches_more (Some n) a b h e = le_more n a b h e

not_true : (b : Bool) → (b ≡ true → ⊥) → b ≡ false
not_true true h = absurd (h refl)
not_true false h = refl

-- siblings that come to more stop too
pub sum_more : (rule : Rule) (s t : Sum) → s.pushes ≤ t.pushes → s.goals ≤ t.goals → s.ended ≤ t.ended → sum_stops rule s ≡ true → sum_stops rule t ≡ true
unfolding sum_stops
sum_more rule s t p g e h =
    true_or (nat_le 1 t.ended) (reaches (numbers_of rule).revert t.pushes) (nat_le rule.goal_limit t.goals)
    (elim (or_true (nat_le 1 s.ended) (reaches (numbers_of rule).revert s.pushes) (nat_le rule.goal_limit s.goals) h) [
      | inl x ↦ inl (le_more 1 s.ended t.ended e x)
      | inr y ↦ elim y [ inl x ↦ inr (inl (reaches_more (numbers_of rule).revert s.pushes t.pushes p x)) | inr x ↦ inr (inr (le_more rule.goal_limit s.goals t.goals g x)) ]
    ])

pub sum_less : (rule : Rule) (s t : Sum) → s.pushes ≤ t.pushes → s.goals ≤ t.goals → s.ended ≤ t.ended → sum_stops rule t ≡ false → sum_stops rule s ≡ false
sum_less rule s t p g e h = not_true (sum_stops rule s) (λ x. let y = sum_more rule s t p g e x in cc)

shorts : (a b c : Bool) (e g l : ℕ) → nat_le 1 e ≡ a → nat_le l g ≡ c → (a || b || c) ≡ false → (e < 1) × (b ≡ false) × (g < l)
shorts false false false e g l i k h = (grind (arith, nat_tests), refl, grind (arith, nat_tests))
shorts true b c e g l i k h = absurd (cc)
shorts false true c e g l i k h = absurd (cc)
shorts false false true e g l i k h = absurd (cc)

-- what goes on is short of each number
pub goes_on : (rule : Rule) (s : Sum) → sum_stops rule s ≡ false → (s.ended < 1) × (reaches (numbers_of rule).revert s.pushes ≡ false) × (s.goals < rule.goal_limit)
unfolding sum_stops
goes_on rule s h = shorts (nat_le 1 s.ended) (reaches (numbers_of rule).revert s.pushes) (nat_le rule.goal_limit s.goals) s.ended s.goals rule.goal_limit refl refl h

module _ {T : Type 0} where
  pub length_sums : (h : Option ℕ) (nodes : List (Stored T)) (first c : ℕ) → length (sums_of h nodes first c) ≡ c
  unfolding sums_of
  length_sums h nodes first zero = refl
  length_sums h nodes first (suc c) = ap suc (length_sums h nodes (first + 1) c)

  pub sums_get : (h : Option ℕ) (nodes : List (Stored T)) (first c u : ℕ) → u < c → slice_get (sums_of h nodes first c) u ≡ Some (sum_at h nodes (first + u))
  unfolding sums_of
  sums_get h nodes first zero u l = absurd (omega arith)
  sums_get h nodes first (suc c) zero l = ap (λ (n : ℕ). Some (sum_at h nodes n)) (let z : first ≡ first + 0 = omega arith in z)
  sums_get h nodes first (suc c) (suc u) l = sums_get h nodes (first + 1) c u (omega arith) ∙ ap (λ (n : ℕ). Some (sum_at h nodes n)) (let z : first + 1 + u ≡ first + suc u = omega arith in z)

pub front_next : (os : Sums) (u j : ℕ) (s : Option Tally) → j ≡ u + 1 → slice_get os u ≡ Some (Some s) → FrontDone os u → FrontDone os j
front_next [] u j s e at h = absurd (cc)
front_next (None ∷ os) u zero s e at h = absurd (omega arith)
front_next (Some x ∷ os) u zero s e at h = absurd (omega arith)
front_next (None ∷ os) zero (suc j) s e at h = absurd (cc)
front_next (None ∷ os) (suc u) (suc j) s e at h = absurd h
front_next (Some x ∷ os) zero (suc zero) s e at h = tt
front_next (Some x ∷ os) zero (suc (suc j)) s e at h = absurd (omega arith)
front_next (Some x ∷ os) (suc u) (suc j) s e at h = front_next os u j s (omega arith) at h

-- one sibling less
pub first_less : (os : Sums) (at : ℕ) (s less : Sum) (o : Option (Option Tally)) → 0 < at → s ≡ sum_first os at → slice_get os (at - 1) ≡ Some o → less ≡ weight o
    → (less.pushes ≤ s.pushes) × (less.goals ≤ s.goals) × (less.ended ≤ s.ended) × ((let t : Sum = record { pushes = s.pushes - less.pushes; goals = s.goals - less.goals; ended = s.ended - less.ended } in t) ≡ sum_first os (at - 1))
first_less os at s less o some e get l =
    let p = total_next pushes_of os (at - 1) at o (omega arith) get in
    let g = total_next goals_of os (at - 1) at o (omega arith) get in
    let d = total_next ended_of os (at - 1) at o (omega arith) get in
    let sp : s.pushes ≡ total pushes_of os at = ap (λ x. x.pushes) e in
    let sg : s.goals ≡ total goals_of os at = ap (λ x. x.goals) e in
    let sd : s.ended ≡ total ended_of os at = ap (λ x. x.ended) e in
    let lp : less.pushes ≡ pushes_of o = ap (λ x. x.pushes) l in
    let lg : less.goals ≡ goals_of o = ap (λ x. x.goals) l in
    let ld : less.ended ≡ ended_of o = ap (λ x. x.ended) l in
    (omega arith, omega arith, omega arith, same_sum _ _ (omega arith) (omega arith) (omega arith))

pub none_stops : (rule : Rule) (os : Sums) (at : ℕ) (s : Sum) → at ≤ 0 → 1 ≤ rule.goal_limit → s ≡ sum_first os at → sum_stops rule s ≡ false
unfolding total
none_stops rule os zero s h l e = ap (sum_stops rule) e ∙ zero_goes_on rule l
none_stops rule os (suc at) s h l e = absurd (omega arith)

first_or : (a b c : Bool) → a ≡ true → true ≡ (a || b || c)
first_or true b c e = refl
first_or false b c e = absurd (cc)

second_or : (a b c : Bool) → b ≡ true → true ≡ (a || b || c)
second_or true b c e = refl
second_or false true c e = refl
second_or false false c e = absurd (cc)

third_or : (a b c : Bool) → a ≡ false → b ≡ false → c ≡ (a || b || c)
third_or false false c e f = refl
third_or true b c e f = absurd (cc)
third_or false true c e f = absurd (cc)

pub stop_ended : (rule : Rule) (s : Sum) → 1 ≤ s.ended → true ≡ sum_stops rule s
unfolding sum_stops
stop_ended rule s h = first_or (nat_le 1 s.ended) (reaches (numbers_of rule).revert s.pushes) (nat_le rule.goal_limit s.goals) (grind (arith, nat_tests))

pub stop_reverts : (rule : Rule) (s : Sum) → reaches (numbers_of rule).revert s.pushes ≡ true → true ≡ sum_stops rule s
unfolding sum_stops
stop_reverts rule s h = second_or (nat_le 1 s.ended) (reaches (numbers_of rule).revert s.pushes) (nat_le rule.goal_limit s.goals) h

pub stop_limit : (rule : Rule) (s : Sum) → s.ended < 1 → reaches (numbers_of rule).revert s.pushes ≡ false → nat_le rule.goal_limit s.goals ≡ sum_stops rule s
unfolding sum_stops
stop_limit rule s h r = third_or (nat_le 1 s.ended) (reaches (numbers_of rule).revert s.pushes) (nat_le rule.goal_limit s.goals) (grind (arith, nat_tests)) r

total_in_goals : (os : Sums) (u : ℕ) → Each InGoals os → total pushes_of os u ≤ total goals_of os u
unfolding total
total_in_goals os zero h = omega arith
total_in_goals [] (suc u) h = omega arith
total_in_goals (o ∷ os) (suc u) h = (let x = total_in_goals os u h.1 in let y = h.0 in omega arith)

front_on : (o : Option (Option Tally)) (xs ys : Sums) (m : ℕ) → FrontDone (o ∷ xs) (suc m) → (FrontDone xs m → FrontDone ys m) → FrontDone (o ∷ ys) (suc m)
front_on None xs ys m d f = absurd d
front_on (Some s) xs ys m d f = f d

pub front_short : (os : Sums) (m : ℕ) → FrontDone os m → m ≤ length os
front_short os zero d = omega arith
front_short [] (suc m) d = absurd d
front_short (None ∷ os) (suc m) d = absurd d
front_short (Some s ∷ os) (suc m) d = (let h = front_short os m d in omega arith)

-- a hidden node that isn't one of the siblings
module _ {T : Type 0} where
  sum_other : (h k : ℕ) (nodes : List (Stored T)) → h ≢ k → sum_at (Some h) nodes k ≡ sum_at None nodes k
  sum_other h k nodes d = ap (λ b. cond b None (kept_sum (slice_get nodes k))) (not_eq h k d)

  sum_same : (h k : ℕ) (nodes : List (Stored T)) → h ≡ k → sum_at (Some h) nodes k ≡ None
  sum_same h k nodes e = elim (eq_case h k) [ inl y ↦ ap (λ b. cond b None (kept_sum (slice_get nodes k))) y.0 | inr d ↦ absurd (d.1 e) ]

  pub hidden_out : (h : ℕ) (nodes : List (Stored T)) (first c : ℕ) → (h < first) ⊎ (first + c ≤ h) → sums_of (Some h) nodes first c ≡ sums_of None nodes first c
  unfolding sums_of
  hidden_out h nodes first zero o = refl
  hidden_out h nodes first (suc c) o =
      let d : h ≢ first = λ e. elim o [ inl l ↦ omega arith | inr g ↦ omega arith ] in
      ap (λ x. x ∷ sums_of (Some h) nodes (first + 1) c) (sum_other h first nodes d)
      ∙ ap (λ l. sum_at None nodes first ∷ l) (hidden_out h nodes (first + 1) c (elim o [ inl l ↦ inl (omega arith) | inr g ↦ inr (omega arith) ]))

  hidden_after : (f : Option (Option Tally) → ℕ) → f None ≡ 0 → (h : ℕ) (nodes : List (Stored T)) (first c place u : ℕ) (s : Option Tally) → h ≡ first + place → place < c → sum_at None nodes h ≡ Some s → place < u
      → total f (sums_of None nodes first c) u ≡ total f (sums_of (Some h) nodes first c) u + f (Some s)
  unfolding sums_of total
  hidden_after f z h nodes first zero place u s e l at p = absurd (omega arith)
  hidden_after f z h nodes first (suc c) place zero s e l at p = absurd (omega arith)
  hidden_after f z h nodes first (suc c) zero (suc u) s e l at p =
      let is : h ≡ first = omega arith in
      let a : f (sum_at (Some h) nodes first) ≡ 0 = ap f (sum_same h first nodes is) ∙ z in
      let b : f (sum_at None nodes first) ≡ f (Some s) = ap f (ap (sum_at None nodes) (sym is) ∙ at) in
      let r : total f (sums_of (Some h) nodes (first + 1) c) u ≡ total f (sums_of None nodes (first + 1) c) u = ap (λ l. total f l u) (hidden_out h nodes (first + 1) c (inl (omega arith))) in
      omega arith
  hidden_after f z h nodes first (suc c) (suc place) (suc u) s e l at p =
      let a : f (sum_at (Some h) nodes first) ≡ f (sum_at None nodes first) = ap f (sum_other h first nodes (λ i. omega arith)) in
      let r = hidden_after f z h nodes (first + 1) c place u s (omega arith) (omega arith) at (omega arith) in
      omega arith

  hidden_before : (f : Option (Option Tally) → ℕ) (h : ℕ) (nodes : List (Stored T)) (first c place u : ℕ) → h ≡ first + place → u ≤ place → total f (sums_of (Some h) nodes first c) u ≡ total f (sums_of None nodes first c) u
  unfolding sums_of total
  hidden_before f h nodes first zero place u e p = refl
  hidden_before f h nodes first (suc c) place zero e p = refl
  hidden_before f h nodes first (suc c) zero (suc u) e p = absurd (omega arith)
  hidden_before f h nodes first (suc c) (suc place) (suc u) e p =
      let a : f (sum_at (Some h) nodes first) ≡ f (sum_at None nodes first) = ap f (sum_other h first nodes (λ i. omega arith)) in
      let r = hidden_before f h nodes (first + 1) c place u (omega arith) (omega arith) in
      omega arith

  hidden_less : (f : Option (Option Tally) → ℕ) → f None ≡ 0 → (h : ℕ) (nodes : List (Stored T)) (first c place u : ℕ) (s : Option Tally) → h ≡ first + place → place < c → sum_at None nodes h ≡ Some s → total f (sums_of (Some h) nodes first c) u ≤ total f (sums_of None nodes first c) u
  hidden_less f z h nodes first c place u s e l at =
      elim (cases_lt place u) [
        | inl lt ↦ (let x = hidden_after f z h nodes first c place u s e l at lt in omega arith)
        | inr ge ↦ (let x = hidden_before f h nodes first c place u e ge in omega arith)
      ]

  pub front_shown : (h : ℕ) (nodes : List (Stored T)) (first c m : ℕ) → FrontDone (sums_of (Some h) nodes first c) m → FrontDone (sums_of None nodes first c) m
  unfolding sums_of
  front_shown h nodes first c zero d = tt
  front_shown h nodes first zero (suc m) d = absurd d
  front_shown h nodes first (suc c) (suc m) d =
      elim (eq_case h first) [
        | inl e ↦ absurd (subst (λ o. FrontDone (o ∷ sums_of (Some h) nodes (first + 1) c) (suc m)) (sum_same h first nodes e.1) d)
        | inr n ↦ front_on (sum_at None nodes first) (sums_of (Some h) nodes (first + 1) c) (sums_of None nodes (first + 1) c) m (subst (λ o. FrontDone (o ∷ sums_of (Some h) nodes (first + 1) c) (suc m)) (sum_other h first nodes n.1) d) (front_shown h nodes (first + 1) c m)
      ]

  each_hidden : (h : ℕ) (nodes : List (Stored T)) (first c : ℕ) → Each InGoals (sums_of None nodes first c) → Each InGoals (sums_of (Some h) nodes first c)
  unfolding sums_of
  each_hidden h nodes first zero e = tt
  each_hidden h nodes first (suc c) e = (
    elim (eq_case h first) [
      | inl y ↦ subst InGoals (sym (sum_same h first nodes y.1)) (omega arith)
      | inr n ↦ subst InGoals (sym (sum_other h first nodes n.1)) e.0
    ],
    each_hidden h nodes (first + 1) c e.1,
  )

  -- what the siblings tell before one of them is finished, and what they come to then
  module _ (rule : Rule) (h : ℕ) (nodes : List (Stored T)) (first c place : ℕ) (s : Option Tally) (e : h ≡ first + place) (l : place < c) (at : sum_at None nodes h ≡ Some s) where
    abbrev old : Sums
    old = sums_of (Some h) nodes first c

    abbrev new : Sums
    new = sums_of None nodes first c

    pub stop_stays : (u : ℕ) → sum_stops rule (sum_first old u) ≡ true → sum_stops rule (sum_first new u) ≡ true
    stop_stays u x = sum_more rule (sum_first old u) (sum_first new u) (hidden_less pushes_of refl h nodes first c place u s e l at) (hidden_less goals_of refl h nodes first c place u s e l at) (hidden_less ended_of refl h nodes first c place u s e l at) x

    stop_on : (stop : ℕ) → (stop ≡ NONE) ⊎ ((stop < length old) × (sum_stops rule (sum_first old (stop + 1)) ≡ true)) → (stop ≡ NONE) ⊎ ((stop < length new) × (sum_stops rule (sum_first new (stop + 1)) ≡ true))
    stop_on stop x = elim x [ inl n ↦ inl n | inr y ↦ inr ((let a = length_sums (Some h) nodes first c in let b = length_sums None nodes first c in let z = y.0 in omega arith), stop_stays (stop + 1) y.1) ]

    -- it is finished behind the stop
    pub told_behind : (t : Told) (front : ℕ) → IsTold rule old t → t.stop ≤ place → FrontDone new front → IsTold rule new (record { stop = t.stop; front = front; sum = t.sum })
    told_behind t front k le f =
        let lo = length_sums (Some h) nodes first c in
        let ln = length_sums None nodes first c in
        let m : min t.stop (length old) ≡ t.stop = omega arith in
        let n : t.stop ≡ min t.stop (length new) = omega arith in
        record {
          sum = k.sum ∙ (ap (sum_first old) m ∙ (same_sum (sum_first old t.stop) (sum_first new t.stop) (hidden_before pushes_of h nodes first c place t.stop e le) (hidden_before goals_of h nodes first c place t.stop e le) (hidden_before ended_of h nodes first c place t.stop e le) ∙ ap (sum_first new) n));
          before = k.before;
          stop = stop_on t.stop k.stop;
          front = f;
        }

    -- it is finished before the stop: what those before the stop come to now
    pub sum_after : (t : Told) (more : Sum) → IsTold rule old t → place < t.stop → more ≡ weight (Some s) → (let x : Sum = record { pushes = t.sum.pushes + more.pushes; goals = t.sum.goals + more.goals; ended = t.sum.ended + more.ended } in x) ≡ sum_first new (min t.stop c)
    sum_after t more k lt is =
        let lo = length_sums (Some h) nodes first c in
        let m : min t.stop (length old) ≡ min t.stop c = omega arith in
        let was = k.sum ∙ ap (sum_first old) m in
        let low : place < min t.stop c = omega arith in
        let p = hidden_after pushes_of refl h nodes first c place (min t.stop c) s e l at low in
        let g = hidden_after goals_of refl h nodes first c place (min t.stop c) s e l at low in
        let d = hidden_after ended_of refl h nodes first c place (min t.stop c) s e l at low in
        let sp : t.sum.pushes ≡ total pushes_of old (min t.stop c) = ap (λ x. x.pushes) was in
        let sg : t.sum.goals ≡ total goals_of old (min t.stop c) = ap (λ x. x.goals) was in
        let sd : t.sum.ended ≡ total ended_of old (min t.stop c) = ap (λ x. x.ended) was in
        let lp : more.pushes ≡ pushes_of (Some s) = ap (λ x. x.pushes) is in
        let lg : more.goals ≡ goals_of (Some s) = ap (λ x. x.goals) is in
        let ld : more.ended ≡ ended_of (Some s) = ap (λ x. x.ended) is in
        same_sum _ _ (omega arith) (omega arith) (omega arith)

    pub told_before : (t : Told) (front stop u : ℕ) (sum : Sum) → IsTold rule old t → FrontDone new front → u ≤ min t.stop c → sum ≡ sum_first new u → sum_stops rule sum ≡ false → (u < min t.stop c → sum_stops rule (sum_first new (u + 1)) ≡ true)
        → ((u < min t.stop c) × (stop ≡ u)) ⊎ ((min t.stop c ≤ u) × (stop ≡ t.stop)) → IsTold rule new (record { stop = stop; front = front; sum = sum })
    told_before t front stop u sum k f le is goes st which =
        let ln = length_sums None nodes first c in
        elim which [
          | inl x ↦ record {
            sum = is ∙ ap (sum_first new) (let y = x.1 in let z = x.0 in let w : u ≡ min stop (length new) = omega arith in w);
            before = goes;
            stop = inr ((let y = x.1 in let z = x.0 in omega arith), subst (λ (n : ℕ). sum_stops rule (sum_first new (n + 1)) ≡ true) (sym x.1) (st x.0));
            front = f;
          }
          | inr x ↦ record {
            sum = is ∙ ap (sum_first new) (let y = x.1 in let z = x.0 in let w : u ≡ min stop (length new) = omega arith in w);
            before = goes;
            stop = subst (λ (n : ℕ). (n ≡ NONE) ⊎ ((n < length new) × (sum_stops rule (sum_first new (n + 1)) ≡ true))) (sym x.1) (stop_on t.stop k.stop);
            front = f;
          }
        ]

    pub few_pushes : (t : Told) → IsTold rule old t → Each InGoals new → (t.sum.pushes ≤ t.sum.goals) × (t.sum.goals < rule.goal_limit) × (t.sum.ended < 1)
    few_pushes t k g =
        let m = min t.stop (length old) in
        let x = total_in_goals old m (each_hidden h nodes first c g) in
        let sp : t.sum.pushes ≡ total pushes_of old m = ap (λ y. y.pushes) k.sum in
        let sg : t.sum.goals ≡ total goals_of old m = ap (λ y. y.goals) k.sum in
        let o = goes_on rule t.sum k.before in
        (omega arith, o.2, o.0)

pub told_in_goals : (rule : Rule) (os : Sums) (t : Told) → IsTold rule os t → Each InGoals os → t.sum.pushes ≤ t.sum.goals
told_in_goals rule os t k g =
    let m = min t.stop (length os) in
    let x = total_in_goals os m g in
    let sp : t.sum.pushes ≡ total pushes_of os m = ap (λ y. y.pushes) k.sum in
    let sg : t.sum.goals ≡ total goals_of os m = ap (λ y. y.goals) k.sum in
    omega arith
