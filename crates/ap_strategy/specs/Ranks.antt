-- How many inductions may stand within each other below a goal: each adds a number to the name, and no
-- induction is made under more than nine.
use Rattle.std.proofs.Common.{◌≡◌, ◌≤◌, ◌<◌, ◌+◌, ◌-◌, nat_lt, ℕ, Bool, true, false, cond, List, [], ◌∷◌, ◌++◌, length, map, Option, Some, None, true≢false, refl, arith, ap}
use Rattle.std.proofs.lemmas.Bool.{ltb-false, ltb-true}
use Rattle.ap_list.specs.Lists.{Each}
use Rattle.ap_term.specs.declared.term.Term.{Term}
use Rattle.ap_term.specs.declared.term.Clause.{Clause}
use Rattle.ap_names.specs.Names.{Name, below}
use Rattle.ap_walk.specs.declared.act.Reason.{Reason}
use Rattle.ap_walk.specs.declared.act.Out.{Out}
use Rattle.ap_walk.specs.Visits.{out_children}
use Rattle.ap_kernel.specs.declared.reductions.Inference.{Inference}
use Rattle.ap_strategy.specs.Goals.{Goal, hinted, inducted}
use Rattle.ap_strategy.specs.Steps.{hint_goals, named, counted_down, child, children, seen_below, clause_step, stop_step, scheme_step, induct_step, step_of}
use Rattle.ap_strategy.specs.Laws.{scheme_for, of_step}

-- by whether the goal is an induction, and the count of its name's numbers: an induction under more than
-- nine stops; the cases of another keep its numbers
abbrev pub rank_at : Bool → ℕ → ℕ
rank_at induct n = cond (nat_lt 9 n) (cond induct 0 1) (11 - n)

abbrev pub rank_of : Goal → ℕ
rank_of g = rank_at g.induct (length g.name.induction)

-- a goal below has the same numbers
below_same : (is : List ℕ) (case : Option ℕ) (path : List ℕ) (k : ℕ) → (below is case path k).induction ≡ is
below_same [] case path k = refl
below_same (i ∷ is) None path k = refl
below_same (i ∷ is) (Some c) path k = refl

counted_same : (name : Name) (ds : List Clause) → Each (λ p. p.0.induction ≡ name.induction) (counted_down name ds)
counted_same name [] = tt
counted_same name (d ∷ ds) = (below_same name.induction name.case name.path (length ds + 1), counted_same name ds)

named_same : (name : Name) (ds : List Clause) → Each (λ p. p.0.induction ≡ name.induction) (named name ds)
named_same name [] = tt
named_same name (d ∷ []) = (refl, tt)
named_same name (d ∷ e ∷ ds) = counted_same name (d ∷ e ∷ ds)

same_low : (m n k : ℕ) → m ≡ n → n ≤ k → m ≤ k
same_low m n k same low = omega arith

children_low : (g : Goal) (ps : List (Name × Clause)) → rank_at false (length g.name.induction) ≤ rank_of g → Each (λ p. p.0.induction ≡ g.name.induction) ps → Each (λ c. rank_of c ≤ rank_of g) (map (child g) ps)
children_low g [] low same = tt
children_low g (p ∷ ps) low same = (same_low _ _ _ (ap (λ is. rank_at false (length is)) same.0) low, children_low g ps low same.1)

-- the cases of an induction that doesn't stop, and the children of another goal
few_low : (b : Bool) (n : ℕ) → nat_lt 9 n ≡ false → rank_at false n ≤ rank_at b n
few_low b n few = go (nat_lt 9 n) few
  where
    go : (c : Bool) → c ≡ false → cond c 1 (11 - n) ≤ cond c (cond b 0 1) (11 - n)
    go true few = absurd (true≢false few)
    go false few = omega arith

plain_low : (b : Bool) (n : ℕ) → b ≡ false → rank_at false n ≤ rank_at b n
plain_low true n plain = absurd (true≢false plain)
plain_low false n plain = omega arith

plain_children : (g : Goal) (ds : List Clause) → g.induct ≡ false → Each (λ c. rank_of c ≤ rank_of g) (children g ds)
plain_children g ds plain = children_low g (named g.name ds) (plain_low g.induct (length g.name.induction) plain) (named_same g.name ds)

-- no child has a greater rank
pub ranked : (g : Goal) → Each (λ c. rank_of c ≤ rank_of g) (out_children (step_of g).out)
ranked g = of_step (λ g s. Each (λ c. rank_of c ≤ rank_of g) (out_children s.out)) g (λ missed r. tt) (λ missed limited. tt)
    (λ h plain above q. plain_children (hinted g) (hint_goals g.plan.world.entries h g.clause) plain)
    (λ ds plain above q. plain_children (hinted g) ds plain)
    (λ p limited plain above q. plain_children (seen_below true (hinted g)) p.1 plain)
    (λ p q few h. children_low g (counted_down g.name p.1.to) (few_low g.induct (length g.name.induction) few) (counted_same g.name p.1.to))

-- one number more
length_more : (is : List ℕ) (k : ℕ) → length (is ++ k ∷ []) ≡ length is + 1
length_more [] k = refl
length_more (i ∷ is) k = let more = length_more is k in omega arith

rank_falls : (n : ℕ) → rank_at true (n + 1) < rank_at false n
rank_falls n = go (nat_lt 9 (n + 1)) (nat_lt 9 n) refl refl
  where
    go : (a b : Bool) → nat_lt 9 (n + 1) ≡ a → nat_lt 9 n ≡ b → cond a 0 (11 - (n + 1)) < cond b 1 (11 - n)
    go true true p q = omega arith
    go true false p q = let low = ltb-false 9 n q in omega arith
    go false true p q = let low = ltb-false 9 (n + 1) p in let high = ltb-true 9 n q in absurd (omega arith)
    go false false p q = let low = ltb-false 9 (n + 1) p in omega arith

-- an induction isn't pushed
unpushed : (g : Goal) (b : Bool) → (cond b (stop_step false Reason.InductionDepth) (scheme_step g (scheme_for g))).out ≡ Out.Push → ⊥
unpushed g true h = cc
unpushed g false h = go (scheme_for g) h
  where
    go : (o : Option (Term × Inference)) → (scheme_step g o).out ≡ Out.Push → ⊥
    go None h = cc
    go (Some p) h = cc

-- the induction of a goal that is pushed has less rank
pub falling : (g : Goal) (k : ℕ) → 1 ≤ k → (step_of g).out ≡ Out.Push → rank_of (inducted g k) < rank_of g
unfolding step_of
falling g k some = go g.induct
  where
    go : (b : Bool) → (cond b (induct_step g) (clause_step g g.clause.0)).out ≡ Out.Push → rank_at true (length (g.name.induction ++ k ∷ [])) < rank_at b (length g.name.induction)
    go true h = absurd (unpushed g (nat_lt 9 (length g.name.induction)) h)
    go false h = let more = length_more g.name.induction k in let falls = rank_falls (length g.name.induction) in go_on more falls
      where
        go_on : length (g.name.induction ++ k ∷ []) ≡ length g.name.induction + 1 → rank_at true (length g.name.induction + 1) < rank_at false (length g.name.induction)
            → rank_at true (length (g.name.induction ++ k ∷ [])) < rank_at false (length g.name.induction)
        go_on more falls = rw more falls
