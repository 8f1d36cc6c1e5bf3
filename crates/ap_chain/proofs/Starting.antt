-- The marks from one on: they are no more, and the first of them is of the clause.
use Rattle.std.proofs.Common.{◌≡◌, ◌≤◌, ℕ, Bool, true, false, cond, ◌<◌, List, [], ◌∷◌, length, Option, Some, None, MatchOption, IfSome, arith, refl, ap, sym, subst}
use Rattle.ap_term.specs.declared.term.Term.{Term}
use Rattle.ap_term.specs.declared.term.Clause.{Clause}
use Rattle.ap_walk.specs.Tallies.{is_push}
use Rattle.ap_walk.specs.Visits.{Visit}
use Rattle.ap_strategy.specs.Goals.{Goal}
use Rattle.ap_chain.specs.Marks.{is_for, from_goal, behind_push, from_split}
use Rattle.ap_chain.specs.Fitting.{StartsWith, Begins, Goes}
use Rattle.ap_chain.proofs.Found.{for_clause}

-- by what the test says of the first mark
pub from_here : (c : Clause) (induct : Bool) (v : Visit Goal) (vs : List (Visit Goal)) → is_for c induct v ≡ true → from_goal c induct (v ∷ vs) ≡ v ∷ vs
from_here c induct v vs q = ap (λ b. cond b (v ∷ vs) (from_goal c induct vs)) q

pub from_behind : (c : Clause) (induct : Bool) (v : Visit Goal) (vs : List (Visit Goal)) → is_for c induct v ≡ false → from_goal c induct (v ∷ vs) ≡ from_goal c induct vs
from_behind c induct v vs q = ap (λ b. cond b (v ∷ vs) (from_goal c induct vs)) q

goal_short : (c : Clause) (induct : Bool) (vs : List (Visit Goal)) → length (from_goal c induct vs) ≤ length vs
goal_short c induct [] = omega arith
goal_short c induct (v ∷ vs) = go (is_for c induct v) (goal_short c induct vs)
  where
    go : (b : Bool) → length (from_goal c induct vs) ≤ length vs → length (cond b (v ∷ vs) (from_goal c induct vs)) ≤ length (v ∷ vs)
    go true short = omega arith
    go false short = omega arith

push_short : (c : Clause) (vs : List (Visit Goal)) → length (behind_push c vs) ≤ length vs
push_short c [] = omega arith
push_short c (v ∷ vs) = go (is_push v.act.process)
  where
    go : (b : Bool) → length (cond b (from_goal c true vs) (v ∷ vs)) ≤ length (v ∷ vs)
    go true = let short = goal_short c true vs in omega arith
    go false = omega arith

pub split_short : (c : Clause) (vs : List (Visit Goal)) → length (from_split c vs) ≤ length vs
split_short c vs = let few = goal_short c false vs in let less = push_short c (from_goal c false vs) in omega arith

goal_starts : (c : Clause) (induct : Bool) (vs : List (Visit Goal)) → StartsWith c (from_goal c induct vs)
goal_starts c induct [] = tt
goal_starts c induct (v ∷ vs) = go (is_for c induct v) refl (goal_starts c induct vs)
  where
    go : (b : Bool) → is_for c induct v ≡ b → StartsWith c (from_goal c induct vs) → StartsWith c (cond b (v ∷ vs) (from_goal c induct vs))
    go true q starts = ap (λ (us : List Term). let d : Clause = record { 0 = us } in d) (sym (for_clause c induct v q))
    go false q starts = starts

push_starts : (c : Clause) (vs : List (Visit Goal)) → StartsWith c vs → StartsWith c (behind_push c vs)
push_starts c [] starts = tt
push_starts c (v ∷ vs) starts = go (is_push v.act.process)
  where
    go : (b : Bool) → StartsWith c (cond b (from_goal c true vs) (v ∷ vs))
    go true = goal_starts c true vs
    go false = starts

pub split_starts : (c : Clause) (vs : List (Visit Goal)) → StartsWith c (from_split c vs)
split_starts c vs = push_starts c (from_goal c false vs) (goal_starts c false vs)

-- marks that are parted into the first one and the others
module _ {P : Type 0} (first : P → Visit Goal) (rest : P → List (Visit Goal)) (vs : List (Visit Goal)) where
  pub parted_short : (n : ℕ) (o : Option P) → MatchOption o (vs ≡ []) (λ p. vs ≡ first p ∷ rest p) → length vs ≤ n → IfSome o (λ p. length (rest p) < n)
  parted_short n None parts h = tt
  parted_short n (Some p) parts h = let few : length vs ≡ length (first p ∷ rest p) = ap length parts in omega arith

  pub parted_starts : (c : Clause) (o : Option P) → MatchOption o (vs ≡ []) (λ p. vs ≡ first p ∷ rest p) → StartsWith c vs → IfSome o (λ p. (first p).task.clause ≡ c)
  parted_starts c None parts h = tt
  parted_starts c (Some p) parts h = subst (StartsWith c) parts h

  pub parted_begins : (o : Option P) → MatchOption o (vs ≡ []) (λ p. vs ≡ first p ∷ rest p) → Begins vs → MatchOption o ⊥ (λ p. Goes (first p) (rest p))
  parted_begins None parts h = subst Begins parts h
  parted_begins (Some p) parts h = let begins : Begins (first p ∷ rest p) = subst Begins parts h in (begins.0, begins.1.1, begins.1.2)
