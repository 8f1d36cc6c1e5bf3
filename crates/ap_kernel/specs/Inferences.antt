-- When an inference is right in a world, and what each row on a clause answers.
use Rattle.std.specs.Prelude.{ℕ, false, ◌+◌, IsTrue, List, [], ◌∷◌, ◌++◌, map, take, drop}
use Rattle.ap_list.specs.Lists.{Each, joined}
use Rattle.ap_term.specs.declared.term.Term.{Term}
use Rattle.ap_term.specs.declared.term.Clause.{Clause}
use Rattle.ap_world.specs.Meaning.{Defs, Valid}
use Rattle.ap_world.specs.Sound.{known}
use Rattle.ap_world.specs.Facts.{Facts}
use Rattle.ap_world.specs.Assume.{assumed}
use Rattle.ap_kernel.specs.declared.reductions.Inference.{Inference}
use Rattle.ap_kernel.specs.declared.reductions.Reduction.{Reduction}

-- each literal is a term of the world
abbrev pub KnownClause : Defs → Clause → Type 0
KnownClause D c = Each (λ u. IsTrue (known D u)) c.0

-- its clauses are of terms of the world, and the one it is from is valid where all that it is to are
pub record Follows (D : Defs) (i : Inference) : Type 0 where
  pub start : KnownClause D i.from
  pub goals : Each (KnownClause D) i.to
  pub valid : Each (λ (c : Clause). Valid D c.0) i.to → Valid D i.from.0

-- a list in which what is at a place is replaced by a list
abbrev pub put_at : {A : Type 0} → ℕ → List A → List A → List A
put_at i ys xs = take i xs ++ (ys ++ drop (i + 1) xs)

-- all but what is at the place
abbrev pub others : {A : Type 0} → ℕ → List A → List A
others i xs = put_at i [] xs

-- what is assumed where each of the terms is nil
abbrev pub all_false : List Term → Facts
all_false ts = joined (map (λ u. assumed u false) ts)

-- one clause leads to one
abbrev pub to_one : Clause → List Term → Inference
to_one c ts = record { from = c; to = record { 0 = ts } ∷ [] }

-- the literal at the place is left out
abbrev pub dropped : Clause → ℕ → Inference
dropped c i = to_one c (others i c.0)

-- the literal at the place becomes this term
abbrev pub rewritten : Clause → ℕ → Term → Inference
rewritten c i u = to_one c (put_at i (u ∷ []) c.0)

-- what each of a list says
abbrev pub claims : List Reduction → List Inference
claims rs = map (λ (r : Reduction). r.says) rs

-- the clauses that they are from, and all that they lead to, one after another
abbrev pub all_from : List Inference → List Clause
all_from is = map (λ (i : Inference). i.from) is

abbrev pub all_to : List Inference → List Clause
all_to is = joined (map (λ (i : Inference). i.to) is)

-- the clauses that each of an inference's own clauses leads to
abbrev pub chained : Inference → List Inference → Inference
chained a is = record { from = a.from; to = all_to is }
