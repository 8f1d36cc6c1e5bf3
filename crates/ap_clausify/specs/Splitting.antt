-- Splitting a clause at its `if`s, each clause that is made spending a step.
use Rattle.std.specs.Prelude.{ℕ, zero, suc, List, [], ◌∷◌, ◌++◌, map, Option, Some, None}
use Rattle.ap_list.specs.Lists.{joined}
use Rattle.ap_term.specs.declared.term.Clause.{Clause}
use Rattle.ap_term.specs.Metered.{Got, By, after, spend, mapped}
use Rattle.ap_kernel.specs.declared.reductions.Inference.{Inference}
use Rattle.ap_kernel.specs.Splits.{and_then, split_made}
use Rattle.ap_kernel.specs.Tidying.{tidied, tidy_goals}
use Rattle.ap_clausify.specs.Places.{first_choice}

-- clauses and the steps that are left, or nothing where the steps ran out
abbrev pub Left : Type 0
Left = Got (List Clause)

-- how a clause is split with so many steps
abbrev pub Splitter : Type 0
Splitter = Clause → By (List Clause)

-- clauses that stand before others
abbrev pub before : List Clause → Left → Left
before cs o = mapped (λ ds. cs ++ ds) o

-- what comes first, and then the rest with the steps that are left
abbrev pub then_rest : Left → (ℕ → Left) → Left
then_rest o k = after o (λ cs n. before cs (k n))

-- each clause is made, which spends a step, and split wholly before the next one is made
abbrev pub each_split : Splitter → List Clause → ℕ → Left
each_split s [] n = Some ([], n)
each_split s (c ∷ cs) n = spend (λ m. then_rest (s c m) (each_split s cs)) n

-- the two cases of a clause for the `if` that is split first, if there is one
abbrev pub cases : Clause → Option Inference
cases c = and_then (first_choice c) (λ p. split_made c p.0 p.1)

-- a clause without `if` stays, another one's cases are split in their turn
abbrev pub split_by : Splitter → Clause → ℕ → Option Inference → Left
split_by s c n None = Some (c ∷ [], n)
split_by s c n (Some r) = each_split s r.to n

-- so many levels of cases deep
abbrev pub split_to : ℕ → Splitter
split_to zero c n = split_by (λ d m. None) c n (cases c)
split_to (suc k) c n = split_by (split_to k) c n (cases c)

-- a level spends a step, so that there are no more levels than steps
abbrev pub split_of : ℕ → Clause → Left
split_of n c = split_to n c n

-- the steps that are left: none where they ran out
abbrev pub steps_left : Left → ℕ
steps_left None = 0
steps_left (Some p) = p.1

-- a clause tidied, or none where it then holds by itself
abbrev pub settled : Clause → List Clause
settled c = tidy_goals (tidied c.0)

abbrev pub settled_all : List Clause × ℕ → List Clause
settled_all p = joined (map settled p.0)

-- the clauses that are left, each tidied
abbrev pub settled_left : Left → Left
settled_left None = None
settled_left (Some p) = Some (settled_all p, p.1)
