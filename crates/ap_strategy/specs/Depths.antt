-- How deep terms are.
use Rattle.std.specs.Prelude.{ℕ, ◌+◌, max, List, [], ◌∷◌}
use Rattle.ap_term.specs.declared.term.Term.{Term, fold-Term}
use Rattle.ap_term.specs.declared.term.Term.TheOpen.{Term-F}

-- the greatest of some numbers, 0 where there is none
abbrev pub greatest : List ℕ → ℕ
greatest [] = 0
greatest (n ∷ ns) = max n (greatest ns)

-- how many calls stand within each other
abbrev pub depth_step : Term-F ℕ → ℕ
depth_step (Term-F.Var x) = 0
depth_step (Term-F.Quote v) = 0
depth_step (Term-F.Call f ns) = greatest ns + 1

abbrev pub term_depth : Term → ℕ
term_depth = fold-Term ℕ depth_step
