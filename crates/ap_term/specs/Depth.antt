-- How deep a term is: by this a walk of terms ends.
use Rattle.std.specs.Prelude.{ℕ, ◌+◌, List}
use denote.Param.Weighed.{most}
use Rattle.ap_term.specs.declared.term.Term.{Term, fold-Term}
use Rattle.ap_term.specs.declared.term.Term.TheOpen.{Term-F}

abbrev pub depth_step : Term-F ℕ → ℕ
depth_step (Term-F.Var x) = 0
depth_step (Term-F.Quote v) = 0
depth_step (Term-F.Call f ns) = most (λ n. n + 1) ns + 1

abbrev pub depth : Term → ℕ
depth = fold-Term ℕ depth_step

abbrev pub deepest : List Term → ℕ
deepest ts = most (λ t. depth t + 1) ts
