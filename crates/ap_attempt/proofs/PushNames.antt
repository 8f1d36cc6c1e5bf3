-- The names of inductions.
use Rattle.std.proofs.Common.{◌≡◌, ℕ, ◌+◌, ◌≤◌, List, [], ◌∷◌, map, arith, refl, ap, ◌∙◌}
use Rattle.ap_names.specs.Names.{Name, pushed_of}
use Rattle.ap_attempt.specs.Attempts.{inductions}
use Rattle.ap_attempt.specs.Laws.{push_names}

module _ {T : Type 0} (name : T → Name) (inducted : T → ℕ → T) (named : (task : T) (k : ℕ) → 1 ≤ k → name (inducted task k) ≡ pushed_of (name task) k) where
  -- inductions have the names that their tasks are pushed as
  pub inductions_named : (k : ℕ) (tasks : List T) → 1 ≤ k → map name (inductions inducted k tasks) ≡ push_names name k tasks
  inductions_named k [] from = refl
  inductions_named k (task ∷ tasks) from =
      ap (λ n. n ∷ map name (inductions inducted (k + 1) tasks)) (named task k from)
      ∙ ap (λ ns. pushed_of (name task) k ∷ ns) (inductions_named (k + 1) tasks (omega arith))
