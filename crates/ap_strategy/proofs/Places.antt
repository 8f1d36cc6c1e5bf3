-- The first literal that solves a variable, looked for from the first place on.
use Rattle.std.proofs.Common.{◌≡◌, ◌<◌, ℕ, suc, ◌+◌, true, false, length, drop, Option, Some, None, is_some, refl, ap, sym, ◌∙◌, add-one}
use Rattle.std.proofs.Math.Seq.{drop-cons}
use Rattle.ap_term.specs.declared.term.Clause.{Clause}
use Rattle.ap_world.specs.Recursion.{t_constant}
use Rattle.ap_kernel.specs.declared.reductions.Inference.{Inference}
use Rattle.ap_kernel.specs.Solving.{solved_made}
use Rattle.ap_strategy.specs.Steps.{or_later, first_solved}

-- it is the one at this place
pub solved_here : (c : Clause) (i : ℕ) → i < length c.0 → is_some (solved_made c i) ≡ true → first_solved c i (drop i c.0) ≡ solved_made c i
solved_here c i h k = ap (first_solved c i) (drop-cons c.0 i t_constant h) ∙ go (solved_made c i) k
  where
    go : (o : Option Inference) → is_some o ≡ true → or_later o (first_solved c (i + 1) (drop (suc i) c.0)) ≡ o
    go (Some r) k = refl
    go None k = cc

-- or a later one
pub solved_later : (c : Clause) (i : ℕ) → i < length c.0 → is_some (solved_made c i) ≡ false → first_solved c i (drop i c.0) ≡ first_solved c (i + 1) (drop (i + 1) c.0)
solved_later c i h k = ap (first_solved c i) (drop-cons c.0 i t_constant h) ∙ go (solved_made c i) k ∙ ap (λ n. first_solved c (i + 1) (drop n c.0)) (sym (add-one i))
  where
    go : (o : Option Inference) → is_some o ≡ false → or_later o (first_solved c (i + 1) (drop (suc i) c.0)) ≡ first_solved c (i + 1) (drop (suc i) c.0)
    go (Some r) k = cc
    go None k = refl
