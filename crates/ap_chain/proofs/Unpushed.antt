-- An induction isn't pushed.
use Rattle.std.proofs.Common.{◌≡◌, nat_lt, Bool, true, false, cond, length, Option, Some, None, subst}
use Rattle.ap_term.specs.declared.term.Term.{Term}
use Rattle.ap_walk.specs.declared.act.Reason.{Reason}
use Rattle.ap_walk.specs.declared.act.Out.{Out}
use Rattle.ap_kernel.specs.declared.reductions.Inference.{Inference}
use Rattle.ap_strategy.specs.Goals.{Goal}
use Rattle.ap_strategy.specs.Laws.{scheme_for}
use Rattle.ap_strategy.specs.Steps.{clause_step, stop_step, scheme_step, induct_step, step_of}

by_scheme : (g : Goal) (b : Bool) → (cond b (stop_step false Reason.InductionDepth) (scheme_step g (scheme_for g))).out ≡ Out.Push → ⊥
by_scheme g true h = cc
by_scheme g false h = go (scheme_for g) h
  where
    go : (o : Option (Term × Inference)) → (scheme_step g o).out ≡ Out.Push → ⊥
    go None h = cc
    go (Some p) h = cc

pub unpushed : (g : Goal) → g.induct ≡ true → (step_of g).out ≡ Out.Push → ⊥
unfolding step_of
unpushed g q h = by_scheme g (nat_lt 9 (length g.name.induction)) (subst (λ (b : Bool). (cond b (induct_step g) (clause_step g g.clause.0)).out ≡ Out.Push) q h)
