-- What a step reduces its goal's clause to.
use Rattle.std.specs.Prelude.{◌≡◌, List, [], ◌∷◌, map, Option, Some, None}
use Rattle.ap_value.specs.declared.symbol.Symbol.{Symbol}
use Rattle.ap_term.specs.declared.term.Subst.{Subst}
use Rattle.ap_term.specs.declared.term.Clause.{Clause}
use Rattle.ap_world.specs.declared.entry.Entry.{Entry}
use Rattle.ap_walk.specs.declared.act.Out.{Out}
use Rattle.ap_walk.specs.declared.act.Process.{Process}
use Rattle.ap_kernel.specs.declared.reductions.Inference.{Inference}
use Rattle.ap_kernel.specs.declared.reductions.Reduction.{Reduction}
use Rattle.ap_kernel.specs.Reductions.{Reduces}
use Rattle.ap_strategy.specs.Goals.{Goal}
use Rattle.ap_strategy.specs.Steps.{unrepeated, used_all, reduced_to, step_of}

-- what an inference is to, each clause once
abbrev pub once : Inference → Inference
once i = record { from = i.from; to = unrepeated [] i.to }

abbrev pub said_once : Reduction → Inference
said_once r = once r.says

abbrev pub clauses_of : List Goal → List Clause
clauses_of gs = map (λ (g : Goal). g.clause) gs

-- from a clause to those of the goals that it is split into, each once; nothing where it is pushed or the attempt stops
abbrev pub to_children : Clause → Out Goal → Option Inference
to_children c (Out.Split gs) = Some (once (reduced_to c (clauses_of gs)))
to_children c Out.Push = None
to_children c (Out.Stop r) = None

-- a goal's clause, by its step
unfoldable pub reduction_of : Goal → Option Inference
reduction_of g = to_children g.clause (step_of g).out

-- a reduction of a goal's clause that stands in its plan's world
pub record LeadsFrom (g : Goal) (r : Reduction) : Type 0 where
  pub stands : Reduces g.plan.world r
  pub from : r.says.from ≡ g.clause

-- a process with the clauses that it reduces a clause to, and the same as what is said
abbrev pub made_of : Process × Reduction → Process × List Clause
made_of p = (p.0, p.1.says.to)

abbrev pub once_made : Clause → Process × List Clause → Inference
once_made c p = once (reduced_to c p.1)

-- from a clause to itself with instances of theorems assumed
abbrev pub used_from : List Entry → List (Symbol × Subst) → Clause → Inference
used_from W us c = reduced_to c (used_all W us c ∷ [])
