-- A clause on its way, while its literals are rewritten one after another.
use Rattle.std.specs.Prelude.{◌≡◌, ℕ, ◌<◌, List, [], ◌∷◌, length, Option, Some, None, IsTrue, slice_get}
use Rattle.ap_term.specs.declared.term.Term.{Term}
use Rattle.ap_term.specs.declared.term.Clause.{Clause}
use Rattle.ap_term.specs.Metered.{Got}
use Rattle.ap_kernel.specs.declared.objects.Equiv.{Equiv}
use Rattle.ap_kernel.specs.declared.reductions.Inference.{Inference}
use Rattle.ap_kernel.specs.declared.reductions.Reduction.{Reduction}
use Rattle.ap_kernel.specs.Reductions.{others, all_false}
use Rattle.ap_kernel.specs.Tidying.{tidied, holds_by_itself}

-- what a reduction says, with the steps that are left; nothing where they ran out
abbrev pub got_reduced : Option Reduction → ℕ → Got Inference
got_reduced None n = None
got_reduced (Some q) n = Some (q.says, n)

-- the literals of the first clause that is left, if one is
abbrev pub literals_left : List Clause → Option (List Term)
literals_left [] = None
literals_left (c ∷ cs) = Some c.0

-- one clause is left, and it has a literal at the place
pub record HasPlace (q : Inference) (i : ℕ) : Type 0 where
  pub literals : List Term
  pub one : q.to ≡ record { 0 = literals } ∷ []
  pub within : i < length literals

-- an equivalence leads from the literal at the place, the others of the clause that is left being assumed false
pub record FitsLiteral (q : Inference) (i : ℕ) (e : Equiv) : Type 0 where
  pub here : (us : List Term) → q.to ≡ record { 0 = us } ∷ [] → slice_get us i ≡ Some e.says.lhs
  pub facts : (us : List Term) → q.to ≡ record { 0 = us } ∷ [] → e.says.ctx.0 ≡ all_false (others i us)

-- one clause is left, and its plain form holds by itself
pub record LeavesTrue (q : Inference) : Type 0 where
  pub literals : List Term
  pub one : q.to ≡ record { 0 = literals } ∷ []
  pub holds : IsTrue (holds_by_itself (tidied literals))
