-- What is known of what was stated in a world.
use Rattle.std.proofs.Common.{◌≡◌, false, true, [], ◌∷◌, Result, Ok, Err, IfOk, refl, sym, subst}
use Rattle.ap_world.specs.declared.entry.Defun.{Defun}
use Rattle.ap_world.specs.declared.entry.Theorem.{Theorem}
use Rattle.ap_world.specs.Clauses.{flat}
use Rattle.ap_world.specs.Ground.{ground_functions, not_function}
use Rattle.ap_world.specs.Meaning.{Valid}
use Rattle.ap_world.specs.Sound.{known, HasFunctions, Sound}
use Rattle.ap_world.specs.World.{Shown, function_of, has_name}
use Rattle.ap_clausify.proofs.Implied.{clausifies}
use Rattle.ap_kernel.specs.Reductions.{KnownClause}
use Rattle.ap_stated.specs.declared.definition.Terminating.{Terminating}
use Rattle.ap_stated.specs.Definitions.{Ends, IsDefinition}
use Rattle.ap_stated.specs.Prepared.{IsPrepared}
use Rattle.ap_stated.specs.Refusals.{Answer}
use Rattle.ap_stated.specs.Shapes.{Stated}
use Rattle.ap_stated.specs.Theorems.{theorem_of, IsTheorem}
use Rattle.ap_term.specs.declared.term.Term.{Term}

-- its clause is one of the world
pub theorem_known : (w : Shown) (t : Theorem) → Sound w.entries → HasFunctions (function_of w.entries) → IsTheorem w t → KnownClause (function_of w.entries) (record { 0 = flat t.term })
unfolding ground_functions not_function
theorem_known w t sound functions stated = (clausifies t.term (record { 0 = flat t.term }) refl w.entries sound functions.0 stated.term_known).0

-- and where that is valid so is the theorem
pub theorem_valid : (w : Shown) (t : Theorem) → Sound w.entries → HasFunctions (function_of w.entries) → IsTheorem w t → Valid (function_of w.entries) (flat t.term) → Valid (function_of w.entries) (t.term ∷ [])
unfolding ground_functions not_function
theorem_valid w t sound functions stated = (clausifies t.term (record { 0 = flat t.term }) refl w.entries sound functions.0 stated.term_known).1

pub is_theorem : (w : Shown) (s : Stated) (u : Term) → has_name w.entries s.name ≡ false → known (function_of w.entries) u ≡ true → IsTheorem w (theorem_of s u)
is_theorem w s u free k = record { free = free; term_known = k }

-- and of a definition that ends
pub is_definition : {E : Type 0} (r : Result (Answer Terminating) E) (w : Shown) (d : Defun) → has_name w.entries d.name ≡ false → IsPrepared w.entries d
    → IfOk r (λ a. IfOk a (λ t. t.definition ≡ d)) → IfOk r (λ a. IfOk a (λ t. Ends d t.measure)) → IfOk r (λ a. IfOk a (IsDefinition w))
is_definition (Ok (Ok t)) w d free p same ends = record {
  free = subst (λ (x : Defun). has_name w.entries x.name ≡ false) (sym same) free;
  prepared = subst (IsPrepared w.entries) (sym same) p;
  ends = subst (λ x. Ends x t.measure) (sym same) ends;
}
is_definition (Ok (Err r)) w d free p same ends = tt
is_definition (Err e) w d free p same ends = tt
