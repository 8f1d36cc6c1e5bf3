-- Which `if` of a clause is split first.
use Rattle.std.specs.Prelude.{ℕ, ◌+◌, Bool, true, false, cond, not, ◌||◌, List, [], ◌∷◌, ◌++◌, map, Option, Some, None, is_some}
use Rattle.ap_value.specs.Values.{symbol_eq}
use Rattle.ap_term.specs.declared.term.Term.{Term, fold-Term, para-Term}
use Rattle.ap_term.specs.declared.term.Term.TheOpen.{Term-F}
use Rattle.ap_term.specs.declared.term.Clause.{Clause}
pub use Rattle.ap_term.specs.Leaves.{has_if_step, has_if}
use Rattle.ap_world.specs.Names.{if_name}
use Rattle.ap_world.specs.Clauses.{if_parts}
use Rattle.ap_kernel.specs.Solving.{any_true}

-- an `if` whose test has none
abbrev pub has_plain_test : Option (Term × Term × Term) → Bool
has_plain_test None = false
has_plain_test (Some (a, b, c)) = not (has_if a)

-- the first place that there is in one of the arguments, which are counted from this number on
abbrev pub first_in : ℕ → List (Option (List ℕ)) → Option (List ℕ)
first_in i [] = None
first_in i (None ∷ os) = first_in (i + 1) os
first_in i (Some is ∷ os) = Some (i ∷ is)

abbrev pub place_step : Term-F (Term × Option (List ℕ)) → Option (List ℕ)
place_step (Term-F.Var x) = None
place_step (Term-F.Quote v) = None
place_step (Term-F.Call f ps) = cond (has_plain_test (if_parts (symbol_eq f if_name) (map (λ p. p.0) ps))) (Some []) (first_in 0 (map (λ p. p.1) ps))

-- the place of the first `if` in preorder whose test has none: the places of arguments, the outermost first
abbrev pub first_place : Term → Option (List ℕ)
first_place = para-Term (Option (List ℕ)) place_step

-- the place of the first literal that has one, counted from this number on, and the place in it
abbrev pub or_later : ℕ → Option (List ℕ) → Option (ℕ × List ℕ) → Option (ℕ × List ℕ)
or_later i None later = later
or_later i (Some is) later = Some (i, is)

abbrev pub choice_from : ℕ → List Term → Option (ℕ × List ℕ)
choice_from i [] = None
choice_from i (u ∷ us) = or_later i (first_place u) (choice_from (i + 1) us)

abbrev pub first_choice : Clause → Option (ℕ × List ℕ)
first_choice c = choice_from 0 c.0

-- what a search of a term leaves: whether there is a place, and it behind the places of arguments before
abbrev pub found : List ℕ → Option (List ℕ) → Bool × List ℕ
found before None = (false, before)
found before (Some is) = (true, before ++ is)
