-- Generalization: a term becomes a new variable, of which the term's types are said.
use Rattle.std.specs.Prelude.{ℕ, ◌+◌, Bool, cond, nat_eq, bit_and, List, [], ◌∷◌, ◌++◌, map, Option, Some, None}
use Rattle.ap_value.specs.declared.symbol.Symbol.{Symbol}
use Rattle.ap_term.specs.declared.term.Term.{Term, Var}
use Rattle.ap_term.specs.declared.term.Clause.{Clause}
use Rattle.ap_world.specs.declared.entry.Mask.{Mask}
use Rattle.ap_world.specs.Clauses.{not_of}
use Rattle.ap_world.specs.Kinds.{without}
use Rattle.ap_world.specs.Names.{consp_name, integerp_name, symbolp_name, stringp_name, characterp_name, true_listp_name}
use Rattle.ap_world.specs.Types.{zero_bit, positive_bit, negative_bit, nil_bit, t_bit, symbol_bit, proper_bit, improper_bit, string_bit, character_bit}
use Rattle.ap_kernel.specs.declared.reductions.Inference.{Inference}
use Rattle.ap_kernel.specs.Eliminating.{call_on}
use Rattle.ap_kernel.specs.Inferences.{to_one}
use Rattle.ap_kernel.specs.Swapping.{swapped}

-- each type of the first mask is one of the second
abbrev pub lies_within : ℕ → ℕ → Bool
lies_within m r = nat_eq (bit_and m (without r)) 0

-- the recognisers, in the order in which they are tried, each with the types that it is true of
unfoldable pub tried : List (Symbol × ℕ)
tried =
    (integerp_name, zero_bit + positive_bit + negative_bit) ∷ (true_listp_name, nil_bit + proper_bit) ∷ (consp_name, proper_bit + improper_bit)
    ∷ (symbolp_name, nil_bit + t_bit + symbol_bit) ∷ (stringp_name, string_bit) ∷ (characterp_name, character_bit) ∷ []

-- the first one whose types a mask lies within
abbrev pub first_fitting : ℕ → List (Symbol × ℕ) → Option Symbol
first_fitting m [] = None
first_fitting m (p ∷ ps) = cond (lies_within m p.1) (Some p.0) (first_fitting m ps)

-- the negation of a recogniser on the variable, where there is one
abbrev pub asked : Symbol → Option Symbol → List Term
asked v None = []
asked v (Some f) = not_of (call_on f v) ∷ []

abbrev pub restriction : ℕ → Symbol → List Term
restriction m v = asked v (first_fitting m tried)

-- a new variable in every place of a term of this mask
abbrev pub generalised : Clause → Term → Symbol → Mask → Inference
generalised c t v m = to_one c (restriction m.0 v ++ map (swapped ((t, Var v) ∷ [])) c.0)
