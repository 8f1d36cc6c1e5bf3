-- A measure that is chosen is the count of a formal; it speaks of the formals, and is known.
use Rattle.std.proofs.Common.{◌≡◌, Bool, true, false, cond, ◌||◌, List, [], ◌∷◌, map, Some, refl, sym, ap, ◌∙◌, subst}
use Rattle.ap_list.specs.Lists.{all_true, is_among, is_within}
use Rattle.ap_value.specs.declared.symbol.Symbol.{Symbol}
use Rattle.ap_value.specs.Values.{symbol_eq}
use Rattle.ap_value.proofs.Equals.{and_true, symbol_eq-same}
use Rattle.ap_term.specs.declared.term.Term.{Term, Var}
use Rattle.ap_term.specs.Terms.{vars_after}
use Rattle.ap_world.specs.declared.entry.Case.{Case}
use Rattle.ap_world.specs.Names.{acl2_count_name}
use Rattle.ap_world.specs.Meaning.{Defs}
use Rattle.ap_world.specs.Recursion.{count_of, suits, first_suiting, chosen_measure}
use Rattle.ap_world.specs.Ground.{acl2_count_function}
use Rattle.ap_world.specs.Sound.{known, speaks_of, HasFunctions}
use Rattle.ap_world.proofs.Equations.{knowing, prim_of_acl2_count}
use Rattle.ap_world.proofs.Written.{vars_var, vars_call}
use Rattle.ap_world.proofs.Grounded.{has_count}

-- a measure that was chosen is the count of a formal
pub chosen_count : (formals xs : List Symbol) (ks : List Case) (m : List Term) → first_suiting formals xs ks ≡ Some m → (x : Symbol) × (m ≡ count_of x ∷ []) × (is_among symbol_eq x xs ≡ true)
chosen_count formals [] ks m h = cc
chosen_count formals (x ∷ xs) ks m h = go (all_true (map (suits formals x) ks)) (chosen_count formals xs ks m) h
  where
    later : (y : Symbol) → (b : Bool) → is_among symbol_eq y xs ≡ true → (b || is_among symbol_eq y xs) ≡ true
    later y true h = refl
    later y false h = h

    go : (b : Bool) → (first_suiting formals xs ks ≡ Some m → (y : Symbol) × (m ≡ count_of y ∷ []) × (is_among symbol_eq y xs ≡ true)) → cond b (Some (count_of x ∷ [])) (first_suiting formals xs ks) ≡ Some m
        → (y : Symbol) × (m ≡ count_of y ∷ []) × ((symbol_eq y x || is_among symbol_eq y xs) ≡ true)
    go true below k = let same : m ≡ count_of x ∷ [] = cc in (x, same, ap (λ b. b || is_among symbol_eq x xs) (symbol_eq-same x))
    go false below k = let c = below k in (c.0, c.1, later c.0 (symbol_eq c.0 x) c.2)

count_known : (D : Defs) → D acl2_count_name ≡ Some acl2_count_function → (x : Symbol) → known D (count_of x) ≡ true
unfolding acl2_count_function
count_known D has_it x = simp (has_it, prim_of_acl2_count, knowing)

pub chosen_fits : (D : Defs) → HasFunctions D → (formals : List Symbol) (ks : List Case) (m : List Term) → chosen_measure formals ks ≡ Some m
    → (all_true (map (speaks_of formals) m) ≡ true) × (all_true (map (known D) m) ≡ true)
chosen_fits D functions formals ks m h =
    let (x, same, there) = chosen_count formals formals ks m h in (
      subst (λ us. all_true (map (speaks_of formals) us) ≡ true) (sym same) (and_true (speaks_of formals (count_of x)) true (speaks x there) refl),
      subst (λ us. all_true (map (known D) us) ≡ true) (sym same) (and_true (known D (count_of x)) true (count_known D (has_count D functions) x) refl),
    )
  where
    variable : (x : Symbol) → vars_after (count_of x) [] ≡ x ∷ []
    variable x = vars_call acl2_count_name (Var x ∷ []) [] ∙ vars_var x []

    speaks : (x : Symbol) → is_among symbol_eq x formals ≡ true → speaks_of formals (count_of x) ≡ true
    speaks x there = ap (λ xs. is_within symbol_eq xs formals) (variable x) ∙ and_true (is_among symbol_eq x formals) true there refl
