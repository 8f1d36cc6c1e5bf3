-- Irrelevance: literals that hang together by their variables form parts, and parts that say too little are left out.
use Rattle.std.specs.Prelude.{ℕ, zero, suc, Bool, false, cond, not, ◌&&◌, ◌||◌, List, [], ◌∷◌, ◌++◌, map, length, Option, Some, None}
use Rattle.ap_list.specs.Lists.{all_true, is_among}
use Rattle.ap_value.specs.declared.symbol.Symbol.{Symbol}
use Rattle.ap_value.specs.Values.{symbol_eq}
use Rattle.ap_term.specs.declared.term.Term.{Term, out-Term}
use Rattle.ap_term.specs.declared.term.Term.TheOpen.{Term-F}
use Rattle.ap_term.specs.declared.term.Clause.{Clause}
use Rattle.ap_term.specs.Terms.{vars_after}
use Rattle.ap_world.specs.Shapes.{Shape, negation, shape_of}
use Rattle.ap_kernel.specs.declared.reductions.Inference.{Inference}
use Rattle.ap_kernel.specs.Induction.{is_variable}
use Rattle.ap_kernel.specs.Reductions.{to_one}
use Rattle.ap_kernel.specs.Solving.{any_true}

abbrev pub vars_of : Term → List Symbol
vars_of u = vars_after u []

-- one of some variables is among others
abbrev pub have_common : List Symbol → List Symbol → Bool
have_common xs ys = any_true (map (λ y. is_among symbol_eq y xs) ys)

-- some variables, and those of others that aren't among them
abbrev pub united : List Symbol → List Symbol → List Symbol
united xs [] = xs
united xs (y ∷ ys) = united (cond (is_among symbol_eq y xs) xs (xs ++ y ∷ [])) ys

-- the variables with those of each literal that has one of them, and so as often as there are literals
abbrev pub grown_by : List Symbol → Term → List Symbol
grown_by xs u = cond (have_common xs (vars_of u)) (united xs (vars_of u)) xs

abbrev pub grown : List Term → List Symbol → List Symbol
grown [] xs = xs
grown (u ∷ us) xs = grown us (grown_by xs u)

abbrev pub reached : List Term → ℕ → List Symbol → List Symbol
reached ts zero xs = xs
reached ts (suc n) xs = reached ts n (grown ts xs)

-- the variables of a literal's part
abbrev pub part_vars : List Term → Term → List Symbol
part_vars ts u = reached ts (length ts) (vars_of u)

-- a call of one argument that is a variable, negated or not
abbrev pub is_lone : List Term → Bool
is_lone (a ∷ []) = is_variable a
is_lone ts = false

abbrev pub of_variable : Term-F Term → Bool
of_variable (Term-F.Call f ts) = is_lone ts
of_variable y = false

abbrev pub negation_says_little : Shape Term → Bool
negation_says_little (negation a) = of_variable (out-Term a)
negation_says_little y = false

abbrev pub says_little : Term → Bool
says_little u = of_variable (out-Term u) || negation_says_little (shape_of u)

-- each literal of its part is such a call
abbrev pub is_outside : List Symbol → Term → Bool
is_outside xs u = not (have_common xs (vars_of u)) || says_little u

abbrev pub is_irrelevant : List Term → Term → Bool
is_irrelevant ts u = says_little u && all_true (map (is_outside (part_vars ts u)) ts)

-- the elements of which the test is false
abbrev pub those_not : {A : Type 0} → (A → Bool) → List A → List A
those_not test [] = []
those_not test (x ∷ xs) = cond (test x) (those_not test xs) (x ∷ those_not test xs)

abbrev pub left_out : Clause → Inference
left_out c = to_one c (those_not (is_irrelevant c.0) c.0)

-- where some part is irrelevant, and some part isn't
abbrev pub some_irrelevant : List Term → Bool
some_irrelevant ts = any_true (map (is_irrelevant ts) ts)

abbrev pub some_relevant : List Term → Bool
some_relevant ts = any_true (map (λ u. not (is_irrelevant ts u)) ts)

abbrev pub irrelevance_made : Clause → Option Inference
irrelevance_made c = cond (some_irrelevant c.0 && some_relevant c.0) (Some (left_out c)) None
