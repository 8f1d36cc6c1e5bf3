-- The starting world, of `not` alone, is sound; and what `not` means.
use Rattle.std.proofs.Common.{◌≡◌, zero, suc, Bool, true, false, cond, pos, negsuc, [], ◌∷◌, zip, Some, refl, sym, ◌∙◌, subst}
use Rattle.std.specs.Int.{bit_at}
use Rattle.ap_value.specs.Values.{V, int, chr, str, sym as symbol, cons, value_eq}
use Rattle.ap_term.specs.declared.term.Term.{Term, Var}
use Rattle.ap_world.specs.declared.entry.Entry.TheVariants as entry
use Rattle.ap_world.specs.Names.{not_name, p_name}
use Rattle.ap_world.specs.Primitives.{nil, t, truth}
use Rattle.ap_world.specs.Meaning.{Env, Defs, HasValue}
use Rattle.ap_world.specs.Types.{is_true_list, Has, truths, all_types}
use Rattle.ap_world.specs.Clauses.{not_of}
use Rattle.ap_world.specs.Sound.{known, speaks_of, not_function, Sound}
use Rattle.ap_world.specs.Ground.{ground_functions}
use Rattle.ap_world.specs.World.{function_of}
use Rattle.ap_world.proofs.Written.{vars_var, vars_quote, vars_call}
use Rattle.ap_world.proofs.TotalMeaning.{Apply, Models, val, models, value_is, apply_is}
use Rattle.ap_world.proofs.Adding.{sound-none, sound-define}
use Rattle.ap_world.proofs.Equations.{names_open, vals, knowing, prim_of_not, val_defined}

-- the mask of all ten types
pub has_all : (v : V) → Has all_types v
has_all (int (pos zero)) = refl
has_all (int (pos (suc n))) = refl
has_all (int (negsuc n)) = refl
has_all (chr c) = refl
has_all (str s) = refl
has_all (cons a b) = go (is_true_list b)
  where
    go : (x : Bool) → bit_at 1023 (cond x 6 7) ≡ 1
    go true = refl
    go false = refl
has_all (symbol k s) = go (value_eq (symbol k s) nil) (value_eq (symbol k s) t)
  where
    go : (x y : Bool) → bit_at 1023 (cond x 3 (cond y 4 5)) ≡ 1
    go true y = refl
    go false true = refl
    go false false = refl

-- the mask of t and nil
pub has_truth : (b : Bool) → Has truths (truth b)
unfolding value_eq t nil names_open
has_truth true = refl
has_truth false = refl

truth_of_nil : (b : Bool) → cond b t nil ≡ truth b
truth_of_nil true = refl
truth_of_nil false = refl

not_masked : (e : Env) (v : V) → HasValue (function_of []) not_function.body e v → Has truths v
unfolding not_function
not_masked e v h =
    let (A, m) = models (function_of []) sound-none.total in
    let is : val A not_function.body e ≡ truth (value_eq (val A (Var p_name) e) nil) = simp vals (truth_of_nil _) in
    subst (Has truths) (sym (value_is (function_of []) A m not_function.body e v h ∙ is)) (has_truth (value_eq (val A (Var p_name) e) nil))

not_known : (D : Defs) → known D not_function.body ≡ true
unfolding not_function
not_known D = simp knowing

not_speaks : speaks_of not_function.formals not_function.body ≡ true
unfolding not_function p_name
not_speaks = simp (vars_call, vars_var, vars_quote)

pub starting_sound : Sound (entry.Function not_function ∷ [])
unfolding not_function ground_functions names_open
starting_sound = sound-define [] not_function sound-none refl refl not_speaks (not_known (function_of [])) refl refl
    (record { formals = refl; body = refl; measure = refl }) (λ vs v l h. not_masked (zip not_function.formals vs) v h)

-- what `not` gives: t of nil, and nil of every other value
pub not_is : (D : Defs) (A : Apply) → Models D A → D not_name ≡ Some not_function → (v : V) → A not_name (v ∷ []) ≡ truth (value_eq v nil)
unfolding not_function p_name
not_is D A m here v = apply_is D A m not_name not_function (v ∷ []) here refl ∙ simp vals (truth_of_nil (value_eq v nil))

pub val_not : (D : Defs) (A : Apply) → Models D A → D not_name ≡ Some not_function → (a : Term) (e : Env) → val A (not_of a) e ≡ truth (value_eq (val A a e) nil)
val_not D A m here a e = val_defined A not_name (a ∷ []) e prim_of_not ∙ not_is D A m here (val A a e)
