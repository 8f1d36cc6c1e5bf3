-- The truths of constants, and what an `if` is by them.
use Rattle.std.proofs.Common.{◌≡◌, pos, Bool, true, false, cond, not, [], ◌∷◌, None, Some, refl, ap, sym, ◌∙◌, subst}
use Rattle.ap_value.specs.Values.{int, val_of, value_eq}
use Rattle.ap_value.proofs.Equals.{value_eq-same}
use Rattle.ap_term.specs.declared.term.Term.{Term}
use Rattle.ap_world.specs.Names.{if_name}
use Rattle.ap_world.specs.Primitives.{nil, t}
use Rattle.ap_world.specs.Meaning.{Env}
use Rattle.ap_world.specs.Shapes.{Shape, constant, choice, head_of, call_shape, shape_of, constant_says, is_constant}
use Rattle.ap_world.proofs.TotalMeaning.{Apply, val, val_quote}
use Rattle.ap_world.proofs.Equations.{nil-eq, eq-not_nil, not_nil-eq, val_if, names_open}
use Rattle.ap_world.proofs.Shaped.{Says, shape_says, shape_call}
use Rattle.ap_world.proofs.Assumed.{Signed}
use Rattle.ap_kernel.specs.Masks.{types_of_others}
use Rattle.ap_kernel.specs.Answers.{if_of}
use Rattle.ap_kernel.specs.Choices.{if_shape, by_constant}
use Rattle.ap_rewrite.specs.Rewriting.{truth_in, truth_of}

-- the types besides those of nil, t and zero
pub others_nil : types_of_others nil ≡ 1015
unfolding value_eq t nil names_open
others_nil = refl

pub others_t : types_of_others t ≡ 1007
unfolding value_eq t nil names_open
others_t = refl

pub others_zero : types_of_others (int (pos 0)) ≡ 1022
unfolding value_eq t nil names_open
others_zero = refl

call_if : (a b c : Term) → call_shape (head_of if_name) (a ∷ b ∷ c ∷ []) ≡ choice a b c
unfolding head_of names_open
call_if a b c = refl

pub shape_if : (a b c : Term) → shape_of (if_of a b c) ≡ choice a b c
shape_if a b c = shape_call if_name (a ∷ b ∷ c ∷ []) ∙ call_if a b c

-- a constant's truth
truth_in_says : (A : Apply) (e : Env) (u : Term) (y : Shape Term) (b : Bool) → Says u y → truth_in y ≡ Some b → Signed b (val A u e)
truth_in_says A e u (constant v) b k h =
    let same : not (value_eq (val_of v) nil) ≡ b = cc in
    subst (λ x. Signed x (val A u e)) same (subst (Signed (not (value_eq (val_of v) nil))) (sym (ap (λ u. val A u e) k ∙ val_quote A v e)) (go (value_eq (val_of v) nil) refl))
  where
    go : (x : Bool) → value_eq (val_of v) nil ≡ x → Signed (not x) (val_of v)
    go true q = nil-eq (val_of v) q
    go false q = eq-not_nil (val_of v) q
truth_in_says A e u y b k h = cc

pub truth_says : (A : Apply) (e : Env) (u : Term) (b : Bool) → truth_of u ≡ Some b → Signed b (val A u e)
truth_says A e u b h = truth_in_says A e u (shape_of u) b (shape_says u) h

truth_in_constant : (y : Shape Term) → constant_says true y ≡ true → truth_in y ≡ Some true
truth_in_constant (constant v) h = ap Some h
truth_in_constant y h = cc

pub constant_truth : (u : Term) → is_constant true u ≡ true → truth_of u ≡ Some true
constant_truth u h = truth_in_constant (shape_of u) h

truth_in_is : (y : Shape Term) (s : Bool) → truth_in y ≡ Some s → constant_says s y ≡ true
truth_in_is (constant v) true h = let k : not (value_eq (val_of v) nil) ≡ true = cc in k
truth_in_is (constant v) false h = let k : not (value_eq (val_of v) nil) ≡ false = cc in go (value_eq (val_of v) nil) k
  where
    go : (x : Bool) → not x ≡ false → x ≡ true
    go true k = refl
    go false k = cc
truth_in_is y s h = cc

pub truth_constant : (u : Term) (s : Bool) → truth_of u ≡ Some s → is_constant s u ≡ true
truth_constant u s h = truth_in_is (shape_of u) s h

-- an `if` whose test is no constant leads to its shape
pub no_constant : (k : Bool) (y : Shape Term) (a b c : Term) → truth_in y ≡ None → by_constant k y a b c ≡ if_shape k a b c
no_constant k (constant v) a b c h = cc
no_constant k y a b c h = refl

-- an `if` whose test has a sign is the branch
pub chosen : (A : Apply) (s : Bool) (a b c : Term) (e : Env) → Signed s (val A a e) → val A (if_of a b c) e ≡ val A (cond s b c) e
chosen A true a b c e h = val_if A a b c e ∙ ap (λ x. cond x (val A c e) (val A b e)) (not_nil-eq (val A a e) h)
chosen A false a b c e h = val_if A a b c e ∙ ap (λ x. cond x (val A c e) (val A b e)) (ap (λ v. value_eq v nil) h ∙ value_eq-same nil)
