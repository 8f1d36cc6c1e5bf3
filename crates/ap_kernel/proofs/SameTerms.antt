-- Whether two terms are one, as a test, and whether a term is an equation of two terms.
use Rattle.std.proofs.Common.{◌≡◌, Bool, true, false, ◌&&◌, true≢false, [], ◌∷◌, refl, ap, sym, ◌∙◌, Bor}
use Rattle.ap_value.proofs.Equals.{both, and_true}
use Rattle.ap_term.specs.declared.term.Term.{Term}
use Rattle.ap_term.specs.Equal.{term_eq}
use Rattle.ap_term.proofs.Equals.{term_eq-true, term_eq-is, tests_same}
use Rattle.ap_world.specs.Names.{equal_name}
use Rattle.ap_world.specs.Shapes.{Shape, constant, choice, negation, equation, pair, other, head_of, call_shape, shape_of, equal_head}
use Rattle.ap_world.proofs.Equations.{names_open}
use Rattle.ap_world.proofs.Shaped.{Says, shape_says, shape_call}
use Rattle.ap_world.specs.declared.shapes.ShapeRef.{ShapeRef}
use Rattle.ap_world.specs.declared.shapes.ShapeRef.TheVariants as lent
use Rattle.ap_world.specs.Lent.{seen}
use Rattle.ap_kernel.specs.Equations.{equal_of}

head_equal : head_of equal_name ≡ equal_head
unfolding head_of names_open
head_equal = refl

pub shape_equal : (a b : Term) → shape_of (equal_of a b) ≡ equation a b
shape_equal a b = shape_call equal_name (a ∷ b ∷ []) ∙ ap (λ h. call_shape h (a ∷ b ∷ [])) head_equal

-- whether a term of this shape is (equal a b)
abbrev pub sides_are : Term → Term → Shape Term → Bool
sides_are a b (equation x y) = term_eq a x && term_eq b y
sides_are a b y = false

pub equation_test : (t a b : Term) → term_eq (equal_of a b) t ≡ sides_are a b (shape_of t)
equation_test t a b = go (shape_of t) refl (shape_says t)
  where
    found : (y : Shape Term) → shape_of t ≡ y → term_eq (equal_of a b) t ≡ true → equation a b ≡ y
    found y e h = sym (shape_equal a b) ∙ ap shape_of (term_eq-true (equal_of a b) t h) ∙ e

    isnt : (y : Shape Term) → shape_of t ≡ y → (equation a b ≡ y → ⊥) → term_eq (equal_of a b) t ≡ false
    isnt y e apart = tests_same (term_eq (equal_of a b) t) false (λ h. absurd (apart (found y e h))) (λ h. absurd (true≢false (sym h)))

    go : (y : Shape Term) → shape_of t ≡ y → Says t y → term_eq (equal_of a b) t ≡ sides_are a b y
    go (equation x y) e s =
        tests_same (term_eq (equal_of a b) t) (term_eq a x && term_eq b y)
        (λ h. let k = found (equation x y) e h in and_true (term_eq a x) (term_eq b y) (term_eq-is a x (cc)) (term_eq-is b y (cc)))
        (λ h. let k = both (term_eq a x) (term_eq b y) h in
        let left = term_eq-true a x k.0 in
        let right = term_eq-true b y k.1 in
        term_eq-is (equal_of a b) t (ap (λ u. equal_of u b) left ∙ ap (λ u. equal_of x u) right ∙ sym s))
    go (constant v) e s = isnt (constant v) e (λ h. cc)
    go (choice u v w) e s = isnt (choice u v w) e (λ h. cc)
    go (negation u) e s = isnt (negation u) e (λ h. cc)
    go (pair u v) e s = isnt (pair u v) e (λ h. cc)
    go other e s = isnt other e (λ h. cc)

-- a term of another shape is no equation
pub not_equation : (t a b : Term) (r : ShapeRef) → seen r ≡ shape_of t → ((x y : Bor Term) → r ≡ lent.Equal x y → ⊥) → false ≡ term_eq (equal_of a b) t
not_equation t a b (lent.Equal x y) h k = absurd (k x y refl)
not_equation t a b (lent.Constant v) h k = sym (equation_test t a b ∙ ap (sides_are a b) (sym h))
not_equation t a b (lent.If x y z) h k = sym (equation_test t a b ∙ ap (sides_are a b) (sym h))
not_equation t a b (lent.Not x) h k = sym (equation_test t a b ∙ ap (sides_are a b) (sym h))
not_equation t a b (lent.Cons x y) h k = sym (equation_test t a b ∙ ap (sides_are a b) (sym h))
not_equation t a b lent.Other h k = sym (equation_test t a b ∙ ap (sides_are a b) (sym h))
