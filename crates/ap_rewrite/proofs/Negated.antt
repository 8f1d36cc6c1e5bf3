-- Negations, and an `if` by its simplest shape: what the rows on them ask for and give.
use Rattle.std.proofs.Common.{Bor, ◌≡◌, Bool, true, false, cond, not, [], ◌∷◌, None, Some, refl, sym, ap, ◌∙◌, subst}
use Rattle.ap_value.specs.declared.value.Value.{Value, Sym}
use Rattle.ap_value.specs.Values.{val_of, value_eq}
use Rattle.ap_value.proofs.Equals.{value_eq-same}
use Rattle.ap_term.specs.declared.term.Term.{Term, Quote}
use Rattle.ap_term.specs.declared.term.Term.TheVariants.{outs-Quote, outs-Call}
use Rattle.ap_world.specs.declared.entry.Mask.{Mask}
use Rattle.ap_world.specs.Names.{nil_name, t_name, not_name}
use Rattle.ap_world.specs.Primitives.{nil, t, truth}
use Rattle.ap_world.specs.Meaning.{Defs, Total, HasValue}
use Rattle.ap_world.specs.Clauses.{not_of}
use Rattle.ap_world.specs.Sound.{known}
use Rattle.ap_world.specs.Recursion.{t_constant}
use Rattle.ap_world.specs.Facts.{Facts}
use Rattle.ap_world.specs.Shapes.{constant, choice, negation, head_of, call_shape, shape_of}
use Rattle.ap_world.proofs.Knowing.{known_quote, known_args, each_true}
use Rattle.ap_world.proofs.TotalMeaning.{models, val_is, val_quote}
use Rattle.ap_world.proofs.Equations.{val_of_nil, val_of_t, names_open}
use Rattle.ap_world.proofs.Shaped.{Says, shape_says, shape_call}
use Rattle.ap_world.proofs.Starting.{val_not}
use Rattle.ap_kernel.specs.declared.objects.Mode.{Mode}
use Rattle.ap_world.specs.declared.shapes.ShapeRef.{ShapeRef}
use Rattle.ap_world.specs.declared.shapes.ShapeRef.TheVariants as lent
use Rattle.ap_world.specs.Lent.{seen}
use Rattle.ap_kernel.specs.Standing.{DefinesNot}
use Rattle.ap_kernel.specs.Answers.{if_of}
use Rattle.ap_kernel.specs.Choices.{bare, bare_test, is_truth, if_shape, choice_leads, is_choice}
use Rattle.ap_kernel.specs.Equations.{truth_constant}
use Rattle.ap_kernel.proofs.ChoicesStand.{known_not}
use Rattle.ap_rewrite.specs.Settings.{Setting}
use Rattle.ap_rewrite.specs.Rewriting.{truth_in, truth_of, shaped, unwrapped, negated}
use Rattle.ap_rewrite.proofs.Truths.{shape_if, no_constant}

-- the shape of a negation, and its argument
call_not : (a : Term) → call_shape (head_of not_name) (a ∷ []) ≡ negation a
unfolding head_of names_open
call_not a = refl

pub shape_not : (a : Term) → shape_of (not_of a) ≡ negation a
shape_not a = shape_call not_name (a ∷ []) ∙ call_not a

pub not_same : (a b : Term) → not_of a ≡ not_of b → a ≡ b
not_same a b h =
    let same : negation a ≡ negation b = sym (shape_not a) ∙ ap shape_of h ∙ shape_not b in
    cc

pub known_under : (D : Defs) (a : Term) → known D (not_of a) ≡ true → known D a ≡ true
known_under D a k = (each_true (known D) (a ∷ []) (known_args D not_name (a ∷ []) k)).0

-- the negation of a constant is known
pub not_quote_known : (D : Defs) → DefinesNot D → (v : Value) → known D (not_of (Quote v)) ≡ true
not_quote_known D ground v = known_not D ground (Quote v) (known_quote D v)

pub t_is : (v : Value) → value_eq (val_of v) nil ≡ true → val_of (Sym t_name) ≡ truth (value_eq (val_of v) nil)
t_is v h = val_of_t ∙ sym (ap truth h)

pub nil_is : (v : Value) → value_eq (val_of v) nil ≡ false → val_of (Sym nil_name) ≡ truth (value_eq (val_of v) nil)
nil_is v h = val_of_nil ∙ sym (ap truth h)

-- what a negation is by its argument
pub turned : (b : Bool) → truth_constant (not (not b)) ≡ truth_constant b
turned true = refl
turned false = refl

pub quote_truth : (v : Value) → truth_of (Quote v) ≡ Some (not (value_eq (val_of v) nil))
quote_truth v = rw (outs-Quote v) refl

pub negated_constant : (S : Setting) (o : Mode) (fs : Facts) (v : Value) → negated S o fs (Quote v) (truth_of (Quote v)) ≡ truth_constant (value_eq (val_of v) nil)
negated_constant S o fs v = ap (negated S o fs (Quote v)) (quote_truth v) ∙ turned (value_eq (val_of v) nil)

pub negated_not : (S : Setting) (o : Mode) (fs : Facts) (z : Term) → negated S o fs (not_of z) (truth_of (not_of z)) ≡ unwrapped S o fs (not_of z) (negation z)
negated_not S o fs z = ap (negated S o fs (not_of z)) (ap truth_in (shape_not z)) ∙ ap (unwrapped S o fs (not_of z)) (shape_not z)

-- an argument that is neither a constant nor a negation
pub negated_other : (S : Setting) (o : Mode) (fs : Facts) (a : Term) (r : ShapeRef) → seen r ≡ shape_of a → ((v : Bor Value) → r ≡ lent.Constant v → ⊥) → ((x : Bor Term) → r ≡ lent.Not x → ⊥)
    → negated S o fs a (truth_of a) ≡ not_of a
negated_other S o fs a (lent.Constant v) h c n = absurd (c v refl)
negated_other S o fs a (lent.Not x) h c n = absurd (n x refl)
negated_other S o fs a (lent.If x y z) h c n = ap (λ y. negated S o fs a (truth_in y)) (sym h) ∙ ap (unwrapped S o fs a) (sym h)
negated_other S o fs a (lent.Equal x y) h c n = ap (λ y. negated S o fs a (truth_in y)) (sym h) ∙ ap (unwrapped S o fs a) (sym h)
negated_other S o fs a (lent.Cons x y) h c n = ap (λ y. negated S o fs a (truth_in y)) (sym h) ∙ ap (unwrapped S o fs a) (sym h)
negated_other S o fs a lent.Other h c n = ap (λ y. negated S o fs a (truth_in y)) (sym h) ∙ ap (unwrapped S o fs a) (sym h)

-- an `if` whose test is no constant
pub choice_here : (a b c : Term) → is_choice (shape_of (if_of a b c)) ≡ true
choice_here a b c = rw (shape_if a b c) refl

pub bare_here : (a b c : Term) → bare_test (if_of a b c) ≡ (bare a).0
bare_here a b c = rw (shape_if a b c) refl

pub shape_leads : (S : Setting) (o : Mode) (fs : Facts) (k : Mask) (a b c : Term) → k ≡ record { 0 = S.types fs (bare_test (if_of a b c)) } → truth_of a ≡ None
    → choice_leads (is_truth o k) (if_of a b c) (shape_of (if_of a b c)) ≡ shaped S o fs a b c
shape_leads S o fs k a b c q none =
    ap (choice_leads (is_truth o k) (if_of a b c)) (shape_if a b c)
    ∙ no_constant (is_truth o k) (shape_of a) a b c none
    ∙ ap (λ (k : Mask). if_shape (is_truth o k) a b c) (q ∙ ap (λ u. record { 0 = S.types fs u }) (bare_here a b c))

-- an `if` and its shape, whatever parts it is taken to have
same_test : (a b c x y z : Term) → if_of a b c ≡ if_of x y z → a ≡ x
same_test a b c x y z h =
    let same : choice a b c ≡ choice x y z = sym (shape_if a b c) ∙ ap shape_of h ∙ shape_if x y z in
    cc

pub shaped_by : (S : Setting) (o : Mode) (fs : Facts) (k : Mask) (u a b c x y z : Term) → k ≡ record { 0 = S.types fs (bare_test u) } → u ≡ if_of a b c → truth_of a ≡ None → u ≡ if_of x y z
    → choice_leads (is_truth o k) u (shape_of u) ≡ shaped S o fs x y z
shaped_by S o fs k u a b c x y z q p none r =
    let open_test : truth_of x ≡ None = ap truth_of (sym (same_test a b c x y z (sym p ∙ r))) ∙ none in
    ap (λ u. choice_leads (is_truth o k) u (shape_of u)) r ∙ shape_leads S o fs k x y z (q ∙ ap (λ u. record { 0 = S.types fs (bare_test u) }) r) open_test

-- a negation that isn't one
pub is_negation : (t a : Term) (r : ShapeRef) → seen r ≡ shape_of t → t ≡ not_of a → ((x : Bor Term) → r ≡ lent.Not x → ⊥) → ⊥
is_negation t a r h p n =
    let is : seen r ≡ negation a = h ∙ ap shape_of p ∙ shape_not a in
    go r is n
  where
    go : (r : ShapeRef) → seen r ≡ negation a → ((x : Bor Term) → r ≡ lent.Not x → ⊥) → ⊥
    go (lent.Not x) q n = n x refl
    go (lent.Constant v) q n = cc
    go (lent.If x y z) q n = cc
    go (lent.Equal x y) q n = cc
    go (lent.Cons x y) q n = cc
    go lent.Other q n = cc

-- of a negation of a negation
pub unwrapped_says : (S : Setting) (o : Mode) (fs : Facts) (k : Mask) (z : Term) (b : Bool) → k ≡ record { 0 = S.types fs z } → is_truth o k ≡ b
    → cond b z (not_of (not_of z)) ≡ unwrapped S o fs (not_of z) (negation z)
unwrapped_says S o fs k z b q h = ap (λ b. cond b z (not_of (not_of z))) (sym h) ∙ ap (λ (k : Mask). cond (is_truth o k) z (not_of (not_of z))) q

-- a term of such a shape
pub quote_here : (a : Term) (v : Value) → constant v ≡ shape_of a → a ≡ Quote v
quote_here a v h = subst (Says a) (sym h) (shape_says a)

pub not_here : (a z : Term) → negation z ≡ shape_of a → a ≡ not_of z
not_here a z h = subst (Says a) (sym h) (shape_says a)

-- nil turned round
pub nil_turns : (v : Value) → v ≡ Sym nil_name → truth_constant (value_eq (val_of v) nil) ≡ t_constant
nil_turns v h = ap (λ v. truth_constant (value_eq (val_of v) nil)) h ∙ ap (λ x. truth_constant (value_eq x nil)) val_of_nil ∙ ap truth_constant (value_eq-same nil)
