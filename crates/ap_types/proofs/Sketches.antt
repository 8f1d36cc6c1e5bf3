-- Terms of which the types are found by computing alone: sketches, the facts and the types on them, and that
-- they are those of the terms that are sketched.
use Rattle.std.proofs.Common.{◌≡◌, ℕ, ◌+◌, Bool, true, false, cond, not, ◌&&◌, nat_eq, true≢false, pos, List, [], ◌∷◌, ◌++◌, Option, Some, None, refl, ap, sym, ◌∙◌, subst, eqb-true, eq-eqb}
use Rattle.std.specs.Int.Bits.{bit_and}
use Rattle.ap_value.specs.declared.symbol.Symbol.{Symbol}
use Rattle.ap_value.specs.declared.value.Value.{Value, out-Value}
use Rattle.ap_value.specs.declared.value.Value.TheOpen.{Value-F}
use Rattle.ap_value.specs.declared.value.Value.TheVariants.{Int, Sym, outs-Int, outs-Sym}
use Rattle.ap_value.specs.Values.{int, symbol_eq, value_eq}
use Rattle.ap_value.proofs.Equals.{symbol_eq-true, symbol_eq-same, both, and_true}
use Rattle.ap_term.specs.declared.term.Term.{Term, fold-Term, out-Term, Var, Quote, Call}
use Rattle.ap_term.specs.declared.term.Term.TheOpen.{Term-F}
use Rattle.ap_term.specs.declared.term.Term.TheVariants.{outs-Var, outs-Quote, outs-Call}
use Rattle.ap_term.specs.Equal.{term_eq}
use Rattle.ap_term.proofs.Equals.{term_eq-true, term_eq-same}
use Rattle.ap_term.proofs.Induction.{fold_var, fold_quote, fold_call}
use Rattle.ap_world.specs.declared.primitive.Primitive.{Primitive as Prim}
use Rattle.ap_world.specs.declared.primitive.Primitive.TheVariants.{Equal, Less, Coerce}
use Rattle.ap_world.specs.Names.{if_name, not_name, list_name}
use Rattle.ap_world.specs.Primitives.{symbol_value, prim_of}
use Rattle.ap_world.specs.Types.{nil_bit, proper_bit, string_bit, positive_bit, negative_bit}
use Rattle.ap_world.specs.Facts.{Facts}
use Rattle.ap_world.specs.Shapes.{Head, if_head, not_head, equal_head, cons_head, other_head, head_of, call_shape, shape_of}
use Rattle.ap_world.specs.Assume.{parts, assume}
use Rattle.ap_world.specs.Kinds.{bit, int_kind, kind_of, all, without}
use Rattle.ap_world.specs.Rows.{recognised, coerce_by, over_two}
use Rattle.ap_world.specs.Narrowing.{signed, by_recogniser, by_kind, by_constant, by_equation, is_zero, by_bound, by_pair, by_parts, cut}
use Rattle.ap_world.specs.Typing.{any_empty, if_parts, chosen_types, two_types, call_types, types_by}
use Rattle.ap_world.proofs.Equations.{val_of_int, val_of_sym, prim_of_if}
use Rattle.ap_world.proofs.Shaped.{HeadSays, head_says, shape_call}
use Rattle.ap_world.proofs.Parts.{assumed_whole}
use Rattle.ap_types.proofs.Formed.{types_var, types_quote, types_call, head_if, head_one, head_two}

pub data Sketch : Type 0 where
  variable : Symbol → Sketch
  number : ℕ → Sketch
  named : Symbol → Sketch
  one : Symbol → Sketch → Sketch
  two : Symbol → Sketch → Sketch → Sketch
  choose : Sketch → Sketch → Sketch → Sketch

-- the term that is sketched
abbrev pub term : Sketch → Term
term (variable x) = Var x
term (number n) = Quote (Int (pos n))
term (named s) = Quote (Sym s)
term (one f a) = Call f (term a ∷ [])
term (two f a b) = Call f (term a ∷ term b ∷ [])
term (choose a b c) = Call if_name (term a ∷ term b ∷ term c ∷ [])

-- two sketches are one
abbrev pub same : Sketch → Sketch → Bool
same (variable x) (variable y) = symbol_eq x y
same (number m) (number n) = nat_eq m n
same (named s) (named t) = symbol_eq s t
same (one f a) (one g b) = symbol_eq f g && same a b
same (two f a b) (two g c d) = symbol_eq f g && (same a c && same b d)
same (choose a b c) (choose d e f) = same a d && (same b e && same c f)
same s t = false

-- the sketch of a term that has one
sketch_number : Value-F Value → Sketch
sketch_number (Value-F.Int (pos n)) = number n
sketch_number (Value-F.Sym s) = named s
sketch_number y = number 0

abbrev sketch_step : Term-F Sketch → Sketch
sketch_step (Term-F.Var x) = variable x
sketch_step (Term-F.Quote v) = sketch_number (out-Value v)
sketch_step (Term-F.Call f (a ∷ [])) = one f a
sketch_step (Term-F.Call f (a ∷ b ∷ [])) = two f a b
sketch_step (Term-F.Call f (a ∷ b ∷ c ∷ [])) = choose a b c
sketch_step y = number 0

abbrev sketch : Term → Sketch
sketch = fold-Term Sketch sketch_step

sketched : (s : Sketch) → sketch (term s) ≡ s
unfolding sketch_number
sketched (variable x) = fold_var sketch_step x
sketched (number n) = fold_quote sketch_step (Int (pos n)) ∙ ap sketch_number (outs-Int (pos n))
sketched (named s) = fold_quote sketch_step (Sym s) ∙ ap sketch_number (outs-Sym s)
sketched (one f a) = fold_call sketch_step f (term a ∷ []) ∙ ap (one f) (sketched a)
sketched (two f a b) = fold_call sketch_step f (term a ∷ term b ∷ []) ∙ ap (λ x. two f x (sketch (term b))) (sketched a) ∙ ap (two f a) (sketched b)
sketched (choose a b c) =
    fold_call sketch_step if_name (term a ∷ term b ∷ term c ∷ [])
    ∙ ap (λ x. choose x (sketch (term b)) (sketch (term c))) (sketched a)
    ∙ ap (λ x. choose a x (sketch (term c))) (sketched b)
    ∙ ap (choose a b) (sketched c)

same_self : (s : Sketch) → same s s ≡ true
same_self (variable x) = symbol_eq-same x
same_self (number n) = eq-eqb n n refl
same_self (named s) = symbol_eq-same s
same_self (one f a) = and_true (symbol_eq f f) (same a a) (symbol_eq-same f) (same_self a)
same_self (two f a b) = and_true (symbol_eq f f) (same a a && same b b) (symbol_eq-same f) (and_true (same a a) (same b b) (same_self a) (same_self b))
same_self (choose a b c) = and_true (same a a) (same b b && same c c) (same_self a) (and_true (same b b) (same c c) (same_self b) (same_self c))

same_true : (s t : Sketch) → same s t ≡ true → s ≡ t
same_true (variable x) (variable y) h = ap variable (symbol_eq-true x y h)
same_true (number m) (number n) h = ap number (eqb-true m n h)
same_true (named s) (named t) h = ap named (symbol_eq-true s t h)
same_true (one f a) (one g b) h =
    let k = both (symbol_eq f g) (same a b) h in
    ap (λ x. one x a) (symbol_eq-true f g k.0) ∙ ap (one g) (same_true a b k.1)
same_true (two f a b) (two g c d) h =
    let k = both (symbol_eq f g) (same a c && same b d) h in
    let l = both (same a c) (same b d) k.1 in
    ap (λ x. two x a b) (symbol_eq-true f g k.0) ∙ ap (λ x. two g x b) (same_true a c l.0) ∙ ap (two g c) (same_true b d l.1)
same_true (choose a b c) (choose d e f) h =
    let k = both (same a d) (same b e && same c f) h in
    let l = both (same b e) (same c f) k.1 in
    ap (λ x. choose x b c) (same_true a d k.0) ∙ ap (λ x. choose d x c) (same_true b e l.0) ∙ ap (choose d e) (same_true c f l.1)
same_true s t h = cc

term_same : (s t : Sketch) → term_eq (term s) (term t) ≡ same s t
term_same s t = go (term_eq (term s) (term t)) refl (same s t) refl
  where
    one_sketch : term_eq (term s) (term t) ≡ true → s ≡ t
    one_sketch e = sym (sketched s) ∙ ap sketch (term_eq-true (term s) (term t) e) ∙ sketched t

    go : (p : Bool) → term_eq (term s) (term t) ≡ p → (q : Bool) → same s t ≡ q → p ≡ q
    go true e true k = refl
    go false e false k = refl
    go true e false k = absurd (true≢false (sym (subst (λ u. same s u ≡ true) (one_sketch e) (same_self s)) ∙ k))
    go false e true k = absurd (true≢false (sym (subst (λ u. term_eq (term s) (term u) ≡ true) (same_true s t k) (term_eq-same (term s))) ∙ e))

-- facts on sketches
abbrev pub Marks : Type 0
Marks = List (Sketch × Bool)

abbrev pub facts : Marks → Facts
facts [] = []
facts (p ∷ ps) = (term p.0, p.1) ∷ facts ps

-- what a fact says of a term's types
abbrev constant_leaves : Bool → Sketch → ℕ
constant_leaves s (number n) = by_kind s (int_kind (pos n))
constant_leaves s (named x) = by_kind s (kind_of (symbol_value x))
constant_leaves s t = all

abbrev zero_is : Sketch → Bool
zero_is (number n) = value_eq (int (pos n)) (int (pos 0))
zero_is (named x) = value_eq (symbol_value x) (int (pos 0))
zero_is t = false

abbrev equation_leaves : Sketch → Bool → Sketch → Sketch → ℕ
equation_leaves u s a b = cond (same a u) (constant_leaves s b) all

abbrev bound_leaves : Sketch → Bool → ℕ → Sketch → Sketch → ℕ
bound_leaves u s m a b = cond (same a u && zero_is b) (signed s m) all

abbrev pair_leaves : Sketch → Bool → Option Prim → Sketch → Sketch → ℕ
pair_leaves u s (Some Equal) a b = bit_and (equation_leaves u s a b) (equation_leaves u s b a)
pair_leaves u s (Some Less) a b = bit_and (bound_leaves u s negative_bit a b) (bound_leaves u s positive_bit b a)
pair_leaves u s o a b = all

abbrev parts_leave : Sketch → Bool → Sketch → ℕ
parts_leave u s (one r a) = cond (same a u) (by_recogniser s (recognised r)) all
parts_leave u s (two r a b) = pair_leaves u s (prim_of r) a b
parts_leave u s t = all

abbrev pub cut_by : Marks → Sketch → ℕ → ℕ
cut_by [] u m = m
cut_by (p ∷ ps) u m = cut_by ps u (bit_and m (bit_and (cond (same p.0 u) (signed p.1 (without nil_bit)) all) (parts_leave u p.1 p.0)))

-- they are those of the terms
no_constant : (s : Bool) (h : Head) (ts : List Term) → by_constant s (call_shape h ts) ≡ all
no_constant s if_head (a ∷ b ∷ c ∷ []) = refl
no_constant s not_head (a ∷ []) = refl
no_constant s equal_head (a ∷ b ∷ []) = refl
no_constant s cons_head (a ∷ b ∷ []) = refl
no_constant s h ts = refl

no_zero : (h : Head) (ts : List Term) → is_zero (call_shape h ts) ≡ false
no_zero if_head (a ∷ b ∷ c ∷ []) = refl
no_zero not_head (a ∷ []) = refl
no_zero equal_head (a ∷ b ∷ []) = refl
no_zero cons_head (a ∷ b ∷ []) = refl
no_zero h ts = refl

call_leaves : (s : Bool) (f : Symbol) (ts : List Term) → by_constant s (shape_of (Call f ts)) ≡ all
call_leaves s f ts = ap (by_constant s) (shape_call f ts) ∙ no_constant s (head_of f) ts

call_isnt : (f : Symbol) (ts : List Term) → is_zero (shape_of (Call f ts)) ≡ false
call_isnt f ts = ap is_zero (shape_call f ts) ∙ no_zero (head_of f) ts

constant_is : (s : Bool) (t : Sketch) → by_constant s (shape_of (term t)) ≡ constant_leaves s t
constant_is s (variable x) = rw (outs-Var x) refl
constant_is s (number n) = rw (outs-Quote (Int (pos n))) (ap (λ v. by_kind s (kind_of v)) (val_of_int (pos n)))
constant_is s (named x) = rw (outs-Quote (Sym x)) (ap (λ v. by_kind s (kind_of v)) (val_of_sym x))
constant_is s (one f a) = call_leaves s f (term a ∷ [])
constant_is s (two f a b) = call_leaves s f (term a ∷ term b ∷ [])
constant_is s (choose a b c) = call_leaves s if_name (term a ∷ term b ∷ term c ∷ [])

zero_is_zero : (t : Sketch) → is_zero (shape_of (term t)) ≡ zero_is t
zero_is_zero (variable x) = rw (outs-Var x) refl
zero_is_zero (number n) = rw (outs-Quote (Int (pos n))) (ap (λ v. value_eq v (int (pos 0))) (val_of_int (pos n)))
zero_is_zero (named x) = rw (outs-Quote (Sym x)) (ap (λ v. value_eq v (int (pos 0))) (val_of_sym x))
zero_is_zero (one f a) = call_isnt f (term a ∷ [])
zero_is_zero (two f a b) = call_isnt f (term a ∷ term b ∷ [])
zero_is_zero (choose a b c) = call_isnt if_name (term a ∷ term b ∷ term c ∷ [])

equation_is : (u : Sketch) (s : Bool) (a b : Sketch) → by_equation (term u) s (term a) (term b) ≡ equation_leaves u s a b
equation_is u s a b = ap (λ x. cond x (by_constant s (shape_of (term b))) all) (term_same a u) ∙ ap (λ n. cond (same a u) n all) (constant_is s b)

bound_is : (u : Sketch) (s : Bool) (m : ℕ) (a b : Sketch) → by_bound (term u) s m (term a) (term b) ≡ bound_leaves u s m a b
bound_is u s m a b = ap (λ x. cond (x && is_zero (shape_of (term b))) (signed s m) all) (term_same a u) ∙ ap (λ x. cond (same a u && x) (signed s m) all) (zero_is_zero b)

pair_is : (u : Sketch) (s : Bool) (o : Option Prim) (a b : Sketch) → by_pair (term u) s o (term a) (term b) ≡ pair_leaves u s o a b
pair_is u s (Some Equal) a b = ap (λ n. bit_and n (by_equation (term u) s (term b) (term a))) (equation_is u s a b) ∙ ap (bit_and (equation_leaves u s a b)) (equation_is u s b a)
pair_is u s (Some Less) a b = ap (λ n. bit_and n (by_bound (term u) s positive_bit (term b) (term a))) (bound_is u s negative_bit a b) ∙ ap (bit_and (bound_leaves u s negative_bit a b)) (bound_is u s positive_bit b a)
pair_is u s o a b = refl

parts_are : (u : Sketch) (s : Bool) (t : Sketch) → by_parts (term u) s (out-Term (term t)) ≡ parts_leave u s t
parts_are u s (variable x) = rw (outs-Var x) refl
parts_are u s (number n) = rw (outs-Quote (Int (pos n))) refl
parts_are u s (named x) = rw (outs-Quote (Sym x)) refl
parts_are u s (one r a) = rw (outs-Call r (term a ∷ [])) (ap (λ x. cond x (by_recogniser s (recognised r)) all) (term_same a u))
parts_are u s (two r a b) = rw (outs-Call r (term a ∷ term b ∷ [])) (pair_is u s (prim_of r) a b)
parts_are u s (choose a b c) = rw (outs-Call if_name (term a ∷ term b ∷ term c ∷ [])) refl

cut_is : (ms : Marks) (u : Sketch) (m : ℕ) → cut (facts ms) (term u) m ≡ cut_by ms u m
cut_is [] u m = refl
cut_is (p ∷ ps) u m =
    ap (cut (facts ps) (term u))
    (ap (λ x. bit_and m (bit_and (cond x (signed p.1 (without nil_bit)) all) (by_parts (term u) p.1 (out-Term (term p.0))))) (term_same p.0 u)
    ∙ ap (λ n. bit_and m (bit_and (cond (same p.0 u) (signed p.1 (without nil_bit)) all) n)) (parts_are u p.1 p.0))
    ∙ cut_is ps u (bit_and m (bit_and (cond (same p.0 u) (signed p.1 (without nil_bit)) all) (parts_leave u p.1 p.0)))

-- a test that is assumed as it is: no `if` and no call of `not`
abbrev pub is_test : Sketch → Bool
is_test (variable x) = true
is_test (one f a) = not (symbol_eq f not_name)
is_test (two f a b) = true
is_test t = false

alone_one : (f : Symbol) (a : Term) (s : Bool) → not (symbol_eq f not_name) ≡ true → (h : Head) → HeadSays f h → parts (λ u. u) (call_shape h (a ∷ [])) s ≡ []
alone_one f a s k not_head is = absurd (true≢false (sym k ∙ ap not (subst (λ x. symbol_eq f x ≡ true) is (symbol_eq-same f))))
alone_one f a s k if_head is = refl
alone_one f a s k equal_head is = refl
alone_one f a s k cons_head is = refl
alone_one f a s k other_head is = refl

alone_two : (a b : Term) (s : Bool) (h : Head) → parts (λ u. u) (call_shape h (a ∷ b ∷ [])) s ≡ []
alone_two a b s if_head = refl
alone_two a b s not_head = refl
alone_two a b s equal_head = refl
alone_two a b s cons_head = refl
alone_two a b s other_head = refl

alone : (t : Sketch) (s : Bool) → is_test t ≡ true → parts (λ u. u) (shape_of (term t)) s ≡ []
alone (variable x) s k = rw (outs-Var x) refl
alone (one f a) s k = ap (λ y. parts (λ u. u) y s) (shape_call f (term a ∷ [])) ∙ alone_one f (term a) s k (head_of f) (head_says f)
alone (two f a b) s k = ap (λ y. parts (λ u. u) y s) (shape_call f (term a ∷ term b ∷ [])) ∙ alone_two (term a) (term b) s (head_of f)
alone t s k = cc

with_mark : (ms : Marks) (t : Sketch) (s : Bool) → facts ms ++ (term t, s) ∷ [] ≡ facts (ms ++ (t, s) ∷ [])
with_mark [] t s = refl
with_mark (p ∷ ps) t s = ap (λ fs. (term p.0, p.1) ∷ fs) (with_mark ps t s)

assume_is : (ms : Marks) (t : Sketch) (s : Bool) → is_test t ≡ true → assume (facts ms) (term t) s ≡ facts (ms ++ (t, s) ∷ [])
assume_is ms t s k = ap (λ fs. facts ms ++ fs) (assumed_whole (term t) s (alone t s k)) ∙ with_mark ms t s

-- each test in it is assumed as it is
abbrev pub tests_plainly : Sketch → Bool
tests_plainly (one f a) = tests_plainly a
tests_plainly (two f a b) = tests_plainly a && tests_plainly b
tests_plainly (choose a b c) = is_test a && (tests_plainly a && (tests_plainly b && tests_plainly c))
tests_plainly t = true

-- (coerce x y), by y
abbrev coerced : Sketch → ℕ
coerced (number n) = cond (value_eq (int (pos n)) (symbol_value list_name)) (nil_bit + proper_bit) string_bit
coerced (named s) = cond (value_eq (symbol_value s) (symbol_value list_name)) (nil_bit + proper_bit) string_bit
coerced t = nil_bit + proper_bit + string_bit

no_coerce : (h : Head) (ts : List Term) → coerce_by (call_shape h ts) ≡ nil_bit + proper_bit + string_bit
no_coerce if_head (a ∷ b ∷ c ∷ []) = refl
no_coerce not_head (a ∷ []) = refl
no_coerce equal_head (a ∷ b ∷ []) = refl
no_coerce cons_head (a ∷ b ∷ []) = refl
no_coerce h ts = refl

coerced_is : (t : Sketch) → coerce_by (shape_of (term t)) ≡ coerced t
coerced_is (variable x) = rw (outs-Var x) refl
coerced_is (number n) = rw (outs-Quote (Int (pos n))) (ap (λ v. cond (value_eq v (symbol_value list_name)) (nil_bit + proper_bit) string_bit) (val_of_int (pos n)))
coerced_is (named x) = rw (outs-Quote (Sym x)) (ap (λ v. cond (value_eq v (symbol_value list_name)) (nil_bit + proper_bit) string_bit) (val_of_sym x))
coerced_is (one f a) = ap coerce_by (shape_call f (term a ∷ [])) ∙ no_coerce (head_of f) (term a ∷ [])
coerced_is (two f a b) = ap coerce_by (shape_call f (term a ∷ term b ∷ [])) ∙ no_coerce (head_of f) (term a ∷ term b ∷ [])
coerced_is (choose a b c) = ap coerce_by (shape_call if_name (term a ∷ term b ∷ term c ∷ [])) ∙ no_coerce (head_of if_name) (term a ∷ term b ∷ term c ∷ [])

module _ (K : Symbol → ℕ) where
  abbrev pair_types : Symbol → Option Prim → Sketch → ℕ → ℕ → ℕ
  pair_types f (Some Coerce) b m n = coerced b
  pair_types f (Some p) b m n = over_two p m n
  pair_types f None b m n = K f

  -- the types of a sketch
  abbrev pub sketch_types : Sketch → Marks → ℕ
  sketch_types (variable x) ms = cut_by ms (variable x) all
  sketch_types (number n) ms = cut_by ms (number n) (bit (int_kind (pos n)))
  sketch_types (named s) ms = cut_by ms (named s) (bit (kind_of (symbol_value s)))
  sketch_types (one f a) ms = cut_by ms (one f a) (call_types K f (prim_of f) [] (sketch_types a ms ∷ []))
  sketch_types (two f a b) ms = cut_by ms (two f a b) (cond (any_empty (sketch_types a ms ∷ sketch_types b ms ∷ [])) 0 (pair_types f (prim_of f) b (sketch_types a ms) (sketch_types b ms)))
  sketch_types (choose a b c) ms =
      cut_by ms (choose a b c) (chosen_types (sketch_types a ms) (sketch_types b (ms ++ (a, true) ∷ [])) (sketch_types c (ms ++ (a, false) ∷ [])))

  pair_types_are : (f : Symbol) (o : Option Prim) (a b : Sketch) (m n : ℕ) → two_types K f o (term a ∷ term b ∷ []) m n ≡ pair_types f o b m n
  pair_types_are f (Some Coerce) a b m n = coerced_is b
  pair_types_are f (Some p) a b m n = refl
  pair_types_are f None a b m n = refl

  pub types_are : (s : Sketch) (ms : Marks) → tests_plainly s ≡ true → types_by K (term s) (facts ms) ≡ sketch_types s ms
  types_are (variable x) ms k = types_var K x (facts ms) ∙ cut_is ms (variable x) all
  types_are (number n) ms k =
      types_quote K (Int (pos n)) (facts ms) ∙ ap (λ v. cut (facts ms) (term (number n)) (bit (kind_of v))) (val_of_int (pos n)) ∙ cut_is ms (number n) (bit (int_kind (pos n)))
  types_are (named s) ms k =
      types_quote K (Sym s) (facts ms) ∙ ap (λ v. cut (facts ms) (term (named s)) (bit (kind_of v))) (val_of_sym s) ∙ cut_is ms (named s) (bit (kind_of (symbol_value s)))
  types_are (one f a) ms k =
      types_call K f (term a ∷ []) (facts ms)
      ∙ ap (cut (facts ms) (term (one f a)))
      (head_one K f (prim_of f) (term a) (facts ms) ∙ ap (λ m. call_types K f (prim_of f) (term a ∷ []) (m ∷ [])) (types_are a ms k))
      ∙ cut_is ms (one f a) (call_types K f (prim_of f) [] (sketch_types a ms ∷ []))
  types_are (two f a b) ms k =
      let l = both (tests_plainly a) (tests_plainly b) k in
      types_call K f (term a ∷ term b ∷ []) (facts ms)
      ∙ ap (cut (facts ms) (term (two f a b)))
      (head_two K f (prim_of f) (term a) (term b) (facts ms)
      ∙ ap (λ m. call_types K f (prim_of f) (term a ∷ term b ∷ []) (m ∷ types_by K (term b) (facts ms) ∷ [])) (types_are a ms l.0)
      ∙ ap (λ n. call_types K f (prim_of f) (term a ∷ term b ∷ []) (sketch_types a ms ∷ n ∷ [])) (types_are b ms l.1)
      ∙ ap (λ n. cond (any_empty (sketch_types a ms ∷ sketch_types b ms ∷ [])) 0 n) (pair_types_are f (prim_of f) a b (sketch_types a ms) (sketch_types b ms)))
      ∙ cut_is ms (two f a b) (cond (any_empty (sketch_types a ms ∷ sketch_types b ms ∷ [])) 0 (pair_types f (prim_of f) b (sketch_types a ms) (sketch_types b ms)))
  types_are (choose a b c) ms k =
      let l = both (is_test a) (tests_plainly a && (tests_plainly b && tests_plainly c)) k in
      let m = both (tests_plainly a) (tests_plainly b && tests_plainly c) l.1 in
      let n = both (tests_plainly b) (tests_plainly c) m.1 in
      types_call K if_name (term a ∷ term b ∷ term c ∷ []) (facts ms)
      ∙ ap (cut (facts ms) (term (choose a b c)))
      (head_if K if_name (prim_of if_name) (term a ∷ term b ∷ term c ∷ []) (term a) (term b) (term c) (facts ms) (ap (λ o. if_parts o (term a ∷ term b ∷ term c ∷ [])) prim_of_if)
      ∙ ap (λ x. chosen_types x (types_by K (term b) (assume (facts ms) (term a) true)) (types_by K (term c) (assume (facts ms) (term a) false))) (types_are a ms m.0)
      ∙ ap (λ x. chosen_types (sketch_types a ms) x (types_by K (term c) (assume (facts ms) (term a) false))) (ap (types_by K (term b)) (assume_is ms a true l.0) ∙ types_are b (ms ++ (a, true) ∷ []) n.0)
      ∙ ap (λ x. chosen_types (sketch_types a ms) (sketch_types b (ms ++ (a, true) ∷ [])) x) (ap (types_by K (term c)) (assume_is ms a false l.0) ∙ types_are c (ms ++ (a, false) ∷ []) n.1))
      ∙ cut_is ms (choose a b c) (chosen_types (sketch_types a ms) (sketch_types b (ms ++ (a, true) ∷ [])) (sketch_types c (ms ++ (a, false) ∷ [])))
