-- What a shape says of its term.
use Rattle.std.proofs.Common.{◌≡◌, Bool, true, false, List, [], ◌∷◌, refl, ap}
use Rattle.ap_list.specs.Lists.{Each}
use Rattle.ap_value.specs.declared.symbol.Symbol.{Symbol}
use Rattle.ap_value.specs.declared.value.Value.{Value}
use Rattle.ap_value.specs.Values.{symbol_eq}
use Rattle.ap_value.proofs.Equals.{symbol_eq-true}
use Rattle.ap_term.specs.declared.term.Term.{Term, Var, Quote, Call}
use Rattle.ap_term.specs.declared.term.Term.TheVariants.{outs-Var, outs-Quote, outs-Call}
use Rattle.ap_term.proofs.Induction.{term_ind}
use Rattle.ap_world.specs.Names.{if_name, not_name, equal_name, cons_name}
use Rattle.ap_world.specs.Clauses.{not_of}
use Rattle.ap_world.specs.Shapes.{Shape, constant, choice, negation, equation, pair, other, head_by, head_of, call_shape, shape_of, Head, if_head, not_head, equal_head, cons_head, other_head}

-- the term that has the shape
abbrev pub Says : Term → Shape Term → Type 0
Says u (constant v) = u ≡ Quote v
Says u (choice a b c) = u ≡ Call if_name (a ∷ b ∷ c ∷ [])
Says u (negation a) = u ≡ not_of a
Says u (equation a b) = u ≡ Call equal_name (a ∷ b ∷ [])
Says u (pair a b) = u ≡ Call cons_name (a ∷ b ∷ [])
Says u other = Unit {0}

-- the symbol that has the head
abbrev pub HeadSays : Symbol → Head → Type 0
HeadSays f if_head = f ≡ if_name
HeadSays f not_head = f ≡ not_name
HeadSays f equal_head = f ≡ equal_name
HeadSays f cons_head = f ≡ cons_name
HeadSays f other_head = Unit {0}

pub head_says : (f : Symbol) → HeadSays f (head_of f)
unfolding head_of
head_says f = go (symbol_eq f if_name) (symbol_eq f not_name) (symbol_eq f equal_name) (symbol_eq f cons_name) refl refl refl refl
  where
    go : (i n e c : Bool) → symbol_eq f if_name ≡ i → symbol_eq f not_name ≡ n → symbol_eq f equal_name ≡ e → symbol_eq f cons_name ≡ c → HeadSays f (head_by i n e c)
    go true n e c p q r s = symbol_eq-true f if_name p
    go false true e c p q r s = symbol_eq-true f not_name q
    go false false true c p q r s = symbol_eq-true f equal_name r
    go false false false true p q r s = symbol_eq-true f cons_name s
    go false false false false p q r s = tt

call_says : (f : Symbol) (h : Head) (ts : List Term) → HeadSays f h → Says (Call f ts) (call_shape h ts)
call_says f if_head (a ∷ b ∷ c ∷ []) k = ap (λ g. Call g (a ∷ b ∷ c ∷ [])) k
call_says f not_head (a ∷ []) k = ap (λ g. Call g (a ∷ [])) k
call_says f equal_head (a ∷ b ∷ []) k = ap (λ g. Call g (a ∷ b ∷ [])) k
call_says f cons_head (a ∷ b ∷ []) k = ap (λ g. Call g (a ∷ b ∷ [])) k
call_says f h ts k = tt

pub shape_says : (u : Term) → Says u (shape_of u)
shape_says u = term_ind (λ u. Says u (shape_of u)) variable quoted call u
  where
    variable : (x : Symbol) → Says (Var x) (shape_of (Var x))
    variable x = rw (outs-Var x) tt

    quoted : (v : Value) → Says (Quote v) (shape_of (Quote v))
    quoted v = rw (outs-Quote v) refl

    call : (f : Symbol) (ts : List Term) → Each (λ u. Says u (shape_of u)) ts → Says (Call f ts) (shape_of (Call f ts))
    call f ts es = rw (outs-Call f ts) (call_says f (head_of f) ts (head_says f))

pub shape_call : (f : Symbol) (ts : List Term) → shape_of (Call f ts) ≡ call_shape (head_of f) ts
shape_call f ts = rw (outs-Call f ts) refl
