-- The parts of a term that its sign speaks of: they are smaller, and what is assumed is theirs.
use Rattle.std.proofs.Common.{◌≡◌, ◌+◌, ◌<◌, Bool, true, false, cond, not, List, [], ◌∷◌, ◌++◌, map, refl, ap, ◌∙◌, arith}
use Rattle.ap_list.specs.Lists.{Each, sum_of, joined}
use Rattle.ap_value.specs.declared.symbol.Symbol.{Symbol}
use Rattle.ap_value.specs.declared.value.Value.{Value}
use Rattle.ap_term.specs.declared.term.Term.{Term, Var, Quote, Call}
use Rattle.ap_term.specs.declared.term.Term.TheVariants.{outs-Var, outs-Quote, outs-Call}
use Rattle.ap_term.specs.Terms.{size_step, term_size}
use Rattle.ap_term.proofs.Induction.{term_ind, fold_call, para_var, para_quote, para_call}
use Rattle.ap_world.specs.Names.{if_name, not_name}
use Rattle.ap_world.specs.Facts.{Facts}
use Rattle.ap_world.specs.Shapes.{Shape, choice, negation, head_of, call_shape, shape_of, is_constant, Head, if_head, not_head, equal_head, cons_head}
use Rattle.ap_world.specs.Assume.{parts, gathered, assumed_step, assumed}
use Rattle.ap_world.proofs.Shaped.{Says, shape_says}

-- what holds of the test, and of both branches, holds of the parts
pub parts_each : (Q : Term × Bool → Type 0) (a b c : Term) (s : Bool) → ((r : Bool) → Q (a, r)) → Q (b, s) → Q (c, s) → Each Q (parts (λ u. u) (choice a b c) s)
parts_each Q a b c s p q r = go (is_constant (not s) c) (is_constant (not s) b)
  where
    go : (x y : Bool) → Each Q (cond x ((a, true) ∷ (b, s) ∷ []) (cond y ((a, false) ∷ (c, s) ∷ []) []))
    go true y = (p true, (q, tt))
    go false true = (p false, (r, tt))
    go false false = tt

size_call : (f : Symbol) (ts : List Term) → term_size (Call f ts) ≡ sum_of (map term_size ts) + 1
size_call f ts = fold_call size_step f ts

smaller : (u : Term) (y : Shape Term) (s : Bool) → Says u y → Each (λ (p : Term × Bool). term_size p.0 < term_size u) (parts (λ u. u) y s)
smaller u (choice a b c) s e =
    let size : term_size u ≡ term_size a + (term_size b + (term_size c + 0)) + 1 = ap term_size e ∙ size_call if_name (a ∷ b ∷ c ∷ []) in
    parts_each (λ p. term_size p.0 < term_size u) a b c s (λ r. omega arith) (omega arith) (omega arith)
smaller u (negation a) s e =
    let size : term_size u ≡ (term_size a + 0) + 1 = ap term_size e ∙ size_call not_name (a ∷ []) in
    (omega arith, tt)
smaller u y s e = tt

pub parts_smaller : (u : Term) (s : Bool) → Each (λ (p : Term × Bool). term_size p.0 < term_size u) (parts (λ u. u) (shape_of u) s)
parts_smaller u s = smaller u (shape_of u) s (shape_says u)

-- a term with what is assumed of it
abbrev paired : Term → Term × (Bool → Facts)
paired u = (u, assumed u)

-- what was made of a part, and what is assumed of it
abbrev of_pair : (Term × (Bool → Facts)) × Bool → Facts
of_pair p = p.0.1 p.1

abbrev of_part : Term × Bool → Facts
of_part p = assumed p.0 p.1

firsts : (ts : List Term) → map (λ p. p.0) (map paired ts) ≡ ts
firsts [] = refl
firsts (t ∷ ts) = ap (λ us. t ∷ us) (firsts ts)

same_parts : (h : Head) (ts : List Term) (s : Bool)
    → map of_pair (parts (λ p. p.0) (call_shape h (map paired ts)) s) ≡ map of_part (parts (λ u. u) (call_shape h ts) s)
same_parts if_head (a ∷ b ∷ c ∷ []) s = go (is_constant (not s) c) (is_constant (not s) b)
  where
    go : (x y : Bool) → map of_pair (cond x ((paired a, true) ∷ (paired b, s) ∷ []) (cond y ((paired a, false) ∷ (paired c, s) ∷ []) []))
        ≡ map of_part (cond x ((a, true) ∷ (b, s) ∷ []) (cond y ((a, false) ∷ (c, s) ∷ []) []))
    go true y = refl
    go false true = refl
    go false false = refl
same_parts not_head (a ∷ []) s = refl
same_parts equal_head (a ∷ b ∷ []) s = refl
same_parts cons_head (a ∷ b ∷ []) s = refl
same_parts h ts s = refl

-- what is assumed is what is assumed of the parts, or the term's own fact
pub assumed_is : (u : Term) (s : Bool) → assumed u s ≡ gathered u s (map of_part (parts (λ u. u) (shape_of u) s))
assumed_is u s = term_ind Goal variable quoted call u
  where
    Goal : Term → Type 0
    Goal u = assumed u s ≡ gathered u s (map of_part (parts (λ u. u) (shape_of u) s))

    variable : (x : Symbol) → Goal (Var x)
    variable x = rw (outs-Var x) (ap (λ k. k s) (para_var assumed_step x))

    quoted : (v : Value) → Goal (Quote v)
    quoted v = rw (outs-Quote v) (ap (λ k. k s) (para_quote assumed_step v))

    call : (f : Symbol) (ts : List Term) → Each Goal ts → Goal (Call f ts)
    call f ts es = rw (outs-Call f ts)
        (ap (λ k. k s) (para_call assumed_step f ts)
        ∙ ap (λ us. gathered (Call f us) s (map of_pair (parts (λ p. p.0) (call_shape (head_of f) (map paired ts)) s))) (firsts ts)
        ∙ ap (gathered (Call f ts) s) (same_parts (head_of f) ts s))

append_nil : (fs : Facts) → fs ++ [] ≡ fs
append_nil [] = refl
append_nil (f ∷ fs) = ap (λ gs. f ∷ gs) (append_nil fs)

by_parts : (u : Term) (s : Bool) (ps : List (Term × Bool)) → parts (λ u. u) (shape_of u) s ≡ ps → assumed u s ≡ gathered u s (map of_part ps)
by_parts u s ps e = assumed_is u s ∙ ap (λ qs. gathered u s (map of_part qs)) e

pub assumed_whole : (u : Term) (s : Bool) → parts (λ u. u) (shape_of u) s ≡ [] → assumed u s ≡ (u, s) ∷ []
assumed_whole u s e = by_parts u s [] e

pub assumed_one : (u : Term) (s : Bool) (a : Term) (r : Bool) → parts (λ u. u) (shape_of u) s ≡ (a, r) ∷ [] → assumed u s ≡ assumed a r
assumed_one u s a r e = by_parts u s ((a, r) ∷ []) e ∙ append_nil (assumed a r)

pub assumed_two : (u : Term) (s : Bool) (a : Term) (r : Bool) (b : Term) (q : Bool) → parts (λ u. u) (shape_of u) s ≡ (a, r) ∷ (b, q) ∷ []
    → assumed u s ≡ assumed a r ++ assumed b q
assumed_two u s a r b q e = by_parts u s ((a, r) ∷ (b, q) ∷ []) e ∙ ap (λ fs. assumed a r ++ fs) (append_nil (assumed b q))

-- what is handed on from a term and a sign to the parts, holds of all that is assumed
pub assumed_each : (Q : Term × Bool → Type 0) → ((u : Term) (s : Bool) → Q (u, s) → Each Q (parts (λ u. u) (shape_of u) s))
    → (u : Term) (s : Bool) → Q (u, s) → Each Q (assumed u s)
assumed_each Q down u s h = term_ind Goal variable quoted call u s h
  where
    Goal : Term → Type 0
    Goal u = (s : Bool) → Q (u, s) → Each Q (assumed u s)

    both : (fs gs : Facts) → Each Q fs → Each Q gs → Each Q (fs ++ gs)
    both [] gs p q = q
    both (f ∷ fs) gs p q = (p.0, both fs gs p.1 q)

    all : (ps : List (Term × Bool)) → Each (λ (p : Term × Bool). Goal p.0) ps → Each Q ps → Each Q (joined (map of_part ps))
    all [] gs qs = tt
    all (p ∷ ps) gs qs = both (assumed p.0 p.1) (joined (map of_part ps)) (gs.0 p.1 qs.0) (all ps gs.1 qs.1)

    gather : (u : Term) (s : Bool) (ps : List (Term × Bool)) → Q (u, s) → Each (λ (p : Term × Bool). Goal p.0) ps → Each Q ps → Each Q (gathered u s (map of_part ps))
    gather u s [] q gs qs = (q, tt)
    gather u s (p ∷ ps) q gs qs = all (p ∷ ps) gs qs

    variable : (x : Symbol) → Goal (Var x)
    variable x s q = rw (para_var assumed_step x) (q, tt)

    quoted : (v : Value) → Goal (Quote v)
    quoted v s q = rw (para_quote assumed_step v) (q, tt)

    from : (h : Head) (ts : List Term) (s : Bool) → Each Goal ts → Each (λ (p : Term × Bool). Goal p.0) (parts (λ u. u) (call_shape h ts) s)
    from if_head (a ∷ b ∷ c ∷ []) s es = parts_each (λ (p : Term × Bool). Goal p.0) a b c s (λ r. es.0) es.1.0 es.1.1.0
    from not_head (a ∷ []) s es = (es.0, tt)
    from equal_head (a ∷ b ∷ []) s es = tt
    from cons_head (a ∷ b ∷ []) s es = tt
    from h ts s es = tt

    call : (f : Symbol) (ts : List Term) → Each Goal ts → Goal (Call f ts)
    call f ts es s q =
        let ps : Each (λ (p : Term × Bool). Goal p.0) (parts (λ u. u) (shape_of (Call f ts)) s) = rw (outs-Call f ts) (from (head_of f) ts s es) in
        rw (assumed_is (Call f ts) s) (gather (Call f ts) s (parts (λ u. u) (shape_of (Call f ts)) s) q ps (down (Call f ts) s q))
