-- Induction on terms, what a fold gives at each kind of term, and what the outside of a term says of it.
use Rattle.std.proofs.Common.{◌≡◌, List, [], ◌∷◌, map, refl, sym, ap, ◌∙◌, subst}
use Rattle.ap_list.specs.Lists.{Each}
use Rattle.ap_value.specs.declared.symbol.Symbol.{Symbol}
use Rattle.ap_value.specs.declared.value.Value.{Value}
use Rattle.ap_term.specs.declared.term.Term.{Term, fold-Term, fold-roll-Term, para-Term, para-roll-Term, ind-Term, roll-Term, map-Term, out-Term, Var, Quote, Call}
use Rattle.ap_term.specs.declared.term.Term.TheOpen.{Term-F}
use Rattle.ap_term.specs.declared.term.Term.TheVariants.{rolls-Var, rolls-Quote, rolls-Call, outs-Var, outs-Quote, outs-Call}

-- what holds of variables and constants, and of a call where it holds of each argument, holds of each term
pub term_ind : (P : Term → Type 0) → ((x : Symbol) → P (Var x)) → ((v : Value) → P (Quote v))
    → ((f : Symbol) (ts : List Term) → Each P ts → P (Call f ts)) → (t : Term) → P t
term_ind P variable constant call = ind-Term P (λ x y is. subst (λ z. P (roll-Term z)) is (go y))
  where
    firsts : List ((t : Term) × P t) → List Term
    firsts = map (λ p. p.0)

    each_first : (ps : List ((t : Term) × P t)) → Each P (firsts ps)
    each_first [] = tt
    each_first (p ∷ ps) = (p.1, each_first ps)

    go : (y : Term-F ((t : Term) × P t)) → P (roll-Term (map-Term ((t : Term) × P t) Term (λ p. p.0) y))
    go (Term-F.Var x) = subst P (sym (rolls-Var x)) (variable x)
    go (Term-F.Quote v) = subst P (sym (rolls-Quote v)) (constant v)
    go (Term-F.Call f ps) = subst P (sym (rolls-Call f (firsts ps))) (call f (firsts ps) (each_first ps))

-- what a fold gives at a variable, a constant and a call
pub fold_var : {A : Type 0} (step : Term-F A → A) (x : Symbol) → fold-Term A step (Var x) ≡ step (Term-F.Var x)
fold_var {A} step x = ap (fold-Term A step) (sym (rolls-Var x)) ∙ fold-roll-Term A step (Term-F.Var x)

pub fold_quote : {A : Type 0} (step : Term-F A → A) (v : Value) → fold-Term A step (Quote v) ≡ step (Term-F.Quote v)
fold_quote {A} step v = ap (fold-Term A step) (sym (rolls-Quote v)) ∙ fold-roll-Term A step (Term-F.Quote v)

pub fold_call : {A : Type 0} (step : Term-F A → A) (f : Symbol) (ts : List Term)
    → fold-Term A step (Call f ts) ≡ step (Term-F.Call f (map (fold-Term A step) ts))
fold_call {A} step f ts = ap (fold-Term A step) (sym (rolls-Call f ts)) ∙ fold-roll-Term A step (Term-F.Call f ts)

-- the same of a fold whose step sees the terms too
pub para_var : {A : Type 0} (step : Term-F (Term × A) → A) (x : Symbol) → para-Term A step (Var x) ≡ step (Term-F.Var x)
para_var {A} step x = ap (para-Term A step) (sym (rolls-Var x)) ∙ para-roll-Term A step (Term-F.Var x)

pub para_quote : {A : Type 0} (step : Term-F (Term × A) → A) (v : Value) → para-Term A step (Quote v) ≡ step (Term-F.Quote v)
para_quote {A} step v = ap (para-Term A step) (sym (rolls-Quote v)) ∙ para-roll-Term A step (Term-F.Quote v)

pub para_call : {A : Type 0} (step : Term-F (Term × A) → A) (f : Symbol) (ts : List Term)
    → para-Term A step (Call f ts) ≡ step (Term-F.Call f (map (λ t. (t, para-Term A step t)) ts))
para_call {A} step f ts = ap (para-Term A step) (sym (rolls-Call f ts)) ∙ para-roll-Term A step (Term-F.Call f ts)

-- what the outside of a term says of it
abbrev pub OutSays : Term → Term-F Term → Type 0
OutSays u (Term-F.Var x) = u ≡ Var x
OutSays u (Term-F.Quote v) = u ≡ Quote v
OutSays u (Term-F.Call f ts) = u ≡ Call f ts

pub out_says : (u : Term) → OutSays u (out-Term u)
out_says = term_ind (λ u. OutSays u (out-Term u)) variable quoted call
  where
    variable : (x : Symbol) → OutSays (Var x) (out-Term (Var x))
    variable x = rw (outs-Var x) refl

    quoted : (v : Value) → OutSays (Quote v) (out-Term (Quote v))
    quoted v = rw (outs-Quote v) refl

    call : (f : Symbol) (ts : List Term) → Each (λ u. OutSays u (out-Term u)) ts → OutSays (Call f ts) (out-Term (Call f ts))
    call f ts es = rw (outs-Call f ts) refl
