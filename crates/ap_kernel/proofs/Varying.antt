-- What holds of a term because it holds of its variables, with two uses: instances of terms.
use Rattle.std.proofs.Common.{◌≡◌, Bool, true, false, cond, ◌||◌, List, [], ◌∷◌, ◌++◌, map, None, unwrap_or, refl, sym, ap, ◌∙◌, subst}
use Rattle.ap_list.specs.Lists.{Each, in_turn, is_among, lookup_by}
use Rattle.ap_value.specs.declared.symbol.Symbol.{Symbol}
use Rattle.ap_value.specs.declared.value.Value.{Value}
use Rattle.ap_value.specs.Values.{symbol_eq}
use Rattle.ap_value.proofs.Equals.{symbol_eq-true}
use Rattle.ap_term.specs.declared.term.Term.{Term, Var, Quote, Call}
use Rattle.ap_term.specs.Terms.{vars_after, subst_of}
use Rattle.ap_term.proofs.Induction.{term_ind}
use Rattle.ap_world.proofs.Written.{vars_var, vars_quote, vars_call, subst_var, subst_quote, subst_call}
use Rattle.ap_world.proofs.Lists.{each_left, each_right}

-- what holds of each of the symbols holds of one of them
pub among_symbol : (P : Symbol → Type 0) (x : Symbol) (xs : List Symbol) → is_among symbol_eq x xs ≡ true → Each P xs → P x
among_symbol P x [] h ps = cc
among_symbol P x (y ∷ ys) h ps = go (symbol_eq x y) refl (λ k. among_symbol P x ys k ps.1) h
  where
    go : (b : Bool) → symbol_eq x y ≡ b → (is_among symbol_eq x ys ≡ true → P x) → (b || is_among symbol_eq x ys) ≡ true → P x
    go true q below k = subst P (sym (symbol_eq-true x y q)) ps.0
    go false q below k = below k

-- where P holds of each variable of a term, and Q of the variables of which P holds, of constants and of calls of terms of which it holds, Q holds of the term
module _ (P : Symbol → Type 0) (Q : Term → Type 0) (variable : (x : Symbol) → P x → Q (Var x)) (constant : (v : Value) → Q (Quote v)) (called : (f : Symbol) (ts : List Term) → Each Q ts → Q (Call f ts)) where
  abbrev Goal : Term → Type 0
  Goal u = (seen : List Symbol) → Each P (vars_after u seen) → Each P seen × Q u

  over : (u : Term) → Goal u
  over = term_ind Goal
      (λ x seen h. at_var x seen (is_among symbol_eq x seen) refl (subst (Each P) (vars_var x seen) h))
      (λ v seen h. (subst (Each P) (vars_quote v seen) h, constant v))
      (λ f ts es seen h. let p = args ts es seen (subst (Each P) (vars_call f ts seen) h) in (p.0, called f ts p.1))
    where
      at_var : (x : Symbol) (seen : List Symbol) (b : Bool) → is_among symbol_eq x seen ≡ b → Each P (cond b seen (seen ++ x ∷ [])) → Each P seen × Q (Var x)
      at_var x seen true q h = (h, variable x (among_symbol P x seen q h))
      at_var x seen false q h = (each_left P seen (x ∷ []) h, variable x (each_right P seen (x ∷ []) h).0)

      args : (ts : List Term) → Each Goal ts → (seen : List Symbol) → Each P (in_turn (map vars_after ts) seen) → Each P seen × Each Q ts
      args [] es seen h = (h, tt)
      args (t ∷ ts) es seen h =
          let p = args ts es.1 (vars_after t seen) h in
          let q = es.0 seen p.0 in
          (q.0, (q.1, p.1))

  pub by_variables : (u : Term) → Each P (vars_after u []) → Q u
  by_variables u h = (over u [] h).1

-- instances of terms whose variables agree
abbrev pub Agree : List (Symbol × Term) → List (Symbol × Term) → List (Symbol × Term) → Symbol → Type 0
Agree mv a b x = subst_of mv (unwrap_or (lookup_by symbol_eq a x) (Var x)) ≡ subst_of a (unwrap_or (lookup_by symbol_eq b x) (Var x))

pub moves_term : (mv a b : List (Symbol × Term)) (u : Term) → Each (Agree mv a b) (vars_after u []) → subst_of mv (subst_of a u) ≡ subst_of a (subst_of b u)
moves_term mv a b = by_variables (Agree mv a b) (λ u. subst_of mv (subst_of a u) ≡ subst_of a (subst_of b u))
    (λ x h. ap (subst_of mv) (subst_var a x) ∙ h ∙ sym (ap (subst_of a) (subst_var b x)))
    (λ v. ap (subst_of mv) (subst_quote a v) ∙ subst_quote mv v ∙ sym (ap (subst_of a) (subst_quote b v) ∙ subst_quote a v))
    (λ f ts es. ap (subst_of mv) (subst_call a f ts) ∙ subst_call mv f (map (subst_of a) ts) ∙ ap (Call f) (all ts es) ∙ sym (ap (subst_of a) (subst_call b f ts) ∙ subst_call a f (map (subst_of b) ts)))
  where
    all : (ts : List Term) → Each (λ u. subst_of mv (subst_of a u) ≡ subst_of a (subst_of b u)) ts → map (subst_of mv) (map (subst_of a) ts) ≡ map (subst_of a) (map (subst_of b) ts)
    all [] es = refl
    all (t ∷ ts) es = let p = es.0 in let q = all ts es.1 in λ i. p i ∷ q i

-- a replacement none of whose variables occurs
pub untouched : (s : List (Symbol × Term)) (u : Term) → Each (λ x. lookup_by symbol_eq s x ≡ None) (vars_after u []) → subst_of s u ≡ u
untouched s = by_variables (λ x. lookup_by symbol_eq s x ≡ None) (λ u. subst_of s u ≡ u)
    (λ x h. subst_var s x ∙ ap (λ o. unwrap_or o (Var x)) h)
    (subst_quote s)
    (λ f ts es. subst_call s f ts ∙ ap (Call f) (all ts es))
  where
    all : (ts : List Term) → Each (λ u. subst_of s u ≡ u) ts → map (subst_of s) ts ≡ ts
    all [] es = refl
    all (t ∷ ts) es = let p = es.0 in let q = all ts es.1 in λ i. p i ∷ q i
