-- The test of equality on terms says what it says.
use Rattle.std.proofs.Common.{◌≡◌, ◌↔◌, IsTrue, Bool, true, false, List, [], ◌∷◌, map, refl, sym, ap, ◌∙◌, subst}
use Rattle.ap_list.specs.Lists.{Each}
use Rattle.ap_value.specs.declared.symbol.Symbol.{Symbol}
use Rattle.ap_value.specs.declared.value.Value.{Value}
use Rattle.ap_value.specs.Values.{symbol_eq}
use Rattle.ap_value.proofs.Equals.{both, and_true, symbol_eq-true, symbol_eq-same}
use Rattle.ap_value.proofs.Constants.{constant_eq-true, constant_eq-same}
use Rattle.ap_term.specs.declared.term.Term.{Term, out-Term, Var, Quote, Call}
use Rattle.ap_term.specs.declared.term.Term.TheOpen.{Term-F}
use Rattle.ap_term.specs.declared.term.Term.TheVariants.{outs-Var, outs-Quote, outs-Call}
use Rattle.ap_term.specs.Equal.{tests_pass, same_step, term_eq}
use Rattle.ap_term.proofs.Induction.{term_ind, fold_var, fold_quote, fold_call, OutSays, out_says}

abbrev tested : Term-F (Term → Bool) → Term → Bool
tested y u = same_step y (out-Term u)

-- one level of the test
module _ (u : Term) where
  pub at_var : (x : Symbol) → term_eq (Var x) u ≡ same_step (Term-F.Var x) (out-Term u)
  unfolding term_eq
  at_var x = ap (λ f. f u) (fold_var tested x)

  pub at_quote : (v : Value) → term_eq (Quote v) u ≡ same_step (Term-F.Quote v) (out-Term u)
  unfolding term_eq
  at_quote v = ap (λ f. f u) (fold_quote tested v)

  pub at_call : (f : Symbol) (ts : List Term) → term_eq (Call f ts) u ≡ same_step (Term-F.Call f (map term_eq ts)) (out-Term u)
  unfolding term_eq
  at_call f ts = ap (λ g. g u) (fold_call tested f ts)

abbrev Told : Term → Type 0
Told t = (u : Term) → term_eq t u ≡ true → t ≡ u

told_var : (x : Symbol) → Told (Var x)
told_var x u h = go (out-Term u) (out_says u) (sym (at_var u x) ∙ h)
  where
    go : (y : Term-F Term) → OutSays u y → same_step (Term-F.Var x) y ≡ true → Var x ≡ u
    go (Term-F.Var y) s k = ap Var (symbol_eq-true x y k) ∙ sym s
    go y s k = cc

told_quote : (v : Value) → Told (Quote v)
told_quote v u h = go (out-Term u) (out_says u) (sym (at_quote u v) ∙ h)
  where
    go : (y : Term-F Term) → OutSays u y → same_step (Term-F.Quote v) y ≡ true → Quote v ≡ u
    go (Term-F.Quote w) s k = ap Quote (constant_eq-true v w k) ∙ sym s
    go y s k = cc

told_all : (ts us : List Term) → Each Told ts → tests_pass (map term_eq ts) us ≡ true → ts ≡ us
told_all [] [] es h = refl
told_all (t ∷ ts) (u ∷ us) es h =
    let p = both (term_eq t u) (tests_pass (map term_eq ts) us) h in
    ap (λ x. x ∷ ts) (es.0 u p.0) ∙ ap (λ x. u ∷ x) (told_all ts us es.1 p.1)
told_all [] (u ∷ us) es h = cc
told_all (t ∷ ts) [] es h = cc

told_call : (f : Symbol) (ts : List Term) → Each Told ts → Told (Call f ts)
told_call f ts es u h = go (out-Term u) (out_says u) (sym (at_call u f ts) ∙ h)
  where
    go : (y : Term-F Term) → OutSays u y → same_step (Term-F.Call f (map term_eq ts)) y ≡ true → Call f ts ≡ u
    go (Term-F.Call g us) s k =
        let p = both (symbol_eq f g) (tests_pass (map term_eq ts) us) k in
        ap (λ x. Call x ts) (symbol_eq-true f g p.0) ∙ ap (λ x. Call g x) (told_all ts us es p.1) ∙ sym s
    go y s k = cc

-- two terms that the test takes for one are one
pub term_eq-true : (a b : Term) → term_eq a b ≡ true → a ≡ b
term_eq-true = term_ind Told told_var told_quote told_call

-- each term is the same as itself
pub term_eq-same : (t : Term) → term_eq t t ≡ true
term_eq-same = term_ind (λ t. term_eq t t ≡ true) variable quoted call
  where
    all_same : (ts : List Term) → Each (λ t. term_eq t t ≡ true) ts → tests_pass (map term_eq ts) ts ≡ true
    all_same [] es = refl
    all_same (t ∷ ts) es = and_true (term_eq t t) (tests_pass (map term_eq ts) ts) es.0 (all_same ts es.1)

    variable : (x : Symbol) → term_eq (Var x) (Var x) ≡ true
    variable x = at_var (Var x) x ∙ ap (same_step (Term-F.Var x)) (outs-Var x) ∙ symbol_eq-same x

    quoted : (v : Value) → term_eq (Quote v) (Quote v) ≡ true
    quoted v = at_quote (Quote v) v ∙ ap (same_step (Term-F.Quote v)) (outs-Quote v) ∙ constant_eq-same v

    call : (f : Symbol) (ts : List Term) → Each (λ t. term_eq t t ≡ true) ts → term_eq (Call f ts) (Call f ts) ≡ true
    call f ts es =
        at_call (Call f ts) f ts ∙ ap (same_step (Term-F.Call f (map term_eq ts))) (outs-Call f ts)
        ∙ and_true (symbol_eq f f) (tests_pass (map term_eq ts) ts) (symbol_eq-same f) (all_same ts es)

pub term_eq-is : (a b : Term) → a ≡ b → term_eq a b ≡ true
term_eq-is a b h = subst (λ c. term_eq a c ≡ true) h (term_eq-same a)

-- two tests are one where each is true with the other
pub tests_same : (p q : Bool) → (p ≡ true → q ≡ true) → (q ≡ true → p ≡ true) → p ≡ q
tests_same true q h k = sym (h refl)
tests_same false true h k = k refl
tests_same false false h k = refl

-- a test that tells whether two terms are one, and one of symbols, is the definitions' test
pub same_is : (r : Bool) (a b : Term) → (IsTrue r ↔ (a ≡ b)) → r ≡ term_eq a b
same_is r a b h = tests_same r (term_eq a b) (λ p. term_eq-is a b (h.0 p)) (λ q. h.1 (term_eq-true a b q))

pub symbol_is : (r : Bool) (a b : Symbol) → (IsTrue r ↔ (a ≡ b)) → r ≡ symbol_eq a b
symbol_is r a b h = tests_same r (symbol_eq a b) (λ p. subst (λ c. symbol_eq a c ≡ true) (h.0 p) (symbol_eq-same a)) (λ q. h.1 (symbol_eq-true a b q))
