-- Worlds that define the same functions alike agree on what a clause of these means; and equal sides are valid.
use Rattle.std.proofs.Common.{◌≡◌, ℕ, zero, suc, Bool, true, cond, nat_eq, ◌||◌, ◌↔◌, is_some, List, [], ◌∷◌, map, length, zip, Option, Some, None, refl, ap, ◌∙◌, sym, inl, inr}
use Rattle.ap_list.specs.Lists.{Each, AnyOf, all_some, all_true}
use Rattle.ap_value.specs.declared.symbol.Symbol.{Symbol}
use Rattle.ap_value.specs.declared.value.Value.{Value}
use Rattle.ap_value.specs.Values.{V}
use Rattle.ap_value.proofs.Equals.{both, value_eq-same}
use Rattle.ap_term.specs.declared.term.Term.{Term, Var, Quote, Call}
use Rattle.ap_term.proofs.Induction.{term_ind, fold_call}
use Rattle.ap_world.specs.declared.entry.Function.{Function}
use Rattle.ap_world.specs.Names.{equal_name}
use Rattle.ap_world.specs.Primitives.{nil, truth, Prim, prim_of}
use Rattle.ap_world.specs.Meaning.{Env, Defs, Calls, applied, head_call, meaning, body_value, calls, ev, IsHeld, Total, Valid}
use Rattle.ap_world.specs.Sound.{known}
use Rattle.ap_world.specs.Laws.{calls_only_step, calls_only, Alike, AgreeOn}
use Rattle.ap_world.proofs.Fuel.{meaning_var, meaning_quote, meaning_call}
use Rattle.ap_world.proofs.Knowing.{each_true, known_by}
use Rattle.ap_world.proofs.TotalMeaning.{models, val, valid_of}
use Rattle.ap_world.proofs.Equations.{heads, val_equal, t_isnt_nil}

-- calls of the names of the set are the same
abbrev SameCalls : (Symbol → Bool) → Calls → Calls → Type 0
SameCalls S c d = (f : Symbol) → S f ≡ true → (vs : List V) → c f vs ≡ d f vs

same_head : (S : Symbol → Bool) (c d : Calls) → SameCalls S c d → (f : Symbol) (o : Option Prim) (os : List (Option V)) → (is_some o || S f) ≡ true → head_call c f o os ≡ head_call d f o os
same_head S c d same f (Some p) os h = refl
same_head S c d same f None os h = go (all_some os)
  where
    go : (o : Option (List V)) → applied (c f) o ≡ applied (d f) o
    go None = refl
    go (Some vs) = same f h vs

same_meaning : (S : Symbol → Bool) (c d : Calls) → SameCalls S c d → (u : Term) → calls_only S u ≡ true → (e : Env) → meaning c u e ≡ meaning d u e
same_meaning S c d same u only e = term_ind Goal variable constant call u only
  where
    Goal : Term → Type 0
    Goal u = calls_only S u ≡ true → meaning c u e ≡ meaning d u e

    variable : (x : Symbol) → Goal (Var x)
    variable x = λ k. meaning_var c x e ∙ sym (meaning_var d x e)

    constant : (q : Value) → Goal (Quote q)
    constant q = λ k. meaning_quote c q e ∙ sym (meaning_quote d q e)

    args : (ts : List Term) → Each Goal ts → Each (λ u. calls_only S u ≡ true) ts → map (λ m. m e) (map (meaning c) ts) ≡ map (λ m. m e) (map (meaning d) ts)
    args [] es ks = refl
    args (a ∷ ts) es ks = ap (λ o. o ∷ map (λ m. m e) (map (meaning c) ts)) (es.0 ks.0) ∙ ap (λ os. meaning d a e ∷ os) (args ts es.1 ks.1)

    parts : (f : Symbol) (ts : List Term) → calls_only S (Call f ts) ≡ true → ((is_some (prim_of f) || S f) ≡ true) × (all_true (map (calls_only S) ts) ≡ true)
    parts f ts k = both (is_some (prim_of f) || S f) (all_true (map (calls_only S) ts)) (sym (fold_call (calls_only_step S) f ts) ∙ k)

    call : (f : Symbol) (ts : List Term) → Each Goal ts → Goal (Call f ts)
    call f ts es = λ k.
        let p = parts f ts k in
        meaning_call c f ts e ∙ ap (head_call c f (prim_of f)) (args ts es (each_true (calls_only S) ts p.1))
        ∙ same_head S c d same f (prim_of f) (map (λ m. m e) (map (meaning d) ts)) p.0 ∙ sym (meaning_call d f ts e)

same_calls : (S : Symbol → Bool) (D E : Defs) → AgreeOn S D E → (n : ℕ) → SameCalls S (calls n D) (calls n E)
same_calls S D E agree zero f h vs = refl
same_calls S D E agree (suc n) f h vs = bodies (same_calls S D E agree n) (D f) (E f) refl (agree.alike f h)
  where
    bodies : SameCalls S (calls n D) (calls n E) → (o p : Option Function) → D f ≡ o → Alike o p → body_value (calls n D) o vs ≡ body_value (calls n E) p vs
    bodies same None None e k = refl
    bodies same (Some g) (Some j) e k =
        ap (λ m. cond (nat_eq (length g.formals) (length vs)) m None) (same_meaning S (calls n D) (calls n E) same g.body (agree.closed f g h e) (zip g.formals vs))
        ∙ ap (λ xs. cond (nat_eq (length xs) (length vs)) (meaning (calls n E) g.body (zip xs vs)) None) k.0
        ∙ ap (λ b. cond (nat_eq (length j.formals) (length vs)) (meaning (calls n E) b (zip j.formals vs)) None) k.1
    bodies same None (Some j) e k = absurd k
    bodies same (Some g) None e k = absurd k

-- terms of the set's names have the same value with the same units
pub same_value : (S : Symbol → Bool) (D E : Defs) → AgreeOn S D E → (n : ℕ) (u : Term) → calls_only S u ≡ true → (e : Env) → ev n D u e ≡ ev n E u e
same_value S D E agree n u only e = same_meaning S (calls n D) (calls n E) (same_calls S D E agree n) u only e

held_there : (S : Symbol → Bool) (D E : Defs) → AgreeOn S D E → (e : Env) (c : List Term) → Each (λ u. calls_only S u ≡ true) c → AnyOf (IsHeld D e) c → AnyOf (IsHeld E e) c
held_there S D E agree e [] ks h = h
held_there S D E agree e (u ∷ us) ks (inl (v, (n, h), other)) = inl (v, (n, sym (same_value S D E agree n u ks.0 e) ∙ h), other)
held_there S D E agree e (u ∷ us) ks (inr h) = inr (held_there S D E agree e us ks.1 h)

held_here : (S : Symbol → Bool) (D E : Defs) → AgreeOn S D E → (e : Env) (c : List Term) → Each (λ u. calls_only S u ≡ true) c → AnyOf (IsHeld E e) c → AnyOf (IsHeld D e) c
held_here S D E agree e [] ks h = h
held_here S D E agree e (u ∷ us) ks (inl (v, (n, h), other)) = inl (v, (n, same_value S D E agree n u ks.0 e ∙ h), other)
held_here S D E agree e (u ∷ us) ks (inr h) = inr (held_here S D E agree e us ks.1 h)

pub agreed : (S : Symbol → Bool) (D E : Defs) → AgreeOn S D E → (c : List Term) → all_true (map (calls_only S) c) ≡ true → Valid D c ↔ Valid E c
agreed S D E agree c only = (
  λ valid e. held_there S D E agree e c (each_true (calls_only S) c only) (valid e),
  λ valid e. held_here S D E agree e c (each_true (calls_only S) c only) (valid e),
)

-- a known term equals itself
pub equal_valid : (D : Defs) → Total D → (u : Term) → known D u ≡ true → Valid D (Call equal_name (u ∷ u ∷ []) ∷ [])
equal_valid D total u u_known =
    let (A, m) = models D total in
    valid_of D A m (Call equal_name (u ∷ u ∷ []) ∷ []) (simp known_equal) (λ e. inl (other A e))
  where
    known_equal : known D (Call equal_name (u ∷ u ∷ [])) ≡ true
    known_equal = known_by D equal_name (u ∷ u ∷ []) (simp heads) (simp u_known)

    other : (A : Symbol → List V → V) (e : Env) → val A (Call equal_name (u ∷ u ∷ [])) e ≡ nil → ⊥
    other A e h = t_isnt_nil (ap truth (sym (value_eq-same (val A u e))) ∙ sym (val_equal A u u e) ∙ h)
