-- What the given functions mean wherever a sound world knows them, and the conjuncts of a call.
use Rattle.std.proofs.Common.{◌≡◌, Bool, true, false, cond, IfSome, ◌||◌, is_some, List, [], ◌∷◌, ◌++◌, map, length, zip, Option, Some, None, refl, ap, sym, ◌∙◌, subst, eqb-true}
use Rattle.ap_list.specs.Lists.{Each}
use Rattle.ap_value.specs.declared.symbol.Symbol.{Symbol}
use Rattle.ap_value.specs.declared.value.Value.{Value}
use Rattle.ap_value.specs.Values.{V, val_of, symbol_eq, value_eq}
use Rattle.ap_value.proofs.Equals.{symbol_eq-true}
use Rattle.ap_term.specs.declared.term.Term.{Term, Var, Quote, Call}
use Rattle.ap_term.proofs.Induction.{term_ind}
use Rattle.ap_world.specs.declared.entry.Entry.{Entry}
use Rattle.ap_world.specs.declared.entry.Function.{Function}
use Rattle.ap_world.specs.Names.{if_name, implies_name, iff_name, p_name, q_name}
use Rattle.ap_world.specs.Primitives.{nil, t, prim_of}
use Rattle.ap_world.specs.Meaning.{Env}
use Rattle.ap_world.specs.Clauses.{is_nil, if_parts, and_parts, conjuncts}
use Rattle.ap_world.specs.Ground.{not_function, implies_function, iff_function, ground_functions}
use Rattle.ap_world.specs.World.{function_of, name_in, entry_of, as_function, has_name, are_distinct}
use Rattle.ap_world.specs.Sound.{known, is_head, takes, given_function, DefinedAlike, Sound}
use Rattle.ap_world.proofs.Knowing.{known_head}
use Rattle.ap_world.proofs.Looking.{good_of}
use Rattle.ap_world.proofs.TotalMeaning.{Apply, Models, val, values_of, values_of-length, val_quote, apply_is}
use Rattle.ap_world.proofs.Equations.{names_open, vals, prim_of_implies, val_defined, nil-eq}
use Rattle.ap_world.proofs.Written.{is_nil_var, is_nil_quote, is_nil_call, conjuncts_call}

no : {P : Type 0} → false ≡ true → P
no h = cc

-- a call of a given function means its given body
pub given_is : (W : List Entry) → Sound W → (A : Apply) → Models (function_of W) A → (f : Symbol) (k : Function) → given_function f ≡ Some k → prim_of f ≡ None
    → (us : List Term) (e : Env) → known (function_of W) (Call f us) ≡ true → val A (Call f us) e ≡ val A k.body (zip k.formals (values_of A us e))
given_is W sound A ms f k given no_prim us e u_known =
    val_defined A f us e no_prim
    ∙ defined (function_of W f) refl (subst (λ o. is_head (function_of W) f o (length us) ≡ true) no_prim (known_head (function_of W) f us u_known))
  where
    alike : (g : Function) → function_of W f ≡ Some g → length g.formals ≡ length us → DefinedAlike g k → A f (values_of A us e) ≡ val A k.body (zip k.formals (values_of A us e))
    alike g here l same =
        apply_is (function_of W) A ms f g (values_of A us e) here (l ∙ sym (values_of-length A us e))
        ∙ ap (λ b. val A b (zip g.formals (values_of A us e))) same.body
        ∙ ap (λ xs. val A k.body (zip xs (values_of A us e))) same.formals

    defined : (o : Option Function) → function_of W f ≡ o → takes o (length us) ≡ true → A f (values_of A us e) ≡ val A k.body (zip k.formals (values_of A us e))
    defined None here l = no l
    defined (Some g) here l =
        let p = good_of W sound f g here in
        alike g here (eqb-true (length g.formals) (length us) l) (subst (λ o. IfSome o (DefinedAlike g)) (ap given_function p.1 ∙ given) p.0.given)

given_implies : given_function implies_name ≡ Some implies_function
unfolding ground_functions not_function implies_function iff_function names_open
given_implies = refl

given_iff : given_function iff_name ≡ Some iff_function
unfolding ground_functions not_function implies_function iff_function names_open
given_iff = refl

pub prim_of_iff : prim_of iff_name ≡ None
unfolding names_open
prim_of_iff = refl

implies_body : (A : Apply) (v w : V) → val A implies_function.body (zip implies_function.formals (v ∷ w ∷ [])) ≡ cond (value_eq v nil) t (cond (value_eq w nil) nil t)
unfolding implies_function p_name q_name
implies_body A v w = simp vals

iff_body : (A : Apply) (v w : V) → val A iff_function.body (zip iff_function.formals (v ∷ w ∷ [])) ≡ cond (value_eq v nil) (cond (value_eq w nil) t nil) (cond (value_eq w nil) nil t)
unfolding iff_function p_name q_name
iff_body A v w = simp vals

pub implies_is : (W : List Entry) → Sound W → (A : Apply) → Models (function_of W) A → (h c : Term) (e : Env) → known (function_of W) (Call implies_name (h ∷ c ∷ [])) ≡ true
    → val A (Call implies_name (h ∷ c ∷ [])) e ≡ cond (value_eq (val A h e) nil) t (cond (value_eq (val A c e) nil) nil t)
implies_is W sound A ms h c e k = given_is W sound A ms implies_name implies_function given_implies prim_of_implies (h ∷ c ∷ []) e k ∙ implies_body A (val A h e) (val A c e)

pub iff_is : (W : List Entry) → Sound W → (A : Apply) → Models (function_of W) A → (a b : Term) (e : Env) → known (function_of W) (Call iff_name (a ∷ b ∷ [])) ≡ true
    → val A (Call iff_name (a ∷ b ∷ [])) e ≡ cond (value_eq (val A a e) nil) (cond (value_eq (val A b e) nil) t nil) (cond (value_eq (val A b e) nil) nil t)
iff_is W sound A ms a b e k = given_is W sound A ms iff_name iff_function given_iff prim_of_iff (a ∷ b ∷ []) e k ∙ iff_body A (val A a e) (val A b e)

-- the conjuncts of a call
abbrev pub conjuncts_at : Bool → List Term → Term → List Term
conjuncts_at true (a ∷ b ∷ c ∷ []) u = cond (is_nil c) (conjuncts a ++ conjuncts b) (u ∷ [])
conjuncts_at x ts u = u ∷ []

conjuncts_parts : (x : Bool) (ts : List Term) (u : Term) → and_parts (if_parts x (map (λ u. (u, conjuncts u)) ts)) (u ∷ []) ≡ conjuncts_at x ts u
conjuncts_parts true (a ∷ b ∷ c ∷ []) u = refl
conjuncts_parts x ts u = refl

pub conjuncts_called : (f : Symbol) (ts : List Term) → conjuncts (Call f ts) ≡ conjuncts_at (symbol_eq f if_name) ts (Call f ts)
conjuncts_called f ts = conjuncts_call f ts ∙ conjuncts_parts (symbol_eq f if_name) ts (Call f ts)

-- a constant that means nil
pub constant_nil : (A : Apply) (e : Env) (u : Term) → is_nil u ≡ true → val A u e ≡ nil
constant_nil A e = term_ind Goal variable quoted call
  where
    Goal : Term → Type 0
    Goal u = is_nil u ≡ true → val A u e ≡ nil

    variable : (x : Symbol) → Goal (Var x)
    variable x h = no (sym (is_nil_var x) ∙ h)

    quoted : (v : Value) → Goal (Quote v)
    quoted v h = val_quote A v e ∙ nil-eq (val_of v) (sym (is_nil_quote v) ∙ h)

    call : (f : Symbol) (ts : List Term) → Each Goal ts → Goal (Call f ts)
    call f ts es h = no (sym (is_nil_call f ts) ∙ h)

-- where names are distinct no primitive's is defined
none_of : {B : Type 0} (o : Option B) (b : Bool) → (is_some o || b) ≡ false → o ≡ None
none_of None b h = refl
none_of (Some x) b h = cc

entry_named : (W : List Entry) (f : Symbol) (y : Entry) → are_distinct W ≡ true → entry_of W f ≡ Some y → prim_of f ≡ None
entry_named [] f y d h = cc
entry_named (z ∷ W) f y d h = go (has_name W (name_in z)) refl d (symbol_eq f (name_in z)) refl (λ d h. entry_named W f y d h) h
  where
    go : (b : Bool) → has_name W (name_in z) ≡ b → cond b false (are_distinct W) ≡ true → (c : Bool) → symbol_eq f (name_in z) ≡ c
        → (are_distinct W ≡ true → entry_of W f ≡ Some y → prim_of f ≡ None) → cond c (Some z) (entry_of W f) ≡ Some y → prim_of f ≡ None
    go true q d c p later h = cc
    go false q d true p later h = ap prim_of (symbol_eq-true f (name_in z) p) ∙ none_of (prim_of (name_in z)) (is_some (entry_of W (name_in z))) q
    go false q d false p later h = later d h

pub names_hold : (W : List Entry) → are_distinct W ≡ true → (f : Symbol) (g : Function) → function_of W f ≡ Some g → prim_of f ≡ None
names_hold W distinct f g h = go (entry_of W f) refl h
  where
    go : (o : Option Entry) → entry_of W f ≡ o → as_function o ≡ Some g → prim_of f ≡ None
    go None q h = cc
    go (Some y) q h = entry_named W f y distinct q
