-- What a term means depends on its variables alone, so a call means its function's body at the actuals.
use Rattle.std.proofs.Common.{◌≡◌, Bool, true, false, cond, ◌||◌, List, [], ◌∷◌, ◌++◌, map, length, zip, Some, None, unwrap_or, refl, ap, sym, ◌∙◌, arith}
use Rattle.ap_list.specs.Lists.{Each, in_turn, is_among, is_within, lookup_by}
use Rattle.ap_value.specs.declared.symbol.Symbol.{Symbol}
use Rattle.ap_value.specs.declared.value.Value.{Value}
use Rattle.ap_value.specs.Values.{V, symbol_eq}
use Rattle.ap_value.proofs.Equals.{symbol_eq-true, both}
use Rattle.ap_term.specs.declared.term.Term.{Term, Var, Quote, Call}
use Rattle.ap_term.specs.Terms.{vars_after, subst_of}
use Rattle.ap_term.proofs.Induction.{term_ind}
use Rattle.ap_world.specs.declared.entry.Function.{Function}
use Rattle.ap_world.specs.Primitives.{nil, prim_of}
use Rattle.ap_world.specs.Meaning.{Env, value_at, Defs}
use Rattle.ap_world.specs.Sound.{speaks_of}
use Rattle.ap_world.proofs.Knowing.{each_same}
use Rattle.ap_world.proofs.TotalMeaning.{Apply, head_val, val, values_of, Models, val_var, val_quote, val_call, apply_is, replaced, val_subst, values_of-length}
use Rattle.ap_world.proofs.Equations.{val_defined}
use Rattle.ap_world.proofs.Written.{vars_var, vars_quote, vars_call}

-- two assignments give each variable of the list the same value
abbrev pub AgreeAt : Env → Env → List Symbol → Type 0
AgreeAt d e xs = Each (λ x. value_at d x ≡ value_at e x) xs

both_parts : (d e : Env) (xs ys : List Symbol) → AgreeAt d e (xs ++ ys) → AgreeAt d e xs × AgreeAt d e ys
both_parts d e [] ys h = (tt, h)
both_parts d e (x ∷ xs) ys h = let p = both_parts d e xs ys h.1 in ((h.0, p.0), p.1)

agree_among : (d e : Env) (x : Symbol) (xs : List Symbol) → is_among symbol_eq x xs ≡ true → AgreeAt d e xs → value_at d x ≡ value_at e x
agree_among d e x [] h k = absurd (no h)
  where
    no : false ≡ true → ⊥
    no q = cc
agree_among d e x (y ∷ ys) h k = choose (symbol_eq x y) refl (λ l. agree_among d e x ys l k.1) h
  where
    choose : (b : Bool) → symbol_eq x y ≡ b → (is_among symbol_eq x ys ≡ true → value_at d x ≡ value_at e x) → (b || is_among symbol_eq x ys) ≡ true → value_at d x ≡ value_at e x
    choose true q r l =
        let p = symbol_eq-true x y q in
        ap (value_at d) p ∙ k.0 ∙ ap (value_at e) (sym p)
    choose false q r l = r l

abbrev Coincide : Apply → Env → Env → Term → Type 0
Coincide A d e u = (seen : List Symbol) → AgreeAt d e (vars_after u seen) → AgreeAt d e seen × (val A u d ≡ val A u e)

coincide : (A : Apply) (d e : Env) (u : Term) → Coincide A d e u
coincide A d e u = term_ind (Coincide A d e) variable constant call u
  where
    at_var : (x : Symbol) (seen : List Symbol) (b : Bool) → is_among symbol_eq x seen ≡ b → AgreeAt d e (cond b seen (seen ++ x ∷ [])) → AgreeAt d e seen × (value_at d x ≡ value_at e x)
    at_var x seen true q h = (h, agree_among d e x seen q h)
    at_var x seen false q h = let p = both_parts d e seen (x ∷ []) h in (p.0, p.1.0)

    variable : (x : Symbol) → Coincide A d e (Var x)
    variable x = λ seen h.
        let p = at_var x seen (is_among symbol_eq x seen) refl (rw (vars_var x seen) at h) in
        (p.0, val_var A x d ∙ p.1 ∙ sym (val_var A x e))

    constant : (q : Value) → Coincide A d e (Quote q)
    constant q = λ seen h. (rw (vars_quote q seen) at h, val_quote A q d ∙ sym (val_quote A q e))

    args : (ts : List Term) → Each (Coincide A d e) ts → (seen : List Symbol) → AgreeAt d e (in_turn (map vars_after ts) seen) → AgreeAt d e seen × (values_of A ts d ≡ values_of A ts e)
    args [] es seen h = (h, refl)
    args (t ∷ ts) es seen h =
        let p = args ts es.1 (vars_after t seen) h in
        let q = es.0 seen p.0 in
        (q.0, ap (λ v. v ∷ values_of A ts d) q.1 ∙ ap (λ vs. val A t e ∷ vs) p.1)

    call : (f : Symbol) (ts : List Term) → Each (Coincide A d e) ts → Coincide A d e (Call f ts)
    call f ts es = λ seen h.
        let p = args ts es seen (rw (vars_call f ts seen) at h) in
        (p.0, val_call A f ts d ∙ ap (head_val A f (prim_of f)) p.1 ∙ sym (val_call A f ts e))

-- where two assignments agree on a term's variables, the term means the same
pub coincidence : (A : Apply) (d e : Env) (u : Term) → AgreeAt d e (vars_after u []) → val A u d ≡ val A u e
coincidence A d e u h = (coincide A d e u [] h).1

-- a formal has its actual's value, whatever stands behind
formal_first : (fs : List Symbol) (vs : List V) (e : Env) (x : Symbol) → length fs ≡ length vs → is_among symbol_eq x fs ≡ true → value_at (zip fs vs ++ e) x ≡ value_at (zip fs vs) x
formal_first [] vs e x l h = absurd (no h)
  where
    no : false ≡ true → ⊥
    no q = cc
formal_first (f ∷ fs) [] e x l h = absurd (omega arith)
formal_first (f ∷ fs) (v ∷ vs) e x l h = choose (symbol_eq x f) (λ k. formal_first fs vs e x (omega arith) k) h
  where
    choose : (b : Bool) → (is_among symbol_eq x fs ≡ true → value_at (zip fs vs ++ e) x ≡ value_at (zip fs vs) x) → (b || is_among symbol_eq x fs) ≡ true
        → unwrap_or (cond b (Some v) (lookup_by symbol_eq (zip fs vs ++ e) x)) nil ≡ unwrap_or (cond b (Some v) (lookup_by symbol_eq (zip fs vs) x)) nil
    choose true k q = refl
    choose false k q = k q

pub each_within : (xs ys : List Symbol) → is_within symbol_eq xs ys ≡ true → Each (λ x. is_among symbol_eq x ys ≡ true) xs
each_within [] ys h = tt
each_within (x ∷ xs) ys h = let p = both (is_among symbol_eq x ys) (is_within symbol_eq xs ys) h in (p.0, each_within xs ys p.1)

-- a term of the formals means the same whatever stands behind them
pub formals_alone : (A : Apply) (fs : List Symbol) (vs : List V) (e : Env) (u : Term) → length fs ≡ length vs → speaks_of fs u ≡ true → val A u (zip fs vs ++ e) ≡ val A u (zip fs vs)
formals_alone A fs vs e u l h =
    coincidence A (zip fs vs ++ e) (zip fs vs) u (each_same (vars_after u []) (λ x k. formal_first fs vs e x l k) (each_within (vars_after u []) fs h))

replaced_zip : (A : Apply) (fs : List Symbol) (ts : List Term) (e : Env) → replaced A (zip fs ts) e ≡ zip fs (values_of A ts e) ++ e
replaced_zip A [] ts e = refl
replaced_zip A (f ∷ fs) [] e = refl
replaced_zip A (f ∷ fs) (t ∷ ts) e = ap (λ d. (f, val A t e) ∷ d) (replaced_zip A fs ts e)

-- an instance of a term of the formals means the term at the actuals' values
pub val_instance : (A : Apply) (fs : List Symbol) (ts : List Term) (u : Term) (e : Env) → length fs ≡ length ts → speaks_of fs u ≡ true → val A (subst_of (zip fs ts) u) e ≡ val A u (zip fs (values_of A ts e))
val_instance A fs ts u e l h =
    val_subst A (zip fs ts) u e ∙ ap (val A u) (replaced_zip A fs ts e) ∙ formals_alone A fs (values_of A ts e) e u (l ∙ sym (values_of-length A ts e)) h

-- so a call means its function's body, the actuals in the places of the formals
pub val_opened : (D : Defs) (A : Apply) → Models D A → (f : Symbol) (g : Function) (ts : List Term) (e : Env) → prim_of f ≡ None → D f ≡ Some g → length g.formals ≡ length ts → speaks_of g.formals g.body ≡ true
    → val A (Call f ts) e ≡ val A (subst_of (zip g.formals ts) g.body) e
val_opened D A m f g ts e no_prim here l h =
    val_defined A f ts e no_prim ∙ apply_is D A m f g (values_of A ts e) here (l ∙ sym (values_of-length A ts e)) ∙ sym (val_instance A g.formals ts g.body e l h)
