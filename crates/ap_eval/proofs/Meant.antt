-- What running gives is what the meaning gives.
use Rattle.std.proofs.Common.{◌≡◌, ℕ, zero, suc, ◌-◌, Bool, true, false, cond, nat_eq, nat_lt, List, [], ◌∷◌, map, length, zip, Option, Some, None, unwrap_or, Result, Ok, Err, IfOk, refl, ap, sym, ◌∙◌}
use Rattle.std.proofs.Math.ListN.{length-map}
use Rattle.ap_list.specs.Lists.{Each, with_first, all_some, lookup_by}
use Rattle.ap_value.specs.declared.symbol.Symbol.{Symbol}
use Rattle.ap_value.specs.declared.value.Value.{Value}
use Rattle.ap_value.specs.Counts.{node_count}
use Rattle.ap_value.specs.Values.{V, val_of, symbol_eq, value_eq}
use Rattle.ap_term.specs.declared.term.Term.{Term, Var, Quote, Call}
use Rattle.ap_term.proofs.Induction.{term_ind}
use Rattle.ap_world.specs.declared.entry.Function.{Function}
use Rattle.ap_world.specs.declared.primitive.Primitive.{Primitive as Prim}
use Rattle.ap_world.specs.declared.primitive.Primitive.TheVariants.{If}
use Rattle.ap_world.specs.Primitives.{nil, prim, prim_of}
use Rattle.ap_world.specs.Meaning.{Env, value_at, Defs, Calls, if_of, applied, prim_call, head_call, meaning, body_value, calls, HasValue}
use Rattle.ap_world.specs.Units.{nil_constant, Outcome, gives, wide, spent, large, after, Assigned, meant_by, found_at, most_nodes, sized, prim_value, Runs, in_order, chosen, settled, is_choice, head_run, entered, run, body_run, calls_run, metered}
use Rattle.ap_world.proofs.Equations.{val_of_nil}
use Rattle.ap_world.proofs.Fuel.{meaning_var, meaning_quote, meaning_call}
use Rattle.ap_eval.specs.declared.stop.EvalStop.{EvalStop}
use Rattle.ap_eval.specs.Answers.{Answers}
use Rattle.ap_eval.proofs.PrimitivesMean.{prim_means}
use Rattle.ap_eval.proofs.Runs.{run_var, run_quote, run_call}

-- what runs give, the meaning gives
abbrev pub CallsMean : Runs → Calls → Type 0
CallsMean r c = (f : Symbol) (vs : List Value) (n m : ℕ) (v : Value) → r f vs n ≡ gives v m → c f (map val_of vs) ≡ Some (val_of v)

-- where something comes after, there is a first value
first_of : {A B : Type 0} (o : Outcome A) (k : A → ℕ → Outcome B) (b : B) (m : ℕ) → after o k ≡ gives b m → (a : A) × ((n : ℕ) × ((o ≡ gives a n) × (k a n ≡ gives b m)))
first_of (gives a n) k b m h = (a, (n, (refl, h)))
first_of (wide t vs) k b m h = absurd (no h)
  where
    no : wide t vs ≡ gives b m → ⊥
    no q = cc
first_of spent k b m h = absurd (no h)
  where
    no : spent ≡ gives b m → ⊥
    no q = cc
first_of large k b m h = absurd (no h)
  where
    no : large ≡ gives b m → ⊥
    no q = cc

sized_is : (b : Bool) (w v : Value) (n m : ℕ) → cond b large (gives w n) ≡ gives v m → w ≡ v
sized_is true w v n m h = cc
sized_is false w v n m h = cc

charged_is : (b : Bool) (w v : Value) (n m : ℕ) → cond b spent (sized w n) ≡ gives v m → w ≡ v
charged_is true w v n m h = cc
charged_is false w v n m h = sized_is (nat_lt most_nodes (node_count w)) w v n m h

-- a variable's value means the variable's value
pub found_means : (e : Assigned) (x : Symbol) → value_at (meant_by e) x ≡ val_of (found_at e x)
found_means [] x = sym val_of_nil
found_means (p ∷ e) x = choose (symbol_eq x p.0) (found_means e x)
  where
    choose : (b : Bool) → value_at (meant_by e) x ≡ val_of (found_at e x)
        → unwrap_or (cond b (Some (val_of p.1)) (lookup_by symbol_eq (meant_by e) x)) nil ≡ val_of (unwrap_or (cond b (Some p.1) (lookup_by symbol_eq e x)) nil_constant)
    choose true h = refl
    choose false h = h

-- a term's runs mean its meaning
abbrev Means : Runs → Calls → Term → Type 0
Means r c u = (e : Assigned) (n m : ℕ) (v : Value) → run r u e n ≡ gives v m → meaning c u (meant_by e) ≡ Some (val_of v)

-- the options of the arguments
abbrev pub options : Calls → List Term → Env → List (Option V)
options c ts e = map (λ m. m e) (map (meaning c) ts)

in_order_means : (r : Runs) (c : Calls) (ts : List Term) → Each (Means r c) ts → (e : Assigned) (n m : ℕ) (vs : List Value)
    → in_order (map (run r) ts) e n ≡ gives vs m → all_some (options c ts (meant_by e)) ≡ Some (map val_of vs)
in_order_means r c [] es e n m vs h = let same : [] ≡ vs = cc in ap (λ ws. Some (map val_of ws)) same
in_order_means r c (t ∷ ts) es e n m vs h =
    let (v, (j, (p, q))) = first_of (run r t e n) (λ v j. after (in_order (map (run r) ts) e j) (λ vs k. gives (v ∷ vs) k)) vs m h in
    let (ws, (k, (s, u))) = first_of (in_order (map (run r) ts) e j) (λ vs k. gives (v ∷ vs) k) vs m q in
    let same : v ∷ ws ≡ vs = cc in
    let head : meaning c t (meant_by e) ≡ Some (val_of v) = es.0 e n j v p in
    let tail : all_some (options c ts (meant_by e)) ≡ Some (map val_of ws) = in_order_means r c ts es.1 e j k ws s in
    ap (λ o. all_some (o ∷ options c ts (meant_by e))) head ∙ ap (with_first (val_of v)) tail ∙ ap (λ ws. Some (map val_of ws)) same

chosen_means : (r : Runs) (c : Calls) (ts : List Term) → Each (Means r c) ts → (e : Assigned) (n m : ℕ) (v : Value)
    → chosen (map (run r) ts) e n ≡ gives v m → if_of (options c ts (meant_by e)) ≡ Some (val_of v)
chosen_means r c (a ∷ b ∷ d ∷ []) es e n m v h =
    let (w, (k, (p, q))) = first_of (run r a e n) (λ w k. cond (value_eq (val_of w) nil) (run r d e k) (run r b e k)) v m h in
    ap (λ o. if_of (o ∷ meaning c b (meant_by e) ∷ meaning c d (meant_by e) ∷ [])) (es.0 e n k w p) ∙ choose (value_eq (val_of w) nil) k q
  where
    choose : (t : Bool) (k : ℕ) → cond t (run r d e k) (run r b e k) ≡ gives v m → cond t (meaning c d (meant_by e)) (meaning c b (meant_by e)) ≡ Some (val_of v)
    choose true k q = es.1.1.0 e k m v q
    choose false k q = es.1.0 e k m v q
chosen_means r c ts es e n m v h = absurd (no h)
  where
    no : spent ≡ gives v m → ⊥
    no q = cc

settled_is : (t : Term) (vs : List Value) (o : Option Value) (n m : ℕ) (v : Value) → settled t vs o n ≡ gives v m → o ≡ Some v
settled_is t vs None n m v h = cc
settled_is t vs (Some w) n m v h = ap Some (sized_is (nat_lt most_nodes (node_count w)) w v n m h)

strict_means : (p : Prim) (os : List (Option V)) (ws : List V) (v : V) → is_choice p ≡ false → all_some os ≡ Some ws → prim p ws ≡ Some v → prim_call p os ≡ Some v
strict_means If os ws v k h q = cc
strict_means p os ws v k h q = ap (applied (prim p)) h ∙ q

head_means : (r : Runs) (c : Calls) → CallsMean r c → (t : Term) (f : Symbol) (o : Option Prim) (ts : List Term) → Each (Means r c) ts → (e : Assigned) (n m : ℕ) (v : Value)
    → head_run r t f o (map (run r) ts) e n ≡ gives v m → head_call c f o (options c ts (meant_by e)) ≡ Some (val_of v)
head_means r c k t f None ts es e n m v h =
    let (vs, (j, (p, q))) = first_of (in_order (map (run r) ts) e n) (r f) v m h in
    ap (applied (c f)) (in_order_means r c ts es e n j vs p) ∙ k f vs j m v q
head_means r c k t f (Some p) ts es e n m v h = choose (is_choice p) refl h
  where
    strict : is_choice p ≡ false → after (in_order (map (run r) ts) e n) (λ vs k. settled t vs (prim_value p vs) k) ≡ gives v m → prim_call p (options c ts (meant_by e)) ≡ Some (val_of v)
    strict b h =
        let (vs, (j, (s, q))) = first_of (in_order (map (run r) ts) e n) (λ vs k. settled t vs (prim_value p vs) k) v m h in
        strict_means p (options c ts (meant_by e)) (map val_of vs) (val_of v) b (in_order_means r c ts es e n j vs s)
        (prim_means p vs v (settled_is t vs (prim_value p vs) j m v q))

    lazy : (p : Prim) → is_choice p ≡ true → chosen (map (run r) ts) e n ≡ gives v m → prim_call p (options c ts (meant_by e)) ≡ Some (val_of v)
    lazy If b h = chosen_means r c ts es e n m v h
    lazy p b h = cc

    choose : (b : Bool) → is_choice p ≡ b → cond b (chosen (map (run r) ts) e n) (after (in_order (map (run r) ts) e n) (λ vs k. settled t vs (prim_value p vs) k)) ≡ gives v m
        → prim_call p (options c ts (meant_by e)) ≡ Some (val_of v)
    choose true b h = lazy p b h
    choose false b h = strict b h

pub run_means : (r : Runs) (c : Calls) → CallsMean r c → (u : Term) → Means r c u
run_means r c k u = term_ind (Means r c) variable constant call u
  where
    variable : (x : Symbol) → Means r c (Var x)
    variable x e n m v h = meaning_var c x (meant_by e) ∙ ap Some (found_means e x
        ∙ ap val_of (charged_is (nat_lt n (node_count (found_at e x))) (found_at e x) v (n - node_count (found_at e x)) m (sym (run_var r x e n) ∙ h)))

    constant : (q : Value) → Means r c (Quote q)
    constant q e n m v h = meaning_quote c q (meant_by e)
        ∙ ap (λ w. Some (val_of w)) (charged_is (nat_lt n (node_count q)) q v (n - node_count q) m (sym (run_quote r q e n) ∙ h))

    inside : (f : Symbol) (ts : List Term) → Each (Means r c) ts → (e : Assigned) (n m : ℕ) (v : Value)
        → entered (head_run r (Call f ts) f (prim_of f) (map (run r) ts) e) n ≡ gives v m → head_call c f (prim_of f) (options c ts (meant_by e)) ≡ Some (val_of v)
    inside f ts es e zero m v h = cc
    inside f ts es e (suc n) m v h = head_means r c k (Call f ts) f (prim_of f) ts es e n m v h

    call : (f : Symbol) (ts : List Term) → Each (Means r c) ts → Means r c (Call f ts)
    call f ts es e n m v h = meaning_call c f ts (meant_by e) ∙ inside f ts es e n m v (sym (run_call r f ts e n) ∙ h)

pub zip_means : (xs : List Symbol) (vs : List Value) → meant_by (zip xs vs) ≡ zip xs (map val_of vs)
zip_means [] vs = refl
zip_means (x ∷ xs) [] = refl
zip_means (x ∷ xs) (v ∷ vs) = ap (λ e. (x, val_of v) ∷ e) (zip_means xs vs)

body_means : (r : Runs) (c : Calls) → CallsMean r c → (o : Option Function) (vs : List Value) (n m : ℕ) (v : Value) → body_run r o vs n ≡ gives v m → body_value c o (map val_of vs) ≡ Some (val_of v)
body_means r c k None vs n m v h = cc
body_means r c k (Some g) vs n m v h = rw (length-map vs val_of) (fits (nat_eq (length g.formals) (length vs)) h)
  where
    fits : (b : Bool) → cond b (run r g.body (zip g.formals vs) n) spent ≡ gives v m → cond b (meaning c g.body (zip g.formals (map val_of vs))) None ≡ Some (val_of v)
    fits true q = ap (meaning c g.body) (sym (zip_means g.formals vs)) ∙ run_means r c k g.body (zip g.formals vs) n m v q
    fits false q = cc

pub calls_mean : (d : ℕ) (D : Defs) → CallsMean (calls_run d D) (calls d D)
calls_mean zero D f vs n m v h = cc
calls_mean (suc d) D f vs n m v h = body_means (calls_run d D) (calls d D) (calls_mean d D) (D f) vs n m v h

-- a value that running gives is the term's value
pub metered_means : (D : Defs) (u : Term) (e : Assigned) (n m : ℕ) (v : Value) → metered D u e n ≡ gives v m → HasValue D u (meant_by e) (val_of v)
metered_means D u e n m v h = (n, run_means (calls_run n D) (calls n D) (calls_mean n D) u e n m v h)

-- and so is the evaluator's answer
pub answers_mean : (D : Defs) (u : Term) (e : Assigned) (n m : ℕ) (r : Result Value EvalStop) → Answers r m (metered D u e n) → IfOk r (λ v. HasValue D u (meant_by e) (val_of v))
answers_mean D u e n m (Ok v) h = metered_means D u e n m v h
answers_mean D u e n m (Err s) h = tt
