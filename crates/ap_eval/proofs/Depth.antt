-- Running never stops for the depth of its calls.
use Rattle.std.proofs.Common.{◌≡◌, ℕ, zero, suc, ◌+◌, ◌-◌, ◌<◌, ◌≤◌, Bool, true, false, cond, nat_eq, nat_lt, List, [], ◌∷◌, map, length, zip, Option, Some, None, refl, ap, sym, ◌∙◌, subst, arith}
use Rattle.ap_list.specs.Lists.{Each}
use Rattle.ap_value.specs.declared.symbol.Symbol.{Symbol}
use Rattle.ap_value.specs.declared.value.Value.{Value}
use Rattle.ap_value.specs.Counts.{node_count}
use Rattle.ap_value.specs.Values.{val_of, value_eq}
use Rattle.ap_term.specs.declared.term.Term.{Term, Var, Quote, Call}
use Rattle.ap_term.proofs.Induction.{term_ind}
use Rattle.ap_world.specs.declared.entry.Function.{Function}
use Rattle.ap_world.specs.declared.primitive.Primitive.{Primitive as Prim}
use Rattle.ap_world.specs.Primitives.{nil, prim_of}
use Rattle.ap_world.specs.Meaning.{Defs}
use Rattle.ap_world.specs.Units.{Outcome, gives, wide, spent, large, after, Assigned, found_at, most_nodes, sized, charged, prim_value, Runs, in_order, chosen, settled, is_choice, head_run, entered, run, body_run, calls_run, metered}
use Rattle.ap_eval.proofs.Runs.{run_var, run_quote, run_call}

-- no more units are left than these
abbrev Within : {A : Type 0} → ℕ → Outcome A → Type 0
Within n (gives a j) = j ≤ n
Within n (wide t vs) = Unit {0}
Within n spent = Unit {0}
Within n large = Unit {0}

within_more : {A : Type 0} (o : Outcome A) (j n : ℕ) → j ≤ n → Within j o → Within n o
within_more (gives a i) j n h w = omega arith
within_more (wide t vs) j n h w = tt
within_more spent j n h w = tt
within_more large j n h w = tt

-- one outcome, with no more units left than these
abbrev Same : {A : Type 0} → ℕ → Outcome A → Outcome A → Type 0
Same n o p = (o ≡ p) × Within n o

same_by : {A : Type 0} (n : ℕ) (o p q r : Outcome A) → o ≡ q → p ≡ r → Same n q r → Same n o p
same_by n o p q r e f s = (e ∙ s.0 ∙ sym f, subst (Within n) (sym e) s.1)

after_same : {A B : Type 0} (n : ℕ) (o p : Outcome A) (k l : A → ℕ → Outcome B) → Same n o p
    → ((a : A) (j : ℕ) → j ≤ n → Same j (k a j) (l a j)) → Same n (after o k) (after p l)
after_same {A} {B} n o p k l s next = let h : Same n (after o k) (after o l) = go o s.1 in (h.0 ∙ ap (λ q. after q l) s.0, h.1)
  where
    go : (o : Outcome A) → Within n o → Same n (after o k) (after o l)
    go (gives a j) w = let t = next a j w in (t.0, within_more (k a j) j n w t.1)
    go (wide t vs) w = (refl, tt)
    go spent w = (refl, tt)
    go large w = (refl, tt)

sized_within : (v : Value) (j n : ℕ) → j ≤ n → Within n (sized v j)
sized_within v j n h = go (nat_lt most_nodes (node_count v))
  where
    go : (b : Bool) → Within n (cond b large (gives v j))
    go true = tt
    go false = h

charged_within : (v : Value) (n : ℕ) → Within n (charged v n)
charged_within v n = go (nat_lt n (node_count v))
  where
    go : (b : Bool) → Within n (cond b spent (sized v (n - node_count v)))
    go true = tt
    go false = sized_within v (n - node_count v) n (omega arith)

settled_within : (t : Term) (vs : List Value) (o : Option Value) (n : ℕ) → Within n (settled t vs o n)
settled_within t vs None n = tt
settled_within t vs (Some v) n = sized_within v n n (omega arith)

-- a term runs the same with so many units or fewer
abbrev RunsSame : Runs → Runs → ℕ → Term → Type 0
RunsSame c d m u = (e : Assigned) (n : ℕ) → n ≤ m → Same n (run c u e n) (run d u e n)

-- calls give the same with fewer units
abbrev CallsSame : Runs → Runs → ℕ → Type 0
CallsSame c d m = (f : Symbol) (vs : List Value) (n : ℕ) → n < m → Same n (c f vs n) (d f vs n)

in_order_same : (c d : Runs) (m : ℕ) (ts : List Term) → Each (RunsSame c d m) ts → (e : Assigned) (n : ℕ) → n ≤ m
    → Same n (in_order (map (run c) ts) e n) (in_order (map (run d) ts) e n)
in_order_same c d m [] es e n h = (refl, omega arith)
in_order_same c d m (t ∷ ts) es e n h = after_same n (run c t e n) (run d t e n) _ _ (es.0 e n h)
    (λ v j k. after_same j (in_order (map (run c) ts) e j) (in_order (map (run d) ts) e j) _ _ (in_order_same c d m ts es.1 e j (omega arith))
    (λ vs i l. (refl, omega arith)))

chosen_same : (c d : Runs) (m : ℕ) (ts : List Term) → Each (RunsSame c d m) ts → (e : Assigned) (n : ℕ) → n ≤ m
    → Same n (chosen (map (run c) ts) e n) (chosen (map (run d) ts) e n)
chosen_same c d m (t ∷ x ∷ y ∷ []) es e n h = after_same n (run c t e n) (run d t e n) _ _ (es.0 e n h) (λ v j k. go (value_eq (val_of v) nil) j (omega arith))
  where
    go : (b : Bool) (j : ℕ) → j ≤ m → Same j (cond b (run c y e j) (run c x e j)) (cond b (run d y e j) (run d x e j))
    go true j k = es.1.1.0 e j k
    go false j k = es.1.0 e j k
chosen_same c d m ts es e n h = (refl, tt)

head_same : (c d : Runs) (m : ℕ) → CallsSame c d m → (t : Term) (f : Symbol) (o : Option Prim) (ts : List Term) → Each (RunsSame c d m) ts → (e : Assigned) (n : ℕ) → n < m
    → Same n (head_run c t f o (map (run c) ts) e n) (head_run d t f o (map (run d) ts) e n)
head_same c d m k t f None ts es e n h =
    after_same n (in_order (map (run c) ts) e n) (in_order (map (run d) ts) e n) _ _ (in_order_same c d m ts es e n (omega arith)) (λ vs j l. k f vs j (omega arith))
head_same c d m k t f (Some p) ts es e n h = go (is_choice p)
  where
    go : (b : Bool) → Same n (cond b (chosen (map (run c) ts) e n) (after (in_order (map (run c) ts) e n) (λ vs j. settled t vs (prim_value p vs) j)))
        (cond b (chosen (map (run d) ts) e n) (after (in_order (map (run d) ts) e n) (λ vs j. settled t vs (prim_value p vs) j)))
    go true = chosen_same c d m ts es e n (omega arith)
    go false = after_same n (in_order (map (run c) ts) e n) (in_order (map (run d) ts) e n) _ _ (in_order_same c d m ts es e n (omega arith)) (λ vs j l. (refl, settled_within t vs (prim_value p vs) j))

run_same : (c d : Runs) (m : ℕ) → CallsSame c d m → (u : Term) → RunsSame c d m u
run_same c d m k u = term_ind (RunsSame c d m) variable constant call u
  where
    variable : (x : Symbol) → RunsSame c d m (Var x)
    variable x e n h = same_by n _ _ _ _ (run_var c x e n) (run_var d x e n) (refl, charged_within (found_at e x) n)

    constant : (q : Value) → RunsSame c d m (Quote q)
    constant q e n h = same_by n _ _ _ _ (run_quote c q e n) (run_quote d q e n) (refl, charged_within q n)

    inside : (f : Symbol) (ts : List Term) → Each (RunsSame c d m) ts → (e : Assigned) (n : ℕ) → n ≤ m
        → Same n (entered (head_run c (Call f ts) f (prim_of f) (map (run c) ts) e) n) (entered (head_run d (Call f ts) f (prim_of f) (map (run d) ts) e) n)
    inside f ts es e zero h = (refl, tt)
    inside f ts es e (suc n) h =
        let s = head_same c d m k (Call f ts) f (prim_of f) ts es e n (omega arith) in
        (s.0, within_more (head_run c (Call f ts) f (prim_of f) (map (run c) ts) e n) n (suc n) (omega arith) s.1)

    call : (f : Symbol) (ts : List Term) → Each (RunsSame c d m) ts → RunsSame c d m (Call f ts)
    call f ts es e n h = same_by n _ _ _ _ (run_call c f ts e n) (run_call d f ts e n) (inside f ts es e n h)

body_same : (c d : Runs) (n : ℕ) → CallsSame c d n → (o : Option Function) (vs : List Value) → Same n (body_run c o vs n) (body_run d o vs n)
body_same c d n k None vs = (refl, tt)
body_same c d n k (Some g) vs = fits (nat_eq (length g.formals) (length vs))
  where
    fits : (t : Bool) → Same n (cond t (run c g.body (zip g.formals vs) n) spent) (cond t (run d g.body (zip g.formals vs) n) spent)
    fits true = run_same c d n k g.body (zip g.formals vs) n (omega arith)
    fits false = (refl, tt)

-- calls that may be nested so deep give the same where both depths are more than the units
calls_same : (D : Defs) (a b : ℕ) (f : Symbol) (vs : List Value) (n : ℕ) → n < a → n < b → Same n (calls_run a D f vs n) (calls_run b D f vs n)
calls_same D zero b f vs n h k = absurd (omega arith)
calls_same D (suc a) zero f vs n h k = absurd (omega arith)
calls_same D (suc a) (suc b) f vs n h k = body_same (calls_run a D) (calls_run b D) n (λ g ws j l. calls_same D a b g ws j (omega arith) (omega arith)) (D f) vs

pub depth_enough : (D : Defs) (u : Term) (e : Assigned) (n k : ℕ) → run (calls_run (n + k) D) u e n ≡ metered D u e n
depth_enough D u e n k = (run_same (calls_run (n + k) D) (calls_run n D) n (λ f vs j h. calls_same D (n + k) n f vs j (omega arith) h) u e n (omega arith)).0
