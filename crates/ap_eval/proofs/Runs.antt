-- What running gives at each kind of term, and what comes after a stop.
use Rattle.std.proofs.Common.{◌≡◌, ◌≢◌, ℕ, zero, suc, ◌-◌, ◌<◌, ◌≤◌, List, [], ◌∷◌, map, length, get_or, refl, ap, sym, ◌∙◌, arith}
use Rattle.ap_value.specs.declared.symbol.Symbol.{Symbol}
use Rattle.ap_value.specs.declared.value.Value.{Value}
use Rattle.ap_term.specs.declared.term.Term.{Term, Var, Quote, Call}
use Rattle.ap_term.proofs.Induction.{para_var, para_quote, para_call}
use Rattle.ap_world.specs.Primitives.{prim_of}
use Rattle.ap_world.specs.Meaning.{Defs}
use Rattle.ap_world.specs.Units.{Outcome, spent, after, Assigned, found_at, charged, Run, Runs, head_run, entered, run_step, run, body_run, calls_run}
use Rattle.ap_eval.specs.declared.stop.EvalStop.{EvalStop}
use Rattle.ap_eval.specs.declared.stop.EvalStop.TheVariants as stop
use Rattle.ap_eval.specs.Answers.{Stopped}

pub run_var : (c : Runs) (x : Symbol) (e : Assigned) (n : ℕ) → run c (Var x) e n ≡ charged (found_at e x) n
run_var c x e n = ap (λ m. m e n) (para_var (run_step c) x)

pub run_quote : (c : Runs) (q : Value) (e : Assigned) (n : ℕ) → run c (Quote q) e n ≡ charged q n
run_quote c q e n = ap (λ m. m e n) (para_quote (run_step c) q)

whole : (c : Runs) (ts : List Term) → map (λ (p : Term × Run). p.0) (map (λ t. (t, run c t)) ts) ≡ ts
whole c [] = refl
whole c (t ∷ ts) = ap (λ us. t ∷ us) (whole c ts)

each_run : (c : Runs) (ts : List Term) → map (λ (p : Term × Run). p.1) (map (λ t. (t, run c t)) ts) ≡ map (run c) ts
each_run c [] = refl
each_run c (t ∷ ts) = ap (λ ms. run c t ∷ ms) (each_run c ts)

pub run_call : (c : Runs) (f : Symbol) (ts : List Term) (e : Assigned) (n : ℕ)
    → run c (Call f ts) e n ≡ entered (head_run c (Call f ts) f (prim_of f) (map (run c) ts) e) n
run_call c f ts e n = ap (λ m. m e n) (para_call (run_step c) f ts)
    ∙ (λ i. entered (head_run c (Call f (whole c ts i)) f (prim_of f) (each_run c ts i) e) n)

-- a call with units left is entered, and one without isn't
pub run_entered : (c : Runs) (t : Term) (f : Symbol) (ts : List Term) (e : Assigned) (n : ℕ) → t ≡ Call f ts → n ≢ 0
    → head_run c t f (prim_of f) (map (run c) ts) e (n - 1) ≡ run c t e n
run_entered c t f ts e zero is some = absurd (some refl)
run_entered c t f ts e (suc n) is some = ap (head_run c t f (prim_of f) (map (run c) ts) e) (suc_less n)
    ∙ ap (λ u. head_run c u f (prim_of f) (map (run c) ts) e n) is ∙ sym (ap (λ u. run c u e (suc n)) is ∙ run_call c f ts e (suc n))
  where
    suc_less : (n : ℕ) → suc n - 1 ≡ n
    suc_less n = omega arith

pub run_spent : (c : Runs) (t : Term) (f : Symbol) (ts : List Term) (e : Assigned) (n : ℕ) → t ≡ Call f ts → n ≡ 0 → run c t e n ≡ spent
run_spent c t f ts e n is none = ap (λ u. run c u e n) is ∙ run_call c f ts e n ∙ ap (entered (head_run c (Call f ts) f (prim_of f) (map (run c) ts) e)) none

-- a stop stays one, whatever would come next
pub stopped_after : {A B : Type 0} (s : EvalStop) (o : Outcome A) (k : A → ℕ → Outcome B) → Stopped s o → Stopped s (after o k)
stopped_after (stop.Wide call values) o k h = ap (λ p. after p k) h
stopped_after stop.Spent o k h = ap (λ p. after p k) h
stopped_after stop.Large o k h = ap (λ p. after p k) h
stopped_after stop.NoMemory o k h = h

-- calls that may be nested so deep, one less in the body
pub calls_below : (d : ℕ) (D : Defs) (f : Symbol) (vs : List Value) (n : ℕ) → d ≢ 0 → calls_run d D f vs n ≡ body_run (calls_run (d - 1) D) (D f) vs n
calls_below zero D f vs n h = absurd (h refl)
calls_below (suc d) D f vs n h = ap (λ j. body_run (calls_run j D) (D f) vs n) (sym (suc_less d))
  where
    suc_less : (n : ℕ) → suc n - 1 ≡ n
    suc_less n = omega arith

-- a list of three
pub three_terms : (ts : List Term) (a b c : Term) → 3 ≤ length ts → length ts < 4 → a ≡ get_or ts 0 a → b ≡ get_or ts 1 b → c ≡ get_or ts 2 c → ts ≡ a ∷ b ∷ c ∷ []
three_terms (x ∷ y ∷ z ∷ []) a b c h k e f g = λ i. sym e i ∷ sym f i ∷ sym g i ∷ []
three_terms [] a b c h k e f g = absurd (omega arith)
three_terms (x ∷ []) a b c h k e f g = absurd (omega arith)
three_terms (x ∷ y ∷ []) a b c h k e f g = absurd (omega arith)
three_terms (x ∷ y ∷ z ∷ w ∷ ts) a b c h k e f g = absurd (omega arith)
