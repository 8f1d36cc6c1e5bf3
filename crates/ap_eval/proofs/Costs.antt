-- What running costs: with fewer units it is spent, and else it ends.
use Rattle.std.proofs.Common.{◌≡◌, ℕ, zero, suc, ◌+◌, ◌-◌, ◌≤◌, Bool, true, false, cond, nat_eq, nat_lt, List, [], ◌∷◌, map, length, zip, Option, Some, None, refl, ap, sym, ◌∙◌, arith}
use Rattle.std.proofs.lemmas.Bool.{ltb-true, ltb-false, lt-ltb, le-ltb}
use Rattle.std.proofs.Math.ListN.{length-map}
use Rattle.ap_list.specs.Lists.{Each, with_first, all_some}
use Rattle.ap_value.specs.declared.symbol.Symbol.{Symbol}
use Rattle.ap_value.specs.declared.value.Value.{Value}
use Rattle.ap_value.specs.Counts.{node_count}
use Rattle.ap_value.specs.Values.{V, val_of, value_eq}
use Rattle.ap_term.specs.declared.term.Term.{Term, Var, Quote, Call}
use Rattle.ap_term.proofs.Induction.{term_ind}
use Rattle.ap_world.specs.declared.entry.Function.{Function}
use Rattle.ap_world.specs.declared.primitive.Primitive.{Primitive as Prim}
use Rattle.ap_world.specs.declared.primitive.Primitive.TheVariants.{If}
use Rattle.ap_world.specs.Primitives.{nil, prim, prim_of}
use Rattle.ap_world.specs.Meaning.{value_at, Defs, if_of, applied, prim_call, head_call, meaning, body_value, calls, Total}
use Rattle.ap_world.specs.Sound.{known}
use Rattle.ap_world.specs.Units.{Outcome, gives, spent, large, after, Assigned, meant_by, found_at, most_nodes, charged, prim_value, in_order, chosen, settled, is_choice, head_run, entered, run, body_run, calls_run}
use Rattle.ap_world.proofs.Fuel.{meaning_var, meaning_quote, meaning_call}
use Rattle.ap_world.proofs.TotalMeaning.{known_valued}
use Rattle.ap_eval.specs.Laws.{End, value, overflow, too_large, ended, costing, IsEnd, HasCost}
use Rattle.ap_eval.proofs.Runs.{run_var, run_quote, run_call}
use Rattle.ap_eval.proofs.PrimitivesMean.{prim_means}
use Rattle.ap_eval.proofs.Overflow.{wide_overflow}
use Rattle.ap_eval.proofs.Meant.{found_means, options, zip_means}

-- what runs has a cost, where calls may be nested deeper by s than there are units
pub record Costs (A : Type 0) (s : ℕ) (P : A → Type 0) (m : ℕ → ℕ → Outcome A) : Type 0 where
  pub cost : ℕ
  pub end : End A
  pub is_end : IsEnd P end
  pub runs : (d n : ℕ) → s + n ≤ d → m d n ≡ costing cost end n

-- what costs no units
free : {A : Type 0} (o : End A) (n : ℕ) → ended o n ≡ costing 0 o n
free o n =
    let less : n ≡ n - 0 = omega arith in
    ap (ended o) less ∙ sym (ap (λ b. cond b spent (ended o (n - 0))) (le-ltb n 0 (omega arith)))

-- one unit more, which is spent first
one_more : (c : ℕ) (o : End Value) (h : ℕ → Outcome Value) (n : ℕ) → ((j : ℕ) → suc j ≡ n → h j ≡ costing c o j) → entered h n ≡ costing (suc c) o n
one_more c o h zero k = sym (ap (λ b. cond b spent (ended o (0 - suc c))) (lt-ltb 0 (suc c) (omega arith)))
one_more c o h (suc n) k = k n refl ∙ go (nat_lt n c) refl
  where
    go : (b : Bool) → nat_lt n c ≡ b → costing c o n ≡ costing (suc c) o (suc n)
    go true e = ap (λ b. cond b spent (ended o (n - c))) e ∙ sym (ap (λ b. cond b spent (ended o (suc n - suc c))) (lt-ltb (suc n) (suc c) (let l = ltb-true n c e in omega arith)))
    go false e =
        let less : n - c ≡ suc n - suc c = omega arith in
        ap (λ b. cond b spent (ended o (n - c))) e ∙ ap (ended o) less
        ∙ sym (ap (λ b. cond b spent (ended o (suc n - suc c))) (le-ltb (suc n) (suc c) (let l = ltb-false n c e in omega arith)))

entered_costs : (P : Value → Type 0) (h : ℕ → ℕ → Outcome Value) → Costs Value 1 P h → Costs Value 0 P (λ d. entered (h d))
entered_costs P h k = record {
  cost = suc k.cost;
  end = k.end;
  is_end = k.is_end;
  runs = λ d n l. one_more k.cost k.end (h d) n (λ j is. k.runs d j (omega arith));
}

-- what comes after a value costs what both cost
together : {A B : Type 0} (c d : ℕ) (a : A) (o : End B) (n : ℕ) (k : A → ℕ → Outcome B) → (c ≤ n → k a (n - c) ≡ costing d o (n - c)) → after (costing c (value a) n) k ≡ costing (c + d) o n
together {A} {B} c d a o n k next = go (nat_lt n c) refl
  where
    inner : c ≤ n → (b : Bool) → nat_lt (n - c) d ≡ b → costing d o (n - c) ≡ costing (c + d) o n
    inner l true e = ap (λ b. cond b spent (ended o (n - c - d))) e ∙ sym (ap (λ b. cond b spent (ended o (n - (c + d)))) (lt-ltb n (c + d) (let m = ltb-true (n - c) d e in omega arith)))
    inner l false e =
        let less : n - c - d ≡ n - (c + d) = omega arith in
        ap (λ b. cond b spent (ended o (n - c - d))) e ∙ ap (ended o) less
        ∙ sym (ap (λ b. cond b spent (ended o (n - (c + d)))) (le-ltb n (c + d) (let m = ltb-false (n - c) d e in omega arith)))

    go : (b : Bool) → nat_lt n c ≡ b → after (costing c (value a) n) k ≡ costing (c + d) o n
    go true e = ap (λ b. after (cond b spent (gives a (n - c))) k) e ∙ sym (ap (λ b. cond b spent (ended o (n - (c + d)))) (lt-ltb n (c + d) (let m = ltb-true n c e in omega arith)))
    go false e = let l = ltb-false n c e in ap (λ b. after (cond b spent (gives a (n - c))) k) e ∙ next l ∙ inner l (nat_lt (n - c) d) refl

stays : {A B : Type 0} (c : ℕ) (o : End A) (p : End B) (n : ℕ) (k : A → ℕ → Outcome B) → ((j : ℕ) → after (ended o j) k ≡ ended p j) → after (costing c o n) k ≡ costing c p n
stays c o p n k h = go (nat_lt n c)
  where
    go : (b : Bool) → after (cond b spent (ended o (n - c))) k ≡ cond b spent (ended p (n - c))
    go true = refl
    go false = h (n - c)

after_costs : (A B : Type 0) (s : ℕ) (P : A → Type 0) (Q : B → Type 0) (m : ℕ → ℕ → Outcome A) (k : ℕ → A → ℕ → Outcome B) → Costs A s P m
    → ((a : A) → P a → Costs B s Q (λ d. k d a)) → Costs B s Q (λ d n. after (m d n) (k d))
after_costs A B s P Q m k h next = go h.end h.is_end h.runs
  where
    go : (o : End A) → IsEnd P o → ((d n : ℕ) → s + n ≤ d → m d n ≡ costing h.cost o n) → Costs B s Q (λ d n. after (m d n) (k d))
    go (value a) is runs =
        let l : Costs B s Q (λ d. k d a) = next a is in
        record {
          cost = h.cost + l.cost;
          end = l.end;
          is_end = l.is_end;
          runs = λ d n deep. ap (λ o. after o (k d)) (runs d n deep) ∙ together h.cost l.cost a l.end n (k d) (λ e. l.runs d (n - h.cost) (omega arith));
        }
    go (overflow u vs) is runs = record {
      cost = h.cost;
      end = overflow u vs;
      is_end = is;
      runs = λ d n deep. ap (λ o. after o (k d)) (runs d n deep) ∙ stays h.cost (overflow u vs) (overflow u vs) n (k d) (λ j. refl);
    }
    go too_large is runs = record {
      cost = h.cost;
      end = too_large;
      is_end = tt;
      runs = λ d n deep. ap (λ o. after o (k d)) (runs d n deep) ∙ stays h.cost too_large too_large n (k d) (λ j. refl);
    }

weaker : (P : Value → Type 0) (m : ℕ → ℕ → Outcome Value) → Costs Value 0 P m → Costs Value 1 P m
weaker P m k = record { cost = k.cost; end = k.end; is_end = k.is_end; runs = λ d n l. k.runs d n (omega arith) }

value_costs : (A : Type 0) (s : ℕ) (P : A → Type 0) (a : A) → P a → Costs A s P (λ d n. gives a n)
value_costs A s P a is = record { cost = 0; end = value a; is_end = is; runs = λ d n l. free (value a) n }

-- a value as it ends, which may be too large
abbrev sized_end : Bool → Value → End Value
sized_end true w = too_large
sized_end false w = value w

sized_ends : (b : Bool) (w : Value) (n : ℕ) → cond b large (gives w n) ≡ ended (sized_end b w) n
sized_ends true w n = refl
sized_ends false w n = refl

is_sized : (P : Value → Type 0) (b : Bool) (w : Value) → P w → IsEnd P (sized_end b w)
is_sized P true w h = tt
is_sized P false w h = h

charged_costs : (P : Value → Type 0) (w : Value) → P w → Costs Value 0 P (λ d n. charged w n)
charged_costs P w h = record {
  cost = node_count w;
  end = sized_end (nat_lt most_nodes (node_count w)) w;
  is_end = is_sized P (nat_lt most_nodes (node_count w)) w h;
  runs = λ d n l. ap (cond (nat_lt n (node_count w)) spent) (sized_ends (nat_lt most_nodes (node_count w)) w (n - node_count w));
}

-- what a primitive's call ends with
settled_costs : (f : Symbol) (ts : List Term) (p : Prim) (vs : List Value) (v : V) → prim_of f ≡ Some p → is_choice p ≡ false → prim p (map val_of vs) ≡ Some v
    → Costs Value 1 (λ w. val_of w ≡ v) (λ d n. settled (Call f ts) vs (prim_value p vs) n)
settled_costs f ts p vs v named strict means = go (prim_value p vs) refl
  where
    go : (o : Option Value) → prim_value p vs ≡ o → Costs Value 1 (λ w. val_of w ≡ v) (λ d n. settled (Call f ts) vs o n)
    go None e = record {
      cost = 0;
      end = overflow (Call f ts) vs;
      is_end = record { f = f; ts = ts; call = refl; p = p; named = named; v = v; means = means; overflows = (wide_overflow p vs v strict means).0 e };
      runs = λ d n l. free (overflow (Call f ts) vs) n;
    }
    go (Some w) e =
        let same : Some v ≡ Some (val_of w) = sym means ∙ prim_means p vs w e in
        let is : val_of w ≡ v = cc in
        record {
          cost = 0;
          end = sized_end (nat_lt most_nodes (node_count w)) w;
          is_end = is_sized (λ w. val_of w ≡ v) (nat_lt most_nodes (node_count w)) w is;
          runs = λ d n l. sized_ends (nat_lt most_nodes (node_count w)) w n ∙ free (sized_end (nat_lt most_nodes (node_count w)) w) n;
        }

-- what has a meaning with so many units has a cost
abbrev TermCosts : Defs → ℕ → Term → Type 0
TermCosts D k u = (e : Assigned) (v : V) → meaning (calls k D) u (meant_by e) ≡ Some v → Costs Value 0 (λ w. val_of w ≡ v) (λ d. run (calls_run d D) u e)

abbrev CallCosts : Defs → ℕ → Type 0
CallCosts D k = (f : Symbol) (vs : List Value) (v : V) → calls k D f (map val_of vs) ≡ Some v → Costs Value 1 (λ w. val_of w ≡ v) (λ d. calls_run d D f vs)

no_value : {A : Type 0} (v : A) → None ≡ Some v → ⊥
no_value v h = cc

-- a list that has all its values has the first and the others
record Parts (o : Option V) (os : List (Option V)) (vs : List V) : Type 0 where
  first : V
  others : List V
  first_is : o ≡ Some first
  others_are : all_some os ≡ Some others
  whole : vs ≡ first ∷ others

parts : (o : Option V) (os : List (Option V)) (vs : List V) → all_some (o ∷ os) ≡ Some vs → Parts o os vs
parts None os vs h = absurd (no_value vs h)
parts (Some v) os vs h = go (all_some os) refl h
  where
    go : (p : Option (List V)) → all_some os ≡ p → with_first v p ≡ Some vs → Parts (Some v) os vs
    go None e q = absurd (no_value vs q)
    go (Some ws) e q = record { first = v; others = ws; first_is = refl; others_are = e; whole = cc }

in_order_costs : (D : Defs) (k : ℕ) (ts : List Term) → Each (TermCosts D k) ts → (e : Assigned) (vs : List V) → all_some (options (calls k D) ts (meant_by e)) ≡ Some vs
    → Costs (List Value) 1 (λ ws. map val_of ws ≡ vs) (λ d. in_order (map (run (calls_run d D)) ts) e)
in_order_costs D k [] es e vs h = let same : [] ≡ vs = cc in value_costs (List Value) 1 (λ ws. map val_of ws ≡ vs) [] same
in_order_costs D k (t ∷ ts) es e vs h =
    let p = parts (meaning (calls k D) t (meant_by e)) (options (calls k D) ts (meant_by e)) vs h in
    after_costs Value (List Value) 1 (λ w. val_of w ≡ p.first) (λ ws. map val_of ws ≡ vs) (λ d. run (calls_run d D) t e)
    (λ d v j. after (in_order (map (run (calls_run d D)) ts) e j) (λ vs i. gives (v ∷ vs) i))
    (weaker (λ w. val_of w ≡ p.first) (λ d. run (calls_run d D) t e) (es.0 e p.first p.first_is))
    (λ w w_is. after_costs (List Value) (List Value) 1 (λ ws. map val_of ws ≡ p.others) (λ ws. map val_of ws ≡ vs) (λ d. in_order (map (run (calls_run d D)) ts) e)
    (λ d vs i. gives (w ∷ vs) i) (in_order_costs D k ts es.1 e p.others p.others_are)
    (λ ws ws_are. value_costs (List Value) 1 (λ ws. map val_of ws ≡ vs) (w ∷ ws) ((λ i. w_is i ∷ ws_are i) ∙ sym p.whole)))

-- an `if` means something where it has a test, whose value chooses, and two branches
if_none : (v : V) → if_of [] ≡ Some v → ⊥
if_none v h = cc

if_one : (o : Option V) (v : V) → if_of (o ∷ []) ≡ Some v → ⊥
if_one None v h = cc
if_one (Some a) v h = cc

if_two : (o p : Option V) (v : V) → if_of (o ∷ p ∷ []) ≡ Some v → ⊥
if_two None p v h = cc
if_two (Some a) p v h = cc

if_many : (o p q r : Option V) (os : List (Option V)) (v : V) → if_of (o ∷ p ∷ q ∷ r ∷ os) ≡ Some v → ⊥
if_many None p q r os v h = cc
if_many (Some a) p q r os v h = cc

chosen_costs : (D : Defs) (k : ℕ) (ts : List Term) → Each (TermCosts D k) ts → (e : Assigned) (v : V) → if_of (options (calls k D) ts (meant_by e)) ≡ Some v
    → Costs Value 1 (λ w. val_of w ≡ v) (λ d. chosen (map (run (calls_run d D)) ts) e)
chosen_costs D k [] es e v h = absurd (if_none v h)
chosen_costs D k (x ∷ []) es e v h = absurd (if_one _ v h)
chosen_costs D k (x ∷ y ∷ []) es e v h = absurd (if_two _ _ v h)
chosen_costs D k (x ∷ y ∷ z ∷ t ∷ ts) es e v h = absurd (if_many _ _ _ _ _ v h)
chosen_costs D k (x ∷ y ∷ z ∷ []) es e v h = test (meaning (calls k D) x (meant_by e)) refl h
  where
    branch : (b : Bool) → cond b (meaning (calls k D) z (meant_by e)) (meaning (calls k D) y (meant_by e)) ≡ Some v
        → Costs Value 1 (λ w. val_of w ≡ v) (λ d j. cond b (run (calls_run d D) z e j) (run (calls_run d D) y e j))
    branch true q = weaker (λ w. val_of w ≡ v) (λ d. run (calls_run d D) z e) (es.1.1.0 e v q)
    branch false q = weaker (λ w. val_of w ≡ v) (λ d. run (calls_run d D) y e) (es.1.0 e v q)

    test : (o : Option V) → meaning (calls k D) x (meant_by e) ≡ o
        → if_of (o ∷ meaning (calls k D) y (meant_by e) ∷ meaning (calls k D) z (meant_by e) ∷ []) ≡ Some v
        → Costs Value 1 (λ w. val_of w ≡ v) (λ d. chosen (map (run (calls_run d D)) (x ∷ y ∷ z ∷ [])) e)
    test None is q = absurd (no_value v q)
    test (Some a) is q = after_costs Value Value 1 (λ w. val_of w ≡ a) (λ w. val_of w ≡ v) (λ d. run (calls_run d D) x e)
        (λ d w j. cond (value_eq (val_of w) nil) (run (calls_run d D) z e j) (run (calls_run d D) y e j))
        (weaker (λ w. val_of w ≡ a) (λ d. run (calls_run d D) x e) (es.0 e a is))
        (λ w w_is. branch (value_eq (val_of w) nil) (ap (λ b. cond (value_eq b nil) (meaning (calls k D) z (meant_by e)) (meaning (calls k D) y (meant_by e))) w_is ∙ q))

-- a call of what isn't `if` has all its arguments
applied_parts : (g : List V → Option V) (o : Option (List V)) (v : V) → applied g o ≡ Some v → (vs : List V) × (o ≡ Some vs) × (g vs ≡ Some v)
applied_parts g None v h = absurd (no_value v h)
applied_parts g (Some vs) v h = (vs, refl, h)

strict_call : (p : Prim) (os : List (Option V)) → is_choice p ≡ false → prim_call p os ≡ applied (prim p) (all_some os)
strict_call If os h = absurd (no h)
  where
    no : true ≡ false → ⊥
    no q = cc
strict_call p os h = refl

lazy_call : (p : Prim) (os : List (Option V)) → is_choice p ≡ true → prim_call p os ≡ if_of os
lazy_call If os h = refl
lazy_call p os h = absurd (no h)
  where
    no : false ≡ true → ⊥
    no q = cc

head_costs : (D : Defs) (k : ℕ) → CallCosts D k → (f : Symbol) (ts : List Term) → Each (TermCosts D k) ts → (e : Assigned) (v : V) (o : Option Prim) → prim_of f ≡ o
    → head_call (calls k D) f o (options (calls k D) ts (meant_by e)) ≡ Some v
    → Costs Value 1 (λ w. val_of w ≡ v) (λ d. head_run (calls_run d D) (Call f ts) f o (map (run (calls_run d D)) ts) e)
head_costs D k c f ts es e v None named h =
    let (vs, are, is) = applied_parts (calls k D f) (all_some (options (calls k D) ts (meant_by e))) v h in
    after_costs (List Value) Value 1 (λ ws. map val_of ws ≡ vs) (λ w. val_of w ≡ v) (λ d. in_order (map (run (calls_run d D)) ts) e) (λ d ws j. calls_run d D f ws j)
    (in_order_costs D k ts es e vs are) (λ ws ws_are. c f ws v (ap (calls k D f) ws_are ∙ is))
head_costs D k c f ts es e v (Some p) named h = go (is_choice p) refl
  where
    strict : is_choice p ≡ false → Costs Value 1 (λ w. val_of w ≡ v) (λ d n. after (in_order (map (run (calls_run d D)) ts) e n) (λ ws j. settled (Call f ts) ws (prim_value p ws) j))
    strict b =
        let (vs, are, is) = applied_parts (prim p) (all_some (options (calls k D) ts (meant_by e))) v (sym (strict_call p (options (calls k D) ts (meant_by e)) b) ∙ h) in
        after_costs (List Value) Value 1 (λ ws. map val_of ws ≡ vs) (λ w. val_of w ≡ v) (λ d. in_order (map (run (calls_run d D)) ts) e) (λ d ws j. settled (Call f ts) ws (prim_value p ws) j)
        (in_order_costs D k ts es e vs are) (λ ws ws_are. settled_costs f ts p ws v named b (ap (prim p) ws_are ∙ is))

    go : (b : Bool) → is_choice p ≡ b → Costs Value 1 (λ w. val_of w ≡ v)
        (λ d n. cond b (chosen (map (run (calls_run d D)) ts) e n) (after (in_order (map (run (calls_run d D)) ts) e n) (λ ws j. settled (Call f ts) ws (prim_value p ws) j)))
    go true b = chosen_costs D k ts es e v (sym (lazy_call p (options (calls k D) ts (meant_by e)) b) ∙ h)
    go false b = strict b

-- runs that give the same cost the same
same_costs : (P : Value → Type 0) (m l : ℕ → ℕ → Outcome Value) → ((d n : ℕ) → m d n ≡ l d n) → Costs Value 0 P l → Costs Value 0 P m
same_costs P m l same k = record { cost = k.cost; end = k.end; is_end = k.is_end; runs = λ d n h. same d n ∙ k.runs d n h }

term_costs : (D : Defs) (k : ℕ) → CallCosts D k → (u : Term) → TermCosts D k u
term_costs D k c u = term_ind (TermCosts D k) variable constant call u
  where
    variable : (x : Symbol) → TermCosts D k (Var x)
    variable x e v h =
        let means : Some (value_at (meant_by e) x) ≡ Some v = sym (meaning_var (calls k D) x (meant_by e)) ∙ h in
        let is : value_at (meant_by e) x ≡ v = cc in
        same_costs (λ w. val_of w ≡ v) (λ d. run (calls_run d D) (Var x) e) (λ d. charged (found_at e x)) (λ d n. run_var (calls_run d D) x e n)
        (charged_costs (λ w. val_of w ≡ v) (found_at e x) (sym (found_means e x) ∙ is))

    constant : (q : Value) → TermCosts D k (Quote q)
    constant q e v h =
        let means : Some (val_of q) ≡ Some v = sym (meaning_quote (calls k D) q (meant_by e)) ∙ h in
        let is : val_of q ≡ v = cc in
        same_costs (λ w. val_of w ≡ v) (λ d. run (calls_run d D) (Quote q) e) (λ d. charged q) (λ d n. run_quote (calls_run d D) q e n)
        (charged_costs (λ w. val_of w ≡ v) q is)

    call : (f : Symbol) (ts : List Term) → Each (TermCosts D k) ts → TermCosts D k (Call f ts)
    call f ts es e v h =
        same_costs (λ w. val_of w ≡ v) (λ d. run (calls_run d D) (Call f ts) e) (λ d. entered (head_run (calls_run d D) (Call f ts) f (prim_of f) (map (run (calls_run d D)) ts) e))
        (λ d n. run_call (calls_run d D) f ts e n)
        (entered_costs (λ w. val_of w ≡ v) (λ d. head_run (calls_run d D) (Call f ts) f (prim_of f) (map (run (calls_run d D)) ts) e)
        (head_costs D k c f ts es e v (prim_of f) refl (sym (meaning_call (calls k D) f ts (meant_by e)) ∙ h)))

-- the body of a function
body_costs : (D : Defs) (P : Value → Type 0) (f : Symbol) (g : Function) (vs : List Value) → D f ≡ Some g → nat_eq (length g.formals) (length vs) ≡ true
    → Costs Value 0 P (λ d. run (calls_run d D) g.body (zip g.formals vs)) → Costs Value 1 P (λ d. calls_run d D f vs)
body_costs D P f g vs defined fits k = record { cost = k.cost; end = k.end; is_end = k.is_end; runs = runs }
  where
    runs : (d n : ℕ) → 1 + n ≤ d → calls_run d D f vs n ≡ costing k.cost k.end n
    runs zero n h = absurd (omega arith)
    runs (suc d) n h = ap (λ o. body_run (calls_run d D) o vs n) defined ∙ ap (λ b. cond b (run (calls_run d D) g.body (zip g.formals vs) n) spent) fits ∙ k.runs d n (omega arith)

calls_cost : (D : Defs) (k : ℕ) → CallCosts D k → (f : Symbol) (vs : List Value) (v : V) → body_value (calls k D) (D f) (map val_of vs) ≡ Some v → Costs Value 1 (λ w. val_of w ≡ v) (λ d. calls_run d D f vs)
calls_cost D k c f vs v h = body (D f) refl h
  where
    fits : (g : Function) → D f ≡ Some g → (b : Bool) → nat_eq (length g.formals) (length vs) ≡ b → cond b (meaning (calls k D) g.body (zip g.formals (map val_of vs))) None ≡ Some v
        → Costs Value 1 (λ w. val_of w ≡ v) (λ d. calls_run d D f vs)
    fits g defined false e q = absurd (no_value v q)
    fits g defined true e q = body_costs D (λ w. val_of w ≡ v) f g vs defined e
        (term_costs D k c g.body (zip g.formals vs) v (ap (meaning (calls k D) g.body) (zip_means g.formals vs) ∙ q))

    body : (o : Option Function) → D f ≡ o → body_value (calls k D) o (map val_of vs) ≡ Some v → Costs Value 1 (λ w. val_of w ≡ v) (λ d. calls_run d D f vs)
    body None defined q = absurd (no_value v q)
    body (Some g) defined q = fits g defined (nat_eq (length g.formals) (length vs)) refl
        (ap (λ n. cond (nat_eq (length g.formals) n) (meaning (calls k D) g.body (zip g.formals (map val_of vs))) None) (sym (length-map vs val_of)) ∙ q)

call_costs : (D : Defs) (k : ℕ) → CallCosts D k
call_costs D zero f vs v h = absurd (no_value v h)
call_costs D (suc k) f vs v h = calls_cost D k (call_costs D k) f vs v h

pub known_costs : (D : Defs) → Total D → (u : Term) → known D u ≡ true → (e : Assigned) → HasCost D u e
known_costs D total u u_known e =
    let (v, (k, q)) = known_valued D total u u_known (meant_by e) in
    let c = term_costs D k (call_costs D k) u e v q in
    record { v = v; means = (k, q); cost = c.cost; end = c.end; is_end = c.is_end; runs = λ n. c.runs n n (omega arith) }
