-- A term with its variables replaced has no fewer nodes, and what is kept of it is what the program makes.
use Rattle.std.proofs.Common.{◌≡◌, ℕ, ◌+◌, ◌<◌, ◌≤◌, Bool, true, false, cond, nat_le, List, [], ◌∷◌, map, zip, length, Option, Some, None, option_map, unwrap_or, refl, sym, ap, ◌∙◌, subst, arith}
use Rattle.std.proofs.lemmas.Bool.Decides.{nat_tests}
use Rattle.ap_list.specs.Lists.{Each, lookup_by}
use Rattle.ap_value.specs.declared.symbol.Symbol.{Symbol}
use Rattle.ap_value.specs.declared.value.Value.{Value, out-Value, roll-Value, roll-out-Value, fold-roll-Value}
use Rattle.ap_value.specs.declared.value.Value.TheOpen.{Value-F}
use Rattle.ap_value.specs.Values.{symbol_eq}
use Rattle.ap_value.specs.Counts.{node_step, node_count}
use Rattle.ap_term.specs.declared.term.Term.{Term, Var, Quote, Call}
use Rattle.ap_term.specs.Terms.{size_step, term_size, subst_of}
use Rattle.ap_term.proofs.Induction.{term_ind, fold_call}
use Rattle.ap_world.proofs.Written.{subst_var, subst_quote, subst_call}
use Rattle.ap_translate.specs.Rows.{instances}
use Rattle.ap_translate.specs.Sizes.{small, total}
use Rattle.ap_translate.specs.Instances.{nodes_found, sum_two, sum_known, nodes_of, more_than, replaced_by, known_pairs, only_if, kept_instance, in_turn_by, kept_in_turn, kept_either, kept_by}
use Rattle.ap_translate.specs.Table.{body_of}
use Rattle.ap_translate.proofs.Smalls.{size_var, size_quote, small_none, small_some}
use Rattle.ap_translate.proofs.Counted.{nodes_var, nodes_quote, nodes_call, copied_var}

-- every value and every term has a node
pub some_node : (v : Value) → 0 < node_count v
some_node v = subst (λ w. 0 < node_count w) (roll-out-Value v) (level (out-Value v))
  where
    level : (y : Value-F Value) → 0 < node_count (roll-Value y)
    level (Value-F.Int n) = let e : node_count (roll-Value (Value-F.Int n)) ≡ 1 = fold-roll-Value ℕ node_step (Value-F.Int n) in omega arith
    level (Value-F.Chr c) = let e : node_count (roll-Value (Value-F.Chr c)) ≡ 1 = fold-roll-Value ℕ node_step (Value-F.Chr c) in omega arith
    level (Value-F.Str s) = let e : node_count (roll-Value (Value-F.Str s)) ≡ length s + 1 = fold-roll-Value ℕ node_step (Value-F.Str s) in omega arith
    level (Value-F.Sym s) = let e : node_count (roll-Value (Value-F.Sym s)) ≡ 1 = fold-roll-Value ℕ node_step (Value-F.Sym s) in omega arith
    level (Value-F.Cons a b) = let e : node_count (roll-Value (Value-F.Cons a b)) ≡ node_count a + node_count b + 1 = fold-roll-Value ℕ node_step (Value-F.Cons a b) in omega arith

pub size_call : (f : Symbol) (ts : List Term) → term_size (Call f ts) ≡ total term_size ts + 1
size_call f ts = fold_call size_step f ts

pub some_term : (u : Term) → 0 < term_size u
some_term = term_ind (λ u. 0 < term_size u) (λ x. omega (arith, size_var x)) (λ v. omega (arith, size_quote v, some_node v)) (λ f ts es. omega (arith, size_call f ts))

-- an instance has no fewer nodes
pub grows : (s : List (Symbol × Term)) (u : Term) → term_size u ≤ term_size (subst_of s u)
grows s = term_ind (λ u. term_size u ≤ term_size (subst_of s u)) variable constant call
  where
    variable : (x : Symbol) → term_size (Var x) ≤ term_size (subst_of s (Var x))
    variable x = omega (arith, size_var x, some_term (subst_of s (Var x)))

    constant : (v : Value) → term_size (Quote v) ≤ term_size (subst_of s (Quote v))
    constant v = let e = ap term_size (subst_quote s v) in omega arith

    args : (ts : List Term) → Each (λ u. term_size u ≤ term_size (subst_of s u)) ts → total term_size ts ≤ total term_size (map (subst_of s) ts)
    args [] es = omega arith
    args (t ∷ ts) es = let h = es.0 in let k = args ts es.1 in omega arith

    call : (f : Symbol) (ts : List Term) → Each (λ u. term_size u ≤ term_size (subst_of s u)) ts → term_size (Call f ts) ≤ term_size (subst_of s (Call f ts))
    call f ts es =
        let e = ap term_size (subst_call s f ts) in
        let k = args ts es in
        omega (arith, size_call f ts, size_call f (map (subst_of s) ts))

-- the count is of the instance, and what is copied is the instance; or it has too many nodes
abbrev Agrees : Option ℕ → Term → Term → Type 0
Agrees None k t = 4096 < term_size t
Agrees (Some n) k t = (n ≡ term_size t) × (k ≡ t)

abbrev AllAgree : Option ℕ → List Term → List Term → Type 0
AllAgree None ks ts = 4096 < total term_size ts
AllAgree (Some n) ks ts = (n ≡ total term_size ts) × (ks ≡ ts)

along : (m n : Option ℕ) (k l t u : Term) → m ≡ n → k ≡ l → t ≡ u → Agrees n l u → Agrees m k t
along m n k l t u p q r h =
    subst (λ m. Agrees m k t) (sym p) (subst (λ k. Agrees n k t) (sym q) (subst (λ t. Agrees n l t) (sym r) h))

both_agree : (m n : Option ℕ) (k t : Term) (ks ts : List Term) → Agrees m k t → AllAgree n ks ts → AllAgree (sum_two m n) (k ∷ ks) (t ∷ ts)
both_agree None n k t ks ts h l = omega arith
both_agree (Some m) None k t ks ts h l = omega arith
both_agree (Some m) (Some n) k t ks ts h l =
    let p : m + n ≡ term_size t + total term_size ts = let a = h.0 in let b = l.0 in omega arith in
    (p, ap (λ u. u ∷ ks) h.1 ∙ ap (λ us. t ∷ us) l.1)

call_agrees : (f : Symbol) (n : Option ℕ) (ks ts : List Term) → AllAgree n ks ts → Agrees (sum_two (Some 1) n) (Call f ks) (Call f ts)
call_agrees f None ks ts h = omega (arith, size_call f ts)
call_agrees f (Some n) ks ts h =
    let p : 1 + n ≡ term_size (Call f ts) = let a = h.0 in omega (arith, size_call f ts) in
    (p, ap (Call f) h.1)

found_kept : (names : List Symbol) (us : List Term) (x : Symbol) → lookup_by symbol_eq (zip names (map small us)) x ≡ option_map small (lookup_by symbol_eq (zip names us) x)
found_kept [] us x = refl
found_kept (n ∷ ns) [] x = refl
found_kept (n ∷ ns) (u ∷ us) x = choose (symbol_eq x n) (found_kept ns us x)
  where
    choose : (b : Bool) → lookup_by symbol_eq (zip ns (map small us)) x ≡ option_map small (lookup_by symbol_eq (zip ns us) x)
        → cond b (Some (small u)) (lookup_by symbol_eq (zip ns (map small us)) x) ≡ option_map small (cond b (Some u) (lookup_by symbol_eq (zip ns us) x))
    choose true k = refl
    choose false k = k

found_agrees : (x : Symbol) (o : Option Term) → Agrees (nodes_found (option_map small o)) (replaced_by (option_map small o) x) (unwrap_or o (Var x))
found_agrees x None = (sym (size_var x), refl)
found_agrees x (Some u) = by_size (nat_le (term_size u) 4096) refl
  where
    by_size : (b : Bool) → nat_le (term_size u) 4096 ≡ b → Agrees (nodes_found (Some (cond b (Some u) None))) (replaced_by (Some (cond b (Some u) None)) x) u
    by_size true h = (refl, refl)
    by_size false h = grind (arith, nat_tests)

agrees : (names : List Symbol) (us : List Term) (u : Term)
    → Agrees (nodes_of (zip names (map small us)) u) (subst_of (known_pairs (zip names (map small us))) u) (subst_of (zip names us) u)
agrees names us = term_ind Goal variable constant call
  where
    s : List (Symbol × Option Term)
    s = zip names (map small us)

    Goal : Term → Type 0
    Goal u = Agrees (nodes_of s u) (subst_of (known_pairs s) u) (subst_of (zip names us) u)

    variable : (x : Symbol) → Goal (Var x)
    variable x =
        along _ _ _ _ _ _ (nodes_var s x ∙ ap nodes_found (found_kept names us x)) (copied_var s x ∙ ap (λ o. replaced_by o x) (found_kept names us x)) (subst_var (zip names us) x)
        (found_agrees x (lookup_by symbol_eq (zip names us) x))

    constant : (v : Value) → Goal (Quote v)
    constant v = along _ (Some (node_count v)) _ (Quote v) _ (Quote v) (nodes_quote s v) (subst_quote (known_pairs s) v) (subst_quote (zip names us) v) (sym (size_quote v), refl)

    args : (ts : List Term) → Each Goal ts → AllAgree (sum_known (map (nodes_of s) ts)) (map (subst_of (known_pairs s)) ts) (map (subst_of (zip names us)) ts)
    args [] es = (refl, refl)
    args (t ∷ ts) es = both_agree _ _ _ _ _ _ es.0 (args ts es.1)

    call : (f : Symbol) (ts : List Term) → Each Goal ts → Goal (Call f ts)
    call f ts es =
        along _ _ _ _ _ _ (nodes_call s f ts) (subst_call (known_pairs s) f ts) (subst_call (zip names us) f ts)
        (call_agrees f (sum_known (map (nodes_of s) ts)) (map (subst_of (known_pairs s)) ts) (map (subst_of (zip names us)) ts) (args ts es))

kept_where : (n : Option ℕ) (k t : Term) → Agrees n k t → only_if (more_than 0 n) k ≡ small t
kept_where None k t h = sym (small_none t h)
kept_where (Some n) k t h = by_size (nat_le (0 + n) 4096) refl
  where
    size : n ≡ term_size t
    size = h.0

    by_size : (b : Bool) → nat_le (0 + n) 4096 ≡ b → only_if (cond b (Some (0 + n)) None) k ≡ small t
    by_size true q = let low : 0 + n ≤ 4096 = grind (arith, nat_tests) in ap Some h.1 ∙ sym (small_some t (omega (arith, size)))
    by_size false q = let over : 4096 < 0 + n = grind (arith, nat_tests) in sym (small_none t (omega (arith, size)))

pub instance_is : (names : List Symbol) (us : List Term) (u : Term) → kept_instance (zip names (map small us)) u ≡ small (subst_of (zip names us) u)
instance_is names us u = kept_where (nodes_of (zip names (map small us)) u) (subst_of (known_pairs (zip names (map small us))) u) (subst_of (zip names us) u) (agrees names us u)

-- of a term that is kept, or has too many nodes already
once_is : (names : List Symbol) (us : List Term) (u : Term) → kept_by (kept_instance (zip names (map small us))) (small u) ≡ small (subst_of (zip names us) u)
once_is names us u = by_size (nat_le (term_size u) 4096) refl
  where
    by_size : (b : Bool) → nat_le (term_size u) 4096 ≡ b → kept_by (kept_instance (zip names (map small us))) (cond b (Some u) None) ≡ small (subst_of (zip names us) u)
    by_size true h = instance_is names us u
    by_size false h =
        let over : 4096 < term_size u = grind (arith, nat_tests) in
        sym (small_none (subst_of (zip names us) u) (omega (arith, grows (zip names us) u)))

turn_by : (p : Symbol × Option Term) (k : Term → Option Term) (o : Option Term) → kept_by (λ u. in_turn_by p (k u)) o ≡ in_turn_by p (kept_by k o)
turn_by p k None = refl
turn_by p k (Some u) = refl

turn_kept : (p : Symbol × Option Term) (o : Option Term) → in_turn_by p o ≡ kept_by (kept_instance (p ∷ [])) o
turn_kept p None = refl
turn_kept p (Some u) = refl

same_kept : (o : Option Term) → kept_by Some o ≡ o
same_kept None = refl
same_kept (Some u) = refl

turns_are : (names : List Symbol) (us : List Term) (u : Term) → kept_by (kept_in_turn (zip names (map small us))) (small u) ≡ small (instances (zip names us) u)
turns_are [] us u = same_kept (small u)
turns_are (n ∷ ns) [] u = same_kept (small u)
turns_are (n ∷ ns) (t ∷ ts) u =
    turn_by (n, small t) (kept_in_turn (zip ns (map small ts))) (small u) ∙ ap (in_turn_by (n, small t)) (turns_are ns ts u)
    ∙ turn_kept (n, small t) (small (instances (zip ns ts) u)) ∙ once_is (n ∷ []) (t ∷ []) (instances (zip ns ts) u)

pub body_kept : (b : Bool) (names : List Symbol) (us : List Term) (u : Term) → kept_by (kept_either b (zip names (map small us))) (small u) ≡ small (body_of b (zip names us) u)
body_kept true names us u = turns_are names us u
body_kept false names us u = once_is names us u

-- by pairs
zip_parts : (ss : List (Symbol × Term)) → zip (map (λ s. s.0) ss) (map (λ s. s.1) ss) ≡ ss
zip_parts [] = refl
zip_parts (s ∷ ss) = ap (λ r. s ∷ r) (zip_parts ss)

kept_parts : (ss : List (Symbol × Term)) → map small (map (λ s. s.1) ss) ≡ map (λ s. small s.1) ss
kept_parts [] = refl
kept_parts (s ∷ ss) = ap (λ r. small s.1 ∷ r) (kept_parts ss)

pub pairs_kept : (b : Bool) (ss : List (Symbol × Term)) (u : Term)
    → kept_by (kept_either b (zip (map (λ s. s.0) ss) (map (λ s. small s.1) ss))) (small u) ≡ small (body_of b ss u)
pairs_kept b ss u =
    ap (λ ts. kept_by (kept_either b (zip (map (λ s. s.0) ss) ts)) (small u)) (sym (kept_parts ss)) ∙ body_kept b (map (λ s. s.0) ss) (map (λ s. s.1) ss) u
    ∙ ap (λ rs. small (body_of b rs u)) (zip_parts ss)
