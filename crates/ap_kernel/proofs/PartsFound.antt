-- The conjuncts of a term, and the hypotheses and conclusion of a theorem's, by what is lent of it.
use Rattle.std.proofs.Common.{◌≡◌, ℕ, zero, suc, ◌+◌, Bool, true, false, cond, List, [], ◌∷◌, ◌++◌, length, Option, Some, None, slice_get, refl, ap, sym, ◌∙◌, subst, arith, IfErr, Result, Ok, Err, Bor}
use Rattle.std.proofs.Math.ListN.{length-append}
use Rattle.ap_value.specs.declared.symbol.Symbol.{Symbol}
use Rattle.ap_value.specs.Values.{symbol_eq}
use Rattle.ap_term.specs.declared.term.Term.{Term, Call, out-Term}
use Rattle.ap_term.specs.declared.term.Term.TheOpen.{Term-F}
use Rattle.ap_term.proofs.Induction.{OutSays, out_says}
use Rattle.ap_world.specs.Clauses.{is_nil, conjuncts}
use Rattle.ap_world.specs.Names.{if_name, not_name, equal_name, cons_name, implies_name}
use Rattle.ap_world.specs.Rules.{stated}
use Rattle.ap_world.specs.Shapes.{head_by, head_of, call_shape, shape_of}
use Rattle.ap_world.proofs.Given.{conjuncts_at, conjuncts_called}
use Rattle.ap_world.proofs.RulesStand.{stated_var, stated_quote, stated_at, stated_called}
use Rattle.ap_world.proofs.Shaped.{shape_call}
use Rattle.ap_world.proofs.Written.{conjuncts_var, conjuncts_quote, out_var, out_quote}
use Rattle.ap_kernel.specs.Applying.{joined_parts, implied_parts}

-- the conjuncts by the parts of a conjunction
abbrev by_parts : Option (Term × Term) → Term → List Term
by_parts (Some p) u = conjuncts p.0 ++ conjuncts p.1
by_parts None u = u ∷ []

heads_say : (i n e c : Bool) (ts : List Term) (u : Term) → conjuncts_at i ts u ≡ by_parts (joined_parts (call_shape (head_by i n e c) ts)) u
heads_say true n e c (x ∷ y ∷ z ∷ []) u = choose (is_nil z)
  where
    choose : (b : Bool) → cond b (conjuncts x ++ conjuncts y) (u ∷ []) ≡ by_parts (cond b (Some (x, y)) None) u
    choose true = refl
    choose false = refl
heads_say true n e c [] u = refl
heads_say true n e c (x ∷ []) u = refl
heads_say true n e c (x ∷ y ∷ []) u = refl
heads_say true n e c (x ∷ y ∷ z ∷ w ∷ ts) u = refl
heads_say false true e c [] u = refl
heads_say false true e c (x ∷ []) u = refl
heads_say false true e c (x ∷ y ∷ ts) u = refl
heads_say false false true c [] u = refl
heads_say false false true c (x ∷ []) u = refl
heads_say false false true c (x ∷ y ∷ []) u = refl
heads_say false false true c (x ∷ y ∷ z ∷ ts) u = refl
heads_say false false false true [] u = refl
heads_say false false false true (x ∷ []) u = refl
heads_say false false false true (x ∷ y ∷ []) u = refl
heads_say false false false true (x ∷ y ∷ z ∷ ts) u = refl
heads_say false false false false ts u = refl

call_parts : (f : Symbol) (ts : List Term) → conjuncts (Call f ts) ≡ by_parts (joined_parts (call_shape (head_of f) ts)) (Call f ts)
unfolding head_of
call_parts f ts = conjuncts_called f ts ∙ heads_say (symbol_eq f if_name) (symbol_eq f not_name) (symbol_eq f equal_name) (symbol_eq f cons_name) ts (Call f ts)

conjuncts_are : (u : Term) → conjuncts u ≡ by_parts (joined_parts (shape_of u)) u
conjuncts_are u = go (out-Term u) (out_says u)
  where
    go : (y : Term-F Term) → OutSays u y → conjuncts u ≡ by_parts (joined_parts (shape_of u)) u
    go (Term-F.Var x) q = subst (λ u. conjuncts u ≡ by_parts (joined_parts (shape_of u)) u) (sym q) (rw (out_var x) (conjuncts_var x))
    go (Term-F.Quote v) q = subst (λ u. conjuncts u ≡ by_parts (joined_parts (shape_of u)) u) (sym q) (rw (out_quote v) (conjuncts_quote v))
    go (Term-F.Call f ts) q = subst (λ u. conjuncts u ≡ by_parts (joined_parts (shape_of u)) u) (sym q) (call_parts f ts ∙ ap (λ y. by_parts (joined_parts y) (Call f ts)) (sym (shape_call f ts)))

pub conjuncts_found : (u a b : Term) → Some (a, b) ≡ joined_parts (shape_of u) → conjuncts u ≡ conjuncts a ++ conjuncts b
conjuncts_found u a b h = conjuncts_are u ∙ ap (λ o. by_parts o u) (sym h)

pub conjuncts_alone : (u : Term) → None ≡ joined_parts (shape_of u) → conjuncts u ≡ u ∷ []
conjuncts_alone u h = conjuncts_are u ∙ ap (λ o. by_parts o u) (sym h)

-- the hypotheses and the conclusion by the parts of an implication
abbrev stated_by : Option (Term × Term) → Term → List Term × Term
stated_by (Some p) u = (conjuncts p.0 ++ (stated p.1).0, (stated p.1).1)
stated_by None u = ([], u)

implied_says : (f : Symbol) (ts : List Term) (u : Term) → stated_at (symbol_eq f implies_name) ts u ≡ stated_by (implied_parts (Term-F.Call f ts)) u
implied_says f (h ∷ c ∷ []) u = choose (symbol_eq f implies_name)
  where
    choose : (b : Bool) → stated_at b (h ∷ c ∷ []) u ≡ stated_by (cond b (Some (h, c)) None) u
    choose true = refl
    choose false = refl
implied_says f [] u = alone (symbol_eq f implies_name)
  where
    alone : (b : Bool) → stated_at b [] u ≡ ([], u)
    alone true = refl
    alone false = refl
implied_says f (x ∷ []) u = alone (symbol_eq f implies_name)
  where
    alone : (b : Bool) → stated_at b (x ∷ []) u ≡ ([], u)
    alone true = refl
    alone false = refl
implied_says f (x ∷ y ∷ z ∷ ts) u = alone (symbol_eq f implies_name)
  where
    alone : (b : Bool) → stated_at b (x ∷ y ∷ z ∷ ts) u ≡ ([], u)
    alone true = refl
    alone false = refl

stated_are : (u : Term) → stated u ≡ stated_by (implied_parts (out-Term u)) u
stated_are u = go (out-Term u) (out_says u)
  where
    go : (y : Term-F Term) → OutSays u y → stated u ≡ stated_by (implied_parts y) u
    go (Term-F.Var x) q = ap stated q ∙ stated_var x ∙ ap (λ u. ([], u)) (sym q)
    go (Term-F.Quote v) q = ap stated q ∙ stated_quote v ∙ ap (λ u. ([], u)) (sym q)
    go (Term-F.Call f ts) q = ap stated q ∙ stated_called f ts ∙ implied_says f ts (Call f ts) ∙ ap (stated_by (implied_parts (Term-F.Call f ts))) (sym q)

pub stated_found : (u h c : Term) → Some (h, c) ≡ implied_parts (out-Term u) → stated u ≡ (conjuncts h ++ (stated c).0, (stated c).1)
stated_found u h c q = stated_are u ∙ ap (λ o. stated_by o u) (sym q)

pub stated_alone : (u : Term) → None ≡ implied_parts (out-Term u) → stated u ≡ ([], u)
stated_alone u q = stated_are u ∙ ap (λ o. stated_by o u) (sym q)

-- what is found in the first of two lists, and behind it
pub found_first : {A : Type 0} (xs ys : List A) (i : ℕ) (x : A) → slice_get xs i ≡ Some x → slice_get (xs ++ ys) i ≡ Some x
found_first [] ys i x h = cc
found_first (y ∷ xs) ys zero x h = h
found_first (y ∷ xs) ys (suc i) x h = found_first xs ys i x h

pub found_later : {A : Type 0} (xs ys : List A) (i : ℕ) → slice_get (xs ++ ys) (length xs + i) ≡ slice_get ys i
found_later [] ys i = let e : 0 + i ≡ i = omega arith in ap (slice_get ys) e
found_later (y ∷ xs) ys i = let e : length (y ∷ xs) + i ≡ suc (length xs + i) = omega arith in ap (slice_get (y ∷ (xs ++ ys))) e ∙ found_later xs ys i

pub found_second : {A : Type 0} (xs ys : List A) (j i : ℕ) (x : A) → length xs + j ≡ i → slice_get ys j ≡ Some x → slice_get (xs ++ ys) i ≡ Some x
found_second xs ys j i x e h = ap (slice_get (xs ++ ys)) (sym e) ∙ found_later xs ys j ∙ h

pub past_both : {A : Type 0} (xs ys : List A) (k j i : ℕ) → length xs + j ≡ i → length ys + k ≡ j → length (xs ++ ys) + k ≡ i
past_both xs ys k j i e h = let l : length (xs ++ ys) ≡ length xs + length ys = length-append xs ys in omega (arith, l)

pub past_on : (r : Result (Bor Term) ℕ) (xs ys : List Term) (j i : ℕ) → length xs + j ≡ i → IfErr r (λ k. length ys + k ≡ j) → IfErr r (λ k. length (xs ++ ys) + k ≡ i)
past_on (Ok u) xs ys j i e h = tt
past_on (Err k) xs ys j i e h = past_both xs ys k j i e h
