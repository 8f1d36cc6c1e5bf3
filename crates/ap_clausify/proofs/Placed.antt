-- Where the first `if` whose test has none stands, and that there is one.
use Rattle.std.proofs.Common.{◌≡◌, ℕ, ◌<◌, ◌≤◌, true≢false, suc, ◌+◌, Bool, true, false, cond, not, ◌||◌, List, [], ◌∷◌, ◌++◌, map, length, Option, Some, None, is_some, MatchOption, slice_get, get_or, refl, ap, sym, ◌∙◌, subst, append_assoc, add-zero, zero-add, arith}
use Rattle.ap_list.specs.Lists.{Each}
use Rattle.ap_value.specs.declared.symbol.Symbol.{Symbol}
use Rattle.ap_value.specs.declared.value.Value.{Value}
use Rattle.ap_value.specs.Values.{symbol_eq}
use Rattle.ap_term.specs.declared.term.Term.{Term, Var, Quote, Call}
use Rattle.ap_term.specs.declared.term.Term.TheVariants.{outs-Call}
use Rattle.ap_term.specs.declared.term.Clause.{Clause}
use Rattle.ap_term.proofs.Induction.{term_ind, fold_var, fold_quote, fold_call, para_var, para_quote, para_call}
use Rattle.ap_world.specs.Names.{if_name, not_name, equal_name, cons_name}
use Rattle.ap_world.specs.Clauses.{if_parts}
use Rattle.ap_world.specs.Shapes.{head_by, head_of, call_shape, shape_of}
use Rattle.ap_kernel.specs.Solving.{any_true}
use Rattle.ap_kernel.specs.Splits.{and_then, part_at, parts_of, choice_at, choice_in}
use Rattle.ap_clausify.specs.Places.{has_if_step, has_if, has_plain_test, first_in, place_step, first_place, or_later, choice_from, first_choice, found}

-- a term with what was made of it
abbrev paired : Term → Term × Option (List ℕ)
paired u = (u, first_place u)

firsts : (ts : List Term) → map (λ (p : Term × Option (List ℕ)). p.0) (map paired ts) ≡ ts
firsts [] = refl
firsts (t ∷ ts) = ap (λ us. t ∷ us) (firsts ts)

seconds : (ts : List Term) → map (λ (p : Term × Option (List ℕ)). p.1) (map paired ts) ≡ map first_place ts
seconds [] = refl
seconds (t ∷ ts) = ap (λ os. first_place t ∷ os) (seconds ts)

pub place_var : (x : Symbol) → first_place (Var x) ≡ None
place_var x = para_var place_step x

pub place_quote : (v : Value) → first_place (Quote v) ≡ None
place_quote v = para_quote place_step v

pub place_call : (f : Symbol) (ts : List Term) → first_place (Call f ts) ≡ cond (has_plain_test (if_parts (symbol_eq f if_name) ts)) (Some []) (first_in 0 (map first_place ts))
place_call f ts = para_call place_step f ts
    ∙ ap (λ us. cond (has_plain_test (if_parts (symbol_eq f if_name) us)) (Some []) (first_in 0 (map (λ (p : Term × Option (List ℕ)). p.1) (map paired ts)))) (firsts ts)
    ∙ ap (λ os. cond (has_plain_test (if_parts (symbol_eq f if_name) ts)) (Some []) (first_in 0 os)) (seconds ts)

has_call : (f : Symbol) (ts : List Term) → has_if (Call f ts) ≡ (is_some (if_parts (symbol_eq f if_name) (map has_if ts)) || any_true (map has_if ts))
has_call f ts = fold_call has_if_step f ts

-- there is a place exactly where there is an `if`
some_in : (i : ℕ) (ts : List Term) → Each (λ u. is_some (first_place u) ≡ has_if u) ts → is_some (first_in i (map first_place ts)) ≡ any_true (map has_if ts)
some_in i [] es = refl
some_in i (t ∷ ts) es = go (first_place t) (has_if t) es.0 (some_in (i + 1) ts es.1)
  where
    go : (o : Option (List ℕ)) (b : Bool) → is_some o ≡ b → is_some (first_in (i + 1) (map first_place ts)) ≡ any_true (map has_if ts) → is_some (first_in i (o ∷ map first_place ts)) ≡ (b || any_true (map has_if ts))
    go None true h k = cc
    go None false h k = k
    go (Some is) true h k = refl
    go (Some is) false h k = cc

pub place_has : (u : Term) → is_some (first_place u) ≡ has_if u
place_has = term_ind Goal variable quoted call
  where
    Goal : Term → Type 0
    Goal u = is_some (first_place u) ≡ has_if u

    variable : (x : Symbol) → Goal (Var x)
    variable x = ap is_some (place_var x) ∙ sym (fold_var has_if_step x)

    quoted : (v : Value) → Goal (Quote v)
    quoted v = ap is_some (place_quote v) ∙ sym (fold_quote has_if_step v)

    choose : (a b c : Term) (x : Bool) → is_some (first_place a) ≡ x → is_some (cond (not x) (Some []) (first_in 0 (first_place a ∷ first_place b ∷ first_place c ∷ []))) ≡ true
    choose a b c false h = refl
    choose a b c true h = go (first_place a) h
      where
        go : (o : Option (List ℕ)) → is_some o ≡ true → is_some (first_in 0 (o ∷ first_place b ∷ first_place c ∷ [])) ≡ true
        go None k = cc
        go (Some is) k = refl

    go : (x : Bool) (ts : List Term) → Each Goal ts → is_some (cond (has_plain_test (if_parts x ts)) (Some []) (first_in 0 (map first_place ts))) ≡ (is_some (if_parts x (map has_if ts)) || any_true (map has_if ts))
    go true (a ∷ b ∷ c ∷ []) es = choose a b c (has_if a) es.0
    go x ts es = some_in 0 ts es

    call : (f : Symbol) (ts : List Term) → Each Goal ts → Goal (Call f ts)
    call f ts es = ap is_some (place_call f ts) ∙ go (symbol_eq f if_name) ts es ∙ sym (has_call f ts)

-- the place of an `if`: its own where its test has none, else the test's
abbrev pub of_test : Option (List ℕ) → List ℕ
of_test None = []
of_test (Some is) = 0 ∷ is

abbrev pub place_at : Bool → List Term → Option (List ℕ)
place_at true (a ∷ b ∷ c ∷ []) = Some (of_test (first_place a))
place_at x ts = first_in 0 (map first_place ts)

pub place_called : (f : Symbol) (ts : List Term) → first_place (Call f ts) ≡ place_at (symbol_eq f if_name) ts
place_called f ts = place_call f ts ∙ go (symbol_eq f if_name) ts
  where
    by_test : (b c : Term) (x : Bool) (o : Option (List ℕ)) → is_some o ≡ x → cond (not x) (Some []) (first_in 0 (o ∷ first_place b ∷ first_place c ∷ [])) ≡ Some (of_test o)
    by_test b c true None h = cc
    by_test b c true (Some is) h = refl
    by_test b c false None h = refl
    by_test b c false (Some is) h = cc

    go : (x : Bool) (ts : List Term) → cond (has_plain_test (if_parts x ts)) (Some []) (first_in 0 (map first_place ts)) ≡ place_at x ts
    go true (a ∷ b ∷ c ∷ []) = by_test b c (has_if a) (first_place a) (place_has a)
    go x ts = refl

-- a call that is no `if`
pub place_few : (x : Bool) (ts : List Term) → length ts < 3 → place_at x ts ≡ first_in 0 (map first_place ts)
place_few true (a ∷ b ∷ c ∷ []) h = absurd (omega arith)
place_few x ts h = refl

pub place_many : (x : Bool) (ts : List Term) → 4 ≤ length ts → place_at x ts ≡ first_in 0 (map first_place ts)
place_many true (a ∷ b ∷ c ∷ []) h = absurd (omega arith)
place_many x ts h = refl

pub place_other : (x : Bool) (ts : List Term) → x ≡ false → place_at x ts ≡ first_in 0 (map first_place ts)
place_other true ts h = cc
place_other false ts h = refl

-- the place of an `if`
pub place_if : (u : Term) (f : Symbol) (ts us : List Term) (a : Term) → u ≡ Call f us → ts ≡ us → symbol_eq f if_name ≡ true → 3 ≤ length ts → length ts < 4 → a ≡ get_or ts 0 a → first_place u ≡ Some (of_test (first_place a))
place_if u f ts us a e k q l m h = ap first_place (e ∙ ap (Call f) (sym k)) ∙ place_called f ts ∙ ap (λ x. place_at x ts) q ∙ go ts l m h
  where
    go : (ts : List Term) → 3 ≤ length ts → length ts < 4 → a ≡ get_or ts 0 a → place_at true ts ≡ Some (of_test (first_place a))
    go [] l m h = absurd (omega arith)
    go (x ∷ []) l m h = absurd (omega arith)
    go (x ∷ y ∷ []) l m h = absurd (omega arith)
    go (x ∷ y ∷ z ∷ []) l m h = ap (λ w. Some (of_test (first_place w))) (sym h)
    go (x ∷ y ∷ z ∷ w ∷ ts) l m h = absurd (omega arith)

-- what the search of the test leaves
pub searched : (o : Option (List ℕ)) (b : Bool) (at left : List ℕ) → (b, left) ≡ found (at ++ 0 ∷ []) o → b ≡ true → left ≡ at ++ of_test o
searched None true at left h q = absurd (true≢false (ap (λ (p : Bool × List ℕ). p.0) h))
searched None false at left h q = cc
searched (Some is) b at left h q = ap (λ (p : Bool × List ℕ). p.1) h ∙ append_assoc at (0 ∷ []) is

pub unsearched : (o : Option (List ℕ)) (b : Bool) (at left : List ℕ) → (b, left) ≡ found (at ++ 0 ∷ []) o → b ≡ false → (of_test o ≡ []) × (left ≡ at ++ 0 ∷ [])
unsearched None b at left h q = (refl, ap (λ (p : Bool × List ℕ). p.1) h)
unsearched (Some is) true at left h q = cc
unsearched (Some is) false at left h q = absurd (true≢false (sym (ap (λ (p : Bool × List ℕ). p.0) h)))

pub append_nil : (xs : List ℕ) → xs ++ [] ≡ xs
append_nil [] = refl
append_nil (x ∷ xs) = ap (λ ys. x ∷ ys) (append_nil xs)

-- what is left where the last one is taken
abbrev front : List ℕ → List ℕ
front [] = []
front (x ∷ []) = []
front (x ∷ y ∷ xs) = x ∷ front (y ∷ xs)

front_end : (xs : List ℕ) (x : ℕ) → front (xs ++ x ∷ []) ≡ xs
front_end [] x = refl
front_end (y ∷ []) x = refl
front_end (y ∷ z ∷ xs) x = ap (λ ys. y ∷ ys) (front_end (z ∷ xs) x)

last_one : (xs ys : List ℕ) (x y : ℕ) → xs ++ x ∷ [] ≡ ys ++ y ∷ [] → xs ≡ ys
last_one xs ys x y h = sym (front_end xs x) ∙ ap front h ∙ front_end ys y

pub popped : (at all left : List ℕ) (x : ℕ) (o : Option ℕ) → all ≡ at ++ x ∷ [] → MatchOption o ((all ≡ []) × (left ≡ [])) (λ last. all ≡ left ++ last ∷ []) → left ≡ at
popped at all left x None h k = absurd (no_end at (sym h ∙ k.0))
  where
    no_end : (xs : List ℕ) → xs ++ x ∷ [] ≡ [] → ⊥
    no_end [] q = cc
    no_end (y ∷ ys) q = cc
popped at all left x (Some y) h k = last_one left at y x (sym k ∙ h)

pub ruleset placing = (place_var, place_quote, place_called)

-- an `if` stands at the place
pub choice_step : (f : Symbol) (ts : List Term) (k : ℕ) (js : List ℕ) (t : Term) → slice_get ts k ≡ Some t → choice_at (k ∷ js) (Call f ts) ≡ choice_at js t
choice_step f ts k js t h = rw (outs-Call f ts) (ap (λ o. and_then (and_then o (part_at js)) (λ v. parts_of (shape_of v))) h)

is_choice : (f : Symbol) (a b c : Term) → symbol_eq f if_name ≡ true → is_some (choice_at [] (Call f (a ∷ b ∷ c ∷ []))) ≡ true
unfolding head_of
is_choice f a b c q =
    rw (outs-Call f (a ∷ b ∷ c ∷ [])) (ap (λ x. is_some (parts_of (call_shape (head_by x (symbol_eq f not_name) (symbol_eq f equal_name) (symbol_eq f cons_name)) (a ∷ b ∷ c ∷ [])))) q)

-- an argument, by its place from a number on, which leads to an `if`
record Leads (i : ℕ) (ts : List Term) (is : List ℕ) : Type 0 where
  k : ℕ
  js : List ℕ
  t : Term
  at : is ≡ (i + k) ∷ js
  there : slice_get ts k ≡ Some t
  leads : is_some (choice_at js t) ≡ true

abbrev There : Term → Type 0
There u = (is : List ℕ) → first_place u ≡ Some is → is_some (choice_at is u) ≡ true

leads_in : (i : ℕ) (ts : List Term) (is : List ℕ) → Each There ts → first_in i (map first_place ts) ≡ Some is → Leads i ts is
leads_in i [] is es h = cc
leads_in i (t ∷ ts) is es h = go (first_place t) refl h (leads_in (i + 1) ts is es.1)
  where
    later : Leads (i + 1) ts is → Leads i (t ∷ ts) is
    later l = record { k = suc l.k; js = l.js; t = l.t; at = l.at ∙ ap (λ n. n ∷ l.js) (omega arith); there = l.there; leads = l.leads }

    go : (o : Option (List ℕ)) → first_place t ≡ o → first_in i (o ∷ map first_place ts) ≡ Some is → (first_in (i + 1) (map first_place ts) ≡ Some is → Leads (i + 1) ts is) → Leads i (t ∷ ts) is
    go None q h more = later (more h)
    go (Some js) q h more = record { k = 0; js = js; t = t; at = let e : i ∷ js ≡ is = cc in sym e ∙ ap (λ n. n ∷ js) (sym (add-zero i)); there = refl; leads = es.0 js q }

place_there : (u : Term) → There u
place_there = term_ind There variable quoted call
  where
    variable : (x : Symbol) → There (Var x)
    variable x is h = absurd (no_value (sym (place_var x) ∙ h))
      where
        no_value : None ≡ Some is → ⊥
        no_value k = cc

    quoted : (v : Value) → There (Quote v)
    quoted v is h = absurd (no_value (sym (place_quote v) ∙ h))
      where
        no_value : None ≡ Some is → ⊥
        no_value k = cc

    choose : (f : Symbol) (a b c : Term) → symbol_eq f if_name ≡ true → There a → (o : Option (List ℕ)) → first_place a ≡ o → is_some (choice_at (of_test o) (Call f (a ∷ b ∷ c ∷ []))) ≡ true
    choose f a b c q e None h = is_choice f a b c q
    choose f a b c q e (Some js) h = ap is_some (choice_step f (a ∷ b ∷ c ∷ []) 0 js a refl) ∙ e js h

    among : (f : Symbol) (ts : List Term) (is : List ℕ) → Leads 0 ts is → is_some (choice_at is (Call f ts)) ≡ true
    among f ts is l =
        ap (λ ks. is_some (choice_at ks (Call f ts))) (l.at ∙ ap (λ n. n ∷ l.js) (zero-add l.k)) ∙ ap is_some (choice_step f ts l.k l.js l.t l.there) ∙ l.leads

    go : (x : Bool) (f : Symbol) (ts : List Term) → symbol_eq f if_name ≡ x → Each There ts → (is : List ℕ) → place_at x ts ≡ Some is → is_some (choice_at is (Call f ts)) ≡ true
    go true f (a ∷ b ∷ c ∷ []) q es is h =
        let e : of_test (first_place a) ≡ is = cc in
        subst (λ ks. is_some (choice_at ks (Call f (a ∷ b ∷ c ∷ []))) ≡ true) e (choose f a b c q es.0 (first_place a) refl)
    go x f ts q es is h = among f ts is (leads_in 0 ts is es h)

    call : (f : Symbol) (ts : List Term) → Each There ts → There (Call f ts)
    call f ts es is h = go (symbol_eq f if_name) f ts refl es is (sym (place_called f ts) ∙ h)

-- a literal, by its place from a number on
pub record Stands (i : ℕ) (us : List Term) (p : ℕ × List ℕ) : Type 0 where
  pub k : ℕ
  pub u : Term
  pub at : p.0 ≡ i + k
  pub there : slice_get us k ≡ Some u
  pub place : first_place u ≡ Some p.1

pub stands_from : (i : ℕ) (us : List Term) (p : ℕ × List ℕ) → choice_from i us ≡ Some p → Stands i us p
stands_from i [] p h = cc
stands_from i (u ∷ us) p h = go (first_place u) refl h (stands_from (i + 1) us p)
  where
    later : Stands (i + 1) us p → Stands i (u ∷ us) p
    later l = record { k = suc l.k; u = l.u; at = l.at ∙ omega arith; there = l.there; place = l.place }

    go : (o : Option (List ℕ)) → first_place u ≡ o → or_later i o (choice_from (i + 1) us) ≡ Some p → (choice_from (i + 1) us ≡ Some p → Stands (i + 1) us p) → Stands i (u ∷ us) p
    go None q h more = later (more h)
    go (Some is) q h more =
        let e : (i, is) ≡ p = cc in
        record { k = 0; u = u; at = ap (λ (r : ℕ × List ℕ). r.0) (sym e) ∙ sym (add-zero i); there = refl; place = q ∙ ap (λ (r : ℕ × List ℕ). Some r.1) e }

pub choice_there : (c : Clause) (i : ℕ) (is : List ℕ) → first_choice c ≡ Some (i, is) → is_some (choice_in c i is) ≡ true
choice_there c i is h =
    let l = stands_from 0 c.0 (i, is) h in
    ap (λ n. is_some (and_then (slice_get c.0 n) (choice_at is))) (l.at ∙ zero-add l.k)
    ∙ ap (λ o. is_some (and_then o (choice_at is))) l.there
    ∙ place_there l.u is l.place
