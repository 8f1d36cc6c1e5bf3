-- How many leaves a term and a clause have: one without an `if`, and with one those of its two cases.
use Rattle.std.proofs.Common.{◌≡◌, ℕ, zero, suc, ◌+◌, ◌*◌, ◌≤◌, Bool, true, false, List, [], ◌∷◌, ◌++◌, map, length, take, Option, Some, None, slice_get, refl, ap, sym, ◌∙◌, subst, zero-add, add-zero, arith}
use Rattle.std.proofs.Math.Nat.{mul-one, one-mul, mul-add, add-mul, mul_assoc}
use Rattle.std.proofs.lemmas.Nat.{mul-le}
use Rattle.ap_list.specs.Lists.{Each}
use Rattle.ap_value.specs.declared.symbol.Symbol.{Symbol}
use Rattle.ap_value.specs.declared.value.Value.{Value}
use Rattle.ap_value.specs.Values.{symbol_eq}
use Rattle.ap_term.specs.declared.term.Term.{Term, Var, Quote, Call}
use Rattle.ap_term.specs.declared.term.Term.TheOpen.{Term-F}
use Rattle.ap_term.specs.declared.term.Term.TheVariants.{outs-Var, outs-Quote, outs-Call}
use Rattle.ap_term.proofs.Induction.{term_ind, fold_var, fold_quote, fold_call}
use Rattle.ap_term.proofs.LeavesCapped.{leaves_some}
use Rattle.ap_world.specs.Names.{if_name, not_name, equal_name, cons_name}
use Rattle.ap_world.specs.Clauses.{if_parts, negated_part, negate}
use Rattle.ap_world.specs.Shapes.{head_by, head_of, call_shape}
use Rattle.ap_kernel.specs.Reductions.{put_at}
use Rattle.ap_kernel.specs.Splits.{and_then, with_argument, with_part, parts_of, choice_at}
use Rattle.ap_kernel.proofs.Splitting.{then_some}
use Rattle.ap_clausify.specs.Places.{first_in, first_place}
use Rattle.ap_clausify.specs.Leaves.{product, choice_leaves, leaves_step, leaves}
use Rattle.ap_clausify.proofs.Placed.{place_var, place_quote, place_at, place_called, of_test, choice_step}
use Rattle.ap_clausify.proofs.Framed.{drop_next}

pub leaves_var : (x : Symbol) → leaves (Var x) ≡ 1
leaves_var x = fold_var leaves_step x

pub leaves_quote : (v : Value) → leaves (Quote v) ≡ 1
leaves_quote v = fold_quote leaves_step v

abbrev pub leaves_at : Bool → List Term → ℕ
leaves_at true (a ∷ b ∷ c ∷ []) = leaves a * (leaves b + leaves c)
leaves_at x ts = product (map leaves ts)

pub leaves_call : (f : Symbol) (ts : List Term) → leaves (Call f ts) ≡ leaves_at (symbol_eq f if_name) ts
leaves_call f ts = fold_call leaves_step f ts ∙ go (symbol_eq f if_name) ts
  where
    go : (x : Bool) (ts : List Term) → choice_leaves (if_parts x (map leaves ts)) (product (map leaves ts)) ≡ leaves_at x ts
    go true (a ∷ b ∷ c ∷ []) = refl
    go x ts = refl

-- there is a leaf
pub all_some_leaves : (ts : List Term) → 1 ≤ product (map leaves ts)
all_some_leaves [] = omega arith
all_some_leaves (t ∷ ts) = mul-le 1 1 (leaves t) (product (map leaves ts)) (leaves_some t) (all_some_leaves ts)

-- one where there is no `if`
one_more : (n m : ℕ) → n ≡ 1 → m ≡ 1 → n * m ≡ 1
one_more n m h k = ap (λ a. a * m) h ∙ one-mul m ∙ k

one_in : (i : ℕ) (ts : List Term) → Each (λ u. first_place u ≡ None → leaves u ≡ 1) ts → first_in i (map first_place ts) ≡ None → product (map leaves ts) ≡ 1
one_in i [] es h = refl
one_in i (t ∷ ts) es h = go (first_place t) refl h (one_in (i + 1) ts es.1)
  where
    go : (o : Option (List ℕ)) → first_place t ≡ o → first_in i (o ∷ map first_place ts) ≡ None → (first_in (i + 1) (map first_place ts) ≡ None → product (map leaves ts) ≡ 1) → leaves t * product (map leaves ts) ≡ 1
    go None q k more = one_more (leaves t) (product (map leaves ts)) (es.0 q) (more k)
    go (Some is) q k more = cc

pub one_leaf : (u : Term) → first_place u ≡ None → leaves u ≡ 1
one_leaf = term_ind Goal variable quoted call
  where
    Goal : Term → Type 0
    Goal u = first_place u ≡ None → leaves u ≡ 1

    variable : (x : Symbol) → Goal (Var x)
    variable x h = leaves_var x

    quoted : (v : Value) → Goal (Quote v)
    quoted v h = leaves_quote v

    go : (x : Bool) (ts : List Term) → Each Goal ts → place_at x ts ≡ None → leaves_at x ts ≡ 1
    go true (a ∷ b ∷ c ∷ []) es h = cc
    go x ts es h = one_in 0 ts es h

    call : (f : Symbol) (ts : List Term) → Each Goal ts → Goal (Call f ts)
    call f ts es h = leaves_call f ts ∙ go (symbol_eq f if_name) ts es (sym (place_called f ts) ∙ h)

-- a call that is no `if`, by the number of its arguments
leaves_other : (x : Bool) (ts : List Term) → if_parts x ts ≡ None → leaves_at x ts ≡ product (map leaves ts)
leaves_other true (a ∷ b ∷ c ∷ []) h = cc
leaves_other x ts h = refl

no_if : (x : Bool) (ts us : List Term) → length us ≡ length ts → if_parts x ts ≡ None → if_parts x us ≡ None
no_if true [] (a ∷ b ∷ c ∷ []) e h = absurd (omega arith)
no_if true (x ∷ []) (a ∷ b ∷ c ∷ []) e h = absurd (omega arith)
no_if true (x ∷ y ∷ []) (a ∷ b ∷ c ∷ []) e h = absurd (omega arith)
no_if true (x ∷ y ∷ z ∷ []) (a ∷ b ∷ c ∷ []) e h = cc
no_if true (x ∷ y ∷ z ∷ w ∷ ts) (a ∷ b ∷ c ∷ []) e h = absurd (omega arith)
no_if x ts us e h = refl

no_if_alone : (x : Bool) (a : Term) → if_parts x (a ∷ []) ≡ None
no_if_alone true a = refl
no_if_alone false a = refl

leaves_alone : (f : Symbol) (a : Term) → leaves (Call f (a ∷ [])) ≡ leaves a
leaves_alone f a = leaves_call f (a ∷ []) ∙ leaves_other (symbol_eq f if_name) (a ∷ []) (no_if_alone (symbol_eq f if_name) a) ∙ mul-one (leaves a)

-- a negation has as many
pub negate_leaves : (u : Term) → leaves (negate u) ≡ leaves u
negate_leaves = term_ind Goal variable quoted call
  where
    Goal : Term → Type 0
    Goal u = leaves (negate u) ≡ leaves u

    variable : (x : Symbol) → Goal (Var x)
    variable x = rw (outs-Var x) (leaves_alone not_name (Var x))

    quoted : (v : Value) → Goal (Quote v)
    quoted v = rw (outs-Quote v) (leaves_alone not_name (Quote v))

    go : (x : Bool) (f : Symbol) (ts : List Term) → leaves (negated_part x ts (Call f ts)) ≡ leaves (Call f ts)
    go true f (a ∷ []) = sym (leaves_alone f a)
    go x f ts = leaves_alone not_name (Call f ts)

    call : (f : Symbol) (ts : List Term) → Each Goal ts → Goal (Call f ts)
    call f ts es = rw (outs-Call f ts) (go (symbol_eq f not_name) f ts)

-- a list with others put in the place of one
pub put_next : (k : ℕ) (ys : List Term) (x : Term) (xs : List Term) → put_at (suc k) ys (x ∷ xs) ≡ x ∷ put_at k ys xs
put_next k ys x xs = ap (λ zs. x ∷ (take k xs ++ (ys ++ zs))) (drop_next k x xs)

put_length : (ts : List Term) (k : ℕ) (t v : Term) → slice_get ts k ≡ Some t → length (put_at k (v ∷ []) ts) ≡ length ts
put_length [] k t v h = cc
put_length (x ∷ xs) zero t v h = refl
put_length (x ∷ xs) (suc k) t v h = ap length (put_next k (v ∷ []) x xs) ∙ ap suc (put_length xs k t v h)

product_append : (xs ys : List Term) → product (map leaves (xs ++ ys)) ≡ product (map leaves xs) * product (map leaves ys)
product_append [] ys = sym (one-mul (product (map leaves ys)))
product_append (x ∷ xs) ys = ap (λ n. leaves x * n) (product_append xs ys) ∙ sym (mul_assoc (leaves x) (product (map leaves xs)) (product (map leaves ys)))

-- where one has the leaves of those that are put there on two occasions
pub product_put : (ts : List Term) (k : ℕ) (t : Term) (ys zs : List Term) → slice_get ts k ≡ Some t → leaves t ≡ product (map leaves ys) + product (map leaves zs)
    → product (map leaves ts) ≡ product (map leaves (put_at k ys ts)) + product (map leaves (put_at k zs ts))
product_put [] k t ys zs h e = cc
product_put (x ∷ xs) zero t ys zs h e =
    let same : x ≡ t = cc in
    let y = product (map leaves ys) in
    let z = product (map leaves zs) in
    let p = product (map leaves xs) in
    let first : leaves x * p ≡ y * p + z * p = ap (λ n. n * p) (ap leaves same ∙ e) ∙ add-mul y z p in
    let put : product (map leaves (ys ++ xs)) ≡ y * p = product_append ys xs in
    let other : product (map leaves (zs ++ xs)) ≡ z * p = product_append zs xs in
    first ∙ ap (λ n. n + z * p) (sym put) ∙ ap (λ n. product (map leaves (ys ++ xs)) + n) (sym other)
product_put (x ∷ xs) (suc k) t ys zs h e =
    let a = product (map leaves (put_at k ys xs)) in
    let b = product (map leaves (put_at k zs xs)) in
    let first : leaves x * product (map leaves xs) ≡ leaves x * a + leaves x * b = ap (λ n. leaves x * n) (product_put xs k t ys zs h e) ∙ mul-add (leaves x) a b in
    first ∙ ap (λ us. product (map leaves us) + leaves x * b) (sym (put_next k ys x xs)) ∙ ap (λ us. product (map leaves (put_at (suc k) ys (x ∷ xs))) + product (map leaves us)) (sym (put_next k zs x xs))

-- the part at a place put elsewhere
choice_is : (f : Symbol) (a b c : Term) → symbol_eq f if_name ≡ true → choice_at [] (Call f (a ∷ b ∷ c ∷ [])) ≡ Some (a, b, c)
unfolding head_of
choice_is f a b c q =
    rw (outs-Call f (a ∷ b ∷ c ∷ [])) (ap (λ x. parts_of (call_shape (head_by x (symbol_eq f not_name) (symbol_eq f equal_name) (symbol_eq f cons_name)) (a ∷ b ∷ c ∷ []))) q)

part_step : (f : Symbol) (ts : List Term) (k : ℕ) (js : List ℕ) (r t v : Term) → slice_get ts k ≡ Some t → with_part (k ∷ js) r (Call f ts) ≡ Some v
    → (s : Term) × (with_part js r t ≡ Some s) × (v ≡ Call f (put_at k (s ∷ []) ts))
part_step f ts k js r t v h e =
    let (s, there, made) = then_some (with_part js r t) (with_argument (Term-F.Call f ts) k) v (sym steps ∙ e) in
    (s, there, cc)
  where
    steps : with_part (k ∷ js) r (Call f ts) ≡ and_then (with_part js r t) (with_argument (Term-F.Call f ts) k)
    steps = rw (outs-Call f ts) (ap (λ o. and_then (and_then o (with_part js r)) (with_argument (Term-F.Call f ts) k)) h)

-- the two cases of a term have its leaves together, and the test has no `if`
abbrev pub Halved : Term → Term → Term → Term → Type 0
Halved u a v w = (leaves u ≡ leaves v + leaves w) × (first_place a ≡ None)

abbrev Halves : Term → Type 0
Halves u = (is : List ℕ) (p : Term × Term × Term) (v w : Term) → first_place u ≡ Some is → choice_at is u ≡ Some p → with_part is p.1 u ≡ Some v → with_part is p.2 u ≡ Some w → Halved u p.0 v w

-- an argument in which the `if` stands
record Chosen (i : ℕ) (ts : List Term) (is : List ℕ) : Type 0 where
  k : ℕ
  js : List ℕ
  t : Term
  at : is ≡ (i + k) ∷ js
  there : slice_get ts k ≡ Some t
  place : first_place t ≡ Some js
  halves : Halves t

chosen_in : (i : ℕ) (ts : List Term) (is : List ℕ) → Each Halves ts → first_in i (map first_place ts) ≡ Some is → Chosen i ts is
chosen_in i [] is es h = cc
chosen_in i (t ∷ ts) is es h = go (first_place t) refl h (chosen_in (i + 1) ts is es.1)
  where
    later : Chosen (i + 1) ts is → Chosen i (t ∷ ts) is
    later l = record { k = suc l.k; js = l.js; t = l.t; at = l.at ∙ ap (λ n. n ∷ l.js) (omega arith); there = l.there; place = l.place; halves = l.halves }

    go : (o : Option (List ℕ)) → first_place t ≡ o → first_in i (o ∷ map first_place ts) ≡ Some is → (first_in (i + 1) (map first_place ts) ≡ Some is → Chosen (i + 1) ts is) → Chosen i (t ∷ ts) is
    go None q h more = later (more h)
    go (Some js) q h more = record { k = 0; js = js; t = t; at = let e : i ∷ js ≡ is = cc in sym e ∙ ap (λ n. n ∷ js) (sym (add-zero i)); there = refl; place = q; halves = es.0 }

pub halved : (u : Term) → Halves u
halved = term_ind Halves variable quoted call
  where
    variable : (x : Symbol) → Halves (Var x)
    variable x is p v w h ch holding failing = absurd (no_value (sym (place_var x) ∙ h))
      where
        no_value : None ≡ Some is → ⊥
        no_value k = cc

    quoted : (v : Value) → Halves (Quote v)
    quoted y is p v w h ch holding failing = absurd (no_value (sym (place_quote y) ∙ h))
      where
        no_value : None ≡ Some is → ⊥
        no_value k = cc

    alone : (n : ℕ) → n * 1 ≡ n
    alone n = mul-one n

    -- the `if` itself, its test having none
    itself : (f : Symbol) (a b c : Term) → symbol_eq f if_name ≡ true → first_place a ≡ None → (p : Term × Term × Term) (v w : Term) → (a, b, c) ≡ p → p.1 ≡ v → p.2 ≡ w → Halved (Call f (a ∷ b ∷ c ∷ [])) p.0 v w
    itself f a b c q h p v w e y n = (
      leaves_call f (a ∷ b ∷ c ∷ []) ∙ ap (λ x. leaves_at x (a ∷ b ∷ c ∷ [])) q ∙ ap (λ m. m * (leaves b + leaves c)) (one_leaf a h) ∙ one-mul (leaves b + leaves c)
          ∙ ap (λ u. leaves u + leaves c) (ap (λ (r : Term × Term × Term). r.1) e ∙ y) ∙ ap (λ u. leaves v + leaves u) (ap (λ (r : Term × Term × Term). r.2) e ∙ n),
      subst (λ (r : Term × Term × Term). first_place r.0 ≡ None) e h,
    )

    -- an `if` within its test
    tested : (f : Symbol) (a b c x y : Term) → symbol_eq f if_name ≡ true → leaves a ≡ leaves x + leaves y
        → leaves (Call f (a ∷ b ∷ c ∷ [])) ≡ leaves (Call f (x ∷ b ∷ c ∷ [])) + leaves (Call f (y ∷ b ∷ c ∷ []))
    tested f a b c x y q e =
        let n = leaves b + leaves c in
        let whole : (u : Term) → leaves (Call f (u ∷ b ∷ c ∷ [])) ≡ leaves u * n = λ u. leaves_call f (u ∷ b ∷ c ∷ []) ∙ ap (λ z. leaves_at z (u ∷ b ∷ c ∷ [])) q in
        whole a ∙ ap (λ m. m * n) e ∙ add-mul (leaves x) (leaves y) n ∙ ap (λ m. m + leaves y * n) (sym (whole x)) ∙ ap (λ m. leaves (Call f (x ∷ b ∷ c ∷ [])) + m) (sym (whole y))

    choose : (f : Symbol) (a b c : Term) → symbol_eq f if_name ≡ true → Halves a → (o : Option (List ℕ)) → first_place a ≡ o → (p : Term × Term × Term) (v w : Term) → choice_at (of_test o) (Call f (a ∷ b ∷ c ∷ [])) ≡ Some p
        → with_part (of_test o) p.1 (Call f (a ∷ b ∷ c ∷ [])) ≡ Some v → with_part (of_test o) p.2 (Call f (a ∷ b ∷ c ∷ [])) ≡ Some w → Halved (Call f (a ∷ b ∷ c ∷ [])) p.0 v w
    choose f a b c q e None h p v w ch holding failing =
        let both : Some (a, b, c) ≡ Some p = sym (choice_is f a b c q) ∙ ch in
        let e1 : (a, b, c) ≡ p = cc in let e2 : p.1 ≡ v = cc in let e3 : p.2 ≡ w = cc in itself f a b c q h p v w e1 e2 e3
    choose f a b c q e (Some js) h p v w ch holding failing =
        let (x, first, is_v) = part_step f (a ∷ b ∷ c ∷ []) 0 js p.1 a v refl holding in
        let (y, second, is_w) = part_step f (a ∷ b ∷ c ∷ []) 0 js p.2 a w refl failing in
        let r = e js p x y h (sym (choice_step f (a ∷ b ∷ c ∷ []) 0 js a refl) ∙ ch) first second in
        (tested f a b c x y q r.0 ∙ ap (λ u. leaves u + leaves (Call f (y ∷ b ∷ c ∷ []))) (sym is_v) ∙ ap (λ u. leaves v + leaves u) (sym is_w), r.1)

    -- an `if` within an argument of another call
    other : (f : Symbol) (ts : List Term) → if_parts (symbol_eq f if_name) ts ≡ None → leaves (Call f ts) ≡ product (map leaves ts)
    other f ts h = leaves_call f ts ∙ leaves_other (symbol_eq f if_name) ts h

    put_other : (f : Symbol) (ts : List Term) (k : ℕ) (t s : Term) → if_parts (symbol_eq f if_name) ts ≡ None → slice_get ts k ≡ Some t → leaves (Call f (put_at k (s ∷ []) ts)) ≡ product (map leaves (put_at k (s ∷ []) ts))
    put_other f ts k t s h g = other f (put_at k (s ∷ []) ts) (no_if (symbol_eq f if_name) ts (put_at k (s ∷ []) ts) (put_length ts k t s g) h)

    within : (f : Symbol) (ts : List Term) → if_parts (symbol_eq f if_name) ts ≡ None → (k : ℕ) (js : List ℕ) (t : Term) → slice_get ts k ≡ Some t → first_place t ≡ Some js → Halves t
        → (p : Term × Term × Term) (v w : Term) → choice_at (k ∷ js) (Call f ts) ≡ Some p → with_part (k ∷ js) p.1 (Call f ts) ≡ Some v → with_part (k ∷ js) p.2 (Call f ts) ≡ Some w → Halved (Call f ts) p.0 v w
    within f ts none k js t there place e p v w ch holding failing =
        let (x, first, is_v) = part_step f ts k js p.1 t v there holding in
        let (y, second, is_w) = part_step f ts k js p.2 t w there failing in
        let r = e js p x y place (sym (choice_step f ts k js t there) ∙ ch) first second in
        let parts : leaves t ≡ leaves x * 1 + leaves y * 1 = r.0 ∙ ap (λ n. n + leaves y) (sym (alone (leaves x))) ∙ ap (λ n. leaves x * 1 + n) (sym (alone (leaves y))) in (
          other f ts none ∙ product_put ts k t (x ∷ []) (y ∷ []) there parts
              ∙ ap (λ n. n + product (map leaves (put_at k (y ∷ []) ts))) (sym (put_other f ts k t x none there) ∙ ap leaves (sym is_v))
              ∙ ap (λ n. leaves v + n) (sym (put_other f ts k t y none there) ∙ ap leaves (sym is_w)),
          r.1,
        )

    among : (f : Symbol) (ts : List Term) (is : List ℕ) → if_parts (symbol_eq f if_name) ts ≡ None → Chosen 0 ts is
        → (p : Term × Term × Term) (v w : Term) → choice_at is (Call f ts) ≡ Some p → with_part is p.1 (Call f ts) ≡ Some v → with_part is p.2 (Call f ts) ≡ Some w → Halved (Call f ts) p.0 v w
    among f ts is none l =
        subst (λ ks. (p : Term × Term × Term) (v w : Term) → choice_at ks (Call f ts) ≡ Some p → with_part ks p.1 (Call f ts) ≡ Some v → with_part ks p.2 (Call f ts) ≡ Some w → Halved (Call f ts) p.0 v w)
        (sym (l.at ∙ ap (λ n. n ∷ l.js) (zero-add l.k))) (within f ts none l.k l.js l.t l.there l.place l.halves)

    not_so : (x : Bool) (f : Symbol) (ts : List Term) → symbol_eq f if_name ≡ x → if_parts x ts ≡ None → if_parts (symbol_eq f if_name) ts ≡ None
    not_so x f ts q h = ap (λ y. if_parts y ts) q ∙ h

    go : (x : Bool) (f : Symbol) (ts : List Term) → symbol_eq f if_name ≡ x → Each Halves ts → (is : List ℕ) → place_at x ts ≡ Some is
        → (p : Term × Term × Term) (v w : Term) → choice_at is (Call f ts) ≡ Some p → with_part is p.1 (Call f ts) ≡ Some v → with_part is p.2 (Call f ts) ≡ Some w → Halved (Call f ts) p.0 v w
    go true f (a ∷ b ∷ c ∷ []) q es is h =
        let e : of_test (first_place a) ≡ is = cc in
        subst (λ ks. (p : Term × Term × Term) (v w : Term) → choice_at ks (Call f (a ∷ b ∷ c ∷ [])) ≡ Some p → with_part ks p.1 (Call f (a ∷ b ∷ c ∷ [])) ≡ Some v → with_part ks p.2 (Call f (a ∷ b ∷ c ∷ [])) ≡ Some w → Halved (Call f (a ∷ b ∷ c ∷ [])) p.0 v w)
        e (choose f a b c q es.0 (first_place a) refl)
    go x f ts q es is h = among f ts is (not_so x f ts q refl) (chosen_in 0 ts is es h)

    call : (f : Symbol) (ts : List Term) → Each Halves ts → Halves (Call f ts)
    call f ts es is p v w h = go (symbol_eq f if_name) f ts refl es is (sym (place_called f ts) ∙ h) p v w
