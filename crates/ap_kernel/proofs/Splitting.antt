-- A term with another part of the same value, a negation, and a clause split at an `if`.
use Rattle.std.proofs.Common.{◌≡◌, ◌≢◌, ℕ, zero, suc, ◌+◌, Bool, true, false, true≢false, cond, not, List, [], ◌∷◌, ◌++◌, take, drop, length, Option, Some, None, is_some, slice_get, ◌⊎◌, inl, inr, refl, ap, sym, ◌∙◌, subst, add-one, Bor}
use Rattle.ap_list.specs.Lists.{Each}
use Rattle.ap_value.specs.declared.symbol.Symbol.{Symbol}
use Rattle.ap_value.specs.declared.value.Value.{Value}
use Rattle.ap_value.specs.Values.{symbol_eq, value_eq}
use Rattle.ap_value.proofs.Equals.{symbol_eq-true}
use Rattle.ap_term.specs.declared.term.Term.{Term, out-Term, roll-Term, roll-out-Term, Var, Quote, Call}
use Rattle.ap_term.specs.declared.term.Term.TheOpen.{Term-F}
use Rattle.ap_term.specs.declared.term.Term.TheVariants.{rolls-Call, outs-Var, outs-Quote, outs-Call}
use Rattle.ap_term.specs.declared.term.Clause.{Clause}
use Rattle.ap_term.proofs.Induction.{term_ind}
use Rattle.ap_world.specs.Names.{if_name, not_name, equal_name, cons_name}
use Rattle.ap_world.specs.Primitives.{nil, prim_of}
use Rattle.ap_world.specs.Meaning.{Env, Defs, Total}
use Rattle.ap_world.specs.Clauses.{not_of, negated_part, negate}
use Rattle.ap_world.specs.Sound.{known}
use Rattle.ap_world.specs.Shapes.{Shape, choice, negation, head_by, head_of, call_shape, shape_of, if_head, not_head, equal_head, cons_head, other_head}
use Rattle.ap_world.proofs.Knowing.{known_by, known_args, known_head, each_true, true_each}
use Rattle.ap_world.proofs.TotalMeaning.{Apply, Models, models, val, values_of, val_call, head_val, AnyTrue, valid_is, valid_of}
use Rattle.ap_world.proofs.Equations.{names_open, val_if, nil-eq}
use Rattle.ap_world.proofs.Starting.{val_not}
use Rattle.ap_world.proofs.Shaped.{Says, shape_says}
use Rattle.ap_world.specs.declared.shapes.ShapeRef.{ShapeRef}
use Rattle.ap_world.specs.declared.shapes.ShapeRef.TheVariants as lent
use Rattle.ap_kernel.specs.Standing.{DefinesNot}
use Rattle.ap_world.specs.Lent.{seen}
use Rattle.ap_kernel.specs.declared.reductions.Inference.{Inference}
use Rattle.ap_kernel.specs.Answers.{if_of}
use Rattle.ap_kernel.specs.Reductions.{KnownClause, Follows, put_at, others}
use Rattle.ap_kernel.specs.Splits.{and_then, argument, part_at, with_argument, with_part, parts_of, choice_at, choice_in, cases_of, literal_split, split_made}
use Rattle.ap_kernel.proofs.Typed.{each_at}
use Rattle.ap_kernel.proofs.ChoicesStand.{not_nil, known_not}
use Rattle.ap_kernel.proofs.Reduced.{each_put, any_put, any_others, any_at}

-- the negation by the term's shape
abbrev pub negated_by : Shape Term → Term → Term
negated_by (negation a) u = a
negated_by y u = not_of u

not_if : symbol_eq if_name not_name ≡ false
unfolding names_open
not_if = refl

by_head : (f : Symbol) (ts : List Term) (u : Term) → negated_part (symbol_eq f not_name) ts u ≡ negated_by (call_shape (head_of f) ts) u
unfolding head_of
by_head f ts u = go (symbol_eq f if_name) (symbol_eq f not_name) (symbol_eq f equal_name) (symbol_eq f cons_name) refl refl
  where
    no_both : symbol_eq f if_name ≡ true → symbol_eq f not_name ≡ true → ⊥
    no_both p q = let r : symbol_eq if_name not_name ≡ true = subst (λ g. symbol_eq g not_name ≡ true) (symbol_eq-true f if_name p) q in true≢false (sym r ∙ not_if)

    an_if : (ts : List Term) → not_of u ≡ negated_by (call_shape if_head ts) u
    an_if (a ∷ b ∷ c ∷ []) = refl
    an_if ts = refl

    a_not : (ts : List Term) → negated_part true ts u ≡ negated_by (call_shape not_head ts) u
    a_not [] = refl
    a_not (a ∷ []) = refl
    a_not (a ∷ b ∷ ts) = refl

    an_equal : (ts : List Term) → not_of u ≡ negated_by (call_shape equal_head ts) u
    an_equal (a ∷ b ∷ []) = refl
    an_equal ts = refl

    a_cons : (ts : List Term) → not_of u ≡ negated_by (call_shape cons_head ts) u
    a_cons (a ∷ b ∷ []) = refl
    a_cons ts = refl

    another : (ts : List Term) → not_of u ≡ negated_by (call_shape other_head ts) u
    another ts = refl

    go : (i n e c : Bool) → symbol_eq f if_name ≡ i → symbol_eq f not_name ≡ n → negated_part n ts u ≡ negated_by (call_shape (head_by i n e c) ts) u
    go true true e c p q = absurd (no_both p q)
    go true false e c p q = an_if ts
    go false true e c p q = a_not ts
    go false false true c p q = an_equal ts
    go false false false true p q = a_cons ts
    go false false false false p q = another ts

pub negate_is : (u : Term) → negate u ≡ negated_by (shape_of u) u
negate_is u = term_ind (λ u. negate u ≡ negated_by (shape_of u) u) variable quoted call u
  where
    variable : (x : Symbol) → negate (Var x) ≡ negated_by (shape_of (Var x)) (Var x)
    variable x = rw (outs-Var x) refl

    quoted : (v : Value) → negate (Quote v) ≡ negated_by (shape_of (Quote v)) (Quote v)
    quoted v = rw (outs-Quote v) refl

    call : (f : Symbol) (ts : List Term) → Each (λ u. negate u ≡ negated_by (shape_of u) u) ts → negate (Call f ts) ≡ negated_by (shape_of (Call f ts)) (Call f ts)
    call f ts es = rw (outs-Call f ts) (by_head f ts (Call f ts))

pub negate_other : (u : Term) (r : ShapeRef) → seen r ≡ shape_of u → ((x : Bor Term) → r ≡ lent.Not x → ⊥) → negate u ≡ not_of u
negate_other u (lent.Not a) h k = absurd (k a refl)
negate_other u (lent.Constant v) h k = negate_is u ∙ ap (λ y. negated_by y u) (sym h)
negate_other u (lent.If a b c) h k = negate_is u ∙ ap (λ y. negated_by y u) (sym h)
negate_other u (lent.Equal a b) h k = negate_is u ∙ ap (λ y. negated_by y u) (sym h)
negate_other u (lent.Cons a b) h k = negate_is u ∙ ap (λ y. negated_by y u) (sym h)
negate_other u lent.Other h k = negate_is u ∙ ap (λ y. negated_by y u) (sym h)

-- it is nil exactly where the term isn't
pub negate_turns : (D : Defs) (A : Apply) → Models D A → DefinesNot D → (e : Env) (u : Term) → value_eq (val A (negate u) e) nil ≡ not (value_eq (val A u e) nil)
negate_turns D A ms ground e u = ap (λ w. value_eq (val A w e) nil) (negate_is u) ∙ go (shape_of u) (shape_says u)
  where
    twice : (x : Bool) → x ≡ not (not x)
    twice true = refl
    twice false = refl

    nil_of_not : (w : Term) → value_eq (val A (not_of w) e) nil ≡ not (value_eq (val A w e) nil)
    nil_of_not w = ap (λ v. value_eq v nil) (val_not D A ms ground w e) ∙ not_nil (value_eq (val A w e) nil)

    go : (y : Shape Term) → Says u y → value_eq (val A (negated_by y u) e) nil ≡ not (value_eq (val A u e) nil)
    go (negation a) h = twice (value_eq (val A a e) nil) ∙ ap not (sym (ap (λ w. value_eq (val A w e) nil) h ∙ nil_of_not a))
    go y h = nil_of_not u

pub negate_known : (D : Defs) → ((w : Term) → known D w ≡ true → known D (not_of w) ≡ true) → (u : Term) → known D u ≡ true → known D (negate u) ≡ true
negate_known D nots u k = subst (λ w. known D w ≡ true) (sym (negate_is u)) (go (shape_of u) (shape_says u))
  where
    go : (y : Shape Term) → Says u y → known D (negated_by y u) ≡ true
    go (negation a) h = (each_true (known D) (a ∷ []) (known_args D not_name (a ∷ []) (subst (λ u. known D u ≡ true) h k))).0
    go y h = nots u k

-- what there is by two steps
pub then_some : {A B : Type 0} (o : Option A) (k : A → Option B) (b : B) → and_then o k ≡ Some b → (a : A) × (o ≡ Some a) × (k a ≡ Some b)
then_some None k b h = absurd (no_value h)
  where
    no_value : None ≡ Some b → ⊥
    no_value l = cc
then_some (Some a) k b h = (a, refl, h)

drop_next : {A : Type 0} (i : ℕ) (x : A) (xs : List A) → drop (suc i + 1) (x ∷ xs) ≡ drop (i + 1) xs
drop_next i x xs = ap (λ k. drop k (x ∷ xs)) (add-one (suc i)) ∙ ap (λ k. drop k xs) (sym (add-one i))

-- the value of a list of arguments with one of the same value put in
put_values : (A : Apply) (e : Env) (i : ℕ) (ts : List Term) (a b : Term) → slice_get ts i ≡ Some a → val A b e ≡ val A a e → values_of A (put_at i (b ∷ []) ts) e ≡ values_of A ts e
put_values A e i [] a b h k = absurd (no_value h)
  where
    no_value : None ≡ Some a → ⊥
    no_value l = cc
put_values A e zero (t ∷ ts) a b h k = let same : t ≡ a = cc in ap (λ v. v ∷ values_of A ts e) (k ∙ ap (λ u. val A u e) (sym same))
put_values A e (suc i) (t ∷ ts) a b h k =
    ap (λ xs. values_of A (t ∷ (take i ts ++ (b ∷ xs))) e) (drop_next i t ts) ∙ ap (λ vs. val A t e ∷ vs) (put_values A e i ts a b h k)

put_length : (i : ℕ) (ts : List Term) (a b : Term) → slice_get ts i ≡ Some a → length (put_at i (b ∷ []) ts) ≡ length ts
put_length i [] a b h = absurd (no_value h)
  where
    no_value : None ≡ Some a → ⊥
    no_value l = cc
put_length zero (t ∷ ts) a b h = refl
put_length (suc i) (t ∷ ts) a b h = ap (λ xs. length (t ∷ (take i ts ++ (b ∷ xs)))) (drop_next i t ts) ∙ ap suc (put_length i ts a b h)

each_get : (P : Term → Type 0) (ts : List Term) (i : ℕ) (a : Term) → slice_get ts i ≡ Some a → Each P ts → P a
each_get P ts i a h ps = each_at P ts i a ps h

-- a level of a term, and what there is of its arguments
level_is : (u : Term) (y : Term-F Term) → out-Term u ≡ y → u ≡ roll-Term y
level_is u y h = sym (roll-out-Term u) ∙ ap roll-Term h

-- with another part of the same value in the place of a part, the value stays
pub part_value : (A : Apply) (e : Env) (r : Term) (is : List ℕ) (u x v : Term) → part_at is u ≡ Some x → val A r e ≡ val A x e → with_part is r u ≡ Some v → val A v e ≡ val A u e
part_value A e r [] u x v h k l =
    let same : u ≡ x = cc in
    let put : r ≡ v = cc in
    ap (λ w. val A w e) (sym put) ∙ k ∙ ap (λ w. val A w e) (sym same)
part_value A e r (i ∷ is) u x v h k l = go (out-Term u) refl h l (λ a b p q. part_value A e r is a x b p k q)
  where
    go : (y : Term-F Term) → out-Term u ≡ y → and_then (argument y i) (part_at is) ≡ Some x → and_then (and_then (argument y i) (with_part is r)) (with_argument y i) ≡ Some v
        → ((a b : Term) → part_at is a ≡ Some x → with_part is r a ≡ Some b → val A b e ≡ val A a e) → val A v e ≡ val A u e
    go (Term-F.Call f ts) q h l inner =
        let (a, found, part) = then_some (slice_get ts i) (part_at is) x h in
        let (b, changed, made) = then_some (and_then (slice_get ts i) (with_part is r)) (with_argument (Term-F.Call f ts) i) v l in
        let there : with_part is r a ≡ Some b = subst (λ o. and_then o (with_part is r) ≡ Some b) found changed in
        let is_call : Call f (put_at i (b ∷ []) ts) ≡ v = cc in
        let is_u : u ≡ Call f ts = level_is u (Term-F.Call f ts) q ∙ rolls-Call f ts in
        ap (λ w. val A w e) (sym is_call) ∙ val_call A f (put_at i (b ∷ []) ts) e ∙ ap (head_val A f (prim_of f)) (put_values A e i ts a b found (inner a b part there))
        ∙ sym (val_call A f ts e) ∙ ap (λ w. val A w e) (sym is_u)
    go (Term-F.Var y) q h l inner = absurd (no_value h)
      where
        no_value : None ≡ Some x → ⊥
        no_value l = cc
    go (Term-F.Quote y) q h l inner = absurd (no_value h)
      where
        no_value : None ≡ Some x → ⊥
        no_value l = cc

-- and it is known
pub part_known : (D : Defs) (r : Term) (is : List ℕ) (u v : Term) → known D r ≡ true → known D u ≡ true → with_part is r u ≡ Some v → known D v ≡ true
part_known D r [] u v kr ku l = let put : r ≡ v = cc in subst (λ w. known D w ≡ true) put kr
part_known D r (i ∷ is) u v kr ku l = go (out-Term u) refl l (λ a b ka q. part_known D r is a b kr ka q)
  where
    go : (y : Term-F Term) → out-Term u ≡ y → and_then (and_then (argument y i) (with_part is r)) (with_argument y i) ≡ Some v
        → ((a b : Term) → known D a ≡ true → with_part is r a ≡ Some b → known D b ≡ true) → known D v ≡ true
    go (Term-F.Call f ts) q l inner =
        let (b, changed, made) = then_some (and_then (slice_get ts i) (with_part is r)) (with_argument (Term-F.Call f ts) i) v l in
        let (a, found, there) = then_some (slice_get ts i) (with_part is r) b changed in
        let is_call : Call f (put_at i (b ∷ []) ts) ≡ v = cc in
        let k : known D (Call f ts) ≡ true = subst (λ w. known D w ≡ true) (level_is u (Term-F.Call f ts) q ∙ rolls-Call f ts) ku in
        let ks = each_true (known D) ts (known_args D f ts k) in
        let kb = inner a b (each_get (λ w. known D w ≡ true) ts i a found ks) there in
        subst (λ w. known D w ≡ true) is_call (known_by D f (put_at i (b ∷ []) ts) (rw (put_length i ts a b found) (known_head D f ts k))
        (true_each (known D) (put_at i (b ∷ []) ts) (each_put (λ w. known D w ≡ true) i (b ∷ []) ts (kb, tt) ks)))
    go (Term-F.Var y) q l inner = absurd (no_value l)
      where
        no_value : None ≡ Some v → ⊥
        no_value m = cc
    go (Term-F.Quote y) q l inner = absurd (no_value l)
      where
        no_value : None ≡ Some v → ⊥
        no_value m = cc

-- the part is known
pub there_known : (D : Defs) (is : List ℕ) (u x : Term) → known D u ≡ true → part_at is u ≡ Some x → known D x ≡ true
there_known D [] u x ku h = let same : u ≡ x = cc in subst (λ w. known D w ≡ true) same ku
there_known D (i ∷ is) u x ku h = go (out-Term u) refl h (λ a ka p. there_known D is a x ka p)
  where
    go : (y : Term-F Term) → out-Term u ≡ y → and_then (argument y i) (part_at is) ≡ Some x → ((a : Term) → known D a ≡ true → part_at is a ≡ Some x → known D x ≡ true) → known D x ≡ true
    go (Term-F.Call f ts) q h inner =
        let (a, found, part) = then_some (slice_get ts i) (part_at is) x h in
        let k : known D (Call f ts) ≡ true = subst (λ w. known D w ≡ true) (level_is u (Term-F.Call f ts) q ∙ rolls-Call f ts) ku in
        inner a (each_get (λ w. known D w ≡ true) ts i a found (each_true (known D) ts (known_args D f ts k))) part
    go (Term-F.Var y) q h inner = absurd (no_value h)
      where
        no_value : None ≡ Some x → ⊥
        no_value l = cc
    go (Term-F.Quote y) q h inner = absurd (no_value h)
      where
        no_value : None ≡ Some x → ⊥
        no_value l = cc

-- where there is a part, another can be put
pub can_put : (r : Term) (is : List ℕ) (u x : Term) → part_at is u ≡ Some x → (v : Term) × (with_part is r u ≡ Some v)
can_put r [] u x h = (r, refl)
can_put r (i ∷ is) u x h = go (out-Term u) refl h (λ a p. can_put r is a x p)
  where
    go : (y : Term-F Term) → out-Term u ≡ y → and_then (argument y i) (part_at is) ≡ Some x → ((a : Term) → part_at is a ≡ Some x → (b : Term) × (with_part is r a ≡ Some b))
        → (v : Term) × (and_then (and_then (argument y i) (with_part is r)) (with_argument y i) ≡ Some v)
    go (Term-F.Call f ts) q h inner =
        let (a, found, part) = then_some (slice_get ts i) (part_at is) x h in
        let (b, put) = inner a part in
        (Call f (put_at i (b ∷ []) ts), ap (λ o. and_then (and_then o (with_part is r)) (with_argument (Term-F.Call f ts) i)) found ∙ ap (λ o. and_then o (with_argument (Term-F.Call f ts) i)) put)
    go (Term-F.Var y) q h inner = absurd (no_value h)
      where
        no_value : None ≡ Some x → ⊥
        no_value l = cc
    go (Term-F.Quote y) q h inner = absurd (no_value h)
      where
        no_value : None ≡ Some x → ⊥
        no_value l = cc

choice_is : (x : Term) (p : Term × Term × Term) → parts_of (shape_of x) ≡ Some p → x ≡ if_of p.0 p.1 p.2
choice_is x p h = go (shape_of x) (shape_says x) h
  where
    go : (y : Shape Term) → Says x y → parts_of y ≡ Some p → x ≡ if_of p.0 p.1 p.2
    go (choice a b c) k h = let same : (a, b, c) ≡ p = cc in subst (λ (q : Term × Term × Term). x ≡ if_of q.0 q.1 q.2) same k
    go y k h = cc

-- an `if` within a literal: where, and its parts
pub choice_there : (is : List ℕ) (u : Term) (p : Term × Term × Term) → choice_at is u ≡ Some p → part_at is u ≡ Some (if_of p.0 p.1 p.2)
choice_there is u p h =
    let (x, part, parts) = then_some (part_at is u) (λ v. parts_of (shape_of v)) p h in
    subst (λ w. part_at is u ≡ Some w) (choice_is x p parts) part

-- where a literal has an `if` there, the clause is split
pub can_split : (c : Clause) (i : ℕ) (is : List ℕ) → is_some (choice_in c i is) ≡ true → split_made c i is ≡ None → ⊥
can_split c i is h none = literal (slice_get c.0 i) refl h none
  where
    apart : (b : Bool) → b ≡ true → b ≡ false → ⊥
    apart b p q = true≢false (sym p ∙ q)

    cases : (u : Term) (o : Option (Term × Term × Term)) → choice_at is u ≡ o → is_some o ≡ true → and_then o (literal_split c i is u) ≡ None → ⊥
    cases u None e h none = apart false h refl
    cases u (Some p) e h none =
        let part = choice_there is u p e in
        let (v, first) = can_put p.1 is u (if_of p.0 p.1 p.2) part in
        let (w, no_part) = can_put p.2 is u (if_of p.0 p.1 p.2) part in
        let made : literal_split c i is u p ≡ Some (cases_of c i p.0 v w) =
        ap (λ o. and_then o (λ v. and_then (with_part is p.2 u) (λ w. Some (cases_of c i p.0 v w)))) first ∙ ap (λ o. and_then o (λ w. Some (cases_of c i p.0 v w))) no_part in
        let both : None ≡ Some (cases_of c i p.0 v w) = sym none ∙ made in
        absurd (no_value _ both)
      where
        no_value : (r : Inference) → None ≡ Some r → ⊥
        no_value r l = cc

    literal : (o : Option Term) → slice_get c.0 i ≡ o → is_some (and_then o (choice_at is)) ≡ true → and_then o (λ u. and_then (choice_at is u) (literal_split c i is u)) ≡ None → ⊥
    literal None e h none = apart false h refl
    literal (Some u) e h none = cases u (choice_at is u) refl h none

-- the clause is valid where both cases are
pub split_reduces : (D : Defs) → Total D → DefinesNot D → (c : Clause) (i : ℕ) (is : List ℕ) (r : Inference) → KnownClause D c → split_made c i is ≡ Some r → Follows D r
split_reduces D total ground c i is r k h =
    let (u, at, by_choice) = then_some (slice_get c.0 i) (λ u. and_then (choice_at is u) (literal_split c i is u)) r h in
    let (p, there, by_parts) = then_some (choice_at is u) (literal_split c i is u) r by_choice in
    let (v, first, by_yes) = then_some (with_part is p.1 u) (λ v. and_then (with_part is p.2 u) (λ w. Some (cases_of c i p.0 v w))) r by_parts in
    let (w, second, made) = then_some (with_part is p.2 u) (λ w. Some (cases_of c i p.0 v w)) r by_yes in
    let same : cases_of c i p.0 v w ≡ r = cc in
    subst (Follows D) {x = cases_of c i p.0 v w} same (reduces u p v w at (choice_there is u p there) first second)
  where
    reduces : (u : Term) (p : Term × Term × Term) (v w : Term) → slice_get c.0 i ≡ Some u → part_at is u ≡ Some (if_of p.0 p.1 p.2) → with_part is p.1 u ≡ Some v → with_part is p.2 u ≡ Some w
        → Follows D (cases_of c i p.0 v w)
    reduces u p v w at part first second =
        let (A, ms) = models D total in
        let ku = each_get (λ w. known D w ≡ true) c.0 i u at k in
        let ks = each_true (known D) (p.0 ∷ p.1 ∷ p.2 ∷ []) (known_args D if_name (p.0 ∷ p.1 ∷ p.2 ∷ []) (there_known D is u (if_of p.0 p.1 p.2) ku part)) in
        let kv = part_known D p.1 is u v ks.1.0 ku first in
        let kw = part_known D p.2 is u w ks.1.1.0 ku second in
        let kn = negate_known D (known_not D ground) p.0 ks.0 in
        record {
          start = k;
          goals = (each_put (λ w. known D w ≡ true) i (negate p.0 ∷ v ∷ []) c.0 (kn, (kv, tt)) k, (each_put (λ w. known D w ≡ true) i (p.0 ∷ w ∷ []) c.0 (ks.0, (kw, tt)) k, tt));
          valid = λ hs. valid_of D A ms c.0 (true_each (known D) c.0 k) (λ e. go A ms u p v w at part first second e
              (any_put (λ u. val A u e ≢ nil) i (negate p.0 ∷ v ∷ []) c.0 (valid_is D A ms (put_at i (negate p.0 ∷ v ∷ []) c.0) hs.0 e))
              (any_put (λ u. val A u e ≢ nil) i (p.0 ∷ w ∷ []) c.0 (valid_is D A ms (put_at i (p.0 ∷ w ∷ []) c.0) hs.1.0 e)));
        }
      where
        decide : (A : Apply) → Models D A → (u : Term) (p : Term × Term × Term) (v w : Term) → slice_get c.0 i ≡ Some u → (e : Env)
            → (b : Bool) → value_eq (val A p.0 e) nil ≡ b → value_eq (val A (negate p.0) e) nil ≡ not b
            → (b ≡ false → val A v e ≡ val A u e) → (b ≡ true → val A w e ≡ val A u e) → AnyTrue A e (negate p.0 ∷ v ∷ []) → AnyTrue A e (p.0 ∷ w ∷ []) → AnyTrue A e c.0
        decide A ms u p v w at e true q n sv sw y (inl z) = absurd (z (nil-eq (val A p.0 e) q))
        decide A ms u p v w at e true q n sv sw y (inr (inl z)) = any_at (λ u. val A u e ≢ nil) c.0 i u at (λ isnil. z (sw refl ∙ isnil))
        decide A ms u p v w at e true q n sv sw y (inr (inr z)) = absurd z
        decide A ms u p v w at e false q n sv sw (inl z) y = absurd (z (nil-eq (val A (negate p.0) e) n))
        decide A ms u p v w at e false q n sv sw (inr (inl z)) y = any_at (λ u. val A u e ≢ nil) c.0 i u at (λ isnil. z (sv refl ∙ isnil))
        decide A ms u p v w at e false q n sv sw (inr (inr z)) y = absurd z

        go : (A : Apply) → Models D A → (u : Term) (p : Term × Term × Term) (v w : Term) → slice_get c.0 i ≡ Some u → part_at is u ≡ Some (if_of p.0 p.1 p.2) → with_part is p.1 u ≡ Some v
            → with_part is p.2 u ≡ Some w → (e : Env) → AnyTrue A e (others i c.0) ⊎ AnyTrue A e (negate p.0 ∷ v ∷ []) → AnyTrue A e (others i c.0) ⊎ AnyTrue A e (p.0 ∷ w ∷ []) → AnyTrue A e c.0
        go A ms u p v w at part first second e (inl o) z = any_others (λ u. val A u e ≢ nil) i c.0 o
        go A ms u p v w at part first second e (inr y) (inl o) = any_others (λ u. val A u e ≢ nil) i c.0 o
        go A ms u p v w at part first second e (inr y) (inr z) =
            decide A ms u p v w at e (value_eq (val A p.0 e) nil) refl (negate_turns D A ms ground e p.0)
            (λ q. part_value A e p.1 is u (if_of p.0 p.1 p.2) v part (sym (val_if A p.0 p.1 p.2 e ∙ ap (λ b. cond b (val A p.2 e) (val A p.1 e)) q)) first)
            (λ q. part_value A e p.2 is u (if_of p.0 p.1 p.2) w part (sym (val_if A p.0 p.1 p.2 e ∙ ap (λ b. cond b (val A p.2 e) (val A p.1 e)) q)) second)
            y z
