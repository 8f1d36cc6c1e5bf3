-- An `if`, and what it leads to.
use Rattle.std.proofs.Common.{◌≡◌, ◌<◌, zero, suc, pos, negsuc, Bool, true, false, cond, not, ◌&&◌, List, [], ◌∷◌, map, refl, ap, sym, ◌∙◌, subst, eqb-true, Bor}
use Rattle.std.specs.Int.{bit_at}
use Rattle.std.specs.Int.Bits.{bit_and}
use Rattle.ap_list.specs.Lists.{Each}
use Rattle.ap_value.specs.declared.symbol.Symbol.{Symbol}
use Rattle.ap_value.specs.declared.value.Value.{Value}
use Rattle.ap_value.specs.Values.{V, int, chr, str, sym as symbol, cons, val_of, value_eq}
use Rattle.ap_value.proofs.Equals.{both, value_eq-true, value_eq-same}
use Rattle.ap_term.specs.declared.term.Term.{Term, Var, Quote, Call}
use Rattle.ap_term.specs.declared.term.Term.TheVariants.{outs-Var, outs-Quote, outs-Call}
use Rattle.ap_term.specs.Equal.{term_eq}
use Rattle.ap_term.specs.Terms.{term_size}
use Rattle.ap_term.proofs.Equals.{term_eq-true}
use Rattle.ap_term.proofs.Induction.{term_ind, para_var, para_quote, para_call}
use Rattle.ap_world.specs.declared.entry.Mask.{Mask}
use Rattle.ap_world.specs.Names.{if_name, not_name}
use Rattle.ap_world.specs.Primitives.{nil, t, truth, prim_of}
use Rattle.ap_world.specs.Meaning.{Env, Defs, Total}
use Rattle.ap_world.specs.Clauses.{not_of}
use Rattle.ap_world.specs.Types.{is_true_list, type_of, Has}
use Rattle.ap_world.specs.Sound.{known, is_head, not_function}
use Rattle.ap_world.specs.Facts.{KnownFacts, FactsHold}
use Rattle.ap_world.specs.Shapes.{Shape, constant, choice, negation, other, head_of, call_shape, shape_of, constant_says, is_constant, Head, if_head, not_head, equal_head, cons_head}
use Rattle.ap_world.specs.Assume.{parts}
use Rattle.ap_world.proofs.Knowing.{known_by, known_args, each_true, true_each}
use Rattle.ap_world.proofs.TotalMeaning.{Apply, Models, models, val, val_is, val_quote}
use Rattle.ap_world.proofs.Equations.{val_if, nil-eq, eq-not_nil, t-not_nil, t_isnt_nil, prim_of_not}
use Rattle.ap_world.proofs.Starting.{val_not}
use Rattle.ap_world.proofs.Shaped.{Says, shape_says}
use Rattle.ap_world.proofs.Sets.{apart}
use Rattle.ap_world.proofs.Parts.{parts_smaller}
use Rattle.ap_world.specs.declared.shapes.ShapeRef.{ShapeRef}
use Rattle.ap_world.specs.declared.shapes.ShapeRef.TheVariants as lent
use Rattle.ap_kernel.specs.declared.objects.Ctx.{Ctx}
use Rattle.ap_kernel.specs.declared.objects.Mode.{Mode}
use Rattle.ap_kernel.specs.declared.objects.Mode.TheVariants.{Equal, Iff}
use Rattle.ap_kernel.specs.Standing.{DefinesNot, Same, Holds}
use Rattle.ap_world.specs.Lent.{seen}
use Rattle.ap_kernel.specs.Masks.{MaskHolds}
use Rattle.ap_kernel.specs.Answers.{if_of}
use Rattle.ap_kernel.specs.Choices.{bare_by, bare_step, bare, test_by, bare_test, means_t, is_t_constant, is_truth, by_branches, if_shape, by_constant, choice_leads, is_choice, choice_made}
use Rattle.ap_kernel.proofs.Standing.{same_of, stand}
use Rattle.ap_kernel.proofs.CallsStand.{known_if}

-- one call of `not` is taken off
abbrev pub bare_of : Term → Shape Term → Term × Bool
bare_of u (negation a) = ((bare a).0, not (bare a).1)
bare_of u y = (u, false)

pub bare_is : (u : Term) → bare u ≡ bare_of u (shape_of u)
bare_is u = term_ind Goal variable quoted call u
  where
    Goal : Term → Type 0
    Goal u = bare u ≡ bare_of u (shape_of u)

    paired : Term → Term × (Term × Bool)
    paired u = (u, bare u)

    firsts : (ts : List Term) → map (λ p. p.0) (map paired ts) ≡ ts
    firsts [] = refl
    firsts (t ∷ ts) = ap (λ us. t ∷ us) (firsts ts)

    same : (u : Term) (h : Head) (ts : List Term) → bare_by u (call_shape h (map paired ts)) ≡ bare_of u (call_shape h ts)
    same u if_head (a ∷ b ∷ c ∷ []) = refl
    same u not_head (a ∷ []) = refl
    same u equal_head (a ∷ b ∷ []) = refl
    same u cons_head (a ∷ b ∷ []) = refl
    same u h ts = refl

    variable : (x : Symbol) → Goal (Var x)
    variable x = rw (outs-Var x) (para_var bare_step x)

    quoted : (v : Value) → Goal (Quote v)
    quoted v = rw (outs-Quote v) (para_quote bare_step v)

    call : (f : Symbol) (ts : List Term) → Each Goal ts → Goal (Call f ts)
    call f ts es = rw (outs-Call f ts)
        (para_call bare_step f ts ∙ ap (λ us. bare_by (Call f us) (call_shape (head_of f) (map paired ts))) (firsts ts) ∙ same (Call f ts) (head_of f) ts)

-- what passes from the argument of `not` to its call, holds of each term
nots_ind : (P : Term → Type 0) → ((u : Term) → ((a : Term) → shape_of u ≡ negation a → P a) → P u) → (u : Term) → P u
nots_ind P step u = term_ind P variable quoted call u
  where
    variable : (x : Symbol) → P (Var x)
    variable x = step (Var x) (λ a h. absurd (no a (rw (outs-Var x) at h)))
      where
        no : (a : Term) → other ≡ negation a → ⊥
        no a k = cc

    quoted : (v : Value) → P (Quote v)
    quoted v = step (Quote v) (λ a h. absurd (no a (rw (outs-Quote v) at h)))
      where
        no : (a : Term) → constant v ≡ negation a → ⊥
        no a k = cc

    one : (h : Head) (ts : List Term) → Each P ts → (a : Term) → call_shape h ts ≡ negation a → P a
    one if_head (x ∷ y ∷ z ∷ []) es a k = cc
    one not_head (x ∷ []) es a k = let same : x ≡ a = cc in subst P same es.0
    one equal_head (x ∷ y ∷ []) es a k = cc
    one cons_head (x ∷ y ∷ []) es a k = cc
    one h ts es a k = cc

    call : (f : Symbol) (ts : List Term) → Each P ts → P (Call f ts)
    call f ts es = step (Call f ts) (λ a h. one (head_of f) ts es a (rw (outs-Call f ts) at h))

pub bare_not : (u a : Term) → shape_of u ≡ negation a → bare u ≡ ((bare a).0, not (bare a).1)
bare_not u a h = bare_is u ∙ ap (bare_of u) h

pub not_smaller : (u a : Term) → shape_of u ≡ negation a → term_size a < term_size u
not_smaller u a h =
    let smaller : Each (λ (p : Term × Bool). term_size p.0 < term_size u) (parts (λ u. u) (negation a) true) =
    subst (λ y. Each (λ (p : Term × Bool). term_size p.0 < term_size u) (parts (λ u. u) y true)) h (parts_smaller u true) in
    smaller.0

-- a term of another shape is bare
pub bare_alone : (u : Term) (r : ShapeRef) → seen r ≡ shape_of u → ((x : Bor Term) → r ≡ lent.Not x → ⊥) → bare u ≡ (u, false)
bare_alone u (lent.Not a) h k = absurd (k a refl)
bare_alone u (lent.Constant v) h k = bare_is u ∙ ap (bare_of u) (sym h)
bare_alone u (lent.If a b c) h k = bare_is u ∙ ap (bare_of u) (sym h)
bare_alone u (lent.Equal a b) h k = bare_is u ∙ ap (bare_of u) (sym h)
bare_alone u (lent.Cons a b) h k = bare_is u ∙ ap (bare_of u) (sym h)
bare_alone u lent.Other h k = bare_is u ∙ ap (bare_of u) (sym h)

-- one more call taken off
pub turn_once : (odd x : Bool) → cond (not odd) (not x) x ≡ cond odd (not (not x)) (not x)
turn_once true true = refl
turn_once true false = refl
turn_once false x = refl

pub even : (odd : Bool) → odd ≡ cond odd (not false) false
even true = refl
even false = refl

-- a term without its calls of `not` is known where the term is
pub bare_known : (D : Defs) (u : Term) → known D u ≡ true → known D (bare u).0 ≡ true
bare_known D u k = nots_ind Goal step u k
  where
    Goal : Term → Type 0
    Goal u = known D u ≡ true → known D (bare u).0 ≡ true

    go : (u : Term) (y : Shape Term) → Says u y → ((a : Term) → y ≡ negation a → Goal a) → known D u ≡ true → known D (bare_of u y).0 ≡ true
    go u (negation a) h below k =
        let ks = each_true (known D) (a ∷ []) (known_args D not_name (a ∷ []) (subst (λ u. known D u ≡ true) h k)) in
        below a refl ks.0
    go u y h below k = k

    step : (u : Term) → ((a : Term) → shape_of u ≡ negation a → Goal a) → Goal u
    step u below k = rw (bare_is u) (go u (shape_of u) (shape_says u) below k)

-- and so is the test of an `if` without them
pub bare_test_known : (D : Defs) (u : Term) → known D u ≡ true → known D (bare_test u) ≡ true
bare_test_known D u k = go (shape_of u) (shape_says u)
  where
    go : (y : Shape Term) → Says u y → known D (test_by u y) ≡ true
    go (choice a b c) h =
        let ks = each_true (known D) (a ∷ b ∷ c ∷ []) (known_args D if_name (a ∷ b ∷ c ∷ []) (subst (λ u. known D u ≡ true) h k)) in
        bare_known D a ks.0
    go y h = k

-- the other truth where a number is odd
abbrev pub turned_by : Bool → Bool → Bool
turned_by odd x = cond odd (not x) x

pub not_nil : (x : Bool) → value_eq (truth x) nil ≡ not x
not_nil true = t-not_nil
not_nil false = value_eq-same nil

module _ (D : Defs) (A : Apply) (ms : Models D A) (ground : DefinesNot D) (e : Env) where
  -- whether a term is nil, by whether it is without its calls of `not`
  pub bare_turns : (u : Term) → value_eq (val A u e) nil ≡ turned_by (bare u).1 (value_eq (val A (bare u).0 e) nil)
  bare_turns u = nots_ind Goal step u
    where
      Goal : Term → Type 0
      Goal u = value_eq (val A u e) nil ≡ turned_by (bare u).1 (value_eq (val A (bare u).0 e) nil)

      turn : (odd x : Bool) → not (turned_by odd x) ≡ turned_by (not odd) x
      turn true true = refl
      turn true false = refl
      turn false x = refl

      go : (u : Term) (y : Shape Term) → Says u y → ((a : Term) → y ≡ negation a → Goal a)
          → value_eq (val A u e) nil ≡ turned_by (bare_of u y).1 (value_eq (val A (bare_of u y).0 e) nil)
      go u (negation a) h below =
          ap (λ u. value_eq (val A u e) nil) h ∙ ap (λ v. value_eq v nil) (val_not D A ms ground a e) ∙ not_nil (value_eq (val A a e) nil)
          ∙ ap not (below a refl) ∙ turn (bare a).1 (value_eq (val A (bare a).0 e) nil)
      go u y h below = refl

      step : (u : Term) → ((a : Term) → shape_of u ≡ negation a → Goal a) → Goal u
      step u below = rw (bare_is u) (go u (shape_of u) (shape_says u) below)

-- a constant that means nil, and one that means t
nil_means : (A : Apply) (e : Env) (u : Term) → is_constant false u ≡ true → val A u e ≡ nil
nil_means A e u h = go (shape_of u) (shape_says u) h
  where
    go : (y : Shape Term) → Says u y → constant_says false y ≡ true → val A u e ≡ nil
    go (constant v) k l = ap (λ u. val A u e) k ∙ val_quote A v e ∙ nil-eq (val_of v) l
    go y k l = cc

t_means : (A : Apply) (e : Env) (u : Term) → is_t_constant u ≡ true → val A u e ≡ t
t_means A e u h = go (shape_of u) (shape_says u) h
  where
    go : (y : Shape Term) → Says u y → means_t y ≡ true → val A u e ≡ t
    go (constant v) k l = ap (λ u. val A u e) k ∙ val_quote A v e ∙ value_eq-true (val_of v) t l
    go y k l = cc

-- a value of another type than nil and t has the type among the others
not_truth_type : (v : V) → value_eq v nil ≡ false → value_eq v t ≡ false → bit_at 999 (type_of v) ≡ 1
not_truth_type (int (pos zero)) h k = refl
not_truth_type (int (pos (suc n))) h k = refl
not_truth_type (int (negsuc n)) h k = refl
not_truth_type (chr c) h k = refl
not_truth_type (str s) h k = refl
not_truth_type (cons a b) h k = go (is_true_list b)
  where
    go : (x : Bool) → bit_at 999 (cond x 6 7) ≡ 1
    go true = refl
    go false = refl
not_truth_type (symbol j s) h k = rw (h, k) refl

-- where the value is as good as a truth, so is the `if` of it with the branches t and nil
pub truth_same : (m : Mode) (k : Mask) (v : V) → is_truth m k ≡ true → Has k v → Same m (cond (value_eq v nil) nil t) v
truth_same m k v h has = go m (value_eq v nil) refl h
  where
    is_t : value_eq v nil ≡ false → bit_and k.0 999 ≡ 0 → (b : Bool) → value_eq v t ≡ b → t ≡ v
    is_t p z true q = sym (value_eq-true v t q)
    is_t p z false q = absurd (apart k.0 999 (type_of v) z has (not_truth_type v p q))

    go : (m : Mode) (b : Bool) → value_eq v nil ≡ b → is_truth m k ≡ true → Same m (cond b nil t) v
    go Equal true p h = sym (nil-eq v p)
    go Equal false p h = is_t p (eqb-true (bit_and k.0 999) 0 h) (value_eq v t) refl
    go Iff true p h = (λ q. nil-eq v p, λ q. refl)
    go Iff false p h = (λ q. absurd (t_isnt_nil q), λ q. absurd (eq-not_nil v p q))

turned_choice : (x : Bool) (v w : V) → cond (not x) w v ≡ cond x v w
turned_choice true v w = refl
turned_choice false v w = refl

is_truth_of : (x : Bool) → cond x t nil ≡ truth x
is_truth_of true = refl
is_truth_of false = refl

one_branch : (x : Bool) (v : V) → cond x v v ≡ v
one_branch true v = refl
one_branch false v = refl

-- the shapes are known where their parts are
head_not : (D : Defs) → DefinesNot D → is_head D not_name (prim_of not_name) 1 ≡ true
unfolding not_function
head_not D ground = rw (prim_of_not, ground) refl

pub known_not : (D : Defs) → DefinesNot D → (a : Term) → known D a ≡ true → known D (not_of a) ≡ true
known_not D ground a k = known_by D not_name (a ∷ []) (head_not D ground) (true_each (known D) (a ∷ []) (k, tt))

known_branches : (D : Defs) → DefinesNot D → (k : Bool) (a b c : Term) → known D a ≡ true → known D b ≡ true → known D c ≡ true → known D (by_branches k a b c) ≡ true
known_branches D ground k a b c p q r = go (k && (is_t_constant b && is_constant false c)) (is_constant false b && is_t_constant c)
  where
    go : (x y : Bool) → known D (cond x a (cond y (not_of a) (if_of a b c))) ≡ true
    go true y = p
    go false true = known_not D ground a p
    go false false = known_if D a b c p q r

known_shape : (D : Defs) → DefinesNot D → (k : Bool) (a b c : Term) → known D a ≡ true → known D b ≡ true → known D c ≡ true → known D (if_shape k a b c) ≡ true
known_shape D ground k a b c p q r = go (term_eq b c) (bare a).1
  where
    go : (x odd : Bool) → known D (cond x b (cond odd (by_branches k (bare a).0 c b) (by_branches k (bare a).0 b c))) ≡ true
    go true odd = q
    go false true = known_branches D ground k (bare a).0 c b (bare_known D a p) r q
    go false false = known_branches D ground k (bare a).0 b c (bare_known D a p) q r

known_choice : (D : Defs) → DefinesNot D → (k : Bool) (u : Term) (y : Shape Term) → Says u y → known D u ≡ true → known D (choice_leads k u y) ≡ true
known_choice D ground k u (choice a b c) h l =
    let ks = each_true (known D) (a ∷ b ∷ c ∷ []) (known_args D if_name (a ∷ b ∷ c ∷ []) (subst (λ u. known D u ≡ true) h l)) in
    go (shape_of a) ks.0 ks.1.0 ks.1.1.0
  where
    either : (x : Bool) → known D b ≡ true → known D c ≡ true → known D (cond x c b) ≡ true
    either true q r = r
    either false q r = q

    go : (y : Shape Term) → known D a ≡ true → known D b ≡ true → known D c ≡ true → known D (by_constant k y a b c) ≡ true
    go (constant v) p q r = either (value_eq (val_of v) nil) q r
    go y p q r = known_shape D ground k a b c p q r
known_choice D ground k u y h l = l

module _ (D : Defs) (A : Apply) (ms : Models D A) (ground : DefinesNot D) (e : Env) (m : Mode) (k : Mask) where
  same_branches : (a b c : Term) → Has k (val A a e) → Same m (cond (value_eq (val A a e) nil) (val A c e) (val A b e)) (val A (by_branches (is_truth m k) a b c) e)
  same_branches a b c has = go (is_truth m k && (is_t_constant b && is_constant false c)) refl (is_constant false b && is_t_constant c) refl
    where
      go : (p : Bool) → (is_truth m k && (is_t_constant b && is_constant false c)) ≡ p → (q : Bool) → (is_constant false b && is_t_constant c) ≡ q
          → Same m (cond (value_eq (val A a e) nil) (val A c e) (val A b e)) (val A (cond p a (cond q (not_of a) (if_of a b c))) e)
      go true p q r =
          let l = both (is_truth m k) (is_t_constant b && is_constant false c) p in
          let n = both (is_t_constant b) (is_constant false c) l.1 in
          rw (t_means A e b n.0, nil_means A e c n.1) (truth_same m k (val A a e) l.0 has)
      go false p true r =
          let n = both (is_constant false b) (is_t_constant c) r in
          same_of m _ _ (rw (nil_means A e b n.0, t_means A e c n.1) (is_truth_of (value_eq (val A a e) nil) ∙ sym (val_not D A ms ground a e)))
      go false p false r = same_of m _ _ (sym (val_if A a b c e))

  same_shape : (a b c : Term) → Has k (val A (bare a).0 e) → Same m (cond (value_eq (val A a e) nil) (val A c e) (val A b e)) (val A (if_shape (is_truth m k) a b c) e)
  same_shape a b c has = rw (bare_turns D A ms ground e a) (go (term_eq b c) refl (bare a).1)
    where
      z : Bool
      z = value_eq (val A (bare a).0 e) nil

      go : (p : Bool) → term_eq b c ≡ p → (odd : Bool) → Same m (cond (turned_by odd z) (val A c e) (val A b e))
          (val A (cond p b (cond odd (by_branches (is_truth m k) (bare a).0 c b) (by_branches (is_truth m k) (bare a).0 b c))) e)
      go true p odd =
          same_of m _ _ (ap (λ u. cond (turned_by odd z) (val A u e) (val A b e)) (sym (term_eq-true b c p)) ∙ one_branch (turned_by odd z) (val A b e))
      go false p true = rw (turned_choice z (val A b e) (val A c e)) (same_branches (bare a).0 c b has)
      go false p false = same_branches (bare a).0 b c has

  same_choice : (u a b c : Term) → u ≡ if_of a b c → Has k (val A (bare a).0 e) → Same m (val A u e) (val A (by_constant (is_truth m k) (shape_of a) a b c) e)
  same_choice u a b c h has = rw (ap (λ u. val A u e) h ∙ val_if A a b c e) (go (shape_of a) (shape_says a))
    where
      pick : (x : Bool) → Same m (cond x (val A c e) (val A b e)) (val A (cond x c b) e)
      pick true = same_of m _ _ refl
      pick false = same_of m _ _ refl

      go : (y : Shape Term) → Says a y → Same m (cond (value_eq (val A a e) nil) (val A c e) (val A b e)) (val A (by_constant (is_truth m k) y a b c) e)
      go (constant v) l = rw (ap (λ u. val A u e) l ∙ val_quote A v e) (pick (value_eq (val_of v) nil))
      go y l = same_shape a b c has

pub choice_stands : (D : Defs) → Total D → DefinesNot D → (c : Ctx) (m : Mode) (u : Term) (k : Mask) → KnownFacts D c.0 → known D u ≡ true → is_choice (shape_of u) ≡ true
    → MaskHolds D c.0 (bare_test u) k → Holds D (choice_made c m u k)
choice_stands D total ground c m u k facts u_known is holds =
    let (A, ms) = models D total in
    stand D A ms (choice_made c m u k) facts u_known (known_choice D ground (is_truth m k) u (shape_of u) (shape_says u) u_known) (agrees A ms)
  where
    agrees : (A : Apply) → Models D A → (e : Env) → FactsHold D e c.0 → Same m (val A u e) (val A (choice_leads (is_truth m k) u (shape_of u)) e)
    agrees A ms e h = go (shape_of u) refl (shape_says u) is
      where
        go : (y : Shape Term) → shape_of u ≡ y → Says u y → is_choice y ≡ true → Same m (val A u e) (val A (choice_leads (is_truth m k) u y) e)
        go (choice a b d) q l i =
            let ks = each_true (known D) (a ∷ b ∷ d ∷ []) (known_args D if_name (a ∷ b ∷ d ∷ []) (subst (λ u. known D u ≡ true) l u_known)) in
            let holds : MaskHolds D c.0 (bare a).0 k = rw q at holds in
            same_choice D A ms ground e m k u a b d l (holds e h (val A (bare a).0 e) (val_is D A ms (bare a).0 (bare_known D a ks.0) e))
        go y q l i = cc
