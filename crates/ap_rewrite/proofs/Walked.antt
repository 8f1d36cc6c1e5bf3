-- The walk down a body, as the code takes it.
use Rattle.std.proofs.Common.{◌≡◌, ℕ, ◌+◌, ◌*◌, ◌<◌, arith, Bool, true, false, cond, List, [], ◌∷◌, map, Option, Some, None, Result, IfOk, IfSome, refl, sym, ap, ◌∙◌, subst}
use Rattle.std.specs.declared.alloc.AllocError.{AllocError}
use Rattle.ap_value.specs.declared.symbol.Symbol.{Symbol}
use Rattle.ap_value.specs.declared.value.Value.{Value}
use Rattle.ap_term.specs.declared.term.Term.{Term, Var, Quote, Call}
use Rattle.ap_term.specs.Metered.{Got, after}
use Rattle.ap_term.specs.Terms.{size_step, term_size}
use Rattle.ap_list.specs.Lists.{Each}
use Rattle.ap_term.proofs.Induction.{term_ind, fold_call, para_var, para_quote, para_call}
use Rattle.ap_world.specs.Names.{if_name}
use Rattle.ap_world.specs.Shapes.{Shape, constant, choice, negation, equation, pair, other, Head, if_head, not_head, equal_head, cons_head, head_of, call_shape, shape_of}
use Rattle.ap_world.specs.Sound.{known}
use Rattle.ap_world.specs.World.{Shown, function_of}
use Rattle.ap_world.proofs.Equations.{names_open}
use Rattle.ap_world.proofs.Shaped.{shape_call}
use Rattle.ap_kernel.specs.declared.objects.Ctx.{Ctx}
use Rattle.ap_kernel.specs.declared.objects.Equiv.{Equiv}
use Rattle.ap_kernel.specs.declared.objects.Mode.{Mode}
use Rattle.ap_kernel.specs.declared.objects.Mode.TheVariants.{Iff}
use Rattle.ap_world.specs.declared.shapes.ShapeRef.{ShapeRef}
use Rattle.ap_world.specs.declared.shapes.ShapeRef.TheVariants as lent
use Rattle.ap_world.specs.Lent.{seen}
use Rattle.ap_kernel.specs.Answers.{if_of}
use denote.Ref.{Bor}
use Rattle.ap_rewrite.specs.declared.rewriter.Tried.{Tried}
use Rattle.ap_rewrite.specs.Settings.{Setting, Place, Inner}
use Rattle.ap_rewrite.specs.Rewriting.{truth_of, answered, none, both, Walk, walk_on, walk_shape, walk}
use Rattle.ap_rewrite.specs.Answering.{where_applied, From, leaf_on, ends_on}
use Rattle.ap_rewrite.proofs.Froms.{if_parts, choice_parts, right_known}

abbrev pub branches_there : {A : Type 0} → Shape A → Bool
branches_there (choice a b c) = true
branches_there y = false

call_if : {A : Type 0} (a b c : A) → call_shape (head_of if_name) (a ∷ b ∷ c ∷ []) ≡ choice a b c
unfolding head_of names_open
call_if a b c = refl

same_shape : {A B : Type 0} (f : A → B) (h : Head) (ts : List A) → branches_there (call_shape h (map f ts)) ≡ branches_there (call_shape h ts)
same_shape f if_head [] = refl
same_shape f if_head (a ∷ []) = refl
same_shape f if_head (a ∷ b ∷ []) = refl
same_shape f if_head (a ∷ b ∷ c ∷ []) = refl
same_shape f if_head (a ∷ b ∷ c ∷ d ∷ ts) = refl
same_shape f not_head [] = refl
same_shape f not_head (a ∷ []) = refl
same_shape f not_head (a ∷ b ∷ ts) = refl
same_shape f equal_head [] = refl
same_shape f equal_head (a ∷ []) = refl
same_shape f equal_head (a ∷ b ∷ []) = refl
same_shape f equal_head (a ∷ b ∷ c ∷ ts) = refl
same_shape f cons_head [] = refl
same_shape f cons_head (a ∷ []) = refl
same_shape f cons_head (a ∷ b ∷ []) = refl
same_shape f cons_head (a ∷ b ∷ c ∷ ts) = refl
same_shape f h ts = refl

module _ (S : Setting) (r : Inner) (o : Mode) (p q : Place) where
  abbrev pub down : Term → Walk
  down = walk S r o p q

  firsts : (ts : List Term) → map (λ (w : Term × Walk). w.0) (map (λ (u : Term). (u, down u)) ts) ≡ ts
  firsts [] = refl
  firsts (t ∷ ts) = ap (λ us. t ∷ us) (firsts ts)

  -- at an `if` its test is rewritten
  pub walk_if : (a b c : Term) (taken : Bool) (n : ℕ)
      → down (if_of a b c) taken n ≡ after (r Iff p a n) (λ a'. walk_on S r o p q taken a' (truth_of a') (b, down b) (c, down c))
  walk_if a b c taken n =
      let e : down (if_of a b c) ≡ walk_shape S r o p q (if_of a b c) (call_shape (head_of if_name) ((a, down a) ∷ (b, down b) ∷ (c, down c) ∷ [])) = para_call _ if_name (a ∷ b ∷ c ∷ []) in
      ap (λ (g : Walk). g taken n) (e ∙ ap (λ (y : Shape (Term × Walk)). walk_shape S r o p q (if_of a b c) y) (call_if (a, down a) (b, down b) (c, down c)))

  stops : (u : Term) (y : Shape (Term × Walk)) (taken : Bool) (n : ℕ) → branches_there y ≡ false → walk_shape S r o p q u y taken n ≡ leaf_on r o p u taken n
  stops u (choice a b c) taken n h = cc
  stops u (constant v) true n h = refl
  stops u (constant v) false n h = refl
  stops u (negation a) true n h = refl
  stops u (negation a) false n h = refl
  stops u (equation a b) true n h = refl
  stops u (equation a b) false n h = refl
  stops u (pair a b) true n h = refl
  stops u (pair a b) false n h = refl
  stops u other true n h = refl
  stops u other false n h = refl

  abbrev Stops : Term → Type 0
  Stops u = branches_there (shape_of u) ≡ false → (taken : Bool) (n : ℕ) → down u taken n ≡ leaf_on r o p u taken n

  -- it ends at any other term
  pub walk_leaf : (u : Term) → Stops u
  walk_leaf = term_ind Stops variable quoted called
    where
      variable : (x : Symbol) → Stops (Var x)
      variable x h taken n = ap (λ (g : Walk). g taken n) (para_var _ x) ∙ stops (Var x) other taken n refl

      quoted : (v : Value) → Stops (Quote v)
      quoted v h taken n = ap (λ (g : Walk). g taken n) (para_quote _ v) ∙ stops (Quote v) (constant v) taken n refl

      called : (f : Symbol) (ts : List Term) → Each Stops ts → Stops (Call f ts)
      called f ts hs h taken n =
          let y : Shape (Term × Walk) = call_shape (head_of f) (map (λ (u : Term). (u, down u)) ts) in
          let flat : branches_there (call_shape (head_of f) ts) ≡ false = subst (λ (z : Shape Term). branches_there z ≡ false) (shape_call f ts) h in
          ap (λ (g : Walk). g taken n) (para_call _ f ts)
          ∙ ap (λ us. walk_shape S r o p q (Call f us) y taken n) (firsts ts)
          ∙ stops (Call f ts) y taken n (same_shape (λ (u : Term). (u, down u)) (head_of f) ts ∙ flat)

-- no `if` is lent
pub no_branches : (u : Term) (y : ShapeRef) → seen y ≡ shape_of u → ((a b c : Bor Term) → y ≡ lent.If a b c → ⊥) → branches_there (shape_of u) ≡ false
no_branches u (lent.If a b c) e h = absurd (h a b c refl)
no_branches u (lent.Constant v) e h = rw (← e) refl
no_branches u (lent.Not a) e h = rw (← e) refl
no_branches u (lent.Equal a b) e h = rw (← e) refl
no_branches u (lent.Cons a b) e h = rw (← e) refl
no_branches u lent.Other e h = rw (← e) refl

-- the branches of an `if` are smaller, and so is the one that is taken
pub branches_smaller : (u a b c : Term) → u ≡ if_of a b c → 3 * (term_size b + term_size c) + 3 < 3 * term_size u + 1
branches_smaller u a b c is =
    let e : term_size (if_of a b c) ≡ (term_size a + (term_size b + (term_size c + 0))) + 1 = fold_call size_step if_name (a ∷ b ∷ c ∷ []) in
    let k : term_size u ≡ (term_size a + (term_size b + (term_size c + 0))) + 1 = ap term_size is ∙ e in
    omega (arith, k)

pub branch_smaller : (s : Bool) (u b c : Term) → u ≡ cond s b c → 3 * term_size u + 2 < 3 * (term_size b + term_size c) + 3
branch_smaller true u b c is = let k : term_size u ≡ term_size b = ap term_size is in omega (arith, k)
branch_smaller false u b c is = let k : term_size u ≡ term_size c = ap term_size is in omega (arith, k)

-- the walk at an `if`, and at another term
pub walk_at : (S : Setting) (r : Inner) (o : Mode) (p q : Place) (u a b c : Term) (taken : Bool) (n : ℕ) → u ≡ if_of a b c
    → walk S r o p q u taken n ≡ after (r Iff p a n) (λ a'. walk_on S r o p q taken a' (truth_of a') (b, walk S r o p q b) (c, walk S r o p q c))
walk_at S r o p q u a b c taken n is = ap (λ (x : Term). walk S r o p q x taken n) is ∙ walk_if S r o p q a b c taken n

pub leaf_at : (S : Setting) (r : Inner) (o : Mode) (p q : Place) (u v : Term) (y : ShapeRef) (taken : Bool) (n : ℕ) → u ≡ v → seen y ≡ shape_of u → ((a b c : Bor Term) → y ≡ lent.If a b c → ⊥)
    → walk S r o p q v taken n ≡ leaf_on r o p v taken n
leaf_at S r o p q u v y taken n is e h = subst (λ (x : Term). walk S r o p q x taken n ≡ leaf_on r o p x taken n) is (walk_leaf S r o p q u (no_branches u y e h) taken n)

-- past an `if` whose test has become this: into the branch that a constant chooses, else to the end
module _ (S : Setting) (r : Inner) (o : Mode) (p q : Place) (taken : Bool) (a b c : Term) (n : ℕ) where
  abbrev pub past : Option Bool → Got (Option Term)
  past x = walk_on S r o p q taken a x (b, walk S r o p q b) (c, walk S r o p q c) n

  chosen : (s : Bool) → walk S r o p q (cond s b c) true n ≡ past (Some s)
  chosen true = refl
  chosen false = refl

  pub past_chosen : (s : Bool) (v : Term) → truth_of a ≡ Some s → v ≡ cond s b c → walk S r o p q v true n ≡ past (truth_of a)
  past_chosen s v e is = ap (λ (x : Term). walk S r o p q x true n) is ∙ chosen s ∙ ap past (sym e)

  ended : (t : Bool) → ends_on S r o q t a b c n ≡ walk_on S r o p q t a None (b, walk S r o p q b) (c, walk S r o p q c) n
  ended true = refl
  ended false = refl

  pub past_open : truth_of a ≡ None → ends_on S r o q taken a b c n ≡ past (truth_of a)
  past_open e = ended taken ∙ ap past (sym e)

-- the end: both branches, or nothing
pub ends_both : (S : Setting) (r : Inner) (o : Mode) (p : Place) (taken : Bool) (a b c : Term) (n : ℕ) → taken ≡ true → answered (both S r o p a b c n) ≡ ends_on S r o p taken a b c n
ends_both S r o p taken a b c n e = ap (λ t. ends_on S r o p t a b c n) (sym e)

pub ends_none : (S : Setting) (r : Inner) (o : Mode) (p : Place) (taken : Bool) (a b c : Term) (n : ℕ) → taken ≡ false → none n ≡ ends_on S r o p taken a b c n
ends_none S r o p taken a b c n e = ap (λ t. ends_on S r o p t a b c n) (sym e)

-- at an `if`: the steps run out in its test, or it is passed
pub walk_out : (S : Setting) (r : Inner) (o : Mode) (p q : Place) (u a b c : Term) (taken : Bool) (n : ℕ) → u ≡ if_of a b c → None ≡ r Iff p a n → None ≡ walk S r o p q u taken n
walk_out S r o p q u a b c taken n is e =
    ap (λ (g : Got Term). after g (λ a'. walk_on S r o p q taken a' (truth_of a') (b, walk S r o p q b) (c, walk S r o p q c))) e ∙ sym (walk_at S r o p q u a b c taken n is)

pub walk_past : (S : Setting) (r : Inner) (o : Mode) (p q : Place) (u a b c v : Term) (taken : Bool) (n m : ℕ) → u ≡ if_of a b c → Some (v, m) ≡ r Iff p a n
    → walk_on S r o p q taken v (truth_of v) (b, walk S r o p q b) (c, walk S r o p q c) m ≡ walk S r o p q u taken n
walk_past S r o p q u a b c v taken n m is e =
    ap (λ (g : Got Term). after g (λ a'. walk_on S r o p q taken a' (truth_of a') (b, walk S r o p q b) (c, walk S r o p q c))) e ∙ sym (walk_at S r o p q u a b c taken n is)

-- at what is no `if`
pub leaf_none : (r : Inner) (o : Mode) (p : Place) (u : Term) (taken : Bool) (n : ℕ) → taken ≡ false → none n ≡ leaf_on r o p u taken n
leaf_none r o p u taken n e = ap (λ t. leaf_on r o p u t n) (sym e)

pub leaf_there : (r : Inner) (o : Mode) (p : Place) (u : Term) (taken : Bool) (n : ℕ) → taken ≡ true → answered (r o p u n) ≡ leaf_on r o p u taken n
leaf_there r o p u taken n e = ap (λ t. leaf_on r o p u t n) (sym e)

-- the parts of an `if` to which an equivalence leads
pub led_parts : (w : Shown) (o : Mode) (k : Ctx) (u : Term) (q : Equiv) (a b c : Term) → From w o k u q → q.says.rhs ≡ if_of a b c
    → (known (function_of w.entries) a ≡ true) × (known (function_of w.entries) b ≡ true) × (known (function_of w.entries) c ≡ true)
led_parts w o k u q a b c f e = choice_parts (function_of w.entries) a b c (subst (λ (x : Term). known (function_of w.entries) x ≡ true) e (right_known w o k u q f))

pub seen_parts : (w : Shown) (o : Mode) (k : Ctx) (u v : Term) (q : Equiv) (a b c : Term) → From w o k u q → v ≡ q.says.rhs → choice a b c ≡ shape_of v
    → (q.says.rhs ≡ if_of a b c) × (known (function_of w.entries) a ≡ true)
seen_parts w o k u v q a b c f same e =
    let there : known (function_of w.entries) v ≡ true = subst (λ (x : Term). known (function_of w.entries) x ≡ true) (sym same) (right_known w o k u q f) in
    let parts = if_parts (function_of w.entries) v a b c there (sym e) in
    (sym same ∙ parts.0, parts.1)

-- under facts that are the same
pub same_place : (w : Shown) (o : Mode) (k l : Ctx) (u : Term) (x : Result (Option (Tried Equiv)) AllocError) → k ≡ l
    → IfOk x (λ y. IfSome y (λ a. IfSome (where_applied a) (From w o k u))) → IfOk x (λ y. IfSome y (λ a. IfSome (where_applied a) (From w o l u)))
same_place w o k l u x e h = subst (λ (z : Ctx). IfOk x (λ y. IfSome y (λ a. IfSome (where_applied a) (From w o z u)))) e h

pub same_found : (w : Shown) (o : Mode) (k l : Ctx) (u : Term) (x : Option Equiv) → k ≡ l → IfSome x (From w o k u) → IfSome x (From w o l u)
same_found w o k l u x e h = subst (λ (z : Ctx). IfSome x (From w o z u)) e h

pub from_there : (w : Shown) (o : Mode) (k l : Ctx) (u : Term) (q : Equiv) → k ≡ l → From w o k u q → From w o l u q
from_there w o k l u q e f = subst (λ (z : Ctx). From w o z u q) e f
