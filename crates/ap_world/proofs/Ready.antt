-- A call has a value where its arguments have values and its head has one at these.
use Rattle.std.proofs.Common.{◌≡◌, ℕ, suc, ◌+◌, true, false, cond, List, [], ◌∷◌, map, length, Option, Some, None, refl, ap, ◌∙◌, subst, add_comm, eqb-true}
use Rattle.ap_list.specs.Lists.{Each}
use Rattle.ap_value.specs.declared.symbol.Symbol.{Symbol}
use Rattle.ap_value.specs.Values.{V, value_eq}
use Rattle.ap_term.specs.declared.term.Term.{Term, Call}
use Rattle.ap_world.specs.declared.entry.Function.{Function}
use Rattle.ap_world.specs.Names.{if_name}
use Rattle.ap_world.specs.declared.primitive.Primitive.{Primitive as Prim}
use Rattle.ap_world.specs.Primitives.{nil, prim_of, prim_arity}
use Rattle.ap_world.specs.Meaning.{Env, Defs, if_of, applied, head_call, meaning, calls, ev, HasValue, CallValue}
use Rattle.ap_world.specs.Sound.{is_head, takes}
use Rattle.ap_world.proofs.Fuel.{meaning_call, calls_more, ev-more}
use Rattle.ap_world.proofs.TotalMeaning.{Apply, prim_val, val, values_of, prim_counted, all_some_values}
use Rattle.ap_world.proofs.Equations.{prim_of_if}

-- the head gives a value at these, with so many units and any more
abbrev pub Ready : Defs → Symbol → List V → V → Type 0
Ready E f ws v = (k : ℕ) × ((n : ℕ) → head_call (calls (n + k) E) f (prim_of f) (map Some ws) ≡ Some v)

-- a name that is no primitive's is ready where its call has a value
pub ready_call : (E : Defs) (f : Symbol) (ws : List V) (v : V) → prim_of f ≡ None → CallValue E f ws v → Ready E f ws v
ready_call E f ws v no_prim (k, h) =
    (k, λ n. ap (λ o. head_call (calls (n + k) E) f o (map Some ws)) no_prim ∙ ap (applied (calls (n + k) E f)) (all_some_values ws) ∙ calls_more E n k f ws v h)

-- a known head is ready where the call of a function that is defined has a value
pub ready_head : (E : Defs) (f : Symbol) (ws : List V) → is_head E f (prim_of f) (length ws) ≡ true
    → ((g : Function) → prim_of f ≡ None → E f ≡ Some g → length g.formals ≡ length ws → (v : V) × CallValue E f ws v) → (v : V) × Ready E f ws v
ready_head E f ws h callable = go (prim_of f) refl h
  where
    defined : prim_of f ≡ None → (o : Option Function) → E f ≡ o → takes o (length ws) ≡ true → (v : V) × Ready E f ws v
    defined q None e l = absurd (not_so l)
      where
        not_so : false ≡ true → ⊥
        not_so k = cc
    defined q (Some g) e l = let (v, c) = callable g q e (eqb-true (length g.formals) (length ws) l) in (v, ready_call E f ws v q c)

    go : (o : Option Prim) → prim_of f ≡ o → is_head E f o (length ws) ≡ true → (v : V) × Ready E f ws v
    go (Some p) q l = (prim_val p ws, (0, λ n. ap (λ o. head_call (calls (n + 0) E) f o (map Some ws)) q ∙ prim_counted p ws (eqb-true (prim_arity p) (length ws) l)))
    go None q l = defined q (E f) refl l

-- the terms have these values, with so many units
abbrev pub Gathered : Defs → Env → ℕ → List Term → List V → Type 0
Gathered E e n [] [] = Unit {0}
Gathered E e n (t ∷ ts) (w ∷ ws) = (ev n E t e ≡ Some w) × Gathered E e n ts ws
Gathered E e n ts ws = ⊥

module _ (E : Defs) (e : Env) where
  gathered_more : (k n : ℕ) (ts : List Term) (ws : List V) → Gathered E e n ts ws → Gathered E e (k + n) ts ws
  gathered_more k n [] [] h = tt
  gathered_more k n (t ∷ ts) (w ∷ ws) h = (ev-more E k n t e w h.0, gathered_more k n ts ws h.1)
  gathered_more k n [] (w ∷ ws) h = absurd h
  gathered_more k n (t ∷ ts) [] h = absurd h

  gathered_also : (n : ℕ) (t : Term) (v : V) (ts : List Term) (ws : List V) → HasValue E t e v → Gathered E e n ts ws → (k : ℕ) × Gathered E e k (t ∷ ts) (v ∷ ws)
  gathered_also n t v ts ws (m, p) ps = (n + m, (ev-more E n m t e v p, subst (λ k. Gathered E e k ts ws) (add_comm m n) (gathered_more m n ts ws ps)))

  pub gather : (ts : List Term) → Each (λ u. (v : V) × HasValue E u e v) ts → (ws : List V) × ((n : ℕ) × Gathered E e n ts ws)
  gather [] es = ([], (0, tt))
  gather (t ∷ ts) es = let (ws, (n, ps)) = gather ts es.1 in (es.0.0 ∷ ws, gathered_also n t es.0.0 ts ws es.0.1 ps)

  pub gather_values : (A : Apply) (ts : List Term) → Each (λ u. HasValue E u e (val A u e)) ts → (n : ℕ) × Gathered E e n ts (values_of A ts e)
  gather_values A [] es = (0, tt)
  gather_values A (t ∷ ts) es = let (n, ps) = gather_values A ts es.1 in gathered_also n t (val A t e) ts (values_of A ts e) es.0 ps

  gathered_are : (n : ℕ) (ts : List Term) (ws : List V) → Gathered E e n ts ws → map (λ m. m e) (map (meaning (calls n E)) ts) ≡ map Some ws
  gathered_are n [] [] h = refl
  gathered_are n (t ∷ ts) (w ∷ ws) h = ap (λ o. o ∷ map (λ m. m e) (map (meaning (calls n E)) ts)) h.0 ∙ ap (λ os. Some w ∷ os) (gathered_are n ts ws h.1)
  gathered_are n [] (w ∷ ws) h = absurd h
  gathered_are n (t ∷ ts) [] h = absurd h

  pub gathered_length : (n : ℕ) (ts : List Term) (ws : List V) → Gathered E e n ts ws → length ws ≡ length ts
  gathered_length n [] [] h = refl
  gathered_length n (t ∷ ts) (w ∷ ws) h = ap suc (gathered_length n ts ws h.1)
  gathered_length n [] (w ∷ ws) h = absurd h
  gathered_length n (t ∷ ts) [] h = absurd h

  pub call_value : (f : Symbol) (ts : List Term) (ws : List V) (n : ℕ) (v : V) → Gathered E e n ts ws → Ready E f ws v → HasValue E (Call f ts) e v
  call_value f ts ws n v g (k, h) =
      let there = gathered_are (n + k) ts ws (subst (λ j. Gathered E e j ts ws) (add_comm k n) (gathered_more k n ts ws g)) in
      (n + k, meaning_call (calls (n + k) E) f ts e ∙ ap (head_call (calls (n + k) E) f (prim_of f)) there ∙ h n)

  -- one branch of an `if`
  module _ (f : Symbol) (a b c : Term) (x v : V) (is : f ≡ if_name) where
    pub if_then : HasValue E a e x → value_eq x nil ≡ false → HasValue E b e v → HasValue E (Call f (a ∷ b ∷ c ∷ [])) e v
    if_then (m, h) t (n, k) =
        let p : meaning (calls (n + m) E) a e ≡ Some x = ev-more E n m a e x h in
        let q : meaning (calls (n + m) E) b e ≡ Some v = subst (λ j. ev j E b e ≡ Some v) (add_comm m n) (ev-more E m n b e v k) in (
          n + m,
          meaning_call (calls (n + m) E) f (a ∷ b ∷ c ∷ []) e
              ∙ ap (λ o. head_call (calls (n + m) E) f o (meaning (calls (n + m) E) a e ∷ meaning (calls (n + m) E) b e ∷ meaning (calls (n + m) E) c e ∷ [])) (ap prim_of is ∙ prim_of_if)
              ∙ (λ i. if_of (p i ∷ q i ∷ meaning (calls (n + m) E) c e ∷ [])) ∙ ap (λ z. cond z (meaning (calls (n + m) E) c e) (Some v)) t,
        )

    pub if_else : HasValue E a e x → value_eq x nil ≡ true → HasValue E c e v → HasValue E (Call f (a ∷ b ∷ c ∷ [])) e v
    if_else (m, h) t (n, k) =
        let p : meaning (calls (n + m) E) a e ≡ Some x = ev-more E n m a e x h in
        let q : meaning (calls (n + m) E) c e ≡ Some v = subst (λ j. ev j E c e ≡ Some v) (add_comm m n) (ev-more E m n c e v k) in (
          n + m,
          meaning_call (calls (n + m) E) f (a ∷ b ∷ c ∷ []) e
              ∙ ap (λ o. head_call (calls (n + m) E) f o (meaning (calls (n + m) E) a e ∷ meaning (calls (n + m) E) b e ∷ meaning (calls (n + m) E) c e ∷ [])) (ap prim_of is ∙ prim_of_if)
              ∙ (λ i. if_of (p i ∷ meaning (calls (n + m) E) b e ∷ q i ∷ [])) ∙ ap (λ z. cond z (Some v) (meaning (calls (n + m) E) b e)) t,
        )
