-- What a term with parts replaced means, and that it is known; variables that are new.
use Rattle.std.proofs.Common.{◌≡◌, Bool, true, false, cond, ◌||◌, List, [], ◌∷◌, map, Some, None, unwrap_or, inl, inr, refl, ap, sym, ◌∙◌, subst}
use Rattle.std.proofs.Math.ListN.{length-map}
use Rattle.ap_list.specs.Lists.{Each, lookup_by}
use Rattle.ap_value.specs.declared.symbol.Symbol.{Symbol}
use Rattle.ap_value.specs.declared.value.Value.{Value}
use Rattle.ap_value.specs.Values.{V, symbol_eq}
use Rattle.ap_value.proofs.Equals.{symbol_eq-true, symbol_eq-same}
use Rattle.ap_term.specs.declared.term.Term.{Term, out-Term, Var, Quote, Call}
use Rattle.ap_term.specs.declared.term.Term.TheOpen.{Term-F}
use Rattle.ap_term.specs.declared.term.Term.TheVariants.{outs-Var, outs-Quote, outs-Call}
use Rattle.ap_term.specs.Equal.{term_eq}
use Rattle.ap_term.proofs.Equals.{term_eq-true}
use Rattle.ap_term.proofs.Induction.{term_ind, fold_var, fold_call, para_var, para_quote, para_call}
use Rattle.ap_world.specs.Primitives.{nil, prim_of}
use Rattle.ap_world.specs.Meaning.{Env, value_at, Defs}
use Rattle.ap_world.specs.Sound.{is_head, known}
use Rattle.ap_world.proofs.Knowing.{known_by, known_args, known_head, each_true, true_each}
use Rattle.ap_world.proofs.TotalMeaning.{Apply, val, values_of, val_var, val_quote, val_call, head_val, AnyTrue}
use Rattle.ap_world.proofs.Written.{first_parts, second_parts}
use Rattle.ap_kernel.specs.Solving.{any_true, occurs_step, occurs, occurs_in}
use Rattle.ap_kernel.specs.Swapping.{swapped_step, swapped, is_part_step, is_part}

pub swapped_var : (s : List (Term × Term)) (x : Symbol) → swapped s (Var x) ≡ unwrap_or (lookup_by term_eq s (Var x)) (Var x)
swapped_var s x = para_var (swapped_step s) x

pub swapped_quote : (s : List (Term × Term)) (q : Value) → swapped s (Quote q) ≡ unwrap_or (lookup_by term_eq s (Quote q)) (Quote q)
swapped_quote s q = para_quote (swapped_step s) q

pub swapped_call : (s : List (Term × Term)) (f : Symbol) (ts : List Term) → swapped s (Call f ts) ≡ unwrap_or (lookup_by term_eq s (Call f ts)) (Call f (map (swapped s) ts))
swapped_call s f ts = para_call (swapped_step s) f ts
    ∙ ap (λ us. unwrap_or (lookup_by term_eq s (Call f us)) (Call f (map (λ (p : Term × Term). p.1) (map (λ u. (u, swapped s u)) ts)))) (first_parts (swapped s) ts)
    ∙ ap (λ us. unwrap_or (lookup_by term_eq s (Call f ts)) (Call f us)) (second_parts (swapped s) ts)

-- the same by a term's outside
abbrev pub within : List (Term × Term) → Term-F Term → Term
within s (Term-F.Var x) = Var x
within s (Term-F.Quote q) = Quote q
within s (Term-F.Call f ts) = Call f (map (swapped s) ts)

pub swapped_is : (s : List (Term × Term)) (u : Term) → swapped s u ≡ unwrap_or (lookup_by term_eq s u) (within s (out-Term u))
swapped_is s = term_ind (λ u. swapped s u ≡ unwrap_or (lookup_by term_eq s u) (within s (out-Term u)))
    (λ x. swapped_var s x ∙ ap (λ y. unwrap_or (lookup_by term_eq s (Var x)) (within s y)) (sym (outs-Var x)))
    (λ q. swapped_quote s q ∙ ap (λ y. unwrap_or (lookup_by term_eq s (Quote q)) (within s y)) (sym (outs-Quote q)))
    (λ f ts es. swapped_call s f ts ∙ ap (λ y. unwrap_or (lookup_by term_eq s (Call f ts)) (within s y)) (sym (outs-Call f ts)))

-- whether a term is a part, by the outside of the other
abbrev pub parts_in : Term → Term-F Term → Bool
parts_in t (Term-F.Call f us) = any_true (map (is_part t) us)
parts_in t y = false

pub is_part_is : (t u : Term) → is_part t u ≡ (term_eq t u || parts_in t (out-Term u))
is_part_is t = term_ind (λ u. is_part t u ≡ (term_eq t u || parts_in t (out-Term u)))
    (λ x. para_var (is_part_step t) x ∙ ap (λ y. term_eq t (Var x) || parts_in t y) (sym (outs-Var x)))
    (λ q. para_quote (is_part_step t) q ∙ ap (λ y. term_eq t (Quote q) || parts_in t y) (sym (outs-Quote q)))
    (λ f us es. para_call (is_part_step t) f us
    ∙ ap (λ ws. term_eq t (Call f ws) || any_true (map (λ (p : Term × Bool). p.1) (map (λ u. (u, is_part t u)) us))) (first_parts (is_part t) us)
    ∙ ap (λ bs. term_eq t (Call f us) || any_true bs) (second_parts (is_part t) us)
    ∙ ap (λ y. term_eq t (Call f us) || parts_in t y) (sym (outs-Call f us)))

pub part_itself : (t u : Term) → term_eq t u ≡ true → true ≡ is_part t u
part_itself t u h = sym (is_part_is t u ∙ ap (λ b. b || parts_in t (out-Term u)) h)

pub part_of_var : (t u : Term) (x : Symbol) → u ≡ Var x → term_eq t u ≡ false → false ≡ is_part t u
part_of_var t u x is h = sym (is_part_is t u ∙ ap (λ b. b || parts_in t (out-Term u)) h ∙ ap (λ w. parts_in t (out-Term w)) is ∙ ap (parts_in t) (outs-Var x))

pub part_of_quote : (t u : Term) (q : Value) → u ≡ Quote q → term_eq t u ≡ false → false ≡ is_part t u
part_of_quote t u q is h = sym (is_part_is t u ∙ ap (λ b. b || parts_in t (out-Term u)) h ∙ ap (λ w. parts_in t (out-Term w)) is ∙ ap (parts_in t) (outs-Quote q))

pub part_of_call : (t u : Term) (f : Symbol) (us : List Term) (b : Bool) → u ≡ Call f us → term_eq t u ≡ false → b ≡ any_true (map (is_part t) us) → b ≡ is_part t u
part_of_call t u f us b is h e = e ∙ sym (is_part_is t u ∙ ap (λ b. b || parts_in t (out-Term u)) h ∙ ap (λ w. parts_in t (out-Term w)) is ∙ ap (parts_in t) (outs-Call f us))

pub swapped_there : (s : List (Term × Term)) (u w : Term) → lookup_by term_eq s u ≡ Some w → swapped s u ≡ w
swapped_there s u w h = swapped_is s u ∙ ap (λ o. unwrap_or o (within s (out-Term u))) h

kept_by : (s : List (Term × Term)) (u : Term) (y : Term-F Term) → out-Term u ≡ y → lookup_by term_eq s u ≡ None → swapped s u ≡ within s y
kept_by s u y is h = swapped_is s u ∙ ap (λ o. unwrap_or o (within s (out-Term u))) h ∙ ap (within s) is

pub var_kept : (s : List (Term × Term)) (u : Term) (x : Symbol) → u ≡ Var x → lookup_by term_eq s u ≡ None → swapped s u ≡ u
var_kept s u x is h = kept_by s u (Term-F.Var x) (ap out-Term is ∙ outs-Var x) h ∙ sym is

pub quote_kept : (s : List (Term × Term)) (u : Term) (q : Value) → u ≡ Quote q → lookup_by term_eq s u ≡ None → swapped s u ≡ u
quote_kept s u q is h = kept_by s u (Term-F.Quote q) (ap out-Term is ∙ outs-Quote q) h ∙ sym is

pub call_kept : (s : List (Term × Term)) (u : Term) (f : Symbol) (ts : List Term) → u ≡ Call f ts → lookup_by term_eq s u ≡ None → swapped s u ≡ Call f (map (swapped s) ts)
call_kept s u f ts is h = kept_by s u (Term-F.Call f ts) (ap out-Term is ∙ outs-Call f ts) h

-- a variable that occurs in a literal occurs in the clause
pub occurs_self : (x : Symbol) → occurs x (Var x) ≡ true
occurs_self x = fold_var (occurs_step x) x ∙ symbol_eq-same x

occurs_call : (x f : Symbol) (ts : List Term) → occurs x (Call f ts) ≡ occurs_in x ts
occurs_call x f ts = fold_call (occurs_step x) f ts

or_right : (a b : Bool) → b ≡ true → (a || b) ≡ true
or_right true b h = refl
or_right false b h = h

-- two assignments give each variable of a term the same value
abbrev pub SameAt : Env → Env → Term → Type 0
SameAt d e u = (x : Symbol) → occurs x u ≡ true → value_at e x ≡ value_at d x

-- where each pair's second means under e what its first means under d, so does the term with them replaced
module _ (A : Apply) (d e : Env) where
  abbrev pub PairsMean : List (Term × Term) → Type 0
  PairsMean s = Each (λ (p : Term × Term). val A p.1 e ≡ val A p.0 d) s

  looked_up : (s : List (Term × Term)) → PairsMean s → (u w : Term) → val A w e ≡ val A u d → val A (unwrap_or (lookup_by term_eq s u) w) e ≡ val A u d
  looked_up [] ks u w h = h
  looked_up (p ∷ ps) ks u w h = go (term_eq u p.0) refl (looked_up ps ks.1 u w h)
    where
      go : (b : Bool) → term_eq u p.0 ≡ b → val A (unwrap_or (lookup_by term_eq ps u) w) e ≡ val A u d → val A (unwrap_or (cond b (Some p.1) (lookup_by term_eq ps u)) w) e ≡ val A u d
      go true q l = ks.0 ∙ ap (λ z. val A z d) (sym (term_eq-true u p.0 q))
      go false q l = l

  pub swapped_value : (s : List (Term × Term)) → PairsMean s → (u : Term) → SameAt d e u → val A (swapped s u) e ≡ val A u d
  swapped_value s ks = term_ind Goal
      (λ x h. ap (λ z. val A z e) (swapped_var s x) ∙ looked_up s ks (Var x) (Var x) (val_var A x e ∙ h x (occurs_self x) ∙ sym (val_var A x d)))
      (λ q h. ap (λ z. val A z e) (swapped_quote s q) ∙ looked_up s ks (Quote q) (Quote q) (val_quote A q e ∙ sym (val_quote A q d)))
      (λ f ts es h. ap (λ z. val A z e) (swapped_call s f ts)
      ∙ looked_up s ks (Call f ts) (Call f (map (swapped s) ts))
      (val_call A f (map (swapped s) ts) e ∙ ap (head_val A f (prim_of f)) (args ts es (λ x k. h x (occurs_call x f ts ∙ k))) ∙ sym (val_call A f ts d)))
    where
      Goal : Term → Type 0
      Goal u = SameAt d e u → val A (swapped s u) e ≡ val A u d

      args : (ts : List Term) → Each Goal ts → ((x : Symbol) → occurs_in x ts ≡ true → value_at e x ≡ value_at d x) → values_of A (map (swapped s) ts) e ≡ values_of A ts d
      args [] es h = refl
      args (t ∷ ts) es h =
          let p = es.0 (λ x k. h x (ap (λ b. b || occurs_in x ts) k)) in
          let q = args ts es.1 (λ x k. h x (or_right (occurs x t) (occurs_in x ts) k)) in
          λ i. p i ∷ q i

  pub any_swapped : (s : List (Term × Term)) → PairsMean s → (ts : List Term) → Each (SameAt d e) ts → AnyTrue A e (map (swapped s) ts) → AnyTrue A d ts
  any_swapped s ks [] hs h = h
  any_swapped s ks (t ∷ ts) hs (inl h) = inl (λ isnil. h (swapped_value s ks t hs.0 ∙ isnil))
  any_swapped s ks (t ∷ ts) hs (inr h) = inr (any_swapped s ks ts hs.1 h)

-- and it is known
module _ (D : Defs) where
  found_known : (s : List (Term × Term)) → Each (λ (p : Term × Term). known D p.1 ≡ true) s → (u w : Term) → known D w ≡ true → known D (unwrap_or (lookup_by term_eq s u) w) ≡ true
  found_known [] ks u w k = k
  found_known (p ∷ ps) ks u w k = go (term_eq u p.0) (found_known ps ks.1 u w k)
    where
      go : (b : Bool) → known D (unwrap_or (lookup_by term_eq ps u) w) ≡ true → known D (unwrap_or (cond b (Some p.1) (lookup_by term_eq ps u)) w) ≡ true
      go true l = ks.0
      go false l = l

  pub known_swapped : (s : List (Term × Term)) → Each (λ (p : Term × Term). known D p.1 ≡ true) s → (u : Term) → known D u ≡ true → known D (swapped s u) ≡ true
  known_swapped s ks = term_ind (λ u. known D u ≡ true → known D (swapped s u) ≡ true)
      (λ x k. subst (λ z. known D z ≡ true) (sym (swapped_var s x)) (found_known s ks (Var x) (Var x) k))
      (λ q k. subst (λ z. known D z ≡ true) (sym (swapped_quote s q)) (found_known s ks (Quote q) (Quote q) k))
      (λ f ts es k. subst (λ z. known D z ≡ true) (sym (swapped_call s f ts))
      (found_known s ks (Call f ts) (Call f (map (swapped s) ts))
      (known_by D f (map (swapped s) ts) (subst (λ n. is_head D f (prim_of f) n ≡ true) (sym (length-map ts (swapped s))) (known_head D f ts k))
      (true_each (known D) (map (swapped s) ts) (args ts es (each_true (known D) ts (known_args D f ts k)))))))
    where
      args : (ts : List Term) → Each (λ u. known D u ≡ true → known D (swapped s u) ≡ true) ts → Each (λ u. known D u ≡ true) ts → Each (λ u. known D u ≡ true) (map (swapped s) ts)
      args [] es ks = tt
      args (t ∷ ts) es ks = (es.0 ks.0, args ts es.1 ks.1)

  pub each_swapped : (s : List (Term × Term)) → Each (λ (p : Term × Term). known D p.1 ≡ true) s → (ts : List Term) → Each (λ u. known D u ≡ true) ts → Each (λ u. known D u ≡ true) (map (swapped s) ts)
  each_swapped s ks [] hs = tt
  each_swapped s ks (t ∷ ts) hs = (known_swapped s ks t hs.0, each_swapped s ks ts hs.1)

-- a variable that is new is in no literal
abbrev pub New : Symbol → Term → Type 0
New a u = occurs a u ≡ false

pub each_new : (a : Symbol) (ts : List Term) → occurs_in a ts ≡ false → Each (New a) ts
each_new a [] h = tt
each_new a (t ∷ ts) h = go (occurs a t) refl (each_new a ts) h
  where
    go : (b : Bool) → occurs a t ≡ b → (occurs_in a ts ≡ false → Each (New a) ts) → (b || occurs_in a ts) ≡ false → Each (New a) (t ∷ ts)
    go true q later l = cc
    go false q later l = (q, later l)

pub new_apart : (a x : Symbol) (u : Term) → New a u → occurs x u ≡ true → symbol_eq x a ≡ false
new_apart a x u n o = go (symbol_eq x a) refl
  where
    go : (b : Bool) → symbol_eq x a ≡ b → b ≡ false
    go true q = let p = sym (ap (λ y. occurs y u) (symbol_eq-true x a q)) ∙ o in cc
    go false q = refl

-- an assignment with one variable more
pub at_self : (a : Symbol) (w : V) (e : Env) → value_at ((a, w) ∷ e) a ≡ w
at_self a w e = ap (λ b. unwrap_or (cond b (Some w) (lookup_by symbol_eq e a)) nil) (symbol_eq-same a)

pub at_other : (a x : Symbol) (w : V) (e : Env) → symbol_eq x a ≡ false → value_at ((a, w) ∷ e) x ≡ value_at e x
at_other a x w e h = ap (λ b. unwrap_or (cond b (Some w) (lookup_by symbol_eq e x)) nil) h
