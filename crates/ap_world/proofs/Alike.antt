-- A world that defines all that another does with the same formals and bodies, whatever the masks, keeps its values, what is known and what is valid.
use Rattle.std.proofs.Common.{◌≡◌, ℕ, zero, suc, true, cond, nat_eq, List, [], ◌∷◌, map, length, zip, Option, Some, None, refl, ap, ◌∙◌, sym, subst, inl, inr}
use Rattle.ap_list.specs.Lists.{Each, AnyOf, all_true}
use Rattle.ap_value.specs.declared.symbol.Symbol.{Symbol}
use Rattle.ap_value.specs.Values.{V}
use Rattle.ap_term.specs.declared.term.Term.{Term, Call}
use Rattle.ap_term.proofs.Induction.{term_ind}
use Rattle.ap_world.specs.declared.entry.Function.{Function}
use Rattle.ap_world.specs.Primitives.{prim_of}
use Rattle.ap_world.specs.declared.primitive.Primitive.{Primitive as Prim}
use Rattle.ap_world.specs.Meaning.{Env, Defs, Calls, meaning, body_value, calls, HasValue, CallValue, Total, IsHeld, Valid}
use Rattle.ap_world.specs.Sound.{is_head, takes, known}
use Rattle.ap_world.proofs.Fuel.{CallsKeep, meaning_keep, body_keep, value_unique, call_unique}
use Rattle.ap_world.proofs.Knowing.{known_var, known_quote, known_head, known_args, known_by, each_true, true_each, each_same}
use Rattle.ap_world.proofs.TotalMeaning.{known_valued}
use Rattle.ap_world.specs.Alike.{DefinesAlike}

-- a body's value depends on the formals and the body alone
same_body : (c : Calls) (g h : Function) (vs : List V) → g.formals ≡ h.formals → g.body ≡ h.body → body_value c (Some g) vs ≡ body_value c (Some h) vs
same_body c g h vs formals body =
    ap (λ xs. cond (nat_eq (length xs) (length vs)) (meaning c g.body (zip xs vs)) None) formals
    ∙ ap (λ b. cond (nat_eq (length h.formals) (length vs)) (meaning c b (zip h.formals vs)) None) body

pub calls_alike : (D E : Defs) → DefinesAlike D E → (n : ℕ) → CallsKeep (calls n D) (calls n E)
calls_alike D E x zero f vs v h = h
calls_alike D E x (suc n) f vs v h = defined (calls_alike D E x n) (D f) refl h
  where
    defined : CallsKeep (calls n D) (calls n E) → (o : Option Function) → D f ≡ o → body_value (calls n D) o vs ≡ Some v → body_value (calls n E) (E f) vs ≡ Some v
    defined keep None e l = cc
    defined keep (Some g) e l =
        let (j, there, formals, body) = x f g e in
        ap (λ o. body_value (calls n E) o vs) there ∙ sym (same_body (calls n E) g j vs formals body) ∙ body_keep (calls n D) (calls n E) keep (Some g) vs v l

pub value_alike : (D E : Defs) → DefinesAlike D E → (u : Term) (e : Env) (v : V) → HasValue D u e v → HasValue E u e v
value_alike D E x u e v (n, h) = (n, meaning_keep (calls n D) (calls n E) (calls_alike D E x n) u e v h)

pub call_alike : (D E : Defs) → DefinesAlike D E → (f : Symbol) (vs : List V) (v : V) → CallValue D f vs v → CallValue E f vs v
call_alike D E x f vs v (n, h) = (n, calls_alike D E x n f vs v h)

head_alike : (D E : Defs) → DefinesAlike D E → (f : Symbol) (o : Option Prim) (n : ℕ) → is_head D f o n ≡ true → is_head E f o n ≡ true
head_alike D E x f (Some p) n h = h
head_alike D E x f None n h = defined (D f) refl h
  where
    defined : (o : Option Function) → D f ≡ o → takes o n ≡ true → takes (E f) n ≡ true
    defined None e l = cc
    defined (Some g) e l =
        let (j, there, formals, body) = x f g e in
        ap (λ o. takes o n) there ∙ ap (λ (xs : List Symbol). nat_eq (length xs) n) (sym formals) ∙ l

pub known_alike : (D E : Defs) → DefinesAlike D E → (u : Term) → known D u ≡ true → known E u ≡ true
known_alike D E x u h = term_ind Goal (λ y k. known_var E y) (λ q k. known_quote E q) call u h
  where
    Goal : Term → Type 0
    Goal u = known D u ≡ true → known E u ≡ true

    args : (ts : List Term) → Each Goal ts → Each (λ u. known D u ≡ true) ts → Each (λ u. known E u ≡ true) ts
    args [] es ks = tt
    args (t ∷ ts) es ks = (es.0 ks.0, args ts es.1 ks.1)

    call : (f : Symbol) (ts : List Term) → Each Goal ts → Goal (Call f ts)
    call f ts es = λ k. known_by E f ts (head_alike D E x f (prim_of f) (length ts) (known_head D f ts k))
        (true_each (known E) ts (args ts es (each_true (known D) ts (known_args D f ts k))))

pub all_known_alike : (D E : Defs) → DefinesAlike D E → (ts : List Term) → all_true (map (known D) ts) ≡ true → all_true (map (known E) ts) ≡ true
all_known_alike D E x ts h = true_each (known E) ts (each_same ts (known_alike D E x) (each_true (known D) ts h))

-- what is valid stays valid
held_alike : (D E : Defs) → DefinesAlike D E → (e : Env) (ts : List Term) → AnyOf (IsHeld D e) ts → AnyOf (IsHeld E e) ts
held_alike D E x e [] h = h
held_alike D E x e (t ∷ ts) (inl (v, h, other)) = inl (v, value_alike D E x t e v h, other)
held_alike D E x e (t ∷ ts) (inr h) = inr (held_alike D E x e ts h)

pub valid_alike : (D E : Defs) → DefinesAlike D E → (ts : List Term) → Valid D ts → Valid E ts
valid_alike D E x ts valid = λ e. held_alike D E x e ts (valid e)

-- of terms that the total one knows, what is valid in the other is valid in it
held_back : (D E : Defs) → Total D → DefinesAlike D E → (e : Env) (ts : List Term) → Each (λ u. known D u ≡ true) ts → AnyOf (IsHeld E e) ts → AnyOf (IsHeld D e) ts
held_back D E total x e [] ks h = h
held_back D E total x e (t ∷ ts) ks (inl (v, h, other)) =
    let (w, d) = known_valued D total t ks.0 e in
    inl (w, d, λ isnil. other (value_unique E t e v w h (value_alike D E x t e w d) ∙ isnil))
held_back D E total x e (t ∷ ts) ks (inr h) = inr (held_back D E total x e ts ks.1 h)

pub valid_back : (D E : Defs) → Total D → DefinesAlike D E → (ts : List Term) → all_true (map (known D) ts) ≡ true → Valid E ts → Valid D ts
valid_back D E total x ts ts_known valid = λ e. held_back D E total x e ts (each_true (known D) ts ts_known) (valid e)

-- where a name is defined in the total one, a call in the other has no other value than there
pub call_back : (D E : Defs) → Total D → DefinesAlike D E → (f : Symbol) (g : Function) → D f ≡ Some g → (vs : List V) (v : V) → length g.formals ≡ length vs → CallValue E f vs v → CallValue D f vs v
call_back D E total x f g here vs v l h =
    let (w, d) = total f g vs here l in
    subst (λ u. CallValue D f vs u) (call_unique E f vs w v (call_alike D E x f vs w d) h) d
