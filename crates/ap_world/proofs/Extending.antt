-- A world that defines all that another does, alike, keeps its values, what is known and what is valid.
use Rattle.std.proofs.Common.{◌≡◌, ℕ, zero, suc, Bool, true, false, cond, ◌||◌, List, [], ◌∷◌, ◌++◌, map, length, Option, Some, None, is_some, refl, ap, ◌∙◌, inl, inr}
use Rattle.ap_list.specs.Lists.{Each, AnyOf, all_true}
use Rattle.ap_value.specs.declared.symbol.Symbol.{Symbol}
use Rattle.ap_value.specs.declared.value.Value.{Value}
use Rattle.ap_value.specs.Values.{V, symbol_eq}
use Rattle.ap_value.proofs.Equals.{symbol_eq-same}
use Rattle.ap_term.specs.declared.term.Term.{Term, Call}
use Rattle.ap_term.proofs.Induction.{term_ind}
use Rattle.ap_world.specs.declared.entry.Function.{Function}
use Rattle.ap_world.specs.declared.entry.Theorem.{Theorem}
use Rattle.ap_world.specs.declared.entry.Entry.{Entry}
use Rattle.ap_world.specs.declared.entry.Entry.TheVariants as entry
use Rattle.ap_world.specs.Primitives.{Prim, prim_of}
use Rattle.ap_world.specs.Meaning.{Env, Defs, body_value, calls, HasValue, CallValue, Total, IsHeld, Valid}
use Rattle.ap_world.specs.Sound.{is_head, takes, known}
use Rattle.ap_world.specs.World.{name_in, entry_of, as_function, function_of, has_name}
use Rattle.ap_world.proofs.Fuel.{CallsKeep, meaning_keep, body_keep, value_unique}
use Rattle.ap_world.proofs.Knowing.{known_var, known_quote, known_head, known_args, known_by, each_true, true_each, each_same}
use Rattle.ap_world.proofs.TotalMeaning.{known_valued}

-- E defines all that D does, alike
abbrev pub Extends : Defs → Defs → Type 0
Extends D E = (f : Symbol) (g : Function) → D f ≡ Some g → E f ≡ Some g

pub extends_self : (D : Defs) → Extends D D
extends_self D f g h = h

pub extends_trans : (D E F : Defs) → Extends D E → Extends E F → Extends D F
extends_trans D E F x y f g h = y f g (x f g h)

pub calls_extend : (D E : Defs) → Extends D E → (n : ℕ) → CallsKeep (calls n D) (calls n E)
calls_extend D E x zero f vs v h = h
calls_extend D E x (suc n) f vs v h = defined (calls_extend D E x n) (D f) refl h
  where
    defined : CallsKeep (calls n D) (calls n E) → (o : Option Function) → D f ≡ o → body_value (calls n D) o vs ≡ Some v → body_value (calls n E) (E f) vs ≡ Some v
    defined keep None e l = cc
    defined keep (Some g) e l = rw (x f g e) (body_keep (calls n D) (calls n E) keep (Some g) vs v l)

pub value_extend : (D E : Defs) → Extends D E → (u : Term) (e : Env) (v : V) → HasValue D u e v → HasValue E u e v
value_extend D E x u e v (n, h) = (n, meaning_keep (calls n D) (calls n E) (calls_extend D E x n) u e v h)

pub call_extend : (D E : Defs) → Extends D E → (f : Symbol) (vs : List V) (v : V) → CallValue D f vs v → CallValue E f vs v
call_extend D E x f vs v (n, h) = (n, calls_extend D E x n f vs v h)

head_extend : (D E : Defs) → Extends D E → (f : Symbol) (o : Option Prim) (n : ℕ) → is_head D f o n ≡ true → is_head E f o n ≡ true
head_extend D E x f (Some p) n h = h
head_extend D E x f None n h = defined (D f) refl h
  where
    defined : (o : Option Function) → D f ≡ o → takes o n ≡ true → takes (E f) n ≡ true
    defined None e l = cc
    defined (Some g) e l = rw (x f g e) l

pub known_extend : (D E : Defs) → Extends D E → (u : Term) → known D u ≡ true → known E u ≡ true
known_extend D E x u h = term_ind Goal (λ y k. known_var E y) (λ q k. known_quote E q) call u h
  where
    Goal : Term → Type 0
    Goal u = known D u ≡ true → known E u ≡ true

    args : (ts : List Term) → Each Goal ts → Each (λ u. known D u ≡ true) ts → Each (λ u. known E u ≡ true) ts
    args [] es ks = tt
    args (t ∷ ts) es ks = (es.0 ks.0, args ts es.1 ks.1)

    call : (f : Symbol) (ts : List Term) → Each Goal ts → Goal (Call f ts)
    call f ts es = λ k. known_by E f ts (head_extend D E x f (prim_of f) (length ts) (known_head D f ts k))
        (true_each (known E) ts (args ts es (each_true (known D) ts (known_args D f ts k))))

pub all_known_extend : (D E : Defs) → Extends D E → (ts : List Term) → all_true (map (known D) ts) ≡ true → all_true (map (known E) ts) ≡ true
all_known_extend D E x ts h = true_each (known E) ts (each_same ts (known_extend D E x) (each_true (known D) ts h))

pub held_extend : (D E : Defs) → Extends D E → (e : Env) (u : Term) → IsHeld D e u → IsHeld E e u
held_extend D E x e u (v, h, other) = (v, value_extend D E x u e v h, other)

pub any_held_extend : (D E : Defs) → Extends D E → (e : Env) (ts : List Term) → AnyOf (IsHeld D e) ts → AnyOf (IsHeld E e) ts
any_held_extend D E x e [] h = h
any_held_extend D E x e (t ∷ ts) (inl h) = inl (held_extend D E x e t h)
any_held_extend D E x e (t ∷ ts) (inr h) = inr (any_held_extend D E x e ts h)

-- what is valid stays valid
pub valid_extend : (D E : Defs) → Extends D E → (ts : List Term) → Valid D ts → Valid E ts
valid_extend D E x ts valid = λ e. any_held_extend D E x e ts (valid e)

-- of terms that the smaller, total world knows, what holds in the larger holds in it too
pub held_back : (D E : Defs) → Total D → Extends D E → (e : Env) (u : Term) → known D u ≡ true → IsHeld E e u → IsHeld D e u
held_back D E total x e u u_known (v, h, other) =
    let (w, d) = known_valued D total u u_known e in
    (w, d, λ isnil. other (value_unique E u e v w h (value_extend D E x u e w d) ∙ isnil))

pub any_held_back : (D E : Defs) → Total D → Extends D E → (e : Env) (ts : List Term) → Each (λ u. known D u ≡ true) ts → AnyOf (IsHeld E e) ts → AnyOf (IsHeld D e) ts
any_held_back D E total x e [] ks h = h
any_held_back D E total x e (t ∷ ts) ks (inl h) = inl (held_back D E total x e t ks.0 h)
any_held_back D E total x e (t ∷ ts) ks (inr h) = inr (any_held_back D E total x e ts ks.1 h)

pub valid_back : (D E : Defs) → Total D → Extends D E → (ts : List Term) → all_true (map (known D) ts) ≡ true → Valid E ts → Valid D ts
valid_back D E total x ts ts_known valid = λ e. any_held_back D E total x e ts (each_true (known D) ts ts_known) (valid e)

-- an entry that is there is found when more are added, and what isn't there is looked for in these
pub entry_of-kept : (W X : List Entry) (f : Symbol) (y : Entry) → entry_of W f ≡ Some y → entry_of (W ++ X) f ≡ Some y
entry_of-kept [] X f y h = cc
entry_of-kept (z ∷ W) X f y h = choose (symbol_eq f (name_in z)) (entry_of-kept W X f y) h
  where
    choose : (b : Bool) → (entry_of W f ≡ Some y → entry_of (W ++ X) f ≡ Some y) → cond b (Some z) (entry_of W f) ≡ Some y → cond b (Some z) (entry_of (W ++ X) f) ≡ Some y
    choose true k l = l
    choose false k l = k l

pub entry_of-passed : (W X : List Entry) (f : Symbol) → entry_of W f ≡ None → entry_of (W ++ X) f ≡ entry_of X f
entry_of-passed [] X f h = refl
entry_of-passed (z ∷ W) X f h = choose (symbol_eq f (name_in z)) (entry_of-passed W X f) h
  where
    choose : (b : Bool) → (entry_of W f ≡ None → entry_of (W ++ X) f ≡ entry_of X f) → cond b (Some z) (entry_of W f) ≡ None → cond b (Some z) (entry_of (W ++ X) f) ≡ entry_of X f
    choose true k l = cc
    choose false k l = k l

-- one more entry: a name that is there has the entry that it had, else the new one's name has the new one
pub entry_of-last : (W : List Entry) (y : Entry) (f : Symbol) → entry_of W f ≡ None → entry_of (W ++ y ∷ []) f ≡ cond (symbol_eq f (name_in y)) (Some y) None
entry_of-last W y f h = entry_of-passed W (y ∷ []) f h

-- where the name isn't taken it has no entry, and is no primitive's
pub not_taken : (W : List Entry) (x : Symbol) → has_name W x ≡ false → (prim_of x ≡ None) × (entry_of W x ≡ None)
not_taken W x h = go (prim_of x) (entry_of W x) h
  where
    go : (p : Option Prim) (o : Option Entry) → (is_some p || is_some o) ≡ false → (p ≡ None) × (o ≡ None)
    go None None k = (refl, refl)
    go (Some p) o k = absurd (no k)
      where
        no : true ≡ false → ⊥
        no l = cc
    go None (Some y) k = absurd (no k)
      where
        no : true ≡ false → ⊥
        no l = cc

pub has_name-append : (W X : List Entry) (x : Symbol) → has_name (W ++ X) x ≡ (has_name W x || is_some (entry_of X x))
has_name-append W X x = go (prim_of x) (entry_of W x) refl
  where
    go : (p : Option Prim) (o : Option Entry) → entry_of W x ≡ o → (is_some p || is_some (entry_of (W ++ X) x)) ≡ ((is_some p || is_some o) || is_some (entry_of X x))
    go (Some p) o e = refl
    go None (Some y) e = ap is_some (entry_of-kept W X x y e)
    go None None e = ap is_some (entry_of-passed W X x e)

-- a name that isn't there is the new entry's
pub has_name-last : (W : List Entry) (y : Entry) (x : Symbol) → has_name (W ++ y ∷ []) x ≡ (has_name W x || symbol_eq x (name_in y))
has_name-last W y x = has_name-append W (y ∷ []) x ∙ ap (λ b. has_name W x || b) (go (symbol_eq x (name_in y)))
  where
    go : (b : Bool) → is_some (cond b (Some y) None) ≡ b
    go true = refl
    go false = refl

-- entries at the end define no name otherwise than before
pub extends-append : (W X : List Entry) → Extends (function_of W) (function_of (W ++ X))
extends-append W X f g h = go (entry_of W f) refl h
  where
    go : (o : Option Entry) → entry_of W f ≡ o → as_function o ≡ Some g → function_of (W ++ X) f ≡ Some g
    go None e l = cc
    go (Some y) e l = ap as_function (entry_of-kept W X f y e) ∙ l

-- an entry at the end that is no function changes no definition
pub function_of-append : (W : List Entry) (y : Entry) → as_function (Some y) ≡ None → function_of (W ++ y ∷ []) ≡ function_of W
function_of-append W y h = λ i f. same f i
  where
    choose : (b : Bool) → as_function (cond b (Some y) None) ≡ None
    choose true = h
    choose false = refl

    at : (f : Symbol) (o : Option Entry) → entry_of W f ≡ o → function_of (W ++ y ∷ []) f ≡ as_function o
    at f None e = ap as_function (entry_of-passed W (y ∷ []) f e) ∙ choose (symbol_eq f (name_in y))
    at f (Some z) e = ap as_function (entry_of-kept W (y ∷ []) f z e)

    same : (f : Symbol) → function_of (W ++ y ∷ []) f ≡ function_of W f
    same f = at f (entry_of W f) refl

pub function_of-theorem : (W : List Entry) (u : Theorem) → function_of (W ++ entry.Theorem u ∷ []) ≡ function_of W
function_of-theorem W u = function_of-append W (entry.Theorem u) refl

pub function_of-constant : (W : List Entry) (c : Symbol) (v : Value) → function_of (W ++ entry.Constant c v ∷ []) ≡ function_of W
function_of-constant W c v = function_of-append W (entry.Constant c v) refl

-- a function at the end under a new name is found, and every other name has what it had
pub function_of-here : (W : List Entry) (f : Function) → has_name W f.name ≡ false → function_of (W ++ entry.Function f ∷ []) f.name ≡ Some f
function_of-here W f h = ap as_function (entry_of-last W (entry.Function f) f.name (not_taken W f.name h).1 ∙ ap (λ b. cond b (Some (entry.Function f)) None) (symbol_eq-same f.name))

pub function_of-other : (W : List Entry) (f : Function) (x : Symbol) → symbol_eq x f.name ≡ false → function_of (W ++ entry.Function f ∷ []) x ≡ function_of W x
function_of-other W f x h = go (entry_of W x) refl
  where
    go : (o : Option Entry) → entry_of W x ≡ o → function_of (W ++ entry.Function f ∷ []) x ≡ as_function o
    go None e = ap as_function (entry_of-last W (entry.Function f) x e ∙ ap (λ b. cond b (Some (entry.Function f)) None) h)
    go (Some z) e = ap as_function (entry_of-kept W (entry.Function f ∷ []) x z e)
