-- More units keep a value, so a term has one value at most.
use Rattle.std.proofs.Common.{◌≡◌, ℕ, zero, suc, ◌+◌, Bool, true, false, cond, nat_eq, List, [], ◌∷◌, map, length, zip, Option, Some, None, refl, ap, ◌∙◌, sym, add_comm, zero-add, suc-add}
use Rattle.ap_list.specs.Lists.{Each, with_first, all_some}
use Rattle.ap_value.specs.declared.symbol.Symbol.{Symbol}
use Rattle.ap_value.specs.declared.value.Value.{Value}
use Rattle.ap_value.specs.Values.{V, val_of, value_eq}
use Rattle.ap_term.specs.declared.term.Term.{Term, Var, Quote, Call}
use Rattle.ap_term.proofs.Induction.{term_ind, fold_var, fold_quote, fold_call}
use Rattle.ap_world.specs.declared.entry.Function.{Function}
use Rattle.ap_world.specs.Primitives.{nil, Prim, If, prim, prim_of}
use Rattle.ap_world.specs.Meaning.{Env, value_at, Defs, Calls, if_of, applied, prim_call, head_call, term_step, meaning, body_value, calls, ev, HasValue, CallValue}

-- what the first option gives, the second gives
abbrev pub Keeps : {A : Type 0} → Option A → Option A → Type 0
Keeps {A} a b = (v : A) → a ≡ Some v → b ≡ Some v

abbrev pub KeepEach : List (Option V) → List (Option V) → Type 0
KeepEach [] [] = Unit {0}
KeepEach (a ∷ xs) (b ∷ ys) = Keeps a b × KeepEach xs ys
KeepEach xs ys = ⊥

-- what calls give by the first, they give by the second
abbrev pub CallsKeep : Calls → Calls → Type 0
CallsKeep c d = (f : Symbol) (vs : List V) → Keeps (c f vs) (d f vs)

first_keep : (a b : V) (o p : Option (List V)) → b ≡ a → Keeps o p → Keeps (with_first a o) (with_first b p)
first_keep a b None p e k v h = cc
first_keep a b (Some xs) (Some ys) e k v h = let m = k xs refl in cc
first_keep a b (Some xs) None e k v h = let m = k xs refl in cc

pub all_some_keep : (xs ys : List (Option V)) → KeepEach xs ys → Keeps (all_some xs) (all_some ys)
all_some_keep [] [] k v h = h
all_some_keep (None ∷ xs) (b ∷ ys) k v h = cc
all_some_keep (Some a ∷ xs) (Some b ∷ ys) k v h =
    let m = k.0 a refl in
    let e : b ≡ a = cc in
    first_keep a b (all_some xs) (all_some ys) e (all_some_keep xs ys k.1) v h
all_some_keep (Some a ∷ xs) (None ∷ ys) k v h = let m = k.0 a refl in cc
all_some_keep [] (b ∷ ys) k v h = absurd k
all_some_keep (a ∷ xs) [] k v h = absurd k

choose_keep : (t : Bool) (a b c d : Option V) → Keeps a c → Keeps b d → Keeps (cond t a b) (cond t c d)
choose_keep true a b c d k l = k
choose_keep false a b c d k l = l

three_keep : (a : V) (b c : Option V) (ys : List (Option V)) → KeepEach (Some a ∷ b ∷ c ∷ []) ys → Keeps (if_of (Some a ∷ b ∷ c ∷ [])) (if_of ys)
three_keep a b c (x ∷ y ∷ z ∷ []) k = rw (k.0 a refl) (choose_keep (value_eq a nil) c b z y k.1.1.0 k.1.0)
three_keep a b c [] k = absurd k
three_keep a b c (x ∷ []) k = absurd k.1
three_keep a b c (x ∷ y ∷ []) k = absurd k.1.1
three_keep a b c (x ∷ y ∷ z ∷ w ∷ ys) k = absurd k.1.1.1

if_keep : (xs ys : List (Option V)) → KeepEach xs ys → Keeps (if_of xs) (if_of ys)
if_keep (Some a ∷ b ∷ c ∷ []) ys k = three_keep a b c ys k
if_keep xs ys k = λ v h. cc

applied_keep : (f g : List V → Option V) → ((vs : List V) → Keeps (f vs) (g vs)) → (o p : Option (List V)) → Keeps o p → Keeps (applied f o) (applied g p)
applied_keep f g k None p l v h = cc
applied_keep f g k (Some xs) p l v h = rw (l xs refl) (k xs v h)

prim_keep : (p : Prim) (xs ys : List (Option V)) → KeepEach xs ys → Keeps (prim_call p xs) (prim_call p ys)
prim_keep If xs ys k = if_keep xs ys k
prim_keep p xs ys k = applied_keep (prim p) (prim p) (λ vs v h. h) (all_some xs) (all_some ys) (all_some_keep xs ys k)

head_keep : (c d : Calls) → CallsKeep c d → (f : Symbol) (o : Option Prim) (xs ys : List (Option V)) → KeepEach xs ys → Keeps (head_call c f o xs) (head_call d f o ys)
head_keep c d k f (Some p) xs ys l = prim_keep p xs ys l
head_keep c d k f None xs ys l = applied_keep (c f) (d f) (k f) (all_some xs) (all_some ys) (all_some_keep xs ys l)

-- what a term means at a variable, a constant and a call
pub meaning_var : (c : Calls) (x : Symbol) (e : Env) → meaning c (Var x) e ≡ Some (value_at e x)
meaning_var c x e = ap (λ m. m e) (fold_var (term_step c) x)

pub meaning_quote : (c : Calls) (q : Value) (e : Env) → meaning c (Quote q) e ≡ Some (val_of q)
meaning_quote c q e = ap (λ m. m e) (fold_quote (term_step c) q)

pub meaning_call : (c : Calls) (f : Symbol) (ts : List Term) (e : Env) → meaning c (Call f ts) e ≡ head_call c f (prim_of f) (map (λ m. m e) (map (meaning c) ts))
meaning_call c f ts e = ap (λ m. m e) (fold_call (term_step c) f ts)

-- what a term means by the first calls, it means by the second
pub meaning_keep : (c d : Calls) → CallsKeep c d → (u : Term) (e : Env) → Keeps (meaning c u e) (meaning d u e)
meaning_keep c d k u e = term_ind (λ u. Keeps (meaning c u e) (meaning d u e)) variable constant call u
  where
    variable : (x : Symbol) → Keeps (meaning c (Var x) e) (meaning d (Var x) e)
    variable x = λ v h. meaning_var d x e ∙ sym (meaning_var c x e) ∙ h

    constant : (q : Value) → Keeps (meaning c (Quote q) e) (meaning d (Quote q) e)
    constant q = λ v h. meaning_quote d q e ∙ sym (meaning_quote c q e) ∙ h

    args : (ts : List Term) → Each (λ u. Keeps (meaning c u e) (meaning d u e)) ts → KeepEach (map (λ m. m e) (map (meaning c) ts)) (map (λ m. m e) (map (meaning d) ts))
    args [] es = tt
    args (t ∷ ts) es = (es.0, args ts es.1)

    call : (f : Symbol) (ts : List Term) → Each (λ u. Keeps (meaning c u e) (meaning d u e)) ts → Keeps (meaning c (Call f ts) e) (meaning d (Call f ts) e)
    call f ts es = λ v h. meaning_call d f ts e ∙ head_keep c d k f (prim_of f) _ _ (args ts es) v (sym (meaning_call c f ts e) ∙ h)

-- where a name is defined alike, so is what its body's calls give kept
pub body_keep : (c d : Calls) → CallsKeep c d → (o : Option Function) (vs : List V) → Keeps (body_value c o vs) (body_value d o vs)
body_keep c d k None vs v h = h
body_keep c d k (Some g) vs v h = fits (nat_eq (length g.formals) (length vs)) h
  where
    fits : (b : Bool) → cond b (meaning c g.body (zip g.formals vs)) None ≡ Some v → cond b (meaning d g.body (zip g.formals vs)) None ≡ Some v
    fits true l = meaning_keep c d k g.body (zip g.formals vs) v l
    fits false l = l

next_keep : (D : Defs) (n : ℕ) → CallsKeep (calls n D) (calls (suc n) D)
next_keep D zero f vs v h = cc
next_keep D (suc n) f vs v h = body_keep (calls n D) (calls (suc n) D) (next_keep D n) (D f) vs v h

-- more units keep what a call gives
pub calls_more : (D : Defs) (k n : ℕ) → CallsKeep (calls n D) (calls (k + n) D)
calls_more D zero n f vs v h = rw (zero-add n) h
calls_more D (suc k) n f vs v h = rw (suc-add k n) (next_keep D (k + n) f vs v (calls_more D k n f vs v h))

-- and the value of a term
pub ev-more : (D : Defs) (k n : ℕ) (u : Term) (e : Env) (v : V) → ev n D u e ≡ Some v → ev (k + n) D u e ≡ Some v
ev-more D k n u e v h = meaning_keep (calls n D) (calls (k + n) D) (calls_more D k n) u e v h

-- a term has one value at most
pub value_unique : (D : Defs) (u : Term) (e : Env) (v w : V) → HasValue D u e v → HasValue D u e w → v ≡ w
value_unique D u e v w (m, p) (n, q) =
    let a = ev-more D n m u e v p in
    let b = rw (add_comm m n) at (ev-more D m n u e w q) in
    cc

-- and a call too
pub call_unique : (D : Defs) (f : Symbol) (vs : List V) (v w : V) → CallValue D f vs v → CallValue D f vs w → v ≡ w
call_unique D f vs v w (m, p) (n, q) =
    let a = calls_more D n m f vs v p in
    let b = rw (add_comm m n) at (calls_more D m n f vs w q) in
    cc
